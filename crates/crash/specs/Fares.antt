-- What becomes of a call, refused, cut or accepted: from its verdict to what a run keeps.
use Rattle.std.specs.Prelude.{Ok, Err, ℕ, ◌≡◌, refl, Bool, true, false, not, cond, ◌&&◌, ◌||◌, List, [], ◌∷◌, leb, eqb, length, take, replicate}
use Rattle.std.proofs.lemmas.Bool.{false≢true}
use Rattle.std.proofs.Common.{arith, leb-true, leb-false, take_all}
use Rattle.std.proofs.lemmas.List.{length-replicate}
use Rattle.base.specs.Tests.{and_left, and_right}
use Rattle.board.specs.Stores.{applied}
use Rattle.board.specs.Verdict.{refused, due, board_after, work_after}
use Rattle.layout.specs.Memory.{slots_of}
use Rattle.status.specs.declared.Status.{Status}
use Rattle.status.specs.declared.Status.TheVariants as status
use Rattle.status.specs.Numbers.{number_of}
use Rattle.checks.specs.declared.Refusal.{Refusal}
use Rattle.checks.specs.declared.View.{View}
use Rattle.checks.specs.Refusals.{Checked, Row, tested, then}
use Rattle.picl.specs.Answers.{Outcome, Verdict, answer_of}
use Rattle.picl.specs.Calls.{Call}
use Rattle.reference.specs.Machine.{Reference, does}
use Rattle.volatile.specs.Dirty.{dirty_zeros}
use Rattle.refine.specs.Along.{Along}
use Rattle.crash.specs.Statement.{call, Machine, Result, answered, seen_call, fed, count_scan, dirty_in}
use Rattle.crash.specs.State.{Holds, is_down, emptied_zeros, holds_ended}
use Rattle.crash.specs.Reached.{reached, Onward, onward_none}

-- ---- no check refuses as ok or as cut

abbrev pub refusal : Status → Bool
refusal s = not (eqb (number_of s) (number_of status.Ok) || eqb (number_of s) (number_of status.Cut))

abbrev pub numbered : List Row → Bool
numbered [] = true
numbered (x ∷ xs) = refusal x.refuses.status && numbered xs

abbrev pub Refuses : Checked → Type 0
Refuses k = (why : Refusal) → Err why ≡ k → refusal why.status ≡ true

pub not_ok : (s : Status) → refusal s ≡ true → eqb (number_of s) 0 ≡ false
not_ok s = go (eqb (number_of s) 0) (eqb (number_of s) (number_of status.Cut))
  where
    go : (t c : Bool) → not (t || c) ≡ true → t ≡ false
    go true c e = absurd (false≢true e)
    go false c e = refl

pub not_cut : (s : Status) → refusal s ≡ true → s ≡ status.Cut → ⊥
not_cut s e same = false≢true (rw same at e)

pub tested_refuses : (xs : List Row) (v : View) → numbered xs ≡ true → Refuses (tested xs v)
tested_refuses [] v n why e = let z : ◌≡◌ {A = ℕ} 0 1 = cc in absurd (omega arith)
tested_refuses (x ∷ xs) v n why e = go x.holds (tested_refuses xs v (and_right (refusal x.refuses.status) (numbered xs) n) why) e
  where
    go : (t : Bool) → (Err why ≡ tested xs v → refusal why.status ≡ true)
        → Err why ≡ cond t (Err x.refuses) (tested xs v) → refusal why.status ≡ true
    go true rest e =
        let same : why ≡ x.refuses = cc in
        rw same (and_left (refusal x.refuses.status) (numbered xs) n)
    go false rest e = rest e

pub then_refuses : (k : Checked) (rows : View → List Row) → Refuses k → ((v : View) → numbered (rows v) ≡ true) → Refuses (then k rows)
then_refuses (Err x) rows first n why e = first why e
then_refuses (Ok v) rows first n why e = tested_refuses (rows v) v (n v) why e

-- ---- a verdict on a machine that holds the invariant

-- the machine once all stores of an outcome are made
abbrev pub carried_out : Machine → Outcome → Machine
carried_out m o = record { board = applied m.board o.stores; work = o.work; registers = o.registers }

pub data Fares (N L : ℕ) (m : Machine) (g : Reference) (c : Call) : Verdict → Type 0 where
  refuses : (s : Status) (value : ℕ) → refusal s ≡ true → Fares N L m g c (refused s value)
  goes : (o : Outcome) → Along N L m.board g o.stores → Holds N L (carried_out m o) (does g (seen_call c o.value))
      → length o.work ≡ length m.work
      → Onward (count_scan (seen_call c o.value)) (reached m.registers g) (reached o.registers (does g (seen_call c o.value)))
      → Fares N L m g c (due o)

-- a cut leaves nothing in the cache, and a count of nothing
abbrev pub NoneDirty : Machine → Type 0
NoneDirty m = (m.registers.dirty ≡ 0) × (dirty_in m.work ≡ 0)

pub cut_none : (words : ℕ) → dirty_in (replicate words 0) ≡ 0
cut_none words = rw (length-replicate {A = ℕ} words 0) (dirty_zeros words (slots_of words) (omega arith))

-- what a call keeps that came to this
pub record Kept (N L : ℕ) (m : Machine) (g : Reference) (c : Call) (k : ℕ) (x : Result) : Type 0 where
  pub holds : Holds N L x.left (does g (fed (call c k) x))
  pub same_words : length x.left.work ≡ length m.work
  pub cut : x.status ≡ status.Cut → NoneDirty x.left
  pub moves : (x.status ≡ status.Cut → ⊥)
      → Onward (count_scan (fed (call c k) x)) (reached m.registers g) (reached x.left.registers (does g (fed (call c k) x)))

pub not_cut_ok : status.Ok ≡ status.Cut → ⊥
not_cut_ok e = let z : ◌≡◌ {A = ℕ} 0 1 = cc in omega arith

pub fares_kept : {N L : ℕ} {m : Machine} {g : Reference} {c : Call} {v : Verdict} → Holds N L m g → Fares N L m g c v → (k : ℕ)
    → Kept N L m g c k (answered k m.registers m.board m.work v)
unfolding answer_of board_after work_after
fares_kept h (refuses s value n) k =
    record {
      holds = rw (not_ok s n) h;
      same_words = refl;
      cut = λ same. absurd (not_cut s n same);
      moves = λ whole. rw (not_ok s n) (onward_none _);
    }
fares_kept {N} {L} {m} {g} {c} h (goes o along kept words moves) k = go (leb (length o.stores) k) refl
  where
    go : (t : Bool) → leb (length o.stores) k ≡ t → Kept N L m g c k (answered k m.registers m.board m.work (due o))
    go true e =
        let all : take k o.stores ≡ o.stores = take_all k o.stores (leb-true _ _ e) in
        record { holds = rw (e, all) kept; same_words = rw e words; cut = rw e (λ same. absurd (not_cut_ok same)); moves = λ whole. rw e moves }
    go false e =
        record {
          holds = rw e (is_down (record { off = along k (leb-false _ _ e); registers = refl; emptied = emptied_zeros (length m.work); ended = holds_ended h }));
          same_words = rw e (length-replicate (length m.work) 0);
          cut = rw e (λ same. (refl, cut_none (length m.work)));
          moves = rw e (λ whole. absurd (whole refl));
        }
