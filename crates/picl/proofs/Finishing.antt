-- From the meter at the end of a call to its answer.
use Prim.Native.Nat.{ℕ, ◌+◌, ◌-◌, ◌<◌, ◌≤◌}
use mathlib.Core.Path.{◌≡◌, refl, sym, ap₂, ◌∙◌}
use mathlib.Core.Bool.{Bool, true, false}
use mathlib.Core.List.{List, []}
use native.Mathlib.Omega.{arith}
use borrow.Author.Tests.{le-leb, lt-leb}
use lib.ListN.{length, replicate}
use lib.Seq.{take-nil}
use Rattle.board.specs.declared.Meter.{Meter}
use Rattle.board.specs.Stores.{full, applied, Ran, was_cut}
use Rattle.board.specs.Outcome.{ran_board, ran_within, ran_cut_off, ran_whole, ran_count, allowed_full}
use Rattle.layout.specs.Memory.{slot_at, slot_words, buffer_words}
use Rattle.status.specs.declared.Status.{Status}
use Rattle.status.specs.declared.Status.TheVariants as status
use Rattle.undo.specs.declared.Progress.{Progress}
use Rattle.slots.specs.Slots.{dirty_at}
use Rattle.steps.specs.Effects.{Effect}
use Rattle.steps.specs.Promises.{Acts, Carries}
use Rattle.checks.specs.declared.Registers.{Registers}
use Rattle.checks.specs.Registers.{all_zero, recounted, leaving}
use Rattle.picl.specs.declared.Answer.{Answer}
use Rattle.picl.specs.Answers.{Outcome, answer, refusal, answer_of}
use Rattle.board.specs.Verdict.{refused, due, board_after, work_after}
use Rattle.picl.specs.Calls.{carried}
use Rattle.picl.specs.Promises.{Answers, Finishes, FinishReady, Found}

module _ (work work' : List ℕ) (m : Meter) (allowance value : ℕ) (r : Registers) (t : Bool) (cut : t ≡ was_cut m) where
  pub finish_cut : (z : Registers) → t ≡ true → z ≡ all_zero → work' ≡ replicate (length work) 0
      → Finishes work m allowance value r work' (record { status = status.Cut; value = 0; stores = allowance; registers = z })
  finish_cut z h e x = rw e record { answer = rw (← cut, h); memory = rw (← cut, h) x }

  pub finish_whole : (n : ℕ) → t ≡ false → n ≡ allowance + 1 - m.left
      → Finishes work m allowance value r work (record { status = status.Ok; value = value; stores = n; registers = r })
  finish_whole n h e = rw e record { answer = rw (← cut, h); memory = rw (← cut, h) }

pub finish_slot : (work work' : List ℕ) (k : ℕ) (was is : Bool) (p : Progress) (allowance value : ℕ) (r after : Registers) (a : Answer)
    → is ≡ dirty_at work k → after ≡ leaving (recounted r was is) p.undo → Finishes work p.meter allowance value after work' a
    → Finishes work p.meter allowance value (leaving (recounted r was (dirty_at work k)) p.undo) work' a
finish_slot work work' k was is p allowance value r after a e x f = rw (x, e) at f

-- a refusal
pub answers_refused : (allowance : ℕ) (given : Registers) (board work : List ℕ) (why : Status) (value : ℕ) (a : Answer) → a ≡ refusal why value given
    → Answers allowance given board work (refused why value) board work a
unfolding answer_of board_after work_after
answers_refused allowance given board work why value a e = record { answer = e; board_left = refl; work_left = refl }

-- a call that owes no store
pub answers_nothing : (allowance : ℕ) (given : Registers) (board work : List ℕ) (r : Registers) (a : Answer) → a ≡ answer status.Ok 0 0 r
    → Answers allowance given board work (due (record { value = 0; registers = r; work = work; stores = [] })) board work a
unfolding answer_of board_after work_after applied
answers_nothing allowance given board work r a e =
    record {
      answer = e ∙ sym (rw (le-leb 0 allowance (omega arith)));
      board_left = rw take-nil;
      work_left = rw (le-leb 0 allowance (omega arith));
    }

-- a call that goes through
pub answers_due : (allowance : ℕ) (given : Registers) (board work : List ℕ) (o : Outcome) (m : Meter) (board' work' work'' : List ℕ) (value : ℕ)
    (r : Registers) (a : Answer) → Ran board (full allowance) o.stores board' m → length work' ≡ length work
    → (length o.stores ≤ allowance → work' ≡ o.work) → (length o.stores ≤ allowance → value ≡ o.value)
    → (length o.stores ≤ allowance → r ≡ o.registers) → Finishes work' m allowance value r work'' a
    → Answers allowance given board work (due o) board' work'' a
unfolding answer_of board_after work_after
answers_due allowance given board work o m board' work' work'' value r a p l w x y f = go (was_cut m) refl
  where
    go : (t : Bool) → was_cut m ≡ t → Answers allowance given board work (due o) board' work'' a
    go true e =
        let h : allowance < length o.stores = ran_cut_off allowance o.stores p e in
        record {
          answer = f.answer ∙ rw (e, lt-leb (length o.stores) allowance h);
          board_left = ran_board allowance o.stores p;
          work_left = f.memory ∙ rw (e, lt-leb (length o.stores) allowance h, l);
        }
    go false e =
        let h : length o.stores ≤ allowance = ran_whole allowance o.stores p e in
        record {
          answer = f.answer ∙ rw (e, le-leb (length o.stores) allowance h, x h, y h, ran_count allowance o.stores p e);
          board_left = ran_board allowance o.stores p;
          work_left = f.memory ∙ rw (e, le-leb (length o.stores) allowance h, w h);
        }

pub acted : {board board' work' : List ℕ} {m : Meter} {e : Effect} {r : Progress} → Acts board m e board' work' r → Carries board m e board' work' r
acted x = record { ran = x.ran; undo = λ h. x.undo; memory = λ h. x.memory }

-- an effect on log and cache that comes about under a new meter
module _ (allowance : ℕ) (board board' work' : List ℕ) (e : Effect) (m : Meter) (r : Progress) (new : m ≡ full allowance) where
  pub carries_within : Carries board m e board' work' r → r.meter.left ≤ allowance + 1
  carries_within x = ran_within allowance e.stores (rw new at x.ran)

  module _ (work : List ℕ) (k : ℕ) (g : Registers) (was : Bool) (same : length work' ≡ length work)
      (within : slot_at k + slot_words + buffer_words ≤ length work) (found : Found work g k was) where
    pub carries_ready : Carries board m e board' work' r → FinishReady work' k was r allowance g
    carries_ready x = record { within = omega (arith, same); left = carries_within x; count = found.count }

    pub acts_ready : Acts board m e board' work' r → FinishReady work' k was r allowance g
    acts_ready x = carries_ready (acted x)

pub carries_answers : (allowance : ℕ) (given : Registers) (board work : List ℕ) (e : Effect) (m : Meter) (r : Progress) (board' work' work'' : List ℕ)
    (value : ℕ) (base after : Registers) (told : ℕ) (a : Answer) → m ≡ full allowance → Carries board m e board' work' r
    → length work' ≡ length work → (work' ≡ e.work → told ≡ value) → (work' ≡ e.work → after ≡ base)
    → Finishes work' r.meter allowance told (leaving after r.undo) work'' a
    → Answers allowance given board work (due (carried value base e)) board' work'' a
carries_answers allowance given board work e m r board' work' work'' value base after told a new c l v n f =
    let p : Ran board (full allowance) e.stores board' r.meter = rw new at c.ran in
    let undo : length e.stores ≤ allowance → r.undo ≡ e.undo = rw (new, allowed_full) at c.undo in
    let memory : length e.stores ≤ allowance → work' ≡ e.work = rw (new, allowed_full) at c.memory in
    answers_due allowance given board work (carried value base e) r.meter board' work' work'' told (leaving after r.undo) a p l memory (λ h. v (memory h))
    (λ h. ap₂ leaving (n (memory h)) (undo h)) f
