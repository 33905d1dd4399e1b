-- The calls on one line, load, store and evict, leave s, c and the target as they were.
use Rattle.std.specs.Prelude.{Ok, Err, ◌≢◌}
use Prim.Native.Nat.{ℕ, ◌≤◌, ◌<◌}
use mathlib.Core.Path.{◌≡◌, refl, ap, ◌∙◌}
use mathlib.Core.Bool.{Bool, true, false, cond}
use mathlib.Core.List.{List, [], ◌∷◌}
use native.Mathlib.Omega.{arith}
use lib.Dec.{leb}
use lib.ListN.{length, set, length-set}
use Rattle.board.specs.Verdict.{refused, due}
use Rattle.status.specs.declared.Status.TheVariants as status
use Rattle.status.specs.Numbers.{number_of}
use Rattle.checks.specs.declared.Registers.{Registers}
use Rattle.checks.specs.declared.View.{View}
use Rattle.checks.specs.Refusals.{Checked, line_checked, store_checked}
use Rattle.picl.specs.declared.Answer.{Answer}
use Rattle.picl.specs.Answers.{Outcome, Verdict, answer_of, success, cut_off}
use Rattle.picl.specs.Calls as call
use Rattle.picl.specs.Calls.{verdict_of, judged, load_at, load_outcome, store_at, store_outcome, evict_at, evict_outcome}
use Rattle.picl.specs.Promises.{Answers, Calls}
use Rattle.capi.specs.Promises.{Gives, with_pass, LeavesPass}
use Rattle.capi.proofs.Laws.{array_lent}
use Rattle.capi.specs.Places.{buffered_at, dirty_at, register_words, has_places, read_registers, write_registers, write_answer}

abbrev Steady : Registers → Verdict → Type 0
Steady r (refused why value) = Unit {0}
Steady r (due o) = with_pass r o.registers ≡ o.registers

judged_steady : (r : Registers) (k : Checked) (outcome : View → Outcome) → ((v : View) → with_pass r (outcome v).registers ≡ (outcome v).registers)
    → Steady r (judged k outcome)
judged_steady r (Err why) outcome h = tt
judged_steady r (Ok v) outcome h = h v

module _ (allowance : ℕ) (r : Registers) where
  steady_answered : (v : Verdict) → Steady r v → ((answer_of allowance r v).status ≢ status.Cut)
      → with_pass r (answer_of allowance r v).registers ≡ (answer_of allowance r v).registers
  unfolding answer_of
  steady_answered (refused why value) h e = refl
  steady_answered (due o) h e = go (leb (length o.stores) allowance) e
    where
      go : (t : Bool) → ((cond t (success o) (cut_off allowance)).status ≢ status.Cut)
          → with_pass r (cond t (success o) (cut_off allowance)).registers ≡ (cond t (success o) (cut_off allowance)).registers
      go true e = h
      go false e = absurd (e refl)

  steady_leaves : (v : Verdict) (board work board' work' : List ℕ) (a : Answer) → Steady r v → Answers allowance r board work v board' work' a
      → LeavesPass r a
  steady_leaves v board work board' work' a h x = record { same = λ e. rw x.answer (steady_answered v h (rw x.answer at e)) }

  -- on registers that are read from their places
  module _ (registers board work board' work' : List ℕ) (address : ℕ) (a : Answer) (read : r ≡ read_registers registers) where
    leaves : LeavesPass r a → LeavesPass (read_registers registers) a
    leaves x = rw read at x

    pub load_leaves : Calls (call.load address) allowance r board work board' work' a → LeavesPass (read_registers registers) a
    unfolding load_outcome load_at
    load_leaves x =
        leaves (steady_leaves (verdict_of board work r (call.load address)) board work board' work' a
        (judged_steady r (line_checked board work r address) (load_outcome board work r address) (λ v. refl)) x)

    pub store_leaves : (value : ℕ) → Calls (call.store address value) allowance r board work board' work' a → LeavesPass (read_registers registers) a
    unfolding store_outcome store_at
    store_leaves value x =
        leaves (steady_leaves (verdict_of board work r (call.store address value)) board work board' work' a
        (judged_steady r (store_checked board work r address) (store_outcome board work r address value) (λ v. refl)) x)

    pub evict_leaves : Calls (call.evict address) allowance r board work board' work' a → LeavesPass (read_registers registers) a
    unfolding evict_outcome evict_at
    evict_leaves x =
        leaves (steady_leaves (verdict_of board work r (call.evict address)) board work board' work' a
        (judged_steady r (line_checked board work r address) (evict_outcome work r address) (λ v. refl)) x)

-- so it is enough to write b and the count
words_left : (words : List ℕ) (r : Registers) → register_words ≤ length words
    → set (set words buffered_at r.buffered) dirty_at r.dirty ≡ write_registers words (with_pass (read_registers words) r)
unfolding read_registers
words_left [] r h = absurd (omega arith)
words_left (a ∷ []) r h = absurd (omega arith)
words_left (a ∷ b ∷ []) r h = absurd (omega arith)
words_left (a ∷ b ∷ c ∷ []) r h = absurd (omega arith)
words_left (a ∷ b ∷ c ∷ d ∷ []) r h = absurd (omega arith)
words_left (a ∷ b ∷ c ∷ d ∷ e ∷ rest) r h = refl

module _ (registers answer : List ℕ) (has : has_places registers answer ≡ true) where
  lent : register_words ≤ length registers
  lent = array_lent register_words registers answer has

  pub buffered_within : buffered_at < length registers
  buffered_within = omega (arith, lent)

  pub dirty_within : (b : ℕ) → dirty_at < length (set registers buffered_at b)
  dirty_within b = simp length-set (omega (arith, lent))

  pub line_given : (a : Answer) (answer' : List ℕ) (number : ℕ) → LeavesPass (read_registers registers) a → (a.status ≢ status.Cut)
      → answer' ≡ write_answer answer a.value a.stores → number ≡ number_of a.status
      → Gives registers answer a (set (set registers buffered_at a.registers.buffered) dirty_at a.registers.dirty) answer' number
  line_given a answer' number keeps uncut left n =
      record {
        number_is = n;
        registers_left = words_left registers a.registers lent ∙ ap (write_registers registers) (keeps.same uncut);
        answer_left = left;
      }
