-- What a run keeps of a cache, with the current on or off: the count of dirty slots is true, and no line is held twice.
use Rattle.std.specs.Prelude.{ℕ, ◌<◌, ◌≡◌, ◌≢◌, true, length, replicate}
use Rattle.std.proofs.Common.{sym, ◌∙◌}
use Rattle.std.proofs.Math.Path.{ap}
use Rattle.std.proofs.Math.Bool.{false}
use Rattle.std.proofs.lemmas.Bool.{false≢true}
use mathlib.Core.List.{List}
use Rattle.std.proofs.Math.Decide.{ℕ_discrete}
use Rattle.layout.specs.Memory.{slot_at, slots_of}
use Rattle.layout.specs.Words.{decode_slot}
use Rattle.layout.specs.ZeroWord.{decode_zero}
use Rattle.slots.specs.Slots.{holds}
use Rattle.checks.specs.declared.Registers.{Registers}
use Rattle.checks.specs.View.{view_of, good_work}
use Rattle.reference.specs.Machine.{Reference}
use Rattle.durable.specs.Zeros.{get_d_zeros}
use Rattle.volatile.specs.Proper.{empty_holds}
use Rattle.crash.specs.Statement.{Machine, dirty_in}
use Rattle.crash.specs.State.{Holds, is_up, is_down}
use Rattle.crash.specs.Fares.{cut_none}

-- a memory of zeros holds no line
zeros_hold_none : (words k address : ℕ) → holds (replicate words 0) k address ≡ false
zeros_hold_none words k address =
    empty_holds (replicate words 0) k address (ap decode_slot (get_d_zeros words (slot_at k)) ∙ decode_zero)

module _ {N L : ℕ} {m : Machine} {g : Reference} (h : Holds N L m g) (good : good_work (length m.work) ≡ true) where
  pub true_count : m.registers.dirty ≡ dirty_in m.work
  true_count = go h
    where
      go : Holds N L m g → m.registers.dirty ≡ dirty_in m.work
      go (is_up u) = u.counted
      go (is_down d) = ap (λ (r : Registers). r.dirty) d.registers ∙ sym (ap dirty_in (d.emptied good) ∙ cut_none (length m.work))

  module _ (address k : ℕ) (below : k < slots_of (length m.work)) (held : holds m.work k address ≡ true) where
    elsewhere : (j : ℕ) → j < slots_of (length m.work) → j ≢ k → holds m.work j address ≡ false
    unfolding view_of
    elsewhere j under away = go h
      where
        go : Holds N L m g → holds m.work j address ≡ false
        go (is_up u) = u.ok.slotted.once k address below held j under away
        go (is_down d) =
            ap (λ (work : List ℕ). holds work j address) (d.emptied good) ∙ zeros_hold_none (length m.work) j address

    pub one_holder : (j : ℕ) → j < slots_of (length m.work) → holds m.work j address ≡ true → j ≡ k
    one_holder j under also = go (ℕ_discrete j k)
      where
        go : Dec (j ≡ k) → j ≡ k
        go (yes same) = same
        go (no away) = absurd (false≢true (sym (elsewhere j under away) ∙ also))
