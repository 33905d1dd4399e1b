-- The number of dirty slots: how it changes where one slot does.
use Prim.Native.Nat.{ℕ, zero, suc, ◌+◌, ◌-◌, ◌*◌, ◌<◌, ◌≤◌}
use Rattle.std.specs.Prelude.{◌≡◌, refl, ◌≢◌, Bool, true, false, ◌&&◌, List, replicate}
use Rattle.std.proofs.Common.{sym}
use Rattle.std.proofs.Math.Decide.{ℕ_discrete}
use native.Mathlib.Omega.{arith}
use Rattle.std.proofs.lemmas.List.{get_or-replicate}
use Rattle.base.specs.Every.{Every}
use Rattle.base.specs.Several.{all_of, any_of, every_all, every_none}
use Rattle.layout.specs.declared.Slot.{Slot}
use Rattle.layout.specs.Memory.{slot_in, work_words}
use Rattle.layout.specs.Words.{bit}
use Rattle.layout.specs.ZeroWord.{decode_zero}
use Rattle.slots.specs.declared.Bounds.{Bounds}
use Rattle.slots.specs.Slots.{dirty_at, dirty_slots}
use Rattle.volatile.specs.Proper.{ProperSlot, is_empty, is_full, is_clean, is_dirty}
use Rattle.volatile.specs.Slotted.{Slotted, zero_work, slot_kind}

-- what a slot adds to the number
abbrev counts : Slot → Bool
counts s = s.valid && s.dirty

bit_most : (t : Bool) → bit t ≤ 1
bit_most true = omega arith
bit_most false = omega arith

module _ (work : List ℕ) where
  pub dirty_most : (n : ℕ) → dirty_slots work n ≤ n
  unfolding dirty_slots
  dirty_most zero = omega arith
  dirty_most (suc n) = omega (arith, dirty_most n, bit_most (counts (slot_in work n)))

  -- one that counts is among them, and one that does not leaves room
  one_counts : (n k : ℕ) → k < n → bit (counts (slot_in work k)) ≤ dirty_slots work n
  unfolding dirty_slots
  one_counts zero k h = absurd (omega arith)
  one_counts (suc n) k h = go (ℕ_discrete k n) (one_counts n k)
    where
      go : Dec (k ≡ n) → (k < n → bit (counts (slot_in work k)) ≤ dirty_slots work n)
          → bit (counts (slot_in work k)) ≤ dirty_slots work n + bit (counts (slot_in work n))
      go (yes e) rest = rw e (omega arith)
      go (no e) rest = omega (arith, rest (omega arith))

  one_short : (n k : ℕ) → k < n → dirty_slots work n + 1 ≤ n + bit (counts (slot_in work k))
  unfolding dirty_slots
  one_short zero k h = absurd (omega arith)
  one_short (suc n) k h = go (ℕ_discrete k n) (one_short n k)
    where
      go : Dec (k ≡ n) → (k < n → dirty_slots work n + 1 ≤ n + bit (counts (slot_in work k)))
          → dirty_slots work n + bit (counts (slot_in work n)) + 1 ≤ suc n + bit (counts (slot_in work k))
      go (yes e) rest = rw e (omega (arith, dirty_most n))
      go (no e) rest = omega (arith, rest (omega arith), bit_most (counts (slot_in work n)))

-- ---- one slot changes

-- all slots but slot k are as they were
abbrev pub Elsewhere : (slots k : ℕ) → List ℕ → List ℕ → Type 0
Elsewhere slots k work work' = (j : ℕ) → j < slots → j ≢ k → slot_in work' j ≡ slot_in work j

same_below : (work work' : List ℕ) (k n : ℕ) → n ≤ k → Elsewhere n k work work' → dirty_slots work' n ≡ dirty_slots work n
unfolding dirty_slots
same_below work work' k zero h e = refl
same_below work work' k (suc n) h e =
    let rest = same_below work work' k n (omega arith) (λ j b away. e j (omega arith) away) in
    rw (rest, e n (omega arith) (λ x. omega arith))

pub dirty_kept : (work work' : List ℕ) (slots : ℕ) → Elsewhere slots slots work work' → dirty_slots work' slots ≡ dirty_slots work slots
dirty_kept work work' slots e = same_below work work' slots slots (omega arith) e

changed : (work work' : List ℕ) (k n : ℕ) → k < n → Elsewhere n k work work'
    → dirty_slots work' n + bit (counts (slot_in work k)) ≡ dirty_slots work n + bit (counts (slot_in work' k))
unfolding dirty_slots
changed work work' k zero h e = absurd (omega arith)
changed work work' k (suc n) h e = go (ℕ_discrete k n) (λ b. changed work work' k n b (λ j b away. e j (omega arith) away))
  where
    go : Dec (k ≡ n) → (k < n → dirty_slots work' n + bit (counts (slot_in work k)) ≡ dirty_slots work n + bit (counts (slot_in work' k)))
        → dirty_slots work' n + bit (counts (slot_in work' n)) + bit (counts (slot_in work k))
        ≡ dirty_slots work n + bit (counts (slot_in work n)) + bit (counts (slot_in work' k))
    go (yes x) rest =
        let below = same_below work work' k n (omega arith) (λ j b away. e j (omega arith) away) in
        rw (x, below) (omega arith)
    go (no x) rest = rw (e n (omega arith) (λ y. x (sym y))) (omega (arith, rest (omega arith)))

-- ---- proper slots: only a valid one is dirty

proper_counts : {b : Bounds} {k : ℕ} {s : Slot} → ProperSlot b k s → counts s ≡ s.dirty
proper_counts (is_empty e) = rw e
proper_counts (is_full a home (is_clean e)) = rw e
proper_counts (is_full a home (is_dirty tag e low high)) = rw e

module _ {b : Bounds} {work : List ℕ} (slotted : Slotted b work) (k : ℕ) (below : k < b.slots) where
  slot_counts : counts (slot_in work k) ≡ dirty_at work k
  slot_counts = proper_counts (slot_kind slotted k below)

  dirty_some : dirty_at work k ≡ true → 0 < dirty_slots work b.slots
  dirty_some d = omega (arith, rw (slot_counts, d) at (one_counts work b.slots k below))

  dirty_not_all : dirty_at work k ≡ false → dirty_slots work b.slots < b.slots
  dirty_not_all d = omega (arith, rw (slot_counts, d) at (one_short work b.slots k below))

  -- so the count is changed as the slot is
  pub dirty_changed : {b' : Bounds} {work' : List ℕ} → Slotted b' work' → b'.slots ≡ b.slots → Elsewhere b.slots k work work'
      → dirty_slots work b.slots - bit (dirty_at work k) + bit (dirty_at work' k) ≡ dirty_slots work' b.slots
  dirty_changed {b'} {work'} slotted' same e =
      let was = slot_counts in
      let is : counts (slot_in work' k) ≡ dirty_at work' k = proper_counts (slot_kind slotted' k (omega arith)) in
      omega
      (arith, rw (was, is) at (changed work work' k b.slots below e), rw was at (one_counts work b.slots k below))

-- a count of 0 says that none is dirty, one of S that all are
module _ {b : Bounds} {work : List ℕ} (slotted : Slotted b work) (ks : List ℕ) (below : Every (λ k. k < b.slots) ks) where
  pub none_dirty : dirty_slots work b.slots ≡ 0 → any_of (dirty_at work) ks ≡ false
  none_dirty none = every_none (dirty_at work) (λ k. k < b.slots) (λ k h. go k h (dirty_at work k) refl) ks below
    where
      go : (k : ℕ) → k < b.slots → (d : Bool) → dirty_at work k ≡ d → d ≡ false
      go k h true e = absurd (omega (arith, dirty_some slotted k h e))
      go k h false e = refl

  pub all_dirty : dirty_slots work b.slots ≡ b.slots → all_of (dirty_at work) ks ≡ true
  all_dirty all = every_all (dirty_at work) (λ k. k < b.slots) (λ k h. go k h (dirty_at work k) refl) ks below
    where
      go : (k : ℕ) → k < b.slots → (d : Bool) → dirty_at work k ≡ d → d ≡ true
      go k h true e = refl
      go k h false e = absurd (omega (arith, dirty_not_all slotted k h e))

-- ---- "Then work memory all zero"

pub dirty_zeros : (words slots : ℕ) → 2 * slots ≤ words → dirty_slots (replicate words 0) slots ≡ 0
unfolding dirty_slots
dirty_zeros words zero h = refl
dirty_zeros words (suc n) h =
    let zeros = get_or-replicate {A = ℕ} words (2 * n) 0 0 (omega arith) in
    rw (dirty_zeros words n (omega arith), zeros, decode_zero)

pub dirty_none : (slots : ℕ) → dirty_slots (zero_work slots) slots ≡ 0
dirty_none slots = dirty_zeros (work_words slots) slots (omega arith)
