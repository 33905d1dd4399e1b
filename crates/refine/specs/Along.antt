-- Every cut of a list of stores leaves a board that recovers, by the reference machine as it was before the call.
use Rattle.std.specs.Prelude.{ℕ, zero, suc, ◌-◌, ◌<◌, ◌≡◌, List, [], ◌++◌, length, take}
use Rattle.std.proofs.Common.{ap, arith, length-append, take_all}
use Rattle.std.proofs.lemmas.List.{take-append-le}
use Rattle.board.specs.Laws.{applied_append, take_append}
use Rattle.board.specs.Stores.{Store, one, applied}
use Rattle.reference.specs.Machine.{Reference}
use Rattle.history.proofs.Keeps.{safe_for}
use Rattle.base.specs.Cases.{below_or_not}
use Rattle.refine.specs.State.{Off}

abbrev pub Along : (N L : ℕ) → List ℕ → Reference → List Store → Type 0
Along N L board g ss = (k : ℕ) → k < length ss → Off N L (applied board (take k ss)) g

pub along_none : (N L : ℕ) (board : List ℕ) (g : Reference) → Along N L board g []
along_none N L board g k h = absurd (omega arith)

pub along_one : {N L : ℕ} {board : List ℕ} {g : Reference} → Off N L board g → (at word : ℕ) → Along N L board g (one at word)
unfolding applied
along_one off at word zero h = off
along_one off at word (suc k) h = absurd (omega arith)

pub along_then : {N L : ℕ} (board : List ℕ) {g : Reference} (xs ys : List Store) → Along N L board g xs → Along N L (applied board xs) g ys
    → Along N L board g (xs ++ ys)
along_then {N} {L} board {g} xs ys p q k h =
    below_or_not k (length xs) (λ early. rw (take-append-le k xs ys (omega arith)) (p k early))
    (λ late.
    let whole : take k xs ≡ xs = take_all k xs late in
    rw (take_append k xs ys, whole, applied_append) (q (k - length xs) (omega (arith, length-append xs ys))))

-- the reference machine may differ in what recovery does not see
pub off_for : {N L : ℕ} {board : List ℕ} {g g' : Reference} → g.persisted ≡ g'.persisted → g.copies ≡ g'.copies → Off N L board g
    → Off N L board g'
off_for p c o =
    record {
      control = o.control;
      durable = o.durable;
      reads = o.reads;
      safe = safe_for o.safe p (λ a. ap (λ (f : ℕ → ℕ → ℕ). f o.durable.persisted a) c);
    }
