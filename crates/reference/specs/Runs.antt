-- Runs of a machine beside the reference machine, which is fed the same list: once for every kind of board.
use Rattle.std.specs.Prelude.{◌≡◌, refl, List, [], ◌∷◌}
use Rattle.reference.specs.Machine.{Reference, Event, does, does_all}

-- A kind of board: the machine that a step leaves, and what the reference machine makes of that step.
pub record Kind (M X : Type 0) : Type 0 where
  pub next : M → X → M
  pub fed : M → X → Event

-- both machines, side by side
pub record Both (M : Type 0) : Type 0 where
  pub machine : M
  pub reference : Reference

abbrev pub after : {M X : Type 0} → Kind M X → Both M → X → Both M
after kind s x = record { machine = kind.next s.machine x; reference = does s.reference (kind.fed s.machine x) }

unfoldable pub run : {M X : Type 0} → Kind M X → Both M → List X → Both M
run kind s [] = s
run kind s (x ∷ xs) = run kind (after kind s x) xs

-- all that the reference machine is fed
unfoldable pub feed : {M X : Type 0} → Kind M X → M → List X → List Event
feed kind m [] = []
feed kind m (x ∷ xs) = kind.fed m x ∷ feed kind (kind.next m x) xs

-- so what it comes to depends on that alone
pub run_fed : {M X : Type 0} (kind : Kind M X) (s : Both M) (xs : List X)
    → (run kind s xs).reference ≡ does_all s.reference (feed kind s.machine xs)
unfolding run feed does_all
run_fed kind s [] = refl
run_fed kind s (x ∷ xs) = run_fed kind (after kind s x) xs

-- an invariant that each step keeps holds after every run
pub run_keeps : {M X : Type 0} (kind : Kind M X) (Inv : Both M → Type 0) → ((s : Both M) → Inv s → (x : X) → Inv (after kind s x))
    → (s : Both M) → Inv s → (xs : List X) → Inv (run kind s xs)
unfolding run
run_keeps kind Inv keeps s h [] = h
run_keeps kind Inv keeps s h (x ∷ xs) = run_keeps kind Inv keeps (after kind s x) (keeps s h x) xs
