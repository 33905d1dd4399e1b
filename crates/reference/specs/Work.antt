-- Without a power-up between them, the lines, the copies and the running epoch depend on the accepted stores and
-- commits alone, in their order: whatever scans persist, and whatever else comes between. The persisted epoch may
-- differ.
use Rattle.std.specs.Prelude.{ℕ, suc, ◌≡◌, refl, Bool, true, false, cond, List, [], ◌∷◌, eqb}
use Rattle.std.proofs.Common.{sym, ◌∙◌}
use Rattle.base.specs.Cases.{update}
use Rattle.reference.specs.Machine.{Reference, Event, stored, committed, scanned, powered_up, nothing, stores, commits, persists, does, does_all}

-- the stores and commits among the events
unfoldable pub plain_of : List Event → List Event
plain_of [] = []
plain_of (stored a v ∷ xs) = stored a v ∷ plain_of xs
plain_of (committed ∷ xs) = committed ∷ plain_of xs
plain_of (scanned value ∷ xs) = plain_of xs
plain_of (powered_up ∷ xs) = plain_of xs
plain_of (nothing ∷ xs) = plain_of xs

-- no power-up among the events
abbrev pub NoPowerUp : List Event → Type 0
NoPowerUp [] = Unit {0}
NoPowerUp (stored a v ∷ xs) = NoPowerUp xs
NoPowerUp (committed ∷ xs) = NoPowerUp xs
NoPowerUp (scanned value ∷ xs) = NoPowerUp xs
NoPowerUp (powered_up ∷ xs) = ⊥
NoPowerUp (nothing ∷ xs) = NoPowerUp xs

-- two machines that have done the same work
pub record Agree (g h : Reference) : Type 0 where
  pub lines : g.lines ≡ h.lines
  pub copies : g.copies ≡ h.copies
  pub running : g.running ≡ h.running

agree_refl : (g : Reference) → Agree g g
agree_refl g = record { lines = refl; copies = refl; running = refl }

agree_sym : {g h : Reference} → Agree g h → Agree h g
agree_sym a = record { lines = sym a.lines; copies = sym a.copies; running = sym a.running }

agree_then : {f g h : Reference} → Agree f g → Agree g h → Agree f h
agree_then a b = record { lines = a.lines ∙ b.lines; copies = a.copies ∙ b.copies; running = a.running ∙ b.running }

-- ---- what an event does to both, or to one of them

stores_agree : {g h : Reference} (a v : ℕ) → Agree g h → Agree (stores g a v) (stores h a v)
stores_agree a v s = record { lines = λ i. update (s.lines i) a v; copies = s.copies; running = s.running }

commits_agree : {g h : Reference} → Agree g h → Agree (commits g) (commits h)
commits_agree s =
    record { lines = s.lines; copies = λ i. update (s.copies i) (s.running i) (s.lines i); running = λ i. suc (s.running i) }

scan_agrees : {g h : Reference} (value : ℕ) → Agree g h → Agree (does g (scanned value)) h
scan_agrees {g} {h} value s = go (eqb value 0)
  where
    go : (t : Bool) → Agree (cond t g (persists g value)) h
    go true = s
    go false = record { lines = s.lines; copies = s.copies; running = s.running }

-- ---- lists

plain_agrees : {g h : Reference} → Agree g h → (xs : List Event) → NoPowerUp xs → Agree (does_all g xs) (does_all h (plain_of xs))
unfolding does_all plain_of
plain_agrees s [] u = s
plain_agrees {g} {h} s (stored a v ∷ xs) u = plain_agrees {g = stores g a v} {h = stores h a v} (stores_agree a v s) xs u
plain_agrees {g} {h} s (committed ∷ xs) u = plain_agrees {g = commits g} {h = commits h} (commits_agree s) xs u
plain_agrees {g} {h} s (scanned value ∷ xs) u = plain_agrees {g = does g (scanned value)} {h = h} (scan_agrees value s) xs u
plain_agrees s (powered_up ∷ xs) u = absurd u
plain_agrees {g} {h} s (nothing ∷ xs) u = plain_agrees {g = g} {h = h} s xs u

-- two lists with the same stores and commits, given to machines that agree, leave machines that agree
pub same_plain : {g h : Reference} → Agree g h → (xs ys : List Event) → NoPowerUp xs → NoPowerUp ys → plain_of xs ≡ plain_of ys
    → Agree (does_all g xs) (does_all h ys)
same_plain {g} {h} s xs ys u v same =
    agree_then (rw same at (plain_agrees s xs u)) (agree_sym (plain_agrees (agree_refl h) ys v))
