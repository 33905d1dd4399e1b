-- Lists of stores: what they leave alone, and those that are made of entries. Assumes nothing.
use Rattle.std.specs.Prelude.{ℕ, zero, suc, ◌≡◌, refl, ◌≢◌, List, [], ◌∷◌, map, get_or, set, take}
use Rattle.std.proofs.Common.{◌∙◌, get_or-set_other}
use Rattle.board.specs.Stores.{Store, applied}
use Rattle.base.specs.Every.{Every}

-- a word that no store goes to stays
pub applied_away : (ss : List Store) (memory : List ℕ) (p : ℕ) → Every (λ s. p ≢ s.at) ss
    → get_or (applied memory ss) p 0 ≡ get_or memory p 0
unfolding applied
applied_away [] memory p away = refl
applied_away (s ∷ ss) memory p away =
    applied_away ss (set memory s.at s.word) p away.1 ∙ get_or-set_other memory s.at p s.word 0 away.0

pub take_map : {A B : Type 0} (f : A → B) (k : ℕ) (xs : List A) → take k (map f xs) ≡ map f (take k xs)
take_map f zero xs = refl
take_map f (suc k) [] = refl
take_map f (suc k) (x ∷ xs) = rw (take_map f k xs)
