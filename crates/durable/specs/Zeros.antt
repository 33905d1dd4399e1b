-- A memory of zeros. Assumes nothing.
use Rattle.std.specs.Prelude.{ℕ, ◌≡◌, List, get_or, replicate}
use Rattle.std.proofs.lemmas.List.{length-replicate, get_or-replicate}
use Rattle.std.proofs.Math.ListN.{get_or-eq_default}
use Rattle.base.specs.Cases.{below_or_not}

abbrev pub zeros : ℕ → List ℕ
zeros n = replicate n 0

-- every word is zero, and what is read behind the last too
pub get_d_zeros : (n i : ℕ) → get_or (zeros n) i 0 ≡ 0
get_d_zeros n i = below_or_not i n
    (λ inside. get_or-replicate n i 0 0 inside)
    (λ outside. get_or-eq_default (zeros n) 0 (simp length-replicate outside))
