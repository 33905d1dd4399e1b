-- A memory into which a list is copied from the front, one store a turn.
use Rattle.std.specs.Prelude.{ℕ, suc, ◌+◌, ◌<◌, ◌≤◌, ◌≡◌, refl, List, ◌∷◌, ◌++◌, length, get_or, set, take, drop}
use Rattle.std.proofs.Common.{sym, ◌∙◌, append-nil, arith, length-set, drop_of_length-le, take_all, take-suc, drop-cons, length-take-le}
use Rattle.std.proofs.Math.Seq.{append_snoc}
use Rattle.std.proofs.lemmas.List.{set_at}

pub record Copied (from before after : List ℕ) (i : ℕ) : Type 0 where
  pub within : i ≤ length from
  pub same : length after ≡ length before
  pub front : after ≡ take i from ++ drop i before

pub copy_start : (from before : List ℕ) → Copied from before before 0
copy_start from before = record { within = omega arith; same = refl; front = refl }

module _ {from before after : List ℕ} {i : ℕ} (words : length before ≡ length from) (s : Copied from before after i) where
  pub copy_next : i < length from → Copied from before (set after i (get_or from i 0)) (i + 1)
  copy_next h =
      let k : i + 1 ≡ suc i = omega arith in
      let a = get_or from i 0 in
      let rest = drop (suc i) before in
      let here : set (take i from ++ drop i before) i a ≡ take i from ++ a ∷ rest =
      rw (drop-cons before i 0 (omega arith)) (set_at (take i from) (get_or before i 0) rest a i (length-take-le i from (omega arith))) in
      record {
        within = omega arith;
        same = length-set after i _ ∙ s.same;
        front = rw (s.front, k, here, take-suc from i 0 h) (sym (append_snoc (take i from) a rest));
      }

  pub copy_end : length from ≤ i → after ≡ from
  copy_end h = s.front ∙ rw (drop_of_length-le before {i = i} (omega arith), take_all i from h, append-nil)
