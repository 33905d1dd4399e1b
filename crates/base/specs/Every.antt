-- A claim about every element of a list.
use Rattle.std.specs.Prelude.{List, [], ◌∷◌, ◌++◌, ℕ, zero, suc, get_or, take}

abbrev pub Every : {A : Type 0} → (A → Type 0) → List A → Type 0
Every Q [] = Unit
Every Q (x ∷ xs) = Q x × Every Q xs

module _ {A : Type 0} (Q : A → Type 0) where
  pub every_map : (R : A → Type 0) → ((x : A) → Q x → R x) → (xs : List A) → Every Q xs → Every R xs
  every_map R f [] h = tt
  every_map R f (x ∷ xs) h = (f x h.0, every_map R f xs h.1)

  pub every_append : (xs ys : List A) → Every Q xs → Every Q ys → Every Q (xs ++ ys)
  every_append [] ys h k = k
  every_append (x ∷ xs) ys h k = (h.0, every_append xs ys h.1 k)

  pub every_split : (xs ys : List A) → Every Q (xs ++ ys) → Every Q xs × Every Q ys
  every_split [] ys h = (tt, h)
  every_split (x ∷ xs) ys h = let rest = every_split xs ys h.1 in ((h.0, rest.0), rest.1)

  pub every_take : (n : ℕ) (xs : List A) → Every Q xs → Every Q (take n xs)
  every_take zero xs h = tt
  every_take (suc n) [] h = tt
  every_take (suc n) (x ∷ xs) h = (h.0, every_take n xs h.1)

  pub every_at : (xs : List A) (i : ℕ) (other : A) → Every Q xs → Q other → Q (get_or xs i other)
  every_at [] i other h o = o
  every_at (x ∷ xs) zero other h o = h.0
  every_at (x ∷ xs) (suc i) other h o = every_at xs i other h.1 o
