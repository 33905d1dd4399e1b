-- One law for each way out of giving a number's name.
use Prim.Native.Nat.{ℕ, ◌<◌, ◌≤◌}
use mathlib.Core.Path.{◌≡◌}
use mathlib.Core.Bool.{Bool, true, false, not}
use mathlib.Core.List.{List}
use native.Mathlib.Omega.{arith}
use borrow.Author.Tests.{le-leb, lt-leb, not-true, not-false}
use lib.ListN.{length}
use Rattle.status.specs.Names.{name_of, with_name, PutsName}
use Rattle.status.specs.declared.Status.TheVariants.{Ok}
use Rattle.capi.specs.Places.{has_answer}
use Rattle.capi.specs.Promises.{Reports}
use Rattle.capi.specs.Crossing.{too_short, reported, name_crossing}

module _ (text answer : List ℕ) (number : ℕ) (t : Bool) (is : t ≡ has_answer answer) where
  pub name_unanswered : not t ≡ true → reported too_short text answer ≡ name_crossing text answer number
  unfolding name_crossing
  name_unanswered n = rw (← is, not-true t n)

  module _ (text' : List ℕ) (k : ℕ) (n : not t ≡ false) (put : PutsName number text text' k) (same : length text' ≡ length text) where
    pub name_unfit : length text' < k → reported too_short text' answer ≡ name_crossing text answer number
    unfolding name_crossing with_name
    name_unfit h =
        let unfit = lt-leb (length (name_of number)) (length text) (omega (arith, h, same, put.letters)) in rw (put.left, ← is, not-false t n, unfit)

    pub name_given : (answer' : List ℕ) (r : ℕ) → k ≤ length text' → Reports answer (record { status = Ok; value = k; stores = 0 }) answer' r
        → reported r text' answer' ≡ name_crossing text answer number
    unfolding name_crossing
    name_given answer' r h g =
        let fits = le-leb (length (name_of number)) (length text) (omega (arith, h, same, put.letters)) in
        rw (← is, not-false t n, fits, ← put.left, ← put.letters, g.number_is, g.answer_left)
