-- Numbers at the bounds, as the definitions give them.
use Rattle.std.specs.Prelude.{◌≡◌, refl}
use Rattle.base.specs.Walk.{first_from}
use Rattle.status.specs.Names.{bytes}
use Rattle.text.specs.Text.{decimal_places, decimal_of}

pub smallest : decimal_of 0 ≡ bytes "0"
unfolding decimal_of decimal_places first_from
smallest = refl

pub two_digits : decimal_of 10 ≡ bytes "10"
unfolding decimal_of decimal_places first_from
two_digits = refl

pub largest : decimal_of 18446744073709551615 ≡ bytes "18446744073709551615"
unfolding decimal_of decimal_places first_from
largest = refl
