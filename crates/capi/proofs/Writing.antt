-- One law for each way out of the writer of records.
use Prim.Native.Nat.{ℕ}
use mathlib.Core.Path.{◌≡◌}
use mathlib.Core.Bool.{Bool, true, false, not}
use mathlib.Core.List.{List}
use borrow.Author.Tests.{not-true, not-false}
use Rattle.std.specs.Prelude.{Result, IfOk, length}
use Rattle.status.specs.declared.Status.{Status}
use Rattle.records.specs.Records.{written, record_bytes}
use Rattle.records.specs.Laws.{written_length}
use Rattle.capi.specs.Places.{has_record_places}
use Rattle.capi.specs.Promises.{Reports}
use Rattle.capi.specs.Crossing.{too_short, reported, record_put, record_status, record_crossing}

module _ (place answer : List ℕ) (t : Bool) (is : t ≡ has_record_places place answer) (kind address value : ℕ) where
  pub write_short : not t ≡ true → reported too_short place answer ≡ record_crossing place answer kind address value
  unfolding record_crossing
  write_short n = rw (← is, not-true t n)

  pub write_made : (place' answer' : List ℕ) (w : Result (List ℕ) Status) (s : Status) (number : ℕ) → not t ≡ false → w ≡ written kind address value
      → place' ≡ record_put place w → s ≡ record_status w → Reports answer (record { status = s; value = 0; stores = 0 }) answer' number
      → reported number place' answer' ≡ record_crossing place answer kind address value
  unfolding record_crossing
  write_made place' answer' w s number n e p k g = rw (← is, not-false t n, g.number_is, g.answer_left, p, k, e)

-- a record that the writer makes is whole
pub record_whole : (kind address value : ℕ) (w : Result (List ℕ) Status) → w ≡ written kind address value → IfOk w (λ bytes. length bytes ≡ record_bytes)
record_whole kind address value w e = rw e (written_length kind address value)
