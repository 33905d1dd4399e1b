-- One law for each way out of an import: the reader's words, and what a record that is taken leaves.
use Prim.Native.Nat.{ℕ}
use mathlib.Core.Path.{◌≡◌}
use mathlib.Core.Bool.{Bool, true, false, not}
use mathlib.Core.List.{List}
use borrow.Author.Tests.{ne_eqb, not-true, not-false}
use lib.ListN.{set}
use Rattle.layout.specs.Words.{IsBit}
use Rattle.intel_hex.specs.declared.Reader.{Reader}
use Rattle.intel_hex.specs.declared.Taken.{Taken}
use Rattle.intel_hex.specs.Import.{Imports}
use Rattle.capi.specs.Places.{upper_at, ended_at, has_reader_places, read_reader}
use Rattle.capi.specs.Promises.{Reports}
use Rattle.capi.specs.Crossing.{too_short, imported, reader_put, import_crossing}

module _ (words : List ℕ) (number : ℕ) (left : Reader) where
  pub reader_kept : (number ≡ 0 → ⊥) → words ≡ reader_put words number left
  unfolding reader_put
  reader_kept other = rw (ne_eqb number 0 other)

  pub reader_put_holds : (flag : ℕ) → number ≡ 0 → IsBit left.ended flag → set (set words upper_at left.upper) ended_at flag ≡ reader_put words number left
  unfolding reader_put
  reader_put_holds flag e b = rw (e, b.is)

module _ (board reader text answer : List ℕ) (t : Bool) (is : t ≡ has_reader_places reader answer) where
  pub import_short : not t ≡ true → imported too_short board reader answer ≡ import_crossing board reader text answer
  unfolding import_crossing
  import_short n = rw (← is, not-true t n)

  pub import_made : (given : Reader) (board' reader' answer' : List ℕ) (taken : Taken) (number : ℕ) → not t ≡ false → given ≡ read_reader reader
      → Imports board given text board' taken → Reports answer taken.report answer' number
      → reader' ≡ reader_put reader number taken.reader → imported number board' reader' answer' ≡ import_crossing board reader text answer
  unfolding import_crossing
  import_made given board' reader' answer' taken number n e x g p =
      rw (← is, not-false t n, p, g.number_is, g.answer_left, x.report, x.reader_left, x.board_left, e)
