-- What the reader's functions answer, byte by byte. That bytes so read give what `Records` says of them is `reader_reads`, in `Laws`.
use Rattle.std.specs.Prelude.{ℕ, ◌+◌, Bool, cond, ◌&&◌, Option, None, Result, Ok, Err, ltb, leb, eqb}
use Rattle.layout.specs.Bytes.{bytes_of_word, with_byte}
use Rattle.status.specs.declared.Status.{Status}
use Rattle.status.specs.declared.Status.TheVariants.{Trace}
use Rattle.records.specs.declared.Call.{Call}
use Rattle.records.specs.declared.Reader.{Reader}
use Rattle.records.specs.Records.{record_bytes, words_reading}

-- before the first byte
abbrev pub new_reader : Reader
new_reader = record { count = 0; first = 0; value = 0 }

unfoldable pub is_new : Reader → Bool
is_new r = eqb r.count 0 && (eqb r.first 0 && eqb r.value 0)

unfoldable pub is_full : Reader → Bool
is_full r = leb record_bytes r.count

-- after one more byte: of the first word, or of the value
unfoldable pub step_of : Reader → (byte : ℕ) → Reader
step_of r byte =
    cond (is_full r) r
    (cond (ltb r.count bytes_of_word)
    (record { count = r.count + 1; first = with_byte r.first byte; value = r.value })
    (record { count = r.count + 1; first = r.first; value = with_byte r.value byte }))

-- what the bytes are where none follow
unfoldable pub reading_by : Reader → Result (Option Call) Status
reading_by r = cond (eqb r.count 0) (Ok None) (cond (ltb r.count record_bytes) (Err Trace) (words_reading r.first r.value))
