-- A recorded call. The request: "A record is two words, most significant byte first: kind 3 bits (0 load, 1 store, 2 commit, 3 scan,
-- 4 evict), address 16, zero 45; then the value. Address and value are zero for kinds that take none."
use Rattle.std.specs.Prelude.{ℕ, ◌^◌, ◌*◌, ◌<◌, ◌≡◌, Bool, cond, ◌&&◌, ◌||◌, List, ◌++◌, Option, Some, None, Result, Ok, Err, MatchResult, ltb, leb, eqb, length, take, drop}
use Rattle.layout.specs.Limits.{address_bits}
use Rattle.layout.specs.Words.{encode_record, decode_record}
use Rattle.layout.specs.Bytes.{bytes_of_word, bytes_of, word_of}
use Rattle.status.specs.declared.Status.{Status}
use Rattle.status.specs.declared.Status.TheVariants.{Trace}
use Rattle.records.specs.declared.Call.{Call}
use Rattle.records.specs.declared.Call.TheVariants.{Load, Store, Evict, Commit, Scan}
use Rattle.records.specs.declared.Kind.{Kind}
use Rattle.records.specs.declared.Kind.TheVariants as kind

abbrev pub load_kind : ℕ
load_kind = 0

abbrev pub store_kind : ℕ
store_kind = 1

abbrev pub commit_kind : ℕ
commit_kind = 2

abbrev pub scan_kind : ℕ
scan_kind = 3

abbrev pub evict_kind : ℕ
evict_kind = 4

abbrev pub number_of : Kind → ℕ
number_of kind.Load = load_kind
number_of kind.Store = store_kind
number_of kind.Commit = commit_kind
number_of kind.Scan = scan_kind
number_of kind.Evict = evict_kind

-- the kind with this number, or the refusal of one that no kind has
abbrev pub Numbers : ℕ → Result Kind Status → Type 0
Numbers number r = MatchResult r (λ k. number_of k ≡ number) (λ status. (status ≡ Trace) × (evict_kind < number))

abbrev pub record_bytes : ℕ
record_bytes = 2 * bytes_of_word

-- "Address and value are zero for kinds that take none"
abbrev pub takes_address : (kind : ℕ) → Bool
takes_address kind = eqb kind load_kind || (eqb kind store_kind || eqb kind evict_kind)

abbrev pub takes_value : (kind : ℕ) → Bool
takes_value kind = eqb kind store_kind

abbrev pub zero_unless : (taken : Bool) → ℕ → Bool
zero_unless taken n = taken || eqb n 0

-- whether none of the three is "a kind, address or value with no place in it"
unfoldable pub has_place : (kind address value : ℕ) → Bool
has_place kind address value =
    leb kind evict_kind && (ltb address (2 ^ address_bits) && (zero_unless (takes_address kind) address && zero_unless (takes_value kind) value))

unfoldable pub call_of : (kind address value : ℕ) → Call
call_of kind address value =
    cond (eqb kind load_kind) (Load address)
    (cond (eqb kind store_kind) (Store address value)
    (cond (eqb kind commit_kind) Commit
    (cond (eqb kind scan_kind) Scan
    (Evict address))))

-- the call, or "13 trace, .. a kind, address or value with no place in it"
unfoldable pub call_in : (kind address value : ℕ) → Result Call Status
call_in kind address value = cond (has_place kind address value) (Ok (call_of kind address value)) (Err Trace)

unfoldable pub first_word : (kind address : ℕ) → ℕ
first_word kind address = encode_record (record { kind = kind; address = address; spare = 0 })

-- The writer: "13 trace, .. from the writer, a kind, address or value with no place in it".
unfoldable pub written : (kind address value : ℕ) → Result (List ℕ) Status
written kind address value = cond (has_place kind address value) (Ok (bytes_of (first_word kind address) ++ bytes_of value)) (Err Trace)

-- The reader: "13 trace, a record that breaks this layout or ends early". No bytes are the end, no call.
unfoldable pub words_reading : (first value : ℕ) → Result (Option Call) Status
words_reading first value =
    let r = decode_record first in
    cond (eqb r.spare 0 && has_place r.kind r.address value) (Ok (Some (call_of r.kind r.address value))) (Err Trace)

-- a record's two words
abbrev pub first_in : (bytes : List ℕ) → ℕ
first_in bytes = word_of (take bytes_of_word bytes)

abbrev pub value_in : (bytes : List ℕ) → ℕ
value_in bytes = word_of (take bytes_of_word (drop bytes_of_word bytes))

unfoldable pub reading : (bytes : List ℕ) → Result (Option Call) Status
reading bytes =
    cond (eqb (length bytes) 0) (Ok None)
    (cond (ltb (length bytes) record_bytes) (Err Trace)
    (words_reading (first_in bytes) (value_in bytes)))
