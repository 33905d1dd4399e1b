-- Request 7/13, row by row: whole files, the end of a bank, numbers of records, and calls. A record's bytes are its count, its address, its type,
-- its data and the byte that brings the sum of these to the next multiple of 100; sums are written in hexadecimal, as the bytes are.
use Rattle.std.specs.Prelude.{ℕ, zero, suc, ◌+◌, ◌-◌, ◌*◌, ◌/◌, ◌^◌, ◌<◌, ◌≤◌, ◌≡◌, List, [], ◌∷◌, ◌++◌, length, get_or, take, drop}
use Prim.Native.String as text
use Rattle.std.proofs.Math.Path.{refl}
use Rattle.std.proofs.Common.{◌∙◌, arith, length-append}
use Rattle.std.proofs.Math.Seq.{drop-append-add}
use Rattle.layout.specs.declared.Control.{Control}
use Rattle.layout.specs.Bytes.{bytes_of}
use Rattle.layout.specs.Fields.{width, pack, unpack, encode, decode}
use Rattle.layout.specs.Memory.{shape_for, formatted}
use Rattle.layout.specs.Words.{encode_control, encode_shape}
use Rattle.status.specs.declared.Status.{Status}
use Rattle.status.specs.declared.Status.TheVariants as status
use Rattle.status.specs.Names.{bytes}
use Rattle.checks.specs.View.{view_of, good_sizes, good_control, good_shape}
use Rattle.checks.specs.Refusals.{board_checked}
use Rattle.picl.specs.Calls.{report}
use Rattle.intel_hex.specs.Records.{digit, digits_of, text_of, sum_of, check_of, checked, two_bytes, record_text, bank_text, data_text, end_text}
use Rattle.intel_hex.specs.Records.{record_lines, records_from, records_of, joined, file_of}
use Rattle.intel_hex.specs.Places.{pair_bytes, bank_records, last_of, records_ruled, last_record, bank_number, pair_number}
use Rattle.intel_hex.specs.Export.{record_at, export_checked, export_report, export_text}
use Rattle.worked.specs.Bench.{control}

-- ---- texts

-- "each record ends in one line feed"
abbrev pub told : text.String → List ℕ
told r = bytes r ++ (10 ∷ [])

abbrev pub file : List text.String → List ℕ
file [] = []
file (r ∷ rs) = told r ++ file rs

-- bytes of a text that are all different
abbrev pub numbered : (first many : ℕ) → List ℕ
numbered first zero = []
numbered first (suc many) = first ∷ numbered (first + 1) many

-- ---- lines

-- 01 + 23 + 45 + 67 + 89 + AB + CD + EF = 3C0
abbrev pub rising : ℕ
rising = 0x0123456789ABCDEF

-- FE + DC + BA + 98 + 76 + 54 + 32 + 10 = 438
abbrev pub falling : ℕ
falling = 0xFEDCBA9876543210

-- A1 + B2 + C3 + D4 + E5 + F6 + 07 + 08 = 4D4
abbrev pub mixed : ℕ
mixed = 0xA1B2C3D4E5F60708

-- lines 8,190 to 8,192, the last two of bank 0 and the first of bank 1: each has its own number, 1FFE, 1FFF and 2000
abbrev pub edge : List ℕ
edge = 8190 ∷ 8191 ∷ 8192 ∷ []

-- a board with them has 8,190 lines before them: which text the record of a number has
abbrev pub AtEdge : (number : ℕ) (written : text.String) → Type 0
AtEdge number written = (before : List ℕ) → length before ≡ 8190 → get_or (records_of (before ++ edge)) number [] ≡ told written

-- on any board of so many lines: which text the record of a number has, and how many records there are
abbrev pub Has : (lines number : ℕ) (written : text.String) → Type 0
Has lines number written = (ls : List ℕ) → length ls ≡ lines → get_or (records_of ls) number [] ≡ told written

abbrev pub Many : (lines records : ℕ) → Type 0
Many lines records = (ls : List ℕ) → length ls ≡ lines → length (records_of ls) ≡ records

-- ---- calls

-- boards of three lines, with room for two log entries, whose words are not zero; the log is empty, has one entry, or, by its length, three
abbrev pub board : Control → List ℕ
board c = encode_control c ∷ encode_shape (shape_for 3 2) ∷ 1 ∷ 2 ∷ 3 ∷ 4 ∷ rising ∷ falling ∷ mixed ∷ []

abbrev pub empty : List ℕ
empty = board (control 5 1 0)

abbrev pub held : List ℕ
held = board (control 5 1 1)

abbrev pub too_long : List ℕ
too_long = board (control 5 1 3)

-- a call with a text of so many bytes writes a record, of which the bytes are as many as its value, and leaves those behind it
abbrev pub Writes : (board : List ℕ) (number size : ℕ) (written : text.String) (value : ℕ) → Type 0
Writes board number size written value =
    (export_report board number (numbered 0 size) ≡ report status.Ok value)
    × (export_text board number (numbered 0 size) ≡ told written ++ numbered value (size - value))

-- or is refused, and leaves the text
abbrev pub Refuses : (board : List ℕ) (number size : ℕ) → Status → Type 0
Refuses board number size why =
    (export_report board number (numbered 0 size) ≡ report why 0) × (export_text board number (numbered 0 size) ≡ numbered 0 size)

pub record Exported : Type 0 where
  -- "Bytes of a line go most significant first"; "Digits are upper case": 02 + 04 = 06, and 08 + 3C0 = 3C8
  pub one_line : file_of (rising ∷ []) ≡ file (":020000040000FA" ∷ ":080000000123456789ABCDEF38" ∷ ":00000001FF" ∷ [])
  -- "type 00 records of 16 bytes": 10 + 3C0 + 438 = 808
  pub two_lines : file_of (rising ∷ falling ∷ [])
      ≡ file (":020000040000FA" ∷ ":100000000123456789ABCDEFFEDCBA9876543210F8" ∷ ":00000001FF" ∷ [])
  -- "(8 for an odd last line)", "line i at byte address 8i": 08 + 10 + 4D4 = 4EC
  pub three_lines : file_of (rising ∷ falling ∷ mixed ∷ [])
      ≡ file (":020000040000FA" ∷ ":100000000123456789ABCDEFFEDCBA9876543210F8" ∷ ":08001000A1B2C3D4E5F6070814" ∷ ":00000001FF" ∷ [])
  -- "The last byte makes the sum of all bytes in a record 0 modulo 256": 08 + F8 = 100 already
  pub no_rest : file_of (0xF8 ∷ []) ≡ file (":020000040000FA" ∷ ":0800000000000000000000F800" ∷ ":00000001FF" ∷ [])
  -- "Each bank of 65,536 byte addresses opens with a type 04 record": 10 + FF + F0 + (1F + FE) + (1F + FF) = 43A; 02 + 04 + 01 = 07; 08 + 20 = 28
  pub banks_meet : joined (records_from 65520 edge)
      ≡ file (":10FFF0000000000000001FFE0000000000001FFFC6" ∷ ":020000040001F9" ∷ ":080000000000000000002000D8" ∷ ":00000001FF" ∷ [])
  -- .. "by record number from 0": bank 0 has an opener and 4,096 records, numbers 0 to 4,096
  pub bank_0_ends : AtEdge 4096 ":10FFF0000000000000001FFE0000000000001FFFC6"
  pub bank_1_opens : AtEdge 4097 ":020000040001F9"
  pub bank_1_begins : AtEdge 4098 ":080000000000000000002000D8"
  pub edge_closes : AtEdge 4099 ":00000001FF"
  -- .. and none opens that no line is in
  pub no_bank_1 : Has 8192 4097 ":00000001FF"
  -- the largest board: bank 7 has 7 × 4,097 records before it, and 02 + 04 + 07 = 0D; 8 × 4,097 come before the last one
  pub bank_7_opens : Has 65536 28679 ":020000040007F3"
  pub largest_closes : Has 65536 32776 ":00000001FF"
  -- how many records: openers, lines by twos, and the last one. 1 + 1 + 1, 1 + 1 + 1, 1 + 2 + 1 ..
  pub few : Many 1 3 × Many 2 3 × Many 3 4
  -- .. 1 + 4,096 + 1, 1 + 4,096 + 1, 2 + 4,097 + 1, 8 + 32,768 + 1
  pub many : Many 8191 4098 × Many 8192 4098 × Many 8193 4100 × Many 65536 32777
  -- "Success changes only the first text bytes, those of its record, and its value is their number": texts of 44 bytes and of 50
  pub call_opener : Writes empty 0 44 ":020000040000FA" 16 × Writes empty 0 50 ":020000040000FA" 16
  pub call_two : Writes empty 1 44 ":100000000123456789ABCDEFFEDCBA9876543210F8" 44 × Writes empty 1 50 ":100000000123456789ABCDEFFEDCBA9876543210F8" 44
  pub call_one : Writes empty 2 44 ":08001000A1B2C3D4E5F6070814" 28 × Writes empty 2 50 ":08001000A1B2C3D4E5F6070814" 28
  pub call_end : Writes empty 3 44 ":00000001FF" 12 × Writes empty 3 50 ":00000001FF" 12
  -- a board just formatted: its lines are zero
  pub call_formatted : Writes (formatted 3 2) 1 44 ":1000000000000000000000000000000000000000F0" 44
  -- "a refusal changes none". 1: no words, and one fewer than the shape word says
  pub refuses_1 : Refuses [] 0 44 status.Shape × Refuses (take 8 empty) 0 44 status.Shape
  -- "16 short, fewer than 44 text bytes", whichever the record
  pub refuses_16 : Refuses empty 3 43 status.Short × Refuses empty 0 0 status.Short
  -- "17 past, no record of that number"
  pub refuses_17 : Refuses empty 4 44 status.Past × Refuses empty (2 ^ 64 - 1) 44 status.Past
  -- "18 logheld, log length not 0"
  pub refuses_18 : Refuses held 0 44 status.LogHeld × Refuses held 3 44 status.LogHeld × Refuses (board (control 5 1 2)) 0 44 status.LogHeld
  -- "all after 1, in this order": 1 and 16, and all four; 16 and 17, 16 and 18, and the three; 17 and 18
  pub shape_first : Refuses (take 8 empty) 0 43 status.Shape × Refuses too_long 4 43 status.Shape
  pub short_next : Refuses empty 4 43 status.Short × Refuses held 0 43 status.Short × Refuses held 4 43 status.Short
  pub past_next : Refuses held 4 44 status.Past

-- ── by the laws of numbers ──

counted : (lines records : ℕ) → (lines + 8191) / 8192 + (lines + 1) / 2 + 1 ≡ records → Many lines records
counted lines records sum ls e = records_ruled ls ∙ rw e sum

closes : (lines number : ℕ) → 1 ≤ lines → number ≡ last_of lines → Has lines number ":00000001FF"
unfolding end_text
closes lines number some last ls e = last_record ls (rw e some) number (rw e last)

opens : (lines number bank : ℕ) → 1 ≤ lines → number < last_of lines → bank ≡ number / bank_records → number ≡ bank_records * bank
    → (ls : List ℕ) → length ls ≡ lines → get_or (records_of ls) number [] ≡ bank_text bank
opens lines number bank some below which first ls e = bank_number ls (rw e some) number bank (rw e below) which first

module _ (before : List ℕ) (e : length before ≡ 8190) where
  edged : length (before ++ edge) ≡ 8193
  edged = length-append before edge ∙ rw e

  -- the lines from the edge on, and from the next bank on
  from_edge : drop 8190 (before ++ edge) ≡ edge
  from_edge = rw e at (drop-append-add before edge 0)

  from_bank : drop 8192 (before ++ edge) ≡ 8192 ∷ []
  from_bank = rw e at (drop-append-add before edge 2)

  edge_pair : (number bank first : ℕ) → number < last_of 8193 → bank ≡ number / bank_records → (number ≡ bank_records * bank → ⊥)
      → first ≡ record_lines * (number - bank - 1)
      → get_or (records_of (before ++ edge)) number [] ≡ data_text (8 * first) (pair_bytes (drop first (before ++ edge)))
  edge_pair number bank first below which other f =
      pair_number (before ++ edge) (rw edged (omega arith)) number bank (rw edged below) which other first f

  edge_4096 : get_or (records_of (before ++ edge)) 4096 [] ≡ told ":10FFF0000000000000001FFE0000000000001FFFC6"
  unfolding data_text record_text text_of checked check_of sum_of digits_of digit two_bytes bytes_of unpack width
  edge_4096 = edge_pair 4096 0 8190 (omega arith) refl (omega arith) refl ∙ rw from_edge

  edge_4098 : get_or (records_of (before ++ edge)) 4098 [] ≡ told ":080000000000000000002000D8"
  unfolding data_text record_text text_of checked check_of sum_of digits_of digit two_bytes bytes_of unpack width
  edge_4098 = edge_pair 4098 1 8192 (omega arith) refl (omega arith) refl ∙ rw from_bank

pub exported : Exported
unfolding width pack unpack encode decode bytes_of formatted view_of good_sizes good_control good_shape board_checked
    digit digits_of text_of sum_of check_of checked two_bytes record_text bank_text data_text end_text records_from joined
    record_at export_checked export_report export_text
exported =
    record {
      one_line = refl;
      two_lines = refl;
      three_lines = refl;
      no_rest = refl;
      banks_meet = refl;
      bank_0_ends = edge_4096;
      bank_1_opens = λ before e. opens 8193 4097 1 (omega arith) (omega arith) refl refl (before ++ edge) (edged before e);
      bank_1_begins = edge_4098;
      edge_closes = λ before e. closes 8193 4099 (omega arith) refl (before ++ edge) (edged before e);
      no_bank_1 = closes 8192 4097 (omega arith) refl;
      bank_7_opens = opens 65536 28679 7 (omega arith) (omega arith) refl refl;
      largest_closes = closes 65536 32776 (omega arith) refl;
      few = (counted 1 3 refl, counted 2 3 refl, counted 3 4 refl);
      many = (counted 8191 4098 refl, counted 8192 4098 refl, counted 8193 4100 refl, counted 65536 32777 refl);
      call_opener = ((refl, refl), (refl, refl));
      call_two = ((refl, refl), (refl, refl));
      call_one = ((refl, refl), (refl, refl));
      call_end = ((refl, refl), (refl, refl));
      call_formatted = (refl, refl);
      refuses_1 = ((refl, refl), (refl, refl));
      refuses_16 = ((refl, refl), (refl, refl));
      refuses_17 = ((refl, refl), (refl, refl));
      refuses_18 = ((refl, refl), (refl, refl), (refl, refl));
      shape_first = ((refl, refl), (refl, refl));
      short_next = ((refl, refl), (refl, refl), (refl, refl));
      past_next = (refl, refl);
    }
