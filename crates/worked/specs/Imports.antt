-- Request 10/13, row by row: which texts are taken, what each leaves, and the refusals in their order. Sums are worked as for 7/13, `rising` and
-- `falling` being 7F8 together. Where a row is about something else the sum is right, so that it is no second reason for 19.
use Rattle.std.specs.Prelude.{Ok, ℕ, ◌+◌, ◌-◌, ◌^◌, ◌≡◌, refl, true, false, List, [], ◌∷◌, ◌++◌, length, take}
use Prim.Native.String as text
use Rattle.base.specs.Listed.{listed}
use Rattle.board.specs.Stores.{Store, applied, one}
use Rattle.layout.specs.declared.Control.{Control}
use Rattle.layout.specs.Bytes.{word_of}
use Rattle.layout.specs.ByteWords.{word_in, words_of}
use Rattle.layout.specs.Fields.{width, pack, unpack, encode, decode}
use Rattle.layout.specs.Memory.{shape_for}
use Rattle.layout.specs.Words.{encode_control, encode_shape}
use Rattle.status.specs.declared.Status.{Status}
use Rattle.status.specs.declared.Status.TheVariants as status
use Rattle.status.specs.Names.{bytes}
use Rattle.checks.specs.View.{view_of, good_sizes, good_control, good_shape}
use Rattle.checks.specs.Refusals.{board_checked}
use Rattle.picl.specs.Calls.{report}
use Rattle.intel_hex.specs.declared.Reader.{Reader}
use Rattle.intel_hex.specs.Records.{digit, digits_of, text_of, sum_of, check_of, checked, two_bytes, record_text}
use Rattle.intel_hex.specs.Reading.{place_in, count_in, address_in, type_in, held_in, held_from, upper_behind}
use Rattle.intel_hex.specs.Contents.{value_of, paired, content_of, record_holds}
use Rattle.intel_hex.specs.Import.{capital, are_bytes, same, is_record, is_offered, well_formed, is_outside, import_checked, first_reader}
use Rattle.intel_hex.specs.Import.{import_report, import_reader, import_stores, import_board, imported}
use Rattle.worked.specs.Bench.{control}
use Rattle.worked.specs.Hex.{told, rising, falling, mixed}

-- ---- boards and readers

-- a board with room for one log entry, whose words are not zero
abbrev board : Control → (lines : List ℕ) → List ℕ
board c lines = encode_control c ∷ encode_shape (shape_for (length lines) 1) ∷ 5 ∷ 6 ∷ lines

-- with an empty log
abbrev resting : (lines : List ℕ) → List ℕ
resting lines = board (control 9 0 0) lines

abbrev three : List ℕ
three = resting (1 ∷ 2 ∷ 3 ∷ [])

-- its log has one entry, or, by its length, two
abbrev logged : List ℕ
logged = board (control 9 0 1) (1 ∷ 2 ∷ 3 ∷ [])

abbrev too_long : List ℕ
too_long = board (control 9 0 2) (1 ∷ 2 ∷ 3 ∷ [])

abbrev in_bank : (upper : ℕ) → Reader
in_bank upper = record { upper = upper; ended = false }

abbrev at_end : (upper : ℕ) → Reader
at_end upper = record { upper = upper; ended = true }

-- ---- calls

-- a call takes the text: "0 stores reported", and the board and the reader that it leaves
abbrev Takes : (board : List ℕ) → Reader → (written board' : List ℕ) → Reader → Type 0
Takes board reader written board' reader' =
    (import_report board reader written ≡ report status.Ok 0) × (import_board board reader written ≡ board')
    × (import_reader board reader written ≡ reader')

-- or refuses it, and leaves both as they were
abbrev Refuses : (board : List ℕ) → Reader → (written : List ℕ) → Status → Type 0
Refuses board reader written why =
    (import_report board reader written ≡ report why 0) × (import_board board reader written ≡ board)
    × (import_reader board reader written ≡ reader)

-- as the first record of a load, on the board of three lines
abbrev Stores : text.String → (lines : List ℕ) → Type 0
Stores r lines = Takes three first_reader (told r) (resting lines) first_reader

abbrev Malformed : (written : List ℕ) → Type 0
Malformed written = Refuses three first_reader written status.Record

abbrev Outside : text.String → Type 0
Outside r = Refuses three first_reader (told r) status.Outside

-- on any board of so many lines that rests, with room for one log entry: the record is refused by 20, or one line is stored
abbrev OutsideOf : (lines upper : ℕ) → text.String → Type 0
OutsideOf lines upper r =
    (board : List ℕ) → board_checked board ≡ Ok (record { control = control 9 0 0; shape = shape_for lines 1; slots = 0 })
    → import_report board (in_bank upper) (told r) ≡ report status.Outside 0

abbrev StoresOf : (lines upper : ℕ) → text.String → (stores : List Store) → Type 0
StoresOf lines upper r stores =
    (board : List ℕ) → board_checked board ≡ Ok (record { control = control 9 0 0; shape = shape_for lines 1; slots = 0 })
    → import_stores board (in_bank upper) (told r) ≡ stores

pub record FromHex : Type 0 where
  -- "All records of an export, read in order from the first state into a board of the same N .., rebuild every line": 7/13's file of three lines
  pub rebuilds : imported (record { board = three; reader = first_reader })
      (told ":020000040000FA" ∷ told ":100000000123456789ABCDEFFEDCBA9876543210F8" ∷ told ":08001000A1B2C3D4E5F6070814" ∷ told ":00000001FF" ∷ [])
      ≡ record { board = resting (rising ∷ falling ∷ mixed ∷ []); reader = at_end 0 }
  -- "type 00 with 8 or 16 bytes": 08 + 3C0 = 3C8, 10 + 7F8 = 808
  pub takes_8 : Stores ":080000000123456789ABCDEF38" (rising ∷ 2 ∷ 3 ∷ [])
  pub takes_16 : Stores ":100000000123456789ABCDEFFEDCBA9876543210F8" (rising ∷ falling ∷ 3 ∷ [])
  -- .. at the last line, and 16 bytes at an address that is 8 mod 16: 08 + 10 + 3C0 = 3D8, 10 + 08 + 7F8 = 810
  pub takes_last : Stores ":080010000123456789ABCDEF28" (1 ∷ 2 ∷ rising ∷ [])
  pub takes_between : Stores ":100008000123456789ABCDEFFEDCBA9876543210F0" (1 ∷ rising ∷ falling ∷ [])
  -- "in either case of digits"; mixed too
  pub takes_lower : Stores ":080000000123456789abcdef38" (rising ∷ 2 ∷ 3 ∷ [])
      × Stores ":100000000123456789aBcDeFfEDcbA9876543210f8" (rising ∷ falling ∷ 3 ∷ [])
  -- "types 04": it sets the upper address whole, to any number: 02 + 04 + 01 = 07, 02 + 04 + FF + FF = 204
  pub takes_bank : Takes three (in_bank (2 ^ 64 - 1)) (told ":020000040001F9") three (in_bank 1)
  pub takes_beyond : Takes three first_reader (told ":02000004FFFFFC") three (in_bank 65535)
      × Takes three first_reader (told ":02000004ffFffc") three (in_bank 65535)
  -- "and 01": the upper address stays
  pub takes_end : Takes three (in_bank 7) (told ":00000001FF") three (at_end 7) × Takes three first_reader (told ":00000001ff") three (at_end 0)
  -- "19 record, a malformed record": no text, none of a record, and pieces of one
  pub no_record : Malformed [] × Malformed (told "") × Malformed (told ":") × Malformed (told ":0") × Malformed (told "00000001FF")
  pub cut_short : Malformed (told ":00000001F") × Malformed (told ":080000000123456789ABCDEF") × Malformed (told ":080000000123456789ABCDEF3")
  -- .. "one record and its line feed": none; CR LF; something behind it or before it
  pub no_line_feed : Malformed (bytes ":00000001FF") × Malformed (bytes ":080000000123456789ABCDEF38")
  pub carriage_return : Malformed (bytes ":00000001FF" ++ (13 ∷ 10 ∷ [])) × Malformed (bytes ":00000001FF" ++ (13 ∷ []))
  pub behind : Malformed (told ":00000001FF" ++ (10 ∷ [])) × Malformed (told ":00000001FF" ++ told ":00000001FF")
      × Malformed (told ":00000001FF" ++ (0 ∷ []))
  pub before : Malformed (told " :00000001FF") × Malformed (told "::00000001FF")
  -- .. a space or a NUL in a digit's place, in the last byte, in the type and, where a 0 should be, in the data
  pub blank : Malformed (told ":00000001 F") × Malformed (bytes ":000000" ++ (0 ∷ told "1FF"))
      × Malformed (told ":08000000 123456789ABCDEF38") × Malformed (bytes ":08000000" ++ (0 ∷ told "123456789ABCDEF38"))
  -- .. a character beside the digits: `:` is no A, `@` and a backquote no 9, `G` and `g` no 10, and `/` is not 1 less than 0
  pub beside_figures : Malformed (told ":080000000123456789:BCDEF38") × Malformed (told ":080000000123456789ABCDF/38")
  pub beside_letters : Malformed (told ":08000000012345678@ABCDEF38") × Malformed (told ":08000000012345678`ABCDEF38")
      × Malformed (told ":0G0000000123456789ABCDEFFEDCBA9876543210F8") × Malformed (told ":0g0000000123456789ABCDEFFEDCBA9876543210F8")
  -- .. other types: 02 + 02 + 10 = 14, 04 + 03 = 07, 04 + 05 = 09, and 08 + 80 + 3C0 = 448
  pub other_types : Malformed (told ":020000021000EC") × Malformed (told ":0400000300000000F9") × Malformed (told ":0400000500000000F7")
      × Malformed (told ":080000800123456789ABCDEFB8")
  -- .. other numbers of bytes, with type 00: none; 04 + 0A = 0E; 0C + 3C0 + 1E0 = 5AC; 18 + 3C0 + 438 + 4D4 = CE4
  pub other_counts : Malformed (told ":0000000000") × Malformed (told ":0400000001020304F2") × Malformed (told ":0C0000000123456789ABCDEF7878787854")
      × Malformed (told ":180000000123456789ABCDEFFEDCBA9876543210A1B2C3D4E5F607081C")
  -- .. with type 04: none; 01 + 04 + 01 = 06; 08 + 04 + 3C0 = 3CC; and type 01 with 2: 02 + 01 = 03
  pub bank_counts : Malformed (told ":00000004FC") × Malformed (told ":0100000401FA") × Malformed (told ":080000040123456789ABCDEF34")
  pub end_counts : Malformed (told ":020000010000FD")
  -- .. a number of bytes that is not the data's: 10 + 3C0 = 3D0, 08 + 7F8 = 800
  pub miscounted : Malformed (told ":100000000123456789ABCDEF30") × Malformed (told ":080000000123456789ABCDEFFEDCBA987654321000")
  -- "with address 0000": 02 + 08 + 04 + 01 = 0F, 02 + 01 + 04 + 01 = 08; 08 + 01 = 09, 01 + 01 = 02
  pub bank_addressed : Malformed (told ":020008040001F1") × Malformed (told ":020100040001F8")
  pub end_addressed : Malformed (told ":00000801F7") × Malformed (told ":00010001FE")
  -- "a wrong sum", of each type
  pub wrong_sum : Malformed (told ":080000000123456789ABCDEF37") × Malformed (told ":080000000123456789ABCDEF39")
      × Malformed (told ":080000000133456789ABCDEF38") × Malformed (told ":020000040001FA") × Malformed (told ":00000001FE")
  -- "or one after the end": a second end record, data, another bank
  pub ended : Refuses three (at_end 0) (told ":00000001FF") status.Record × Refuses three (at_end 0) (told ":080000000123456789ABCDEF38") status.Record
      × Refuses three (at_end 0) (told ":020000040001F9") status.Record
  -- "20 outside, data not at a multiple of 8": 08 + 04 + 3C0 = 3CC, 10 + 01 + 7F8 = 809
  pub uneven : Outside ":080004000123456789ABCDEF34" × Outside ":100001000123456789ABCDEFFEDCBA9876543210F7"
  -- "or past the last line": 08 + 18 + 3C0 = 3E0; of 10 + 10 + 7F8 = 818 the second line alone, and neither is stored
  pub past : Outside ":080018000123456789ABCDEF20" × Outside ":100010000123456789ABCDEFFEDCBA9876543210E8"
  pub past_one : Refuses (resting (1 ∷ [])) first_reader (told ":100000000123456789ABCDEFFEDCBA9876543210F8") status.Outside
  -- .. in another bank; the address of the data does not wrap, at 2^64 bytes or at any other number
  pub past_bank : Refuses three (in_bank 1) (told ":080000000123456789ABCDEF38") status.Outside
      × Refuses three (in_bank 65535) (told ":080000000123456789ABCDEF38") status.Outside
  pub past_all : Refuses three (in_bank (2 ^ 48)) (told ":080000000123456789ABCDEF38") status.Outside
      × Refuses three (in_bank (2 ^ 64 - 1)) (told ":080000000123456789ABCDEF38") status.Outside
  -- "running over its bank": 10 + FF + F8 + 7F8 = 9FF runs over it, 08 + FF + F8 + 3C0 = 5BF does not
  pub over_bank : OutsideOf 65536 0 ":10FFF8000123456789ABCDEFFEDCBA987654321001"
  pub bank_ends : StoresOf 65536 0 ":08FFF8000123456789ABCDEF41" (one (4 + 8191) rising)
  -- the bank's first line is line 8,192 of the board; its last in bank 7 is the last of the largest board, and none of one that has a line less
  pub bank_begins : StoresOf 8193 1 ":080000000123456789ABCDEF38" (one (4 + 8192) rising)
  pub largest_ends : StoresOf 65536 7 ":08FFF8000123456789ABCDEF41" (one (4 + 65535) rising)
  pub past_larger : OutsideOf 65535 7 ":08FFF8000123456789ABCDEF41" × OutsideOf 65536 8 ":080000000123456789ABCDEF38"
  -- "after 1 and 18, in this order": 1 and 18, and all four; 18 and 19, of a text and of the end, 18 and 20, and the three; 19 and 20
  pub shape_first : Refuses [] first_reader (told ":00000001FF") status.Shape × Refuses (take 6 logged) first_reader (told ":00000001FF") status.Shape
      × Refuses too_long (at_end 0) (told ":080004000123456789ABCDEF35") status.Shape
  pub log_next : Refuses logged first_reader [] status.LogHeld × Refuses logged (at_end 0) (told ":00000001FF") status.LogHeld
      × Refuses logged first_reader (told ":080004000123456789ABCDEF34") status.LogHeld
      × Refuses logged first_reader (told ":080004000123456789ABCDEF35") status.LogHeld
  pub log_alone : Refuses logged first_reader (told ":00000001FF") status.LogHeld
      × Refuses logged first_reader (told ":080000000123456789ABCDEF38") status.LogHeld
  pub record_next : Malformed (told ":080004000123456789ABCDEF35") × Refuses three (at_end 0) (told ":080004000123456789ABCDEF34") status.Record

pub from_hex : FromHex
unfolding width pack unpack encode decode word_of word_in words_of listed applied view_of good_sizes good_control good_shape board_checked
    digit digits_of text_of sum_of check_of checked two_bytes record_text
    place_in value_of paired content_of count_in address_in type_in held_in held_from record_holds upper_behind
    capital are_bytes same is_record is_offered well_formed is_outside import_checked import_report import_reader import_stores import_board imported
from_hex =
    record {
      rebuilds = refl;
      takes_8 = (refl, refl, refl);
      takes_16 = (refl, refl, refl);
      takes_last = (refl, refl, refl);
      takes_between = (refl, refl, refl);
      takes_lower = ((refl, refl, refl), (refl, refl, refl));
      takes_bank = (refl, refl, refl);
      takes_beyond = ((refl, refl, refl), (refl, refl, refl));
      takes_end = ((refl, refl, refl), (refl, refl, refl));
      no_record = ((refl, refl, refl), (refl, refl, refl), (refl, refl, refl), (refl, refl, refl), (refl, refl, refl));
      cut_short = ((refl, refl, refl), (refl, refl, refl), (refl, refl, refl));
      no_line_feed = ((refl, refl, refl), (refl, refl, refl));
      carriage_return = ((refl, refl, refl), (refl, refl, refl));
      behind = ((refl, refl, refl), (refl, refl, refl), (refl, refl, refl));
      before = ((refl, refl, refl), (refl, refl, refl));
      blank = ((refl, refl, refl), (refl, refl, refl), (refl, refl, refl), (refl, refl, refl));
      beside_figures = ((refl, refl, refl), (refl, refl, refl));
      beside_letters = ((refl, refl, refl), (refl, refl, refl), (refl, refl, refl), (refl, refl, refl));
      other_types = ((refl, refl, refl), (refl, refl, refl), (refl, refl, refl), (refl, refl, refl));
      other_counts = ((refl, refl, refl), (refl, refl, refl), (refl, refl, refl), (refl, refl, refl));
      bank_counts = ((refl, refl, refl), (refl, refl, refl), (refl, refl, refl));
      end_counts = (refl, refl, refl);
      miscounted = ((refl, refl, refl), (refl, refl, refl));
      bank_addressed = ((refl, refl, refl), (refl, refl, refl));
      end_addressed = ((refl, refl, refl), (refl, refl, refl));
      wrong_sum = ((refl, refl, refl), (refl, refl, refl), (refl, refl, refl), (refl, refl, refl), (refl, refl, refl));
      ended = ((refl, refl, refl), (refl, refl, refl), (refl, refl, refl));
      uneven = ((refl, refl, refl), (refl, refl, refl));
      past = ((refl, refl, refl), (refl, refl, refl));
      past_one = (refl, refl, refl);
      past_bank = ((refl, refl, refl), (refl, refl, refl));
      past_all = ((refl, refl, refl), (refl, refl, refl));
      over_bank = λ b e. rw e;
      bank_ends = λ b e. rw e;
      bank_begins = λ b e. rw e;
      largest_ends = λ b e. rw e;
      past_larger = (λ b e. rw e, λ b e. rw e);
      shape_first = ((refl, refl, refl), (refl, refl, refl), (refl, refl, refl));
      log_next = ((refl, refl, refl), (refl, refl, refl), (refl, refl, refl), (refl, refl, refl));
      log_alone = ((refl, refl, refl), (refl, refl, refl));
      record_next = ((refl, refl, refl), (refl, refl, refl));
    }
