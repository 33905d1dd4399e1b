-- Request 9/13's converter on small old boards: W6 on one, entries that the old rules take or refuse, and each reason for 1.
use Rattle.std.specs.Prelude.{ℕ, ◌+◌, ◌*◌, ◌≡◌, refl, true, false, List, [], ◌∷◌}
use Rattle.base.specs.Walk.{first_from}
use Rattle.board.specs.Stores.{applied, each}
use Rattle.layout.specs.declared.Control.{Control}
use Rattle.layout.specs.declared.Shape.{Shape}
use Rattle.layout.specs.Fields.{width, pack, unpack, encode, decode}
use Rattle.ranges.specs.Ranges.{covers, proper_range}
use Rattle.status.specs.declared.Status.TheVariants as status
use Rattle.undo.specs.Entries.{proper_entry}
use Rattle.undo.specs.Log.{place_of, old_in}
use Rattle.undo.specs.Recovery.{older_till, proper_at, first_improper, restore_stores, restore_turn}
use Rattle.convert.specs.Old.{good_old_sizes, good_old_control, good_old, old_entry_in, recovered_lines}
use Rattle.convert.specs.Convert.{convertible, head_of, converted, refused, filled, entries_conversion, conversion}

-- one line, 9, and a log of two entries, the oldest at place 1, by the control word, the newer entry and its data
abbrev board : (control newer old : ℕ) → List ℕ
board control newer old = control ∷ 0x0000000000100002 ∷ newer ∷ old ∷ 0x0000000000000002 ∷ 4 ∷ 9 ∷ []

-- P 1, start 1, length 2
abbrev at_one : ℕ
at_one = 0x0000010000100002

abbrev words : ℕ
words = 7

-- what W6 is converted to: P 1 and no log, N 1 and L 2, no entries, and the line with the oldest entry's data
abbrev woken_as4 : List ℕ
woken_as4 = 0x0000000001000000 ∷ 0x0000010000100002 ∷ 0 ∷ 0 ∷ 0 ∷ 0 ∷ 4 ∷ []

-- one line, and so many log entries
abbrev shape : (entries : ℕ) → Shape
shape entries = record { version = 0; lines = 1; entries = entries }

abbrev one_line : (entries : ℕ) → ℕ
one_line entries = 2 + 2 * entries + 1

abbrev resting : Control
resting = record { persisted = 1; start = 0; length = 0 }

pub record Conversions : Type 0 where
  -- "P = 1 and, oldest first, 0, 2 data 4 and 0, 2 data 6 for one line: it wakes as 4"
  pub oldest_covers : conversion (board at_one 0x0000000000000002 6) words ≡ filled woken_as4
  -- "recovers it by the old rules": 0, 17 is proper, of a span that no entry of today has, and 0, 18 is not: 3 with its place, the oldest counted 0
  pub ends_16_ahead : conversion (board at_one 0x0000000000000011 6) words ≡ filled woken_as4
  pub ends_17_ahead : conversion (board at_one 0x0000000000000012 6) words ≡ refused status.Entry 1
  -- 3, 3 is not proper, though its ValidTill is; nor is an entry for line 1, of which there is none
  pub empty_range : conversion (board at_one 0x0000000003000003 6) words ≡ refused status.Entry 1
  pub no_line : conversion (board at_one 0x0001000000000002 6) words ≡ refused status.Entry 1
  -- "L above 4,095": the old 1 lets it pass
  pub most_entries_holds : (good_old (one_line 4096) (shape 4096) resting ≡ true) × (convertible (one_line 4096) (one_line 4096) (shape 4096) resting ≡ false)
      × (convertible (one_line 4095) (one_line 4095) (shape 4095) resting ≡ true)
  -- "fewer than 2 board words"; "P = 2^24 − 1"; a second memory of a word more; all before the entries
  pub too_short : conversion (at_one ∷ []) 1 ≡ refused status.Shape 0
  pub last_epoch : conversion (board 0xFFFFFF0000100002 0x0000000000000012 6) words ≡ refused status.Shape 0
  pub word_more : conversion (board at_one 0x0000000000000012 6) 8 ≡ refused status.Shape 0

pub conversions : Conversions
unfolding width pack unpack encode decode first_from applied each covers proper_range proper_entry
    place_of old_in older_till proper_at first_improper restore_stores restore_turn
    good_old_sizes good_old_control good_old old_entry_in recovered_lines convertible head_of converted entries_conversion conversion
conversions =
    record {
      oldest_covers = refl;
      ends_16_ahead = refl;
      ends_17_ahead = refl;
      empty_range = refl;
      no_line = refl;
      most_entries_holds = (refl, refl, refl);
      too_short = refl;
      last_epoch = refl;
      word_more = refl;
    }
