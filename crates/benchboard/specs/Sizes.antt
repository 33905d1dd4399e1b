-- The largest sizes of a bench program, and the memories that these take.
use Rattle.std.specs.Prelude.{ℕ, ◌≤◌, ◌≡◌, refl, Bool, true, false, not, ◌&&◌, List, leb, length}
use Rattle.std.proofs.Common.{sym, ◌∙◌, arith}
use Rattle.std.proofs.lemmas.Bool.{not-false}
use Rattle.base.specs.Tests.{held}
use Rattle.layout.specs.Memory.{board_words, work_words}

-- "Its board memory is an array of 4,098 words .. : N ≤ 2,048, L ≤ 1,024, S ≤ 64."
abbrev pub bench_board : ℕ
bench_board = 4098

abbrev pub most_lines : ℕ
most_lines = 2048

abbrev pub most_entries : ℕ
most_entries = 1024

abbrev pub most_slots : ℕ
most_slots = 64

-- the work memory of the most slots
abbrev pub bench_work : ℕ
bench_work = work_words most_slots

unfoldable pub bench_sized : (lines entries slots : ℕ) → Bool
bench_sized lines entries slots = leb lines most_lines && leb entries most_entries && leb slots most_slots

-- the board of the largest sizes is the whole array
pub board_most : board_words most_lines most_entries ≡ bench_board
board_most = refl

-- Sizes that passed the test, and the memories that they are asked of.
pub record Sizes (lines entries slots : ℕ) (board work : List ℕ) : Type 0 where
  pub lines_most : lines ≤ most_lines
  pub entries_most : entries ≤ most_entries
  pub slots_most : slots ≤ most_slots
  pub board_length : bench_board ≤ length board
  pub work_length : bench_work ≤ length work

module _ (lines entries slots : ℕ) (g : bench_sized lines entries slots ≡ true) where
  most_lines_holds : lines ≤ most_lines
  unfolding bench_sized
  most_lines_holds = search held depth 12

  most_entries_holds : entries ≤ most_entries
  unfolding bench_sized
  most_entries_holds = search held depth 12

  most_slots_holds : slots ≤ most_slots
  unfolding bench_sized
  most_slots_holds = search held depth 12

  pub board_within : board_words lines entries ≤ bench_board
  board_within = omega (arith, most_lines_holds, most_entries_holds)

  pub work_within : work_words slots ≤ bench_work
  work_within = omega (arith, most_slots_holds)

  sizes_within : (board work : List ℕ) → bench_board ≤ length board → bench_work ≤ length work → Sizes lines entries slots board work
  sizes_within board work b w =
      record { lines_most = most_lines_holds; entries_most = most_entries_holds; slots_most = most_slots_holds; board_length = b; work_length = w }

-- after the test that the programs make
pub sizes_tested : (lines entries slots : ℕ) (board work : List ℕ) (t : Bool) → t ≡ bench_sized lines entries slots → not t ≡ false
    → bench_board ≤ length board → bench_work ≤ length work → Sizes lines entries slots board work
sizes_tested lines entries slots board work t is n b w = sizes_within lines entries slots (sym is ∙ not-false t n) board work b w
