-- The first stages of a check, 1 and 2, 3, and 4: one law for each way out of a function.
use Rattle.std.proofs.Common.{Ok, Err, ◌≡◌, ℕ, ◌<◌, ◌≤◌, Bool, true, false, cond, not, List, [], length, get_or, arith, le-ltb, lt-ltb}
use borrow.Author.Tests.{lt-leb, not-true, not-false}
use Rattle.layout.specs.Memory.{shape_at, log_at, lines_at}
use Rattle.layout.specs.Words.{OwnLines, decode_shape}
use Rattle.status.specs.declared.Status.TheVariants as status
use Rattle.undo.specs.declared.LogState.{LogState}
use Rattle.undo.specs.Log.{log_in, Sound}
use Rattle.undo.specs.Recovery.{first_improper}
use Rattle.checks.specs.declared.Refusal.{Refusal}
use Rattle.checks.specs.declared.Registers.{Registers}
use Rattle.checks.specs.declared.View.{View}
use Rattle.checks.specs.Registers.{all_zero}
use Rattle.checks.specs.View.{view_of, lent, undo_of, good_control, good_shape, good_work, proper_registers}
use Rattle.checks.specs.Refusals.{unvalued, tested, board_rows, work_rows, entry_rows, register_rows, board_checked, memories_checked}
use Rattle.checks.specs.Promises.{Viewed, Shaped}
use Rattle.checks.specs.Laws.{differ, passed_view, passed_row, refused_first}

-- 1
module _ (board : List ℕ) where
  pub board_short : length board < log_at → Err (unvalued status.Shape) ≡ board_checked board
  unfolding board_checked good_shape
  board_short h = rw (lt-leb log_at (length board) h)

  pub board_lines : (v : View) (lines : ℕ) → Viewed board v → OwnLines (decode_shape (get_or board shape_at 0)) lines → OwnLines v.shape lines
  unfolding view_of
  board_lines v lines read own = rw read.is own

  module _ (v : View) (read : Viewed board v) (t : Bool) (shape : t ≡ good_shape (length board) v) where
    pub board_shape : not t ≡ true → Err (unvalued status.Shape) ≡ board_checked board
    unfolding board_checked
    board_shape h = rw (← read.is, ← shape, not-true t h)

    pub board_passed : not t ≡ false → Ok v ≡ board_checked board
    unfolding board_checked
    board_passed h = rw (← read.is, ← shape, not-false t h)

-- 2: what 1 tests is the same with slots and without
module _ (board work : List ℕ) where
  pub memories_board : (why : Refusal) → Err why ≡ board_checked board → Err why ≡ memories_checked board work
  unfolding memories_checked board_checked good_shape good_control view_of
  memories_board why e =
      refused_first (board_rows (length board) (view_of board work)) (work_rows (length work)) (view_of board work) why
      (go (good_shape (length board) (view_of board work)) e)
    where
      go : (t : Bool) → Err why ≡ cond (not t) (Err (unvalued status.Shape)) (Ok (view_of board []))
          → Err why ≡ cond (not t) (Err (unvalued status.Shape)) (Ok (view_of board work))
      go true x = absurd (differ cc)
      go false x = x

  module _ (v : View) (e : Ok v ≡ board_checked board) (t : Bool) (words : t ≡ good_work (length work)) where
    shaped : good_shape (length board) (view_of board work) ≡ true
    unfolding board_checked good_shape good_control view_of
    shaped = not-false _ (passed_row status.Shape (board_rows (length board) (view_of board [])) (view_of board []) v e)

    pub memories_work : not t ≡ true → Err (unvalued status.Work) ≡ memories_checked board work
    unfolding memories_checked
    memories_work h = rw (shaped, ← words, not-true t h)

    pub memories_passed : (w : View) → not t ≡ false → w ≡ lent v (length work) → Ok w ≡ memories_checked board work
    unfolding memories_checked board_checked view_of
    memories_passed w h x =
        let same : v ≡ view_of board [] = passed_view (board_rows (length board) (view_of board [])) (view_of board []) v e in
        rw (shaped, ← words, not-false t h, x, same)

-- 4
module _ (v : View) (r : Registers) (t : Bool) (test : t ≡ proper_registers v r) where
  pub registers_refused : not t ≡ true → Err (unvalued status.Regs) ≡ tested (register_rows v r) v
  registers_refused h = rw (← test, not-true t h)

  pub registers_passed : not t ≡ false → Ok v ≡ tested (register_rows v r) v
  registers_passed h = rw (← test, not-false t h)

-- 3
module _ (board work : List ℕ) (v : View) (s : Shaped board work v) (u : LogState) (same : u ≡ undo_of v all_zero) where
  pub entries_sound : Sound u
  entries_sound = rw same (omega (arith, s.good.sizes, s.good.control))

  pub entries_words : lines_at u.entries ≤ length board
  entries_words = rw same (omega (arith, s.good.board_words_holds))

  module _ (found : ℕ) (first : found ≡ first_improper (log_in board u) v.shape.lines) where
    found_is : found ≡ first_improper (log_in board (undo_of v all_zero)) v.shape.lines
    found_is = rw same at first

    pub entries_refused : found < v.control.length → Err (record { status = status.Entry; value = found }) ≡ tested (entry_rows board v) v
    entries_refused h = rw (← found_is, lt-ltb found v.control.length h)

    pub entries_passed : v.control.length ≤ found → Ok v ≡ tested (entry_rows board v) v
    entries_passed h = rw (← found_is, le-ltb found v.control.length h)
