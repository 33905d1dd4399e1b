-- A conversion is what the old power-up says of the board, and a board that it fills continues the old one.
use Rattle.std.specs.Prelude.{ℕ, ◌+◌, ◌^◌, ◌<◌, ◌≤◌, ◌≡◌, Bool, ◌&&◌, leb, eqb}
use Rattle.std.proofs.Math.Path.{refl, ap}
use Rattle.std.proofs.Common.{sym, subst, ◌∙◌, arith}
use Rattle.std.proofs.Math.Bool.{true, false, cond}
use mathlib.Core.List.{List, [], ◌++◌}
use borrow.Author.Tests.{le-leb, lt-ltb, ne_eqb, ltb-false}
use Rattle.std.proofs.Math.Dec.{ltb}
use Rattle.std.proofs.Math.ListN.{length, get_or, drop, length-append, length-drop, length-replicate}
use Rattle.std.proofs.Math.Seq.{drop-set-lt, get_or-append-add, get_or-drop}
use Rattle.base.specs.Walk.{first_all}
use Rattle.status.specs.declared.Status.TheVariants as status
use Rattle.board.specs.Stores.{one, applied}
use Rattle.board.specs.Laws.{applied_append, length_applied}
use Rattle.layout.specs.declared.Control.{Control}
use Rattle.layout.specs.declared.Shape.{Shape}
use Rattle.layout.specs.Fields.{encode}
use Rattle.layout.specs.Laws.{control_laws, shape_laws}
use Rattle.layout.specs.Limits.{last_epoch, most_entries}
use Rattle.layout.specs.Memory.{control_at, log_at, lines_at, board_words, shape_for, control_in, shape_in}
use Rattle.layout.specs.Sizes.{Sizes}
use Rattle.undo.specs.declared.LogState.{LogState}
use Rattle.undo.specs.Log.{emptied}
use Rattle.undo.specs.Recovery.{proper_at, first_improper, restore_all}
use Rattle.checks.specs.Laws.{differ, sizes_told, words_told}
use Rattle.checks.specs.Refusals.{board_checked}
use Rattle.checks.specs.View.{view_of, good_control, good_shape}
use Rattle.convert.specs.Old.{old_epoch_bits, old_control_packing, old_control_laws, old_control_in, old_shape_in, good_old, old_log_in, recovered_lines}
use Rattle.convert.specs.Convert.{convertible, head_of, converted, refused, filled, entries_conversion, conversion}
use Rattle.convert.specs.Laws.{Convertible, convertible_told}
use Rattle.reference.specs.Machine.{resting}
use Rattle.history.specs.Machine.{recall}
use Rattle.durable.specs.View.{entries_of}
use Rattle.crash.specs.Statement.{AfterEveryList, persisted_on, line_on}
use Rattle.crash.specs.Beyond.{Whole, Rests}
use Rattle.crash.proofs.Theorem.{whole_at_rest}
use Rattle.converted.specs.Statement.{old_undo_in, stopped, due, power_up_stores, old_power_up, has_place, behind, beside_power_up, Continues}
use Rattle.converted.specs.Lines.{recovered_line}

module _ (old : List ℕ) where
  abbrev s : Shape
  s = old_shape_in old

  abbrev c : Control
  c = old_control_in old

  abbrev u : LogState
  u = old_undo_in old

  abbrev improper : ℕ
  improper = first_improper (old_log_in old u) s.lines

  -- ---- beside the old power-up

  -- the last store is to the control word, before the lines
  lines_left : drop (lines_at s.entries) (applied old (power_up_stores old u)) ≡ recovered_lines old u
  unfolding recovered_lines applied
  lines_left =
      let ss = restore_all (old_log_in old u) (lines_at s.entries) in
      let word = encode old_control_packing (emptied c) in
      ap (drop (lines_at s.entries)) (applied_append ss (one control_at word) old)
      ∙ drop-set-lt (lines_at s.entries) (applied old ss) control_at word (omega arith)

  pub as_power_up : (words : ℕ) → conversion old words ≡ beside_power_up old words
  unfolding conversion convertible entries_conversion old_power_up has_place converted
  as_power_up words =
      go (good_old (length old) s c) (leb s.entries most_entries) (eqb words (board_words s.lines s.entries)) (ltb improper c.length)
    where
      go : (good fits same early : Bool)
          → cond (good && fits && same) (cond early (refused status.Entry improper) (filled (head_of c s.lines s.entries ++ recovered_lines old u))) (refused status.Shape 0)
          ≡ cond (fits && same)
          (behind old (cond good (cond early (stopped status.Entry improper) (due (power_up_stores old u))) (stopped status.Shape 0)))
          (refused status.Shape 0)
      go true true true true = refl
      go true true true false = ap (λ (lines : List ℕ). filled (head_of c s.lines s.entries ++ lines)) (sym lines_left)
      go true true false early = refl
      go true false same early = refl
      go false true true early = refl
      go false true false early = refl
      go false false same early = refl

  -- ---- the board that is filled

  pub record Filled (words : ℕ) (board : List ℕ) : Type 0 where
    pub told : convertible (length old) words s c ≡ true
    pub proper : c.length ≤ improper
    pub is : board ≡ converted old u s.lines

  module _ (words : ℕ) (board : List ℕ) (done : conversion old words ≡ filled board) where
    is_filled : Filled words board
    unfolding conversion entries_conversion
    is_filled = go (convertible (length old) words s c) (ltb improper c.length) refl refl done
      where
        go : (t early : Bool) → convertible (length old) words s c ≡ t → ltb improper c.length ≡ early
            → cond t (cond early (refused status.Entry improper) (filled (converted old u s.lines))) (refused status.Shape 0) ≡ filled board
            → Filled words board
        go true true e f d = absurd (differ cc)
        go true false e f d = record { told = e; proper = ltb-false improper c.length f; is = cc }
        go false early e f d = absurd (differ cc)

    told : Convertible (length old) words s c
    told = convertible_told (length old) words s c is_filled.told

    sizes : Sizes s.lines s.entries
    sizes = sizes_told words s.lines s.entries told.sizes

    second_words : words ≡ board_words s.lines s.entries
    second_words = words_told words s.lines s.entries told.sizes

    old_words : length old ≡ board_words s.lines s.entries
    old_words = told.same ∙ second_words

    early_epoch : c.persisted < 2 ^ old_epoch_bits
    early_epoch = (old_control_laws.decoded_fits (get_or old control_at 0)).persisted

    board_control : control_in board ≡ emptied c
    unfolding converted head_of
    board_control = ap control_in is_filled.is ∙ control_laws.decode_encode (emptied c) (omega (arith, early_epoch))

    board_shape : shape_in board ≡ shape_for s.lines s.entries
    unfolding converted head_of
    board_shape = ap shape_in is_filled.is ∙ shape_laws.decode_encode (shape_for s.lines s.entries) (omega (arith, sizes))

    head_words : length (head_of c s.lines s.entries) ≡ lines_at s.entries
    unfolding head_of
    head_words = rw length-replicate (omega arith)

    lines_words : length (recovered_lines old u) ≡ s.lines
    unfolding recovered_lines
    lines_words = length-drop (lines_at s.entries) _ ∙ rw length_applied (omega (arith, old_words))

    board_words_holds : length board ≡ board_words s.lines s.entries
    unfolding converted
    board_words_holds = ap length is_filled.is ∙ length-append (head_of c s.lines s.entries) (recovered_lines old u) ∙ rw (head_words, lines_words)

    -- it passes 1, with an empty log
    good : good_shape (length board) (view_of board []) ≡ true
    unfolding good_shape good_control view_of
    good =
        rw (
          board_control,
          board_shape,
          board_words_holds,
          ← second_words,
          told.sizes,
          le-leb log_at words (omega (arith, second_words)),
          ne_eqb c.persisted last_epoch (omega (arith, early_epoch)),
          lt-ltb 0 s.entries sizes.entries_some,
          le-leb 0 s.entries (omega arith),
        )

    rests : Rests s.lines s.entries board
    unfolding board_checked
    rests = record { passes = rw good; shape = board_shape; empty = ap (λ (d : Control). d.length) board_control }

    -- ---- its lines

    proper : (i : ℕ) → i < c.length → proper_at (old_log_in old u) s.lines i ≡ true
    unfolding first_improper
    proper = first_all (proper_at (old_log_in old u) s.lines) c.length is_filled.proper

    line_recalled : (a : ℕ) → line_on s.entries board a ≡ recall (entries_of (old_log_in old u)) c.persisted a (line_on s.entries old a)
    unfolding converted recovered_lines
    line_recalled a =
        let at = lines_at s.entries in
        let head = head_of c s.lines s.entries in
        let restored = applied old (restore_all (old_log_in old u) at) in
        ap (λ (words : List ℕ). get_or words (at + a) 0) is_filled.is
        ∙ ap (λ (n : ℕ). get_or (head ++ drop at restored) (n + a) 0) (sym head_words)
        ∙ get_or-append-add head (drop at restored) a 0
        ∙ get_or-drop at restored a 0
        ∙ recovered_line at s.lines (old_log_in old u) (λ i. refl) proper old (omega (arith, old_words)) a

    pub continues : Continues s.lines s.entries old board
    continues =
        let epoch : persisted_on board ≡ c.persisted = ap (λ (d : Control). d.persisted) board_control in
        record {
          sizes = board_shape;
          epoch = epoch;
          lines = λ a inside. line_recalled a;
          demand =
              subst (λ (p : ℕ). AfterEveryList board (resting p (line_on s.entries board)) (Whole s.lines s.entries)) epoch
              (whole_at_rest s.lines s.entries board rests);
        }
