-- What a conversion tells: of the old board and the second memory, and whether it was refused.
use Rattle.std.specs.Prelude.{ℕ, ◌<◌, ◌≤◌, ◌≡◌, refl, Bool, true, false, cond, List, ltb}
use Rattle.std.proofs.Math.Path.{sym}
use Rattle.std.proofs.Common.{◌∙◌}
use borrow.Author.Tests.{le-leb, eq-eqb, eqb-false, not-true}
use Rattle.std.proofs.Math.ListN.{length}
use Rattle.base.specs.Tests.{held}
use Rattle.status.specs.declared.Status.TheVariants as status
use Rattle.status.specs.Numbers.{is_ok}
use Rattle.layout.specs.declared.Control.{Control}
use Rattle.layout.specs.declared.Shape.{Shape}
use Rattle.layout.specs.Limits.{most_lines, most_entries}
use Rattle.layout.specs.Memory.{board_words}
use Rattle.undo.specs.declared.LogState.{LogState}
use Rattle.undo.specs.Recovery.{first_improper}
use Rattle.checks.specs.View.{good_sizes}
use Rattle.convert.specs.Old.{old_version, old_last_epoch, good_old_sizes, good_old_control, good_old, old_control_in, old_shape_in, old_undo, old_log_in}
use Rattle.convert.specs.Convert.{convertible, converted, Conversion, refused, filled, entries_conversion, conversion, conversion_report}

-- What passes 1: the old board, of so many words as were given, and a second memory of so many words.
pub record Convertible (given words : ℕ) (s : Shape) (c : Control) : Type 0 where
  pub version : s.version ≡ old_version
  pub sizes : good_sizes words s.lines s.entries ≡ true
  pub same : given ≡ words
  pub persisted : c.persisted ≡ old_last_epoch → ⊥
  pub start : c.start < s.entries
  pub length : c.length ≤ s.entries

module _ (given words : ℕ) (s : Shape) (c : Control) where
  pub convertible_told : convertible given words s c ≡ true → Convertible given words s c
  unfolding convertible good_old good_old_sizes good_old_control good_sizes
  convertible_told h =
      let lines_some : 1 ≤ s.lines = search held depth 16 in
      let lines_most : s.lines ≤ most_lines = search held depth 16 in
      let entries_some : 1 ≤ s.entries = search held depth 16 in
      let entries_most : s.entries ≤ most_entries = search held depth 16 in
      let old_words : given ≡ board_words s.lines s.entries = search held depth 16 in
      let new_words : words ≡ board_words s.lines s.entries = search held depth 16 in
      record {
        version = search held depth 16;
        sizes =
            rw (
              le-leb 1 s.lines lines_some,
              le-leb s.lines most_lines lines_most,
              le-leb 1 s.entries entries_some,
              le-leb s.entries most_entries entries_most,
              eq-eqb words _ new_words,
            );
        same = old_words ∙ sym new_words;
        persisted = search (held, not-true, eqb-false) depth 16;
        start = search held depth 16;
        length = search held depth 16;
      }

-- ok is no refusal, and what is refused is not ok
abbrev pub is_filled : Conversion → Bool
is_filled (refused why value) = false
is_filled (filled words) = true

abbrev Told : Conversion → Type 0
Told v = is_ok (conversion_report v).status ≡ is_filled v

entries_told : (old : List ℕ) (u : LogState) (lines : ℕ) → Told (entries_conversion old u lines)
unfolding entries_conversion
entries_told old u lines = go (ltb (first_improper (old_log_in old u) lines) u.control.length)
  where
    go : (t : Bool) → Told (cond t (refused status.Entry (first_improper (old_log_in old u) lines)) (filled (converted old u lines)))
    go true = refl
    go false = refl

pub ok_filled : (old : List ℕ) (words : ℕ) → Told (conversion old words)
unfolding conversion
ok_filled old words = go (convertible (length old) words (old_shape_in old) (old_control_in old))
  where
    u : LogState
    u = old_undo (old_shape_in old) (old_control_in old)

    go : (t : Bool) → Told (cond t (entries_conversion old u (old_shape_in old).lines) (refused status.Shape 0))
    go true = entries_told old u (old_shape_in old).lines
    go false = refl
