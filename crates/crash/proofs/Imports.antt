-- The crash rule starts again on a board that was imported from Intel HEX: the theorem is `after_imports`.
use Rattle.std.specs.Prelude.{ℕ, ◌≡◌, List}
use Rattle.std.proofs.Math.Path.{ap}
use Rattle.std.proofs.Common.{subst, ◌∙◌}
use Rattle.layout.specs.declared.Control.{Control}
use Rattle.checks.specs.View.{view_of}
use Rattle.intel_hex.specs.Import.{imported}
use Rattle.intel_hex.specs.ImportLaws.{Kept, control_kept, shape_kept, checked_kept, kept_on, cut_kept, import_kept}
use Rattle.reference.specs.Machine.{resting}
use Rattle.crash.specs.Statement.{AfterEveryList, persisted_on, line_on}
use Rattle.crash.specs.Beyond.{Whole, Rests}
use Rattle.crash.proofs.Theorem.{whole_at_rest}
use Rattle.crash.specs.Imports.{StartsAgain, AfterImports}

-- ---- the proof

-- The words before the lines stay, so that the board rests, whatever its lines have become: the order of the stores
-- does not matter.
module _ {N L : ℕ} {given board : List ℕ} (r : Rests N L given) (k : Kept given board) where
  kept_rests : Rests N L board
  unfolding view_of
  kept_rests =
      record {
        passes = rw (checked_kept k, control_kept k, shape_kept k) r.passes;
        shape = shape_kept k ∙ r.shape;
        empty = ap (λ (c : Control). c.length) (control_kept k) ∙ r.empty;
      }

  pub starts_again : StartsAgain N L given board
  starts_again =
      let epoch : persisted_on board ≡ persisted_on given = ap (λ (c : Control). c.persisted) (control_kept k) in
      record {
        rests = kept_rests;
        epoch = epoch;
        crash_rule =
            subst (λ (p : ℕ). AfterEveryList board (resting p (line_on L board)) (Whole N L)) epoch (whole_at_rest N L board kept_rests);
      }

pub after_imports : AfterImports
after_imports N L s r texts =
    let t = imported s texts in
    record {
      after_records = starts_again r (import_kept s texts);
      after_cut = λ text made. starts_again r (kept_on (import_kept s texts) (cut_kept t.board t.reader text made));
    }
