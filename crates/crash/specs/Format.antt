-- An accepted format leaves a board that recovers to the fresh uncached machine.
use Rattle.std.specs.Prelude.{ℕ, ◌≡◌, refl, Bool, true, false, cond, List, length}
use Rattle.std.proofs.Common.{arith}
use Rattle.layout.specs.Memory.{formatted}
use Rattle.layout.specs.ZeroWord.{zero_control}
use Rattle.status.specs.declared.Status.TheVariants as status
use Rattle.checks.specs.Laws.{sizes_told}
use Rattle.checks.specs.View.{good_sizes}
use Rattle.picl.specs.Calls.{format_report, format_after}
use Rattle.reference.specs.Machine.{resting}
use Rattle.history.specs.Machine.{recall}
use Rattle.durable.specs.Format.{blank, format_reads}
use Rattle.refine.specs.State.{Off}

pub format_off : (given : List ℕ) (N L : ℕ) → (format_report given N L).status ≡ status.Ok → Off N L (format_after given N L) (resting 0 (λ a. 0))
unfolding format_report format_after recall
format_off given N L = go (good_sizes (length given) N L) refl
  where
    go : (t : Bool) → good_sizes (length given) N L ≡ t → cond t status.Ok status.Shape ≡ status.Ok
        → Off N L (cond t (formatted N L) given) (resting 0 (λ a. 0))
    go true e ok =
        record {
          control = zero_control;
          durable = blank;
          reads = format_reads N L (sizes_told (length given) N L e);
          safe = record { named = refl; proper = tt; recovers = λ a. refl };
        }
    go false e ok = let z : ◌≡◌ {A = ℕ} 0 1 = cc in absurd (omega arith)
