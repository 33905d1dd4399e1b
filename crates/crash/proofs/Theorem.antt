-- Demand 3: after every list of calls, cut anywhere, all that `Consistent` says holds, and all that `Beyond` says.
use Rattle.std.specs.Prelude.{ℕ, ◌≡◌}
use Rattle.std.proofs.Common.{sym, ap, ◌∙◌, arith}
use Rattle.layout.specs.declared.Control.{Control}
use Rattle.status.specs.declared.Status.TheVariants as status
use Rattle.picl.specs.Calls as calls
use Rattle.durable.specs.Reads.{reads_persisted}
use Rattle.crash.specs.Statement.{Step, call, power_up, export_record, made, Both, after, run, persisted_on, Consistent, OnFormatted, Demand3}
use Rattle.crash.specs.Beyond.{Beyond, Whole, AtRest}
use Rattle.crash.specs.State.{Holds, holds_off, holds_ended}
use Rattle.crash.specs.Fares.{NoneDirty}
use Rattle.crash.specs.Caches.{true_count, one_holder}
use Rattle.crash.specs.Steps.{load_value, tally_value, call_kept}
use Rattle.crash.specs.Power.{power_up_kept, log_proper_of, log_spans_of, power_up_lines_of, power_up_shape, power_up_entry, power_up_ok}
use Rattle.crash.specs.Exports.{empty_log_lines, exporting_whole, export_answered, exported_record, export_accepted}
use Rattle.crash.specs.Format.{format_off}
use Rattle.crash.proofs.Runs.{after_holds, run_holds, rests_off, list_holds}
use Rattle.crash.proofs.Progress.{persisted_rises, oldest_persisted, target_persisted}
use Rattle.crash.specs.Proper.{running_up, worked, call_answered, begin_accepted, room_full, filter_exact, spans_buffered}

-- ---- what the invariant says

same_epoch : {N L : ℕ} (s : Both) → Holds N L s.machine s.reference → persisted_on s.machine.board ≡ s.reference.persisted
same_epoch s h =
    let off = holds_off h in
    ap (λ (c : Control). c.persisted) off.reads.control ∙ reads_persisted off.reads ∙ off.safe.named

cut_counts : {N L : ℕ} (s : Both) → Holds N L s.machine s.reference → (x : Step) → (made s.machine x).status ≡ status.Cut
    → NoneDirty (made s.machine x).left
cut_counts s h (call c k) = (call_kept h c k).cut
cut_counts s h (power_up lent k) = (power_up_kept h lent k).cut
cut_counts s h (export_record text number) = λ same. absurd (exporting_whole _ (export_answered h text number) same)

consistent : {N L : ℕ} (s : Both) → Holds N L s.machine s.reference → Consistent N L s
consistent s h =
    record {
      same_epoch = same_epoch s h;
      has_copy = holds_ended h;
      recovers_to_copy = λ lent k ok a inside. power_up_lines_of h lent k ok a ∙ ap (λ (p : ℕ). s.reference.copies p a) (sym (same_epoch s h));
      recovers_to_lines = λ lent k ok a inside. rw ok (power_up_lines_of h lent k ok a);
      recoverable = λ lent k. (power_up_shape h lent k, power_up_entry h lent k);
      log_proper = log_proper_of (holds_off h);
      log_spans = log_spans_of (holds_off h);
      buffer_spans = λ runs. spans_buffered (running_up s h runs);
      persists = λ xs u many.
          let p = oldest_persisted s h xs u many in
          (p, rw (same_epoch (run s xs) (run_holds s h xs)) p);
      persists_target = λ target k accepted xs u many.
          let begun = after s (call (calls.begin target) k) in
          let p = target_persisted s h target k accepted xs u many in
          (p, rw (same_epoch (run begun xs) (run_holds begun (after_holds s h (call (calls.begin target) k)) xs)) p);
      count_true = true_count h;
      none_after_cut = cut_counts s h;
      tallies = λ k ok. tally_value h k ok;
    }

beyond : {N L : ℕ} (s : Both) → Holds N L s.machine s.reference → Beyond N L s
beyond s h =
    record {
      never_falls = λ x. rw (same_epoch s h, same_epoch (after s x) (after_holds s h x)) (persisted_rises s h x);
      same_running = λ runs. (running_up s h runs).ok.live.history.clock;
      restarts = λ lent k work enough. power_up_ok h lent k work enough;
      loads = λ a k ok. load_value h a k ok;
      answers = λ runs c k. call_answered (running_up s h runs) c k;
      good_work_holds = λ runs. worked (running_up s h runs);
      full = λ runs a v k. room_full (running_up s h runs) a v k;
      begins_all = λ runs. begin_accepted (running_up s h runs);
      filter_exact = λ runs. filter_exact (running_up s h runs);
      held_once = λ good a j k under below also held. one_holder h good a k below held j under also;
      lines_with_empty_log = λ empty a inside. empty_log_lines (holds_off h) empty a;
      exports = exported_record h;
      export_answers_holds = export_answered h;
      exports_all = export_accepted h;
    }

invariant_tells : {N L : ℕ} (s : Both) → Holds N L s.machine s.reference → Whole N L s
invariant_tells s h = record { demand = consistent s h; beyond = beyond s h }

-- ---- after every list

-- format accepted on any board memory; then a power-up, lent any work memory, at any allowance; then any list
pub whole : OnFormatted Whole
whole given N L ok work registers lent k xs = invariant_tells _ (list_holds (format_off given N L ok) (omega arith) work registers lent k xs)

pub demand_3 : Demand3
demand_3 given N L ok work registers lent k xs = (whole given N L ok work registers lent k xs).demand

-- and on any board that rests
pub whole_at_rest : AtRest Whole
whole_at_rest N L board r work registers lent k xs = invariant_tells _ (list_holds (rests_off r) (omega arith) work registers lent k xs)
