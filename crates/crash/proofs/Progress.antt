-- S + 1 accepted scan calls with no cut or power-up between them persist what the scan aims at: the oldest epoch that
-- waits, or the target of a pass that was begun.
use Rattle.std.specs.Prelude.{ℕ, ◌+◌, ◌≤◌, ◌<◌, ◌≡◌, refl, Bool, true, false, cond, List, [], ◌∷◌, eqb, length}
use Rattle.std.proofs.Common.{sym, ap, subst, ◌∙◌, arith}
use Rattle.std.proofs.lemmas.Bool.{false≢true}
use Rattle.layout.specs.Memory.{slots_of}
use Rattle.status.specs.declared.Status.TheVariants as status
use Rattle.status.specs.Numbers.{number_of}
use Rattle.checks.specs.declared.Registers.{Registers}
use Rattle.checks.specs.View.{view_of, bounds_of}
use Rattle.picl.specs.Calls as calls
use Rattle.reference.specs.Machine.{powered_up, nothing, does}
use Rattle.reference.specs.Runs as runs
use Rattle.refine.specs.Pass.{Runs, outside, inside}
use Rattle.crash.specs.Statement.{Step, call, power_up, export_record, Result, made, seen_call, fed, Both, after, run, Unbroken, Stretch, count_scan, scans}
use Rattle.crash.specs.State.{sweep_of, Holds, is_up, is_down}
use Rattle.crash.specs.Reached.{Reached, reached, aim_outside, aim_inside, Onward, onward_none, onward_then, onward_rises, onward_done}
use Rattle.crash.specs.Steps.{call_kept, begin_aims}
use Rattle.crash.specs.Exports.{export_unseen, export_same}
use Rattle.crash.proofs.Runs.{after_holds, run_holds}

abbrev reached_by : Both → Reached
reached_by s = reached s.machine.registers s.reference

-- ---- one call

-- the scan aims at an epoch that is not persisted yet
aim_ahead : {N L : ℕ} (s : Both) → Holds N L s.machine s.reference → s.reference.persisted < (reached_by s).aim
unfolding view_of
aim_ahead s (is_down d) = rw d.registers (omega arith)
aim_ahead s (is_up u) = go u.ok.pass.runs
  where
    r : Registers
    r = s.machine.registers

    p : ℕ
    p = s.reference.persisted

    go : Runs (bounds_of (view_of s.machine.board s.machine.work) r) (sweep_of r) → p < (reached_by s).aim
    go (outside none c) = omega (arith, aim_outside r p none)
    go (inside w) = omega (arith, aim_inside r p (omega (arith, w.ahead)), w.ahead, u.ok.persisted, u.ok.safe.named)

module _ {N L : ℕ} (s : Both) (h : Holds N L s.machine s.reference) where
  step_words : (x : Step) → Unbroken s.machine x → length (after s x).machine.work ≡ length s.machine.work
  step_words (call c k) whole = (call_kept h c k).same_words
  step_words (power_up lent k) broken = absurd broken
  step_words (export_record text number) whole = ap (λ (t : Both). length t.machine.work) (export_same text number s)

  step_moves : (x : Step) → Unbroken s.machine x → Onward (count_scan (fed x (made s.machine x))) (reached_by s) (reached_by (after s x))
  step_moves (call c k) whole = (call_kept h c k).moves whole
  step_moves (power_up lent k) broken = absurd broken
  step_moves (export_record text number) whole =
      let x = export_record text number in
      let none = ap count_scan (export_unseen text number (made s.machine x)) in
      subst (λ (t : Both). Onward (count_scan (fed x (made s.machine x))) (reached_by s) (reached_by t)) (sym (export_same text number s))
      (rw none (onward_none (reached_by s)))

  -- P never falls: what is not accepted changes nothing, and a power-up goes on with the same p
  pub persisted_rises : (x : Step) → s.reference.persisted ≤ (after s x).reference.persisted
  persisted_rises (power_up lent k) = go (eqb (number_of (made s.machine (power_up lent k)).status) 0)
    where
      go : (t : Bool) → s.reference.persisted ≤ (does s.reference (cond t powered_up nothing)).persisted
      go true = omega arith
      go false = omega arith
  persisted_rises (export_record text number) = rw (export_unseen text number (made s.machine (export_record text number))) (omega arith)
  persisted_rises (call c k) = go (eqb (number_of x.status) 0) refl
    where
      x : Result
      x = made s.machine (call c k)

      go : (t : Bool) → eqb (number_of x.status) 0 ≡ t → s.reference.persisted ≤ (does s.reference (cond t (seen_call c x.value) nothing)).persisted
      go true e = onward_rises (aim_ahead s h) (rw e at ((call_kept h c k).moves (λ cut. false≢true (rw cut at e))))
      go false e = omega arith

-- ---- a stretch of calls

stretch_words : {N L : ℕ} (s : Both) → Holds N L s.machine s.reference → (xs : List Step) → Stretch s.machine xs
    → length (run s xs).machine.work ≡ length s.machine.work
unfolding runs.run
stretch_words s h [] u = refl
stretch_words s h (x ∷ xs) u = stretch_words (after s x) (after_holds s h x) xs u.1 ∙ step_words s h x u.0

stretch_moves : {N L : ℕ} (s : Both) → Holds N L s.machine s.reference → (xs : List Step) → Stretch s.machine xs
    → Onward (scans s.machine xs) (reached_by s) (reached_by (run s xs))
unfolding runs.run scans
stretch_moves s h [] u = onward_none (reached_by s)
stretch_moves s h (x ∷ xs) u =
    let kept = after_holds s h x in
    onward_then (aim_ahead (after s x) kept) (step_moves s h x u.0) (stretch_moves (after s x) kept xs u.1)

-- ---- so what it aims at is persisted

cursor_within : {N L : ℕ} (s : Both) → Holds N L s.machine s.reference → s.machine.registers.cursor ≤ slots_of (length s.machine.work)
unfolding view_of
cursor_within s (is_up u) = u.ok.pass.within
cursor_within s (is_down d) = omega (arith, ap (λ (r : Registers). r.cursor) d.registers)

module _ {N L : ℕ} (s : Both) (h : Holds N L s.machine s.reference) where
  aim_persisted : (xs : List Step) → Stretch s.machine xs → slots_of (length s.machine.work) + 1 ≤ scans s.machine xs → (reached_by s).aim ≤ (run s xs).reference.persisted
  aim_persisted xs u many =
      let last : (run s xs).machine.registers.cursor ≤ slots_of (length s.machine.work) =
      rw (ap slots_of (stretch_words s h xs u)) at (cursor_within (run s xs) (run_holds s h xs)) in
      onward_done (slots_of (length s.machine.work)) last many (stretch_moves s h xs u)

  pub oldest_persisted : (xs : List Step) → Stretch s.machine xs → slots_of (length s.machine.work) + 1 ≤ scans s.machine xs → s.reference.persisted + 1 ≤ (run s xs).reference.persisted
  oldest_persisted xs u many = omega (arith, aim_ahead s h, aim_persisted xs u many)

module _ {N L : ℕ} (s : Both) (h : Holds N L s.machine s.reference) (target k : ℕ)
    (accepted : (made s.machine (call (calls.begin target) k)).status ≡ status.Ok) where
  abbrev begun : Both
  begun = after s (call (calls.begin target) k)

  pub target_persisted : (xs : List Step) → Stretch begun.machine xs → slots_of (length begun.machine.work) + 1 ≤ scans begun.machine xs → target ≤ (run begun xs).reference.persisted
  target_persisted xs u many =
      rw (begin_aims h target k begun.reference.persisted accepted) at
      (aim_persisted begun (after_holds s h (call (calls.begin target) k)) xs u many)
