-- An export changes nothing, and what it gives is the uncached machine's copy of the persisted epoch.
use Rattle.std.specs.Prelude.{Ok, Err, ℕ, ◌≤◌, ◌<◌, ◌≡◌, Bool, not, cond, List, [], ◌++◌, ltb, leb, eqb, get_or}
use Rattle.std.proofs.Math.Path.{refl}
use Rattle.std.proofs.Common.{sym, ap, zero-add, arith, length-drop, get_or-drop}
use Rattle.std.proofs.Math.Bool.{true, false}
use Rattle.std.proofs.Math.Logic.{inl, inr}
use borrow.Author.Tests.{eqb-true, le-ltb, lt-leb}
use Rattle.std.proofs.Math.ListN.{length, drop}
use Rattle.layout.specs.declared.Shape.{Shape}
use Rattle.layout.specs.Memory.{lines_at, control_in, shape_in}
use Rattle.status.specs.declared.Status.{Status}
use Rattle.status.specs.declared.Status.TheVariants as status
use Rattle.status.specs.Numbers.{number_of}
use Rattle.checks.specs.Refusals.{Checked, unvalued, board_checked}
use Rattle.checks.specs.View.{view_of}
use Rattle.intel_hex.specs.Records.{records_of}
use Rattle.intel_hex.specs.Export.{lines_on, record_at, most_text, export_checked, report_for, text_for, export_report, export_text}
use Rattle.reference.specs.Machine.{Reference, nothing, does}
use Rattle.history.specs.Machine.{recall}
use Rattle.base.specs.Listed.{listed, listed_whole}
use Rattle.refine.specs.State.{Off}
use Rattle.crash.specs.Statement.{export_record, Machine, Result, Both, made, fed, after, persisted_on, line_on}
use Rattle.crash.specs.Beyond.{Among, export_answers}
use Rattle.crash.specs.State.{Holds, holds_off}
use Rattle.crash.specs.Power.{differ, shape_good}

-- ---- it changes nothing

module _ (text : List ℕ) (number : ℕ) where
  pub export_unseen : (r : Result) → fed (export_record text number) r ≡ nothing
  export_unseen r = go (eqb (number_of r.status) 0)
    where
      go : (t : Bool) → cond t nothing nothing ≡ nothing
      go true = refl
      go false = refl

  pub export_same : (s : Both) → after s (export_record text number) ≡ s
  unfolding made
  export_same s = λ i. record { machine = s.machine; reference = does s.reference (export_unseen (made s.machine (export_record text number)) i) }

-- ---- the lines

module _ {N L : ℕ} {board : List ℕ} {g : Reference} (off : Off N L board g) (empty : (control_in board).length ≡ 0) where
  -- an empty log tells nothing, so that recovery gives the lines as they stand
  pub empty_log_lines : (a : ℕ) → line_on L board a ≡ g.copies (persisted_on board) a
  unfolding listed recall
  empty_log_lines a = rw empty at (rw (← off.reads.durable) at (off.safe.recovers a))

  -- the lines that are exported
  exported_lines : lines_on board ≡ listed (g.copies (persisted_on board)) 0 N
  exported_lines =
      let sized = off.reads.sized in
      let entries : (shape_in board).entries ≡ L = ap (λ (x : Shape). x.entries) sized.shape in
      let many : length (lines_on board) ≡ N = omega (arith, length-drop (lines_at (shape_in board).entries) board, sized.words, entries) in
      rw many at
      (sym
      (listed_whole (lines_on board) (g.copies (persisted_on board)) 0
      (λ k. rw (entries, get_or-drop (lines_at L) board k 0, zero-add k) (sym (empty_log_lines k)))))

-- ---- the answers

-- no export is cut
pub exporting_whole : (s : Status) → Among export_answers s → s ≡ status.Cut → ⊥
exporting_whole s (inl ok) e = differ cc
exporting_whole s (inr (inl short)) e = differ cc
exporting_whole s (inr (inr (inl past))) e = differ cc
exporting_whole s (inr (inr (inr (inl held)))) e = differ cc
exporting_whole s (inr (inr (inr (inr none)))) e = none

module _ {N L : ℕ} {m : Machine} {g : Reference} (h : Holds N L m g) (text : List ℕ) (number : ℕ) where
  abbrev board : List ℕ
  board = m.board

  -- the record, and the file that it is of
  abbrev copied : List (List ℕ)
  copied = records_of (listed (g.copies (persisted_on board)) 0 N)

  abbrev written : List ℕ
  written = get_or copied number []

  -- the tests behind 1
  abbrev few : Bool
  few = ltb (length text) most_text

  abbrev beyond : Bool
  beyond = leb (length (records_of (lines_on board))) number

  abbrev empty : Bool
  empty = eqb (control_in board).length 0

  abbrev judged : (few beyond empty : Bool) → Checked
  judged few beyond empty =
      cond few (Err (unvalued status.Short)) (cond beyond (Err (unvalued status.Past)) (cond (not empty) (Err (unvalued status.LogHeld)) (Ok (view_of board []))))

  board_passes : export_checked board (length text) number ≡ judged few beyond empty
  unfolding export_checked board_checked view_of
  board_passes = rw (shape_good (holds_off h).reads.sized [])

  pub export_answered : Among export_answers (made m (export_record text number)).status
  unfolding made export_report
  export_answered = rw board_passes (go few beyond empty)
    where
      go : (t u v : Bool) → Among export_answers (report_for (judged t u v) (record_at board number)).status
      go true u v = inr (inl refl)
      go false true v = inr (inr (inl refl))
      go false false false = inr (inr (inr (inl refl)))
      go false false true = inl refl

  pub exported_record : (made m (export_record text number)).status ≡ status.Ok
      → (export_text board number text ≡ written ++ drop (length written) text) × ((made m (export_record text number)).value ≡ length written)
  unfolding made export_report export_text record_at
  exported_record = rw board_passes (go few beyond empty refl)
    where
      go : (t u v : Bool) → empty ≡ v → (report_for (judged t u v) (record_at board number)).status ≡ status.Ok
          → (text_for (judged t u v) (record_at board number) text ≡ written ++ drop (length written) text)
          × ((report_for (judged t u v) (record_at board number)).value ≡ length written)
      go true u v e ok = absurd (differ cc)
      go false true v e ok = absurd (differ cc)
      go false false false e ok = absurd (differ cc)
      go false false true e ok = rw (← exported_lines (holds_off h) (eqb-true (control_in board).length 0 e)) (refl, refl)

  pub export_accepted : (control_in board).length ≡ 0 → most_text ≤ length text → number < length copied
      → (made m (export_record text number)).status ≡ status.Ok
  unfolding made export_report
  export_accepted none room among =
      rw (board_passes, le-ltb (length text) most_text room, exported_lines (holds_off h) none, lt-leb (length copied) number among, none)
