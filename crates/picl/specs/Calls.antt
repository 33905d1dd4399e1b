-- The calls: what each comes to on any memories, registers and arguments.
use Rattle.std.specs.Prelude.{Ok, Err, ℕ, cond, List, [], ltb, length, replicate}
use Rattle.layout.specs.Memory.{filter_words, data_in, buffer_in, formatted}
use Rattle.layout.specs.Words.{bit}
use Rattle.status.specs.declared.Status.{Status}
use Rattle.status.specs.declared.Status.TheVariants as status
use Rattle.undo.specs.declared.LogState.{LogState}
use Rattle.undo.specs.Filter.{ones_of}
use Rattle.undo.specs.Log.{recover_stores}
use Rattle.slots.specs.declared.Spot.{Spot}
use Rattle.slots.specs.Sets.{spot_of}
use Rattle.slots.specs.Slots.{dirty_at}
use Rattle.steps.specs.Effects.{Effect, loading, storing, evicting, visiting, persisting}
use Rattle.checks.specs.declared.Registers.{Registers}
use Rattle.checks.specs.declared.View.{View}
use Rattle.checks.specs.Registers as registers
use Rattle.checks.specs.View.{good_sizes, good_work, undo_of}
use Rattle.checks.specs.Refusals.{Checked, power_up_checked, running_checked, line_checked, store_checked, commit_checked, begin_checked, scan_checked}
use Rattle.picl.specs.declared.Report.{Report}
use Rattle.picl.specs.Answers.{Outcome, Verdict, answer_of}
use Rattle.board.specs.Verdict.{refused, due}

-- refused by its first row that holds, or else due
abbrev pub judged : Checked → (View → Outcome) → Verdict
judged (Err why) outcome = refused why.status why.value
judged (Ok v) outcome = due (outcome v)

-- what an effect on log and cache comes to, with the registers taking over what it leaves
abbrev pub carried : (value : ℕ) → Registers → Effect → Outcome
carried value r e = record { value = value; registers = registers.leaving r e.undo; work = e.work; stores = e.stores }

-- request 5/13: "Keep the count of dirty slots in the registers": an effect on slot k changes the count as it changes the slot
abbrev pub carried_at : (value : ℕ) → Registers → (work : List ℕ) → (k : ℕ) → Effect → Outcome
carried_at value r work k e = carried value (registers.recounted r (dirty_at work k) (dirty_at e.work k)) e

-- "Load (a): a held line gives its data. Otherwise the slot is emptied, then filled clean from memory."
unfoldable pub load_at : (board work : List ℕ) → Registers → LogState → (address : ℕ) → Spot → Outcome
load_at board work r u address spot =
    let e = loading board u work address spot in carried_at (data_in e.work spot.slot) r work spot.slot e

unfoldable pub load_outcome : (board work : List ℕ) → Registers → (address : ℕ) → View → Outcome
load_outcome board work r address v = load_at board work r (undo_of v r) address (spot_of work v.slots address)

-- "Store (a, value): as load if not held. Then .."
unfoldable pub store_at : (board work : List ℕ) → Registers → LogState → (address : ℕ) → Spot → (value : ℕ) → Outcome
store_at board work r u address spot value = carried_at 0 r work spot.slot (storing board u work address spot r.epoch value)

unfoldable pub store_outcome : (board work : List ℕ) → Registers → (address value : ℕ) → View → Outcome
store_outcome board work r address value v = store_at board work r (undo_of v r) address (spot_of work v.slots address) value

-- "Evict (a): empties the slot if it holds a; otherwise nothing, value 0. Value 1 if held."
unfoldable pub evict_at : (work : List ℕ) → Registers → LogState → Spot → Outcome
evict_at work r u spot = carried_at (bit spot.held) r work spot.slot (evicting u work spot)

unfoldable pub evict_outcome : (work : List ℕ) → Registers → (address : ℕ) → View → Outcome
evict_outcome work r address v = evict_at work r (undo_of v r) (spot_of work v.slots address)

-- a call that leaves both memories as they are
abbrev pub unstored : (value : ℕ) → Registers → (work : List ℕ) → Outcome
unstored value r work = record { value = value; registers = r; work = work; stores = [] }

-- "With c < S it visits slot c: ..; c rises by one. .. With c = S it flushes, then stores one control word with P = target ..;
-- c = 0; value is the new P."
unfoldable pub scan_at : (board work : List ℕ) → Registers → View → (target : ℕ) → Outcome
scan_at board work r v target =
    cond (ltb r.cursor v.slots)
    (carried_at 0 (registers.stepped (registers.begun r target)) work r.cursor (visiting (undo_of v r) work r.cursor target))
    (carried target (registers.ended r) (persisting board (undo_of v r) work target))

-- request 8/13: "A scan call outside a pass begins one with P + 1", and visits slot 0: S + 1 calls are a pass
unfoldable pub scan_outcome : (board work : List ℕ) → Registers → View → Outcome
scan_outcome board work r v = scan_at board work r v (registers.scan_target r v.control.persisted)

-- "Power-up: from the newest log entry to the oldest, each entry with ValidFrom ≤ P < ValidTill has its data stored to its line.
-- Then the control word .. Then work memory all zero, s = P + 1, b = 0, c = 0."
unfoldable pub power_up_outcome : (board work : List ℕ) → View → Outcome
power_up_outcome board work v =
    record {
      value = 0;
      registers = registers.restarted v.control.persisted;
      work = replicate (length work) 0;
      stores = recover_stores board (undo_of v registers.all_zero);
    }

unfoldable pub power_up_verdict : (board work : List ℕ) → Verdict
power_up_verdict board work = judged (power_up_checked board work) (power_up_outcome board work)

-- request 3/13: "A status question gives the number of filter bits set, and refuses only by number 2"
unfoldable pub filter_bits_verdict : (work : List ℕ) → Registers → Verdict
filter_bits_verdict work r = cond (good_work (length work)) (due (unstored (ones_of (buffer_in work) filter_words) r work)) (refused status.Work 0)

-- ---- the calls of a controller that runs, with their arguments

pub data Call : Type 0 where
  load : (address : ℕ) → Call
  store : (address value : ℕ) → Call
  evict : (address : ℕ) → Call
  commit : Call
  begin : (target : ℕ) → Call
  scan : Call
  tally : Call
  filter_bits : Call

-- Each is refused by the first of its rows that holds. "Commit: s becomes s + 1." Request 8/13: "A begin call takes a target ..; it visits
-- no slot". Request 5/13: "The tally is then read from the registers" and "refuses as commit does up to 4".
abbrev pub verdict_of : (board work : List ℕ) → Registers → Call → Verdict
verdict_of board work r (load address) = judged (line_checked board work r address) (load_outcome board work r address)
verdict_of board work r (store address value) = judged (store_checked board work r address) (store_outcome board work r address value)
verdict_of board work r (evict address) = judged (line_checked board work r address) (evict_outcome work r address)
verdict_of board work r commit = judged (commit_checked board work r) (λ v. unstored 0 (registers.committed r) work)
verdict_of board work r (begin target) = judged (begin_checked board work r target) (λ v. unstored 0 (registers.begun r target) work)
verdict_of board work r scan = judged (scan_checked board work r) (scan_outcome board work r)
verdict_of board work r tally = judged (running_checked board work r) (λ v. unstored r.dirty r work)
verdict_of board work r filter_bits = filter_bits_verdict work r

-- of a call that takes no allowance, and owes no store
abbrev pub no_allowance : ℕ
no_allowance = 0

-- ---- format, tally and the status question return no registers: they report

abbrev pub report : Status → (value : ℕ) → Report
report why value = record { status = why; value = value; stores = 0 }

-- "Format's shape test reads its arguments and the word count only." "reports 0 stores"
unfoldable pub format_report : (board : List ℕ) → (lines entries : ℕ) → Report
format_report board lines entries = report (cond (good_sizes (length board) lines entries) status.Ok status.Shape) 0

unfoldable pub format_after : (board : List ℕ) → (lines entries : ℕ) → List ℕ
format_after board lines entries = cond (good_sizes (length board) lines entries) (formatted lines entries) board

-- a question owes no store, so that no allowance is too small for it: "it takes no allowance and reports 0"
abbrev pub report_of : Verdict → Report
report_of v =
    let a = answer_of no_allowance registers.all_zero v in
    record { status = a.status; value = a.value; stores = a.stores }

unfoldable pub tally_report : (board work : List ℕ) → Registers → Report
tally_report board work r = report_of (verdict_of board work r tally)

unfoldable pub filter_bits_report : (work : List ℕ) → Report
filter_bits_report work = report_of (filter_bits_verdict work registers.all_zero)
