-- Demand 3 of the customer, as definitions: lists of calls on a board just formatted, cut anywhere; the uncached
-- machine that is fed the same list; and what has to hold after every list. A step is made of the definitions that the
-- public contracts cite. What is proved beyond the demand stands in Beyond.
use Rattle.std.specs.Prelude.{ℕ, ◌+◌, ◌≤◌, ◌<◌, ◌≡◌, true, cond, List, [], ◌∷◌, eqb, length, get_or}
use Rattle.board.specs.Verdict.{board_after, work_after}
use Rattle.layout.specs.declared.Entry.{Entry}
use Rattle.layout.specs.Limits.{most_ahead}
use Rattle.layout.specs.Memory.{lines_at, slots_of, control_in, buffer_in}
use Rattle.status.specs.declared.Status.{Status}
use Rattle.status.specs.declared.Status.TheVariants as status
use Rattle.status.specs.Numbers.{number_of}
use Rattle.undo.specs.declared.LogState.{LogState}
use Rattle.undo.specs.Log.{entry_in, log_in, buffered_in}
use Rattle.undo.specs.Recovery.{proper_at}
use Rattle.slots.specs.Slots.{dirty_slots}
use Rattle.checks.specs.declared.Registers.{Registers}
use Rattle.checks.specs.Registers.{all_zero}
use Rattle.checks.specs.View.{good_work}
use Rattle.picl.specs.Answers.{Verdict, answer_of}
use Rattle.picl.specs.Calls as calls
use Rattle.picl.specs.Calls.{format_report, format_after, Call, verdict_of, power_up_verdict}
use Rattle.intel_hex.specs.Export.{export_report}
use Rattle.reference.specs.Machine.{Reference, resting, Event, stored, committed, scanned, powered_up, nothing}
use Rattle.reference.specs.Runs as runs
use Rattle.reference.specs.Runs.{Kind}

-- ---- the calls of a list

-- "every list of loads, stores, evictions, commits, scan calls, tallies and power-ups", and "A call on the board that
-- document 02 adds joins the list, unless it formats": the status question of 3/13, the export of 7/13 and the begin
-- call of 8/13. The allowance is the cut point, and may be any number; "A power-up may be lent any work memory", and an
-- export any text.
pub data Step : Type 0 where
  call : Call → (allowance : ℕ) → Step
  power_up : (lent : List ℕ) (allowance : ℕ) → Step
  export_record : (text : List ℕ) (number : ℕ) → Step

-- "each call gets registers and memories as last returned and left"
pub record Machine : Type 0 where
  pub board : List ℕ
  pub work : List ℕ
  pub registers : Registers

-- what a call under an allowance answers, and the machine that it leaves
pub record Result : Type 0 where
  pub status : Status
  pub value : ℕ
  pub left : Machine

abbrev pub answered : (allowance : ℕ) → (given : Registers) → (board work : List ℕ) → Verdict → Result
answered allowance given board work v =
    let a = answer_of allowance given v in
    record {
      status = a.status;
      value = a.value;
      left = record { board = board_after allowance board v; work = work_after allowance work v; registers = a.registers };
    }

-- "(power-up only the board)"; an export reads only the board, and "changes only the first text bytes"
unfoldable pub made : Machine → Step → Result
made m (call c k) = answered k m.registers m.board m.work (verdict_of m.board m.work m.registers c)
made m (power_up lent k) = answered k all_zero m.board lent (power_up_verdict m.board lent)
made m (export_record text number) =
    let r = export_report m.board number text in
    record { status = r.status; value = r.value; left = m }

-- "Accepted calls (number 0)"
abbrev pub Accepts : Machine → Step → Type 0
Accepts m x = (made m x).status ≡ status.Ok

-- ---- the uncached machine, given the same list

-- "Store: .. Commit: .. Scan with a value not 0: .. Power-up: .."
abbrev pub seen_call : Call → (value : ℕ) → Event
seen_call (calls.load a) value = nothing
seen_call (calls.store a v) value = stored a v
seen_call (calls.evict a) value = nothing
seen_call calls.commit value = committed
seen_call (calls.begin target) value = nothing
seen_call calls.scan value = scanned value
seen_call calls.tally value = nothing
seen_call calls.filter_bits value = nothing

abbrev pub seen : Step → (value : ℕ) → Event
seen (call c k) value = seen_call c value
seen (power_up lent k) value = powered_up
seen (export_record text number) value = nothing

-- "All else, refused and cut calls too, changes nothing."
abbrev pub fed : Step → Result → Event
fed x r = cond (eqb (number_of r.status) 0) (seen x r.value) nothing

-- ---- runs

abbrev pub undo_boards : Kind Machine Step
undo_boards = record { next = λ m x. (made m x).left; fed = λ m x. fed x (made m x) }

-- both machines, side by side
abbrev pub Both : Type 0
Both = runs.Both Machine

abbrev pub after : Both → Step → Both
after s x = runs.after undo_boards s x

abbrev pub run : Both → List Step → Both
run s xs = runs.run undo_boards s xs

-- Before the first power-up, which takes "only the board", work memory and registers may be any.
abbrev pub start : (board work : List ℕ) → Registers → Reference → Both
start board work registers g = record { machine = record { board = board; work = work; registers = registers }; reference = g }

-- "every list of .. that starts with a power-up", from this board and this uncached machine on; each of its beginnings
-- is such a list
abbrev pub AfterEveryList : (board : List ℕ) → Reference → (Both → Type 0) → Type 0
AfterEveryList board g Claim =
    (work : List ℕ) (registers : Registers) (lent : List ℕ) (allowance : ℕ) (xs : List Step)
    → Claim (run (start board work registers g) (power_up lent allowance ∷ xs))

-- ---- what is read of the two memories

abbrev pub persisted_on : List ℕ → ℕ
persisted_on board = (control_in board).persisted

abbrev pub line_on : (L : ℕ) → List ℕ → ℕ → ℕ
line_on L board a = get_or board (lines_at L + a) 0

-- the log that a board has, with nothing buffered for it
abbrev pub log_on : (L : ℕ) → List ℕ → LogState
log_on L board = record { control = control_in board; entries = L; buffered = 0 }

-- a cut, or a power-up that was refused or cut, leaves "registers .. all zero"; any other controller runs
abbrev pub Running : Both → Type 0
Running s = s.machine.registers.epoch ≡ 0 → ⊥

-- 9/13's "spans 1 to 16"
abbrev pub Spans : Entry → Type 0
Spans e = (1 ≤ e.span) × (e.span ≤ most_ahead)

-- 5/13's "old count": the number of dirty slots
abbrev pub dirty_in : List ℕ → ℕ
dirty_in work = dirty_slots work (slots_of (length work))

-- ---- the scan comes to its end

-- "with no cut or power-up between them"
abbrev pub Unbroken : Machine → Step → Type 0
Unbroken m (call c k) = (made m (call c k)).status ≡ status.Cut → ⊥
Unbroken m (power_up lent k) = ⊥
Unbroken m (export_record text number) = Unit {0}

abbrev pub Stretch : Machine → List Step → Type 0
Stretch m [] = Unit {0}
Stretch m (x ∷ xs) = Unbroken m x × Stretch (made m x).left xs

-- "accepted scan calls": those that the uncached machine is fed as such
abbrev pub count_scan : Event → ℕ
count_scan (stored a v) = 0
count_scan committed = 0
count_scan (scanned value) = 1
count_scan powered_up = 0
count_scan nothing = 0

unfoldable pub scans : Machine → List Step → ℕ
scans m [] = 0
scans m (x ∷ xs) = count_scan (fed x (made m x)) + scans (made m x).left xs

-- "For a cache of S slots, after any S + 1 accepted scan calls of the list with no cut or power-up between them, whatever
-- other calls come there", this epoch "is persisted"
abbrev pub Persists : (epoch : ℕ) → Both → Type 0
Persists epoch s =
    (xs : List Step) → Stretch s.machine xs → slots_of (length s.machine.work) + 1 ≤ scans s.machine xs
    → (epoch ≤ (run s xs).reference.persisted) × (epoch ≤ persisted_on (run s xs).machine.board)

-- ---- what holds after every list

pub record Consistent (N L : ℕ) (s : Both) : Type 0 where
  -- "After each call the control word's P is p"
  pub same_epoch : persisted_on s.machine.board ≡ s.reference.persisted
  -- epoch p has ended: so the uncached machine has the copy that is compared
  pub has_copy : s.reference.persisted < s.reference.running
  -- "each accepted power-up leaves, line for line, the copy that document 01's uncached loom, given the same list, has
  -- of the epoch that the control word named as persisted when the current went"
  pub recovers_to_copy : (lent : List ℕ) (k : ℕ) → Accepts s.machine (power_up lent k) → (a : ℕ) → a < N
      → line_on L (made s.machine (power_up lent k)).left.board a ≡ s.reference.copies (persisted_on s.machine.board) a
  -- "after each accepted power-up the board's lines are the loom's"
  pub recovers_to_lines : (lent : List ℕ) (k : ℕ) → Accepts s.machine (power_up lent k) → (a : ℕ) → a < N
      → line_on L (after s (power_up lent k)).machine.board a ≡ (after s (power_up lent k)).reference.lines a
  -- "On a board that demand 3 reaches, power-up never answers 1 or 3."
  pub recoverable : (lent : List ℕ) (k : ℕ)
      → ((made s.machine (power_up lent k)).status ≡ status.Shape → ⊥) × ((made s.machine (power_up lent k)).status ≡ status.Entry → ⊥)
  -- request 2/13: "every log left by a cut in demand 3's lists passes the new test", entry by entry
  pub log_proper : (i : ℕ) → i < (control_in s.machine.board).length → proper_at (log_in s.machine.board (log_on L s.machine.board)) N i ≡ true
  -- request 9/13: "Prove that only spans 1 to 16 arise": in the log, and in the buffer of a controller that runs
  pub log_spans : (i : ℕ) → i < (control_in s.machine.board).length → Spans (entry_in s.machine.board (log_on L s.machine.board) i)
  pub buffer_spans : Running s → (i : ℕ) → i < s.machine.registers.buffered → Spans (buffered_in (buffer_in s.machine.work) i)
  -- "the oldest epoch that waited just before the first is persisted": it is p + 1
  pub persists : Persists (s.reference.persisted + 1) s
  -- request 8/13: "The S + 1 count holds for the scan calls after the begin call, the whole target then being
  -- persisted, and the crash rule includes such passes"
  pub persists_target : (target k : ℕ) → Accepts s.machine (call (calls.begin target) k)
      → Persists target (after s (call (calls.begin target) k))
  -- request 5/13: "Keep the count of dirty slots in the registers, in demand 3's lists true after each accepted call
  -- and each cut": wherever the work memory has a length that 2 lets pass
  pub count_true : good_work (length s.machine.work) ≡ true → s.machine.registers.dirty ≡ dirty_in s.machine.work
  pub none_after_cut : (x : Step) → (made s.machine x).status ≡ status.Cut
      → ((made s.machine x).left.registers.dirty ≡ 0) × (dirty_in (made s.machine x).left.work ≡ 0)
  -- "and an accepted one in these lists equals the old count"
  pub tallies : (k : ℕ) → Accepts s.machine (call calls.tally k)
      → (made s.machine (call calls.tally k)).value ≡ dirty_in s.machine.work

-- "on a board just formatted", beside "A fresh one, as format leaves the board: lines zero, e = 1, p = 0, copy 0 the
-- lines"
abbrev pub OnFormatted : ((N L : ℕ) → Both → Type 0) → Type 0
OnFormatted Claim =
    (given : List ℕ) (N L : ℕ) → (format_report given N L).status ≡ status.Ok
    → AfterEveryList (format_after given N L) (resting 0 (λ a. 0)) (Claim N L)

-- "Demand 3 is one claim about the whole list."
abbrev pub Demand3 : Type 0
Demand3 = OnFormatted Consistent
