-- "What an answer says": the rows of the paper's table, and the order in which each call tests them. The paper's "The lowest number wins" is
-- true of the rows that it lists; a later request says behind which row its own is tested.
use Rattle.std.specs.Prelude.{Result, Ok, Err, ℕ, ◌+◌, ◌-◌, Bool, cond, not, ◌&&◌, ◌||◌, List, [], ◌∷◌, ◌++◌, length, ◌==◌, nat_le, nat_lt}
use Rattle.layout.specs.Limits.{last_epoch, most_ahead}
use Rattle.status.specs.declared.Status.{Status}
use Rattle.status.specs.declared.Status.TheVariants as status
use Rattle.slots.specs.declared.Spot.{Spot}
use Rattle.slots.specs.Slots.{undo_due}
use Rattle.slots.specs.Sets.{places_of, proper_set, spot_of}
use Rattle.checks.specs.declared.Refusal.{Refusal}
use Rattle.checks.specs.declared.Registers.{Registers}
use Rattle.checks.specs.declared.View.{View}
use Rattle.undo.specs.Log.{log_in}
use Rattle.undo.specs.Recovery.{first_improper}
use Rattle.checks.specs.Registers.{all_zero}
use Rattle.checks.specs.View.{view_of, good_shape, good_work, proper_registers, waits, miscounted, bounds_of, undo_of, good_buffer, good_filter}

-- "Numbers 1 to 11 return value 0 (3 excepted)"
abbrev pub unvalued : Status → Refusal
unvalued s = record { status = s; value = 0 }

-- a row of the table: when it refuses, as what, and with which value
pub record Row : Type 0 where
  pub holds : Bool
  pub refuses : Refusal

abbrev pub row : Bool → Status → Row
row holds s = record { holds = holds; refuses = unvalued s }

-- what came of tests: why the call is refused, or what it has read
abbrev pub Checked : Type 0
Checked = Result View Refusal

-- the first row that holds, or else the view that passed
abbrev pub tested : List Row → View → Checked
tested [] v = Ok v
tested (x ∷ xs) v = cond x.holds (Err x.refuses) (tested xs v)

-- rows behind a check that has passed
abbrev pub then : Checked → (View → List Row) → Checked
then (Err why) rows = Err why
then (Ok v) rows = tested (rows v) v

-- ---- the rows of one stage; a row that is tested right after another stands behind it in one list

-- 1
abbrev pub board_rows : (words : ℕ) → View → List Row
board_rows words v = row (not (good_shape words v)) status.Shape ∷ []

-- 2
abbrev pub work_rows : (words : ℕ) → List Row
work_rows words = row (not (good_work words)) status.Work ∷ []

-- "3 entry: a log entry is not proper; value is i of the first, oldest counted 0", of power-up
abbrev pub entry_rows : (board : List ℕ) → View → List Row
entry_rows board v =
    let i = first_improper (log_in board (undo_of v all_zero)) v.shape.lines in
    record { holds = nat_lt i v.control.length; refuses = record { status = status.Entry; value = i } } ∷ []

-- 4
abbrev pub register_rows : View → Registers → List Row
register_rows v r = row (not (proper_registers v r)) status.Regs ∷ []

-- "6 slot: the slot visited is not proper". Request 5/13: "Right after 6, in each call that has it, a count of 0 with the visited slot dirty, or of S
-- with it not, answers 4." Request 6/13: load, store and evict visit a set, and the scan a single slot.
abbrev pub slot_rows : View → List ℕ → Registers → (visited : List ℕ) → List Row
slot_rows v work r visited =
    row (not (proper_set (bounds_of v r) work visited)) status.Slot ∷ row (miscounted v r work visited) status.Regs ∷ []

-- "slot c if c < S"
abbrev pub cursor_rows : View → List ℕ → Registers → List Row
cursor_rows v work r = slot_rows v work r (cond (nat_lt r.cursor v.slots) (r.cursor ∷ []) [])

-- 7, and 14 "tested right after 7 wherever 7 is"
abbrev pub buffer_rows : View → List ℕ → Registers → List Row
buffer_rows v work r = row (not (good_buffer v work r)) status.Buffer ∷ row (not (good_filter work r)) status.Filter ∷ []

-- 5, of load, store and evict
abbrev pub address_rows : View → (address : ℕ) → List Row
address_rows v address = row (nat_le v.shape.lines address) status.Address ∷ []

-- and then 6, the count's 4, 7 and 14
abbrev pub line_rows : View → List ℕ → Registers → (address : ℕ) → List Row
line_rows v work r address = slot_rows v work r (places_of v.slots address) ++ buffer_rows v work r

-- "8 room: an undo entry is due and length + b + 1 > L", of store
abbrev pub room_rows : View → List ℕ → Registers → Spot → List Row
room_rows v work r spot =
    row
    (undo_due work spot r.epoch && nat_lt v.shape.entries (v.control.length + r.buffered + 1))
    status.Room
    ∷ []

-- "9 waiting: s − P = 16" and "10 last: s = 2^40 − 1", of commit
abbrev pub epoch_rows : View → Registers → List Row
epoch_rows v r =
    row (r.epoch - v.control.persisted == most_ahead) status.Waiting ∷ row (r.epoch == last_epoch) status.Last ∷ []

-- "11 none: s = P + 1", of scan
abbrev pub waiting_rows : View → Registers → List Row
waiting_rows v r = row (r.epoch == v.control.persisted + 1) status.None ∷ []

-- the rows of scan behind 1, 2 and 4
abbrev pub scan_rows : View → List ℕ → Registers → List Row
scan_rows v work r = cursor_rows v work r ++ buffer_rows v work r ++ waiting_rows v r

-- request 8/13, "15 target, a begin call inside a pass or with a target out of range", which goes "from P + 1 to s − 1"
abbrev pub target_rows : View → Registers → (target : ℕ) → List Row
target_rows v r target = row (not (r.target == 0) || not (waits v r target)) status.Target ∷ []

-- ---- the checks, each behind another

-- the board alone: no slots are lent with it
unfoldable pub board_checked : (board : List ℕ) → Checked
board_checked board = tested (board_rows (length board) (view_of board [])) (view_of board [])

-- board and work memory
unfoldable pub memories_checked : (board work : List ℕ) → Checked
memories_checked board work = tested (board_rows (length board) (view_of board work) ++ work_rows (length work)) (view_of board work)

unfoldable pub power_up_checked : (board work : List ℕ) → Checked
power_up_checked board work = then (memories_checked board work) (λ v. entry_rows board v)

-- 1, 2 and 4
unfoldable pub running_checked : (board work : List ℕ) → Registers → Checked
running_checked board work r = then (memories_checked board work) (λ v. register_rows v r)

-- 1, 2, 4, 7 and 14
unfoldable pub ready_checked : (board work : List ℕ) → Registers → Checked
ready_checked board work r = then (running_checked board work r) (λ v. buffer_rows v work r)

-- load, store and evict: 1, 2, 4 and 5
unfoldable pub named_checked : (board work : List ℕ) → Registers → (address : ℕ) → Checked
named_checked board work r address = then (running_checked board work r) (λ v. address_rows v address)

-- load and evict
unfoldable pub line_checked : (board work : List ℕ) → Registers → (address : ℕ) → Checked
line_checked board work r address = then (named_checked board work r address) (λ v. line_rows v work r address)

unfoldable pub store_checked : (board work : List ℕ) → Registers → (address : ℕ) → Checked
store_checked board work r address = then (line_checked board work r address) (λ v. room_rows v work r (spot_of work v.slots address))

unfoldable pub commit_checked : (board work : List ℕ) → Registers → Checked
commit_checked board work r = then (ready_checked board work r) (λ v. epoch_rows v r)

-- "after commit's 1, 2, 4, 7 and 14"
unfoldable pub begin_checked : (board work : List ℕ) → Registers → (target : ℕ) → Checked
begin_checked board work r target = then (ready_checked board work r) (λ v. target_rows v r target)

unfoldable pub scan_checked : (board work : List ℕ) → Registers → Checked
scan_checked board work r = then (running_checked board work r) (λ v. scan_rows v work r)
