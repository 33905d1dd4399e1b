-- What the steps of a call do: the board stores they owe, the log's numbers and the work memory behind them.
use Rattle.std.specs.Prelude.{ℕ, ◌+◌, ◌-◌, Bool, true, cond, ◌&&◌, List, [], ◌++◌, leb, eqb, get_or}
use Rattle.board.specs.Stores.{Store, one, applied}
use Rattle.layout.specs.declared.Entry.{Entry}
use Rattle.layout.specs.declared.Slot.{Slot}
use Rattle.layout.specs.Limits.{buffer_places}
use Rattle.layout.specs.Memory.{lines_at, buffer_in, slot_in, data_in, with_buffer}
use Rattle.undo.specs.declared.LogState.{LogState}
use Rattle.undo.specs.Filter.{hits}
use Rattle.undo.specs.Log.{pushed, counted, flushed, flush_stores, flushed_buffer, advance_stores}
use Rattle.slots.specs.declared.Spot.{Spot}
use Rattle.slots.specs.Slots.{zeroed, filled, dirtied, cleaned, entry_due}

pub record Effect : Type 0 where
  pub stores : List Store
  pub undo : LogState
  pub work : List ℕ

abbrev pub nothing : LogState → List ℕ → Effect
nothing u work = record { stores = []; undo = u; work = work }

abbrev pub flushing : LogState → List ℕ → Effect
flushing u work = record { stores = flush_stores u (buffer_in work); undo = flushed u; work = with_buffer work (flushed_buffer u (buffer_in work)) }

unfoldable pub flushing_if : Bool → LogState → List ℕ → Effect
flushing_if due u work = cond due (flushing u work) (nothing u work)

-- "Writing out a line: .. flush first; then one store to the line." Request 3/13: "A write-out flushes exactly when b > 0 and both bits of its
-- address are set."
unfoldable pub writing_out : LogState → List ℕ → (address value : ℕ) → Effect
writing_out u work address value =
    let f = flushing_if (hits (buffer_in work) u.buffered address) u work in
    record { stores = f.stores ++ one (lines_at u.entries + address) value; undo = f.undo; work = f.work }

-- "Emptying a slot writes a dirty line out, then zeroes both slot words; an empty or clean slot costs no store."
unfoldable pub writing_back : LogState → List ℕ → ℕ → Effect
writing_back u work k = cond (slot_in work k).dirty (writing_out u work (slot_in work k).address (data_in work k)) (nothing u work)

unfoldable pub emptying : LogState → List ℕ → ℕ → Effect
emptying u work k =
    let w = writing_back u work k in
    record { stores = w.stores; undo = w.undo; work = zeroed w.work k }

-- the line that the board has at an address
unfoldable pub line_in : List ℕ → LogState → ℕ → ℕ
line_in board u address = get_or board (lines_at u.entries + address) 0

-- "the slot is emptied, then filled clean from memory", as the write-out has left it
unfoldable pub bringing : List ℕ → LogState → List ℕ → (k address : ℕ) → Effect
bringing board u work k address =
    let e = emptying u work k in
    record { stores = e.stores; undo = e.undo; work = filled e.work k address (line_in (applied board e.stores) u address) }

-- an entry by its ValidFrom and ValidTill: request 9/13, "span is ValidTill − ValidFrom"
abbrev pub entry_between : (address from till : ℕ) → Entry
entry_between address from till = record { address = address; till = till; span = till - from }

-- "a clean line makes the entry P, s with the old data; a dirty line with tag t < s makes t, s"
unfoldable pub entry_for : (persisted epoch address : ℕ) → Slot → Entry
entry_for persisted epoch address s = entry_between address (cond s.dirty s.tag persisted) epoch

-- "An entry goes to the buffer's end"
unfoldable pub logged : LogState → List ℕ → Entry → (old : ℕ) → List ℕ
logged u work e old = with_buffer work (pushed (buffer_in work) u.buffered e old)

-- "The line is then dirty with tag s. .. at 32 the buffer is flushed at once."
unfoldable pub storing_held : LogState → List ℕ → (k address epoch value : ℕ) → Effect
storing_held u work k address epoch value =
    cond (entry_due epoch (slot_in work k))
    (flushing_if (eqb (u.buffered + 1) buffer_places) (counted u)
    (dirtied (logged u work (entry_for u.control.persisted epoch address (slot_in work k)) (data_in work k)) k address epoch value))
    (nothing u (dirtied work k address epoch value))

-- "Load (a): a held line gives its data. Otherwise the slot is emptied, then filled clean from memory."
unfoldable pub loading : List ℕ → LogState → List ℕ → (address : ℕ) → Spot → Effect
loading board u work address spot = cond spot.held (nothing u work) (bringing board u work spot.slot address)

-- "Store (a, value): as load if not held. Then .."
unfoldable pub storing : List ℕ → LogState → List ℕ → (address : ℕ) → Spot → (epoch value : ℕ) → Effect
storing board u work address spot epoch value =
    let l = loading board u work address spot in
    let m = storing_held l.undo l.work spot.slot address epoch value in
    record { stores = l.stores ++ m.stores; undo = m.undo; work = m.work }

-- "Evict (a): empties the slot if it holds a; otherwise nothing"
unfoldable pub evicting : LogState → List ℕ → Spot → Effect
evicting u work spot = cond spot.held (emptying u work spot.slot) (nothing u work)

-- "the line is written out and becomes clean, tag 0"
unfoldable pub cleaning : LogState → List ℕ → ℕ → Effect
cleaning u work k =
    let w = writing_out u work (slot_in work k).address (data_in work k) in
    record { stores = w.stores; undo = w.undo; work = cleaned w.work k (slot_in work k).address }

-- "it visits slot c": request 8/13, "the pass then writes out dirty lines with tags up to the target"
unfoldable pub visiting : LogState → List ℕ → (k target : ℕ) → Effect
visiting u work k target =
    cond ((slot_in work k).dirty && leb (slot_in work k).tag target) (cleaning u work k) (nothing u work)

-- "With c = S it flushes, then stores one control word with P = target and .."
unfoldable pub persisting : List ℕ → LogState → List ℕ → (target : ℕ) → Effect
persisting board u work target =
    let f = flushing_if true u work in
    record { stores = f.stores ++ advance_stores (applied board f.stores) f.undo target; undo = f.undo; work = f.work }
