-- What the functions of this crate do, and what they ask.
use Rattle.std.specs.Prelude.{ℕ, ◌+◌, ◌-◌, ◌^◌, ◌<◌, ◌≤◌, ◌≡◌, true, List, eqb, length}
use Rattle.board.specs.declared.Meter.{Meter}
use Rattle.board.specs.Stores.{allowed, Ran}
use Rattle.layout.specs.declared.Entry.{Entry}
use Rattle.layout.specs.Words.{EntryFits}
use Rattle.layout.specs.Limits.{epoch_bits, address_bits, most_entries, buffer_places, most_ahead}
use Rattle.layout.specs.Memory.{lines_at, buffer_words, slot_in, slot_at, slot_words}
use Rattle.undo.specs.declared.LogState.{LogState}
use Rattle.undo.specs.declared.Progress.{Progress}
use Rattle.undo.specs.Log.{Sound, counted}
use Rattle.slots.specs.declared.Spot.{Spot}
use Rattle.slots.specs.Promises.{Tagged}
use Rattle.slots.specs.Slots.{dirtied}
use Rattle.steps.specs.Effects.{Effect, flushing_if, logged}
use Rattle.slots.specs.Slots.{entry_due, undo_due}

-- An effect that does not depend on the board comes about; where the call is cut the board has the first of its stores.
pub record Acts (board : List ℕ) (m : Meter) (e : Effect) (board' work' : List ℕ) (r : Progress) : Type 0 where
  pub ran : Ran board m e.stores board' r.meter
  pub undo : r.undo ≡ e.undo
  pub memory : work' ≡ e.work

-- An effect that depends on what is read of the board. Behind a cut that may be anything, so the log's numbers and the work
-- memory are told only where all stores were allowed.
pub record Carries (board : List ℕ) (m : Meter) (e : Effect) (board' work' : List ℕ) (r : Progress) : Type 0 where
  pub ran : Ran board m e.stores board' r.meter
  pub undo : length e.stores ≤ allowed m → r.undo ≡ e.undo
  pub memory : length e.stores ≤ allowed m → work' ≡ e.work

-- The memories are large enough, and the log's numbers sound.
pub record Ready (board work : List ℕ) (u : LogState) : Type 0 where
  pub sound : Sound u
  pub board_words_holds : lines_at u.entries ≤ length board
  pub work_words_holds : buffer_words ≤ length work

-- The board has the line at an address.
pub record LineReady (board work : List ℕ) (u : LogState) (address : ℕ) : Type 0 where
  pub ready : Ready board work u
  pub named : lines_at u.entries + address < length board
  pub fits : address < 2 ^ address_bits

-- The work memory has slot k, and the board has its line.
pub record SlotReady (board work : List ℕ) (u : LogState) (k : ℕ) : Type 0 where
  pub ready : Ready board work u
  pub within : slot_at k + slot_words + buffer_words ≤ length work
  pub named : lines_at u.entries + (slot_in work k).address < length board

-- The board has the line at an address, and the work memory slot k for it.
pub record PlaceReady (board work : List ℕ) (u : LogState) (k address : ℕ) : Type 0 where
  pub entries_most : u.entries ≤ most_entries
  pub within : slot_at k + slot_words + buffer_words ≤ length work
  pub named : lines_at u.entries + address < length board
  pub fits : address < 2 ^ address_bits

-- The line at an address, and the slot that it takes.
pub record FillReady (board work : List ℕ) (u : LogState) (k address : ℕ) : Type 0 where
  pub slot : SlotReady board work u k
  pub named : lines_at u.entries + address < length board
  pub fits : address < 2 ^ address_bits

-- The running epoch is ahead of the persisted one, and no farther than an entry's span can tell.
pub record Window (persisted epoch : ℕ) : Type 0 where
  pub ahead : persisted ≤ epoch
  pub near : epoch - persisted ≤ most_ahead
  pub fits : epoch < 2 ^ epoch_bits

-- A store to a held line, with room for the entry that it may make.
pub record StoreHeldReady (board work : List ℕ) (u : LogState) (k address epoch : ℕ) : Type 0 where
  pub ready : Ready board work u
  pub within : slot_at k + slot_words + buffer_words ≤ length work
  pub address_fits : address < 2 ^ address_bits
  pub window : Window u.control.persisted epoch
  pub tagged : Tagged u.control.persisted epoch (slot_in work k)
  pub place : u.buffered < buffer_places
  pub room : entry_due epoch (slot_in work k) ≡ true → u.control.length + u.buffered + 1 ≤ u.entries

-- A store to a line that was not held, with room for the entry that it makes.
pub record StoreAbsentReady (board work : List ℕ) (u : LogState) (k address epoch : ℕ) : Type 0 where
  pub ready : Ready board work u
  pub taken : PlaceReady board work u k address
  pub window : Window u.control.persisted epoch
  pub place : u.buffered < buffer_places
  pub room : u.control.length + u.buffered + 1 ≤ u.entries

-- A store to the line at an address, whether it is held or has to be brought.
pub record StoreReady (board work : List ℕ) (u : LogState) (address : ℕ) (spot : Spot) (epoch : ℕ) : Type 0 where
  pub fill : FillReady board work u spot.slot address
  pub window : Window u.control.persisted epoch
  pub tagged : Tagged u.control.persisted epoch (slot_in work spot.slot)
  pub place : u.buffered < buffer_places
  pub room : undo_due work spot epoch ≡ true → u.control.length + u.buffered + 1 ≤ u.entries

-- An advance to a target.
pub record PersistReady (board work : List ℕ) (u : LogState) (target : ℕ) : Type 0 where
  pub ready : Ready board work u
  pub fits : target < 2 ^ epoch_bits

-- An entry goes to the buffer's end.
pub record Logs (work : List ℕ) (u : LogState) (e : Entry) (old : ℕ) (work' : List ℕ) (r : LogState) : Type 0 where
  pub undo : r ≡ counted u
  pub memory : work' ≡ logged u work e old

pub record LogReady (work : List ℕ) (u : LogState) (e : Entry) : Type 0 where
  pub fits : EntryFits e
  pub place : u.buffered < buffer_places
  pub work_words_holds : buffer_words ≤ length work

-- an entry to the buffer's end, and the line in slot k dirty; at 32 entries a flush
abbrev pub logging_store : LogState → List ℕ → (k : ℕ) → Entry → (old value : ℕ) → Effect
logging_store u work k e old value =
    flushing_if (eqb (u.buffered + 1) buffer_places) (counted u) (dirtied (logged u work e old) k e.address e.till value)

pub record LogStoreReady (board work : List ℕ) (u : LogState) (k : ℕ) (e : Entry) : Type 0 where
  pub ready : Ready board work u
  pub within : slot_at k + slot_words + buffer_words ≤ length work
  pub place : u.buffered < buffer_places
  pub room : u.control.length + u.buffered + 1 ≤ u.entries
  pub fits : EntryFits e
