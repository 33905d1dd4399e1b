-- What a view that was read, and one that passed a call's first tests, tell.
use Rattle.std.specs.Prelude.{Result, Ok, Err, ◌≡◌, ℕ, ◌+◌, ◌-◌, ◌*◌, ◌/◌, ◌<◌, ◌≤◌, Bool, true, false, List, [], ◌∷◌, length}
use Rattle.layout.specs.Limits.{last_epoch, ways, most_slots, buffer_places, most_ahead}
use Rattle.layout.specs.Memory.{board_words, work_words, slot_at}
use Rattle.layout.specs.Sizes.{Sizes, Bounded, WholeSets}
use Rattle.layout.specs.Words.{ControlFits, ShapeFits}
use Rattle.checks.specs.declared.Refusal.{Refusal}
use Rattle.checks.specs.declared.Registers.{Registers}
use Rattle.checks.specs.declared.View.{View}
use Rattle.status.specs.declared.Status.TheVariants as status
use Rattle.slots.specs.declared.Spot.{Spot}
use Rattle.slots.specs.declared.sets.Site.{Site}
use Rattle.slots.specs.declared.sets.Site.TheVariants.{Improper, Held, Free}
use Rattle.slots.specs.Sets.{slots_from, spot_of}
use Rattle.checks.specs.declared.Line.{Line}
use Rattle.checks.specs.Refusals.{unvalued, Row, row, line_checked, store_checked}
use Rattle.checks.specs.View.{view_of, proper_pass, miscounted}

pub record Viewed (board : List ℕ) (v : View) : Type 0 where
  pub is : v ≡ view_of board []
  pub control : ControlFits v.control
  pub shape : ShapeFits v.shape

-- 1 passed, of a board of so many words
pub record GoodBoard (words : ℕ) (v : View) : Type 0 where
  pub sizes : Sizes v.shape.lines v.shape.entries
  pub board_words_holds : words ≡ board_words v.shape.lines v.shape.entries
  pub control : Bounded v.shape.entries v.control

-- the same, of a board that no work memory is lent with
pub record Opened (board : List ℕ) (v : View) : Type 0 where
  pub is : v ≡ view_of board []
  pub good : GoodBoard (length board) v

-- 1 and 2 passed
pub record Shaped (board work : List ℕ) (v : View) : Type 0 where
  pub is : v ≡ view_of board work
  pub good : GoodBoard (length board) v
  pub sets : WholeSets v.slots
  pub work_words_holds : length work ≡ work_words v.slots

-- 4 passed
pub record Proper (v : View) (r : Registers) : Type 0 where
  pub ahead : v.control.persisted < r.epoch
  pub epoch_most : r.epoch ≤ last_epoch
  pub window : r.epoch - v.control.persisted ≤ most_ahead
  pub buffered : r.buffered < buffer_places
  pub cursor : r.cursor ≤ v.slots
  pub dirty : r.dirty ≤ v.slots
  pub room : v.control.length + r.buffered ≤ v.shape.entries
  pub pass : proper_pass v r ≡ true

-- 1, 2 and 4 passed
pub record Running (board work : List ℕ) (r : Registers) (v : View) : Type 0 where
  pub shaped : Shaped board work v
  pub proper : Proper v r

-- what the later rows ask of the earlier ones, without the board
pub record RowsReady (work : List ℕ) (r : Registers) (v : View) : Type 0 where
  pub sizes : Sizes v.shape.lines v.shape.entries
  pub sets : WholeSets v.slots
  pub work_words_holds : length work ≡ work_words v.slots
  pub proper : Proper v r

-- all tests of load and evict passed, and where the line is held or put
pub record Sited (board work : List ℕ) (r : Registers) (address : ℕ) (l : Line) : Type 0 where
  pub passed : Ok l.view ≡ line_checked board work r address
  pub at : l.spot ≡ spot_of work l.view.slots address

-- and of store
pub record Roomy (board work : List ℕ) (r : Registers) (address : ℕ) (l : Line) : Type 0 where
  pub passed : Ok l.view ≡ store_checked board work r address
  pub at : l.spot ≡ spot_of work l.view.slots address

-- 6 as a pass over a set tells it, and the count's test of the set in which the slot is
abbrev pub set_checked : Site → Result Spot Refusal
set_checked Improper = Err (unvalued status.Slot)
set_checked (Held slot) = Ok (record { slot = slot; held = true })
set_checked (Free slot) = Ok (record { slot = slot; held = false })

abbrev pub count_rows : View → List ℕ → Registers → Spot → List Row
count_rows v work r spot = row (miscounted v r work (slots_from (spot.slot / ways * ways))) status.Regs ∷ []

pub record CountReady (work : List ℕ) (v : View) (spot : Spot) : Type 0 where
  pub some : 1 ≤ v.slots
  pub words : slot_at (spot.slot / ways * ways + ways) ≤ length work

-- the count can do without a slot that was dirty, and with one that is
pub record Countable (r : Registers) (was : Bool) : Type 0 where
  pub least : was ≡ true → 0 < r.dirty
  pub most : r.dirty ≤ most_slots
