-- What the functions of this crate ask, and what a proper slot tells of its tag.
use Rattle.std.specs.Prelude.{ℕ, ◌*◌, ◌^◌, ◌<◌, ◌≤◌, ◌≡◌, true, List, length}
use Rattle.layout.specs.declared.Slot.{Slot}
use Rattle.layout.specs.Limits.{address_bits, epoch_bits, last_epoch}
use Rattle.layout.specs.Memory.{slot_words}
use Rattle.layout.specs.Sizes.{WholeSets}
use Rattle.layout.specs.SlotTests.{IsDirtyForm}
use Rattle.layout.specs.Words.{decode_slot}
use Rattle.slots.specs.declared.Bounds.{Bounds}

-- Behind the tests of the registers.
pub record BoundsReady (b : Bounds) : Type 0 where
  pub sets : WholeSets b.slots
  pub ahead : b.persisted < b.epoch
  pub last : b.epoch ≤ last_epoch

-- A dirty slot's tag is an epoch that is not persisted, and no later one than the running.
pub record Tagged (persisted epoch : ℕ) (s : Slot) : Type 0 where
  pub after : s.dirty ≡ true → persisted < s.tag
  pub until : s.dirty ≡ true → s.tag ≤ epoch

-- The work memory has the slots, and a packed word the address.
pub record SpotReady (work : List ℕ) (slots address : ℕ) : Type 0 where
  pub sets : WholeSets slots
  pub words : slot_words * slots ≤ length work
  pub fits : address < 2 ^ address_bits

-- The least tag as a slot word, and how many there are.
pub record TagsReady (least tags : ℕ) : Type 0 where
  pub dirty : IsDirtyForm least
  pub some : 1 ≤ (decode_slot least).tag
  pub few : tags ≤ 2 ^ epoch_bits
