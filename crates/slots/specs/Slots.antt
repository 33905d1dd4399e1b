-- The slots of the write-back cache: which are proper, what they hold, and what a slot's two words become.
use Rattle.std.specs.Prelude.{ℕ, zero, suc, ◌+◌, ◌/◌, ◌%◌, Bool, true, false, cond, ◌&&◌, ◌||◌, not, List, ltb, leb, eqb, get_or, set}
use Rattle.base.specs.Parts.{set_pair}
use Rattle.layout.specs.declared.Slot.{Slot}
use Rattle.slots.specs.declared.Bounds.{Bounds}
use Rattle.slots.specs.declared.Spot.{Spot}
use Rattle.layout.specs.Limits.{ways}
use Rattle.layout.specs.Memory.{slot_in, slot_at}
use Rattle.layout.specs.Words.{encode_slot, decode_slot, bit}

-- Request 6/13: "Set g is slots 4g to 4g + 3; address a belongs in any slot of set a mod S/4"
unfoldable pub set_of : (slots address : ℕ) → ℕ
set_of slots address = address % (slots / ways)

-- "either clean with tag 0 or dirty with P < tag ≤ s"
unfoldable pub proper_tag : Bounds → Slot → Bool
proper_tag b s = cond s.dirty (ltb b.persisted s.tag && leb s.tag b.epoch) (eqb s.tag 0)

-- "A proper slot word is zero, or is valid with the" zero "bits zero, address < N," its set the slot's, "and .."
unfoldable pub proper_full : Bounds → (k : ℕ) → Slot → Bool
proper_full b k s =
    s.valid && eqb s.spare 0 && ltb s.address b.lines && eqb (set_of b.slots s.address) (k / ways) && proper_tag b s

unfoldable pub proper_slot : Bounds → (k word : ℕ) → Bool
proper_slot b k word = eqb word 0 || proper_full b k (decode_slot word)

unfoldable pub proper_at : Bounds → List ℕ → (k : ℕ) → Bool
proper_at b work k = proper_slot b k (get_or work (slot_at k) 0)

-- slot k holds the line at an address
unfoldable pub holds : List ℕ → (k address : ℕ) → Bool
holds work k address = (slot_in work k).valid && eqb (slot_in work k).address address

-- the line that stands in slot k is dirty
abbrev pub dirty_at : List ℕ → (k : ℕ) → Bool
dirty_at work k = (slot_in work k).dirty

-- "the number of slot words whose valid and dirty bits are both 1, whatever else they hold", of the first so many slots
unfoldable pub dirty_slots : List ℕ → ℕ → ℕ
dirty_slots work zero = 0
dirty_slots work (suc k) = dirty_slots work k + bit ((slot_in work k).valid && (slot_in work k).dirty)

-- a slot that holds a line as memory has it, and one whose line was stored to in an epoch
abbrev pub clean_slot : ℕ → Slot
clean_slot address = record { valid = true; dirty = false; address = address; tag = 0; spare = 0 }

abbrev pub dirty_slot : (address epoch : ℕ) → Slot
dirty_slot address epoch = record { valid = true; dirty = true; address = address; tag = epoch; spare = 0 }

-- "zeroes both slot words"
unfoldable pub zeroed : List ℕ → ℕ → List ℕ
zeroed work k = set_pair work (slot_at k) 0 0

-- "filled clean from memory"
unfoldable pub filled : List ℕ → (k address line : ℕ) → List ℕ
filled work k address line = set_pair work (slot_at k) (encode_slot (clean_slot address)) line

-- "The line is then dirty with tag s."
unfoldable pub dirtied : List ℕ → (k address epoch value : ℕ) → List ℕ
dirtied work k address epoch value = set_pair work (slot_at k) (encode_slot (dirty_slot address epoch)) value

-- "becomes clean, tag 0"
unfoldable pub cleaned : List ℕ → (k address : ℕ) → List ℕ
cleaned work k address = set work (slot_at k) (encode_slot (clean_slot address))

-- a store owes an undo entry, but "tag s makes none"
unfoldable pub entry_due : (epoch : ℕ) → Slot → Bool
entry_due epoch s = not (s.dirty && eqb s.tag epoch)

-- "an undo entry is due": the line is brought clean, or held and due
unfoldable pub undo_due : List ℕ → Spot → (epoch : ℕ) → Bool
undo_due work spot epoch = not spot.held || entry_due epoch (slot_in work spot.slot)
