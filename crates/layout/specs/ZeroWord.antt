-- The word 0: as a slot word an empty slot, as a control word epoch 0 and no log.
use Rattle.std.specs.Prelude.{◌≡◌, false, refl}
use Rattle.std.proofs.Common.{arith}
use Rattle.layout.specs.declared.Control.{Control}
use Rattle.layout.specs.declared.Slot.{Slot}
use Rattle.layout.specs.Fields.{width, pack, unpack, encode, decode}
use Rattle.layout.specs.Words.{decode_control, encode_slot, decode_slot, SlotFits}

abbrev pub empty_slot : Slot
empty_slot = record { valid = false; dirty = false; address = 0; tag = 0; spare = 0 }

pub empty_fits : SlotFits empty_slot
empty_fits = omega arith

pub encode_empty : encode_slot empty_slot ≡ 0
unfolding encode pack width
encode_empty = refl

pub decode_zero : decode_slot 0 ≡ empty_slot
unfolding decode unpack width
decode_zero = refl

abbrev pub zero_control : Control
zero_control = record { persisted = 0; start = 0; length = 0 }

pub decode_zero_control : decode_control 0 ≡ zero_control
unfolding decode unpack width
decode_zero_control = refl
