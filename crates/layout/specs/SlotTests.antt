-- What the tests answer that are made on a slot word as it is.
use Rattle.std.specs.Prelude.{◌≡◌, ℕ, ◌+◌, ◌^◌, ◌<◌, Bool, true, cond, ◌&&◌, ◌==◌, nat_le, nat_lt}
use Rattle.layout.specs.declared.Slot.{Slot}
use Rattle.layout.specs.Limits.{address_bits}
use Rattle.layout.specs.Words.{encode_slot, decode_slot}

pub record AddressOf (s : Slot) (r : ℕ) : Type 0 where
  pub is : r ≡ s.address
  pub below : r < 2 ^ address_bits

-- the word of a slot without its address; and one that is dirty, with nothing but its tag
abbrev pub slot_form : Slot → ℕ
slot_form s = encode_slot (record { valid = s.valid; dirty = s.dirty; address = 0; tag = s.tag; spare = s.spare })

abbrev pub IsDirtyForm : ℕ → Type 0
IsDirtyForm word =
    word ≡ encode_slot (record { valid = true; dirty = true; address = 0; tag = (decode_slot word).tag; spare = 0 })

-- a slot with a line, clean, or dirty with one of so many tags from the least on
abbrev pub is_line : (least tags : ℕ) → Slot → Bool
is_line least tags s =
    s.valid && s.spare == 0 && cond s.dirty (nat_le least s.tag && nat_lt s.tag (least + tags)) (s.tag == 0)
