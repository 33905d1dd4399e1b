-- The laws of the packed words: what their users cite. Each word has the same four.
use Rattle.std.specs.Prelude.{◌≡◌, ℕ, zero, suc, ◌^◌, ◌<◌, Bool, true, false, ◌↔◌, ◌∷◌, drop, ◌==◌, refl}
use Rattle.std.proofs.Common.{ap, ap₂, ◌∙◌, arith, mod-eq_of_lt}
use Rattle.layout.specs.Limits.{word_bits}
use Rattle.layout.specs.Fields.{width, pack, unpack, Packing, encode, decode, Fit, pack_below, unpack_fit, pack_unpack, unpack_pack}
use Rattle.layout.specs.Words.{control_packing, ControlFits, shape_packing, ShapeFits, entry_packing, EntryFits, bit, slot_packing, SlotFits}
use Rattle.layout.specs.Words.{record_packing, RecordFits}

pub record Laws {A : Type 0} (p : Packing A) (Fits : A → Type 0) : Type 0 where
  -- fields that fit come back from their word
  pub decode_encode : (x : A) → Fits x → decode p (encode p x) ≡ x
  -- every word of 64 bits comes back from its fields
  pub encode_decode : (w : ℕ) → w < 2 ^ word_bits → encode p (decode p w) ≡ w
  -- the fields of any word fit
  pub decoded_fits : (w : ℕ) → Fits (decode p w)
  -- fields that fit make a word of 64 bits
  pub encode_below : (x : A) → Fits x → encode p x < 2 ^ word_bits

-- What a word has to show for them.
pub record Lawful {A : Type 0} (p : Packing A) (Fits : A → Type 0) : Type 0 where
  -- its fields fill it
  pub whole : width p.widths ≡ word_bits
  -- they fit where each has room in its width
  pub fit : (x : A) → Fits x ↔ Fit p.widths (p.fields x)
  -- an A comes back from its values, and a word's values come back from their A
  pub of_fields : (x : A) → p.of (p.fields x) ≡ x
  pub fields_of : (w : ℕ) → p.fields (p.of (unpack p.widths w)) ≡ unpack p.widths w

pub laws : {A : Type 0} {p : Packing A} {Fits : A → Type 0} → Lawful p Fits → Laws p Fits
unfolding encode decode
laws {p} l = record {
  decode_encode = λ x h. ap p.of (unpack_pack p.widths (p.fields x) ((l.fit x).0 h)) ∙ l.of_fields x;
  encode_decode = λ w h. ap (pack p.widths) (l.fields_of w) ∙ pack_unpack p.widths w ∙ mod-eq_of_lt (rw l.whole h);
  decoded_fits = λ w. (l.fit _).1 (rw l.fields_of (unpack_fit p.widths w));
  encode_below = λ x h. rw l.whole at (pack_below p.widths (p.fields x) ((l.fit x).0 h));
}

pub control_laws : Laws control_packing ControlFits
unfolding width unpack Fit
control_laws = laws (record { whole = refl; fit = λ x. omega arith; of_fields = λ x. refl; fields_of = λ w. refl })

pub shape_laws : Laws shape_packing ShapeFits
unfolding width unpack Fit
shape_laws = laws (record { whole = refl; fit = λ x. omega arith; of_fields = λ x. refl; fields_of = λ w. refl })

pub entry_laws : Laws entry_packing EntryFits
unfolding width unpack Fit
entry_laws = laws (record { whole = refl; fit = λ x. omega arith; of_fields = λ x. refl; fields_of = λ w. refl })

pub record_laws : Laws record_packing RecordFits
unfolding width unpack Fit
record_laws = laws (record { whole = refl; fit = λ x. omega arith; of_fields = λ x. refl; fields_of = λ w. refl })

-- the slot word, whose first two fields are flags
bit_below : (b : Bool) → bit b < 2 ^ 1
bit_below true = omega arith
bit_below false = omega arith

bit_read : (b : Bool) → (bit b == 1) ≡ b
bit_read true = refl
bit_read false = refl

bit_again : (v : ℕ) → v < 2 ^ 1 → bit (v == 1) ≡ v
bit_again zero h = refl
bit_again (suc zero) h = refl
bit_again (suc (suc v)) h = absurd (omega arith)

pub slot_laws : Laws slot_packing SlotFits
unfolding width unpack Fit
slot_laws = laws (record {
  whole = refl;
  fit = λ x. (λ h. omega (arith, bit_below x.valid, bit_below x.dirty), omega arith);
  of_fields = λ x i. record { valid = bit_read x.valid i; dirty = bit_read x.dirty i; address = x.address; tag = x.tag; spare = x.spare };
  fields_of = λ w.
      let f = unpack_fit slot_packing.widths w in
      ap₂ (λ (v d : ℕ). v ∷ d ∷ drop 2 (unpack slot_packing.widths w)) (bit_again _ f.0) (bit_again _ f.1.0);
})
