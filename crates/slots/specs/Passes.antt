-- What the pass over a set answers, step by step.
use Rattle.std.specs.Prelude.{ℕ, ◌+◌, ◌-◌, ◌*◌, ◌/◌, ◌%◌, ◌^◌, ◌<◌, ◌≤◌, ◌≡◌, Bool, true, cond, ◌&&◌, ◌||◌, not, List, ltb, eqb, min}
use Rattle.std.specs.Int.Bits.{bit_or}
use Rattle.layout.specs.Limits.{address_bits, ways, most_slots}
use Rattle.layout.specs.SlotTests.{slot_form}
use Rattle.layout.specs.Words.{decode_slot}
use Rattle.layout.specs.declared.Slot.{Slot}
use Rattle.slots.specs.declared.Bounds.{Bounds}
use Rattle.slots.specs.declared.sets.Line.{Line}
use Rattle.slots.specs.declared.sets.Sets.{Sets}
use Rattle.slots.specs.declared.sets.Site.{Site}
use Rattle.slots.specs.declared.sets.Site.TheVariants.{Improper, Held, Free}
use Rattle.slots.specs.declared.Spot.{Spot}
use Rattle.slots.specs.Promises.{TagsReady}
use Rattle.slots.specs.Slots.{set_of, proper_tag}
use Rattle.slots.specs.Sets.{places_of, proper_set, spot_of}

-- ---- sets, without a division for each address

abbrev pub scale : ℕ
scale = 2 ^ 32

-- numbers that are divided, and the fractions of multiples, are below this
abbrev pub near : ℕ
near = 2 ^ 17

pub record Dividing (s : Sets) : Type 0 where
  pub some : 1 ≤ s.count
  pub most : s.count ≤ most_slots / ways
  pub least : scale ≤ s.inverse * s.count
  pub closely : s.inverse * s.count < scale + s.count
  pub fits : s.inverse ≤ scale

pub record SetsOf (slots : ℕ) (s : Sets) : Type 0 where
  pub count : s.count ≡ slots / ways
  pub dividing : Dividing s

abbrev pub fraction_of : Sets → ℕ → ℕ
fraction_of s n = n * s.inverse % scale

pub record Remains (count n r : ℕ) : Type 0 where
  pub is : r ≡ n % count
  pub below : r < count

-- ---- a slot

-- what a test for a slot is told: the tag P + 1 as a slot word, and how many tags there are from there on
abbrev pub bounds_by : (slots lines least tags : ℕ) → Bounds
bounds_by slots lines least tags =
    record { lines = lines; slots = slots; persisted = (decode_slot least).tag - 1; epoch = (decode_slot least).tag - 1 + tags }

-- a proper slot, wherever its line belongs; and where that is
abbrev pub line_of : Bounds → Slot → Bool
line_of b s = s.valid && eqb s.spare 0 && proper_tag b s && ltb s.address b.lines

abbrev pub proper_in : Bounds → (set word : ℕ) → Bool
proper_in b set word = eqb word 0 || line_of b (decode_slot word) && eqb (set_of b.slots (decode_slot word).address) set

-- the line's address, or a number that is none, of each empty slot another
abbrev pub no_line : ℕ
no_line = 2 ^ address_bits

abbrev pub address_or_none : (word way : ℕ) → ℕ
address_or_none word way = cond (eqb word 0) (no_line + way) (decode_slot word).address

abbrev pub lineless : (way beyond form : ℕ) → Line
lineless way beyond form = record { address = no_line + way; beyond = beyond; form = form }

-- a set that is so far away from the number of sets
pub record LinesReady (least tags : ℕ) (s : Sets) (away : ℕ) : Type 0 where
  pub tags_ready : TagsReady least tags
  pub divides : Dividing s
  pub some : 1 ≤ away
  pub most : away ≤ s.count

pub record LineIn (b : Bounds) (set way word : ℕ) (r : Line) : Type 0 where
  pub beyond : ltb r.beyond near ≡ proper_in b set word
  pub named : proper_in b set word ≡ true → r.address ≡ address_or_none word way
  pub form : r.form ≡ slot_form (decode_slot word)

-- ---- four of them

abbrev pub twice_of : (a b c d : ℕ) → Bool
twice_of a b c d = (eqb b a || (eqb c a || eqb d a)) || ((eqb c b || eqb d b) || eqb d c)

abbrev pub lowest_of : (a b c d : ℕ) → ℕ
lowest_of a b c d = min a (min (b + 1) (min (c + 2) (d + 3))) % ways

-- what is found in a proper set
abbrev pub site_of : Spot → Site
site_of spot = cond spot.held (Held spot.slot) (Free spot.slot)

abbrev pub site_by : (first address : ℕ) → (a b c d : Line) → Site
site_by first address a b c d =
    cond (eqb a.address address) (Held first)
    (cond (eqb b.address address) (Held (first + 1))
    (cond (eqb c.address address) (Held (first + 2))
    (cond (eqb d.address address) (Held (first + 3)) (Free (first + lowest_of a.form b.form c.form d.form)))))

abbrev pub beyond_of : (a b c d : Line) → ℕ
beyond_of a b c d = bit_or (bit_or (bit_or a.beyond b.beyond) c.beyond) d.beyond

abbrev pub site_among : (first address : ℕ) → (a b c d : Line) → Site
site_among first address a b c d =
    cond (ltb (beyond_of a b c d) near && not (twice_of a.address b.address c.address d.address)) (site_by first address a b c d) Improper

-- where the line at an address is held or put, if its set is proper
unfoldable pub site_for : Bounds → List ℕ → (address : ℕ) → Site
site_for b work address =
    cond (proper_set b work (places_of b.slots address)) (site_of (spot_of work b.slots address)) Improper
