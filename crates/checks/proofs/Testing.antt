-- The tests of the first stages: one law for each way out.
use Rattle.std.proofs.Common.{◌≡◌, ℕ, ◌+◌, ◌-◌, ◌*◌, ◌/◌, ◌%◌, ◌^◌, ◌<◌, ◌≤◌, Bool, true, false, not, ◌&&◌, ◌||◌, eqb, ltb, leb, List, get_or, sym, refl, ap, ◌∙◌, arith, ltb-true, le-ltb, lt-ltb, eq-eqb, ne_eqb, eqb-true, le-leb}
use mathlib.Core.Bool.{and-true, and-false, false≢true}
use borrow.Author.Tests.{lt-leb, eqb-false, not-true, not-false}
use lib.Bits.{bit_and}
use Rattle.base.specs.Bits.{and_high_last}
use Rattle.base.specs.Tests.{held, hold_together}
use Rattle.layout.specs.declared.Control.{Control}
use Rattle.layout.specs.declared.Shape.{Shape}
use Rattle.layout.specs.Limits.{word_bits, board_version, last_epoch, most_lines, most_entries, ways, most_slots, most_ahead}
use Rattle.layout.specs.Memory.{log_at, board_words, control_at, shape_at, slots_of, work_words}
use Rattle.layout.specs.Words.{Decoded, ControlFits, ShapeFits, OwnLines, decode_control, decode_shape}
use Rattle.checks.specs.declared.Registers.{Registers}
use Rattle.checks.specs.declared.View.{View}
use Rattle.checks.specs.View.{view_of, lent, good_sizes, good_control, good_shape, good_slots, good_work, proper_epoch, proper_counts, proper_pass, proper_registers, waits}
use Rattle.checks.specs.Promises.{Viewed}

module _ (v : View) (r : Registers) (t : Bool) (epoch : t ≡ proper_epoch v r) where
  pub proper_not : not t ≡ true → false ≡ proper_registers v r
  unfolding proper_registers
  proper_not h = rw (← epoch, not-true t h)

  module _ (good : not t ≡ false) where
    proper : proper_epoch v r ≡ true
    proper = sym epoch ∙ not-false t good

    pub epoch_first : v.control.persisted < r.epoch
    unfolding proper_epoch
    epoch_first = let h = proper in search held

    pub epoch_last : r.epoch ≤ last_epoch
    unfolding proper_epoch
    epoch_last = let h = proper in search held

    module _ (u : Bool) (pass : u ≡ proper_pass v r) where
      pub proper_unpassed : not u ≡ true → false ≡ proper_registers v r
      unfolding proper_registers
      proper_unpassed h = rw (proper, ← pass, not-true u h)

      pub proper_all : (w : Bool) → not u ≡ false → w ≡ proper_counts v r → w ≡ proper_registers v r
      unfolding proper_registers
      proper_all w h a = a ∙ sym (rw (proper, ← pass, not-false u h))

-- the target of a pass, and the cursor
module _ (v : View) (r : Registers) (t : Bool) (target : t ≡ waits v r r.target) where
  pub pass_inside : t ≡ true → leb r.cursor v.slots ≡ proper_pass v r
  unfolding proper_pass
  pass_inside h = rw (← target, h) (go (leb r.cursor v.slots) (eqb r.target 0 && eqb r.cursor 0))
    where
      go : (w x : Bool) → w ≡ w && (x || true)
      go true true = refl
      go true false = refl
      go false x = refl

  module _ (h : t ≡ false) where
    pub pass_astray : (r.target ≡ 0 → ⊥) → false ≡ proper_pass v r
    unfolding proper_pass
    pass_astray n = rw (← target, h, ne_eqb r.target 0 n, and-false)

    pub pass_outside : r.target ≡ 0 → eqb r.cursor 0 ≡ proper_pass v r
    unfolding proper_pass
    pass_outside z = rw (← target, h, eq-eqb r.target 0 z) (go (eqb r.cursor 0) refl)
      where
        go : (x : Bool) → eqb r.cursor 0 ≡ x → x ≡ leb r.cursor v.slots && (x || false)
        go true e = rw (le-leb r.cursor v.slots (omega (arith, eqb-true r.cursor 0 e)))
        go false e = rw and-false

-- ---- one test for both ends of a range: what the code has of numbers modulo 2 ^ 64 is a difference, r of a less b

abbrev Less : (a b r : ℕ) → Type 0
Less a b r = (r + b) % 2 ^ word_bits ≡ a

-- s − P − 1 is below 16 exactly where s is 1 to 16 ahead
module _ (v : View) (r : Registers) where
  pub epoch_late : last_epoch < r.epoch → false ≡ proper_epoch v r
  unfolding proper_epoch
  epoch_late h = rw (lt-leb r.epoch last_epoch h, and-false)

  pub epoch_ahead : (ahead waiting : ℕ) → ControlFits v.control → r.epoch ≤ last_epoch → Less r.epoch v.control.persisted ahead
      → ahead < 2 ^ word_bits → Less ahead 1 waiting → waiting < 2 ^ word_bits → ltb waiting most_ahead ≡ proper_epoch v r
  unfolding proper_epoch
  epoch_ahead ahead waiting fits early x hx y hy =
      hold_together _ _
      (λ t.
      let few : waiting < most_ahead = ltb-true waiting most_ahead t in
      rw (
        lt-ltb v.control.persisted r.epoch (omega (arith, fits.persisted)),
        le-leb r.epoch last_epoch early,
        le-leb (r.epoch - v.control.persisted) most_ahead (omega (arith, fits.persisted)),
      ))
      (λ t.
      let some : v.control.persisted < r.epoch = search held depth 12 in
      let most : r.epoch - v.control.persisted ≤ most_ahead = search held depth 12 in
      lt-ltb waiting most_ahead (omega arith))

-- and an epoch less P and 1 is below s − P − 1 exactly where it waits
module _ (v : View) (r : Registers) (epoch above left : ℕ) (some : v.control.persisted < r.epoch) (early : r.epoch ≤ last_epoch)
    (x : Less epoch v.control.persisted above) (hx : above < 2 ^ word_bits) (y : Less above 1 left) (hy : left < 2 ^ word_bits) where
  pub waits_between : ltb left (r.epoch - v.control.persisted - 1) ≡ waits v r epoch
  unfolding waits
  waits_between =
      hold_together _ _
      (λ t.
      let few : left < r.epoch - v.control.persisted - 1 = ltb-true left _ t in
      rw (lt-ltb v.control.persisted epoch (omega arith), lt-ltb epoch r.epoch (omega arith)))
      (λ t.
      let ahead : v.control.persisted < epoch = search held in
      let ended : epoch < r.epoch = search held in
      lt-ltb left _ (omega arith))

-- 1
module _ (v : View) where
  pub control_length : v.shape.entries < v.control.length → false ≡ good_control v
  unfolding good_control
  control_length h = rw (lt-leb v.control.length v.shape.entries h, and-false)

  module _ (length : v.control.length ≤ v.shape.entries) where
    pub control_start : v.shape.entries ≤ v.control.start → false ≡ good_control v
    unfolding good_control
    control_start h = rw (le-ltb v.control.start v.shape.entries h, and-false)

    pub control_last : v.control.start < v.shape.entries → not (eqb v.control.persisted last_epoch) ≡ good_control v
    unfolding good_control
    control_last h =
        rw (le-leb v.control.length v.shape.entries length, lt-ltb v.control.start v.shape.entries h, and-true, and-true)

module _ (words : ℕ) (v : View) (long : log_at ≤ words) (t : Bool) (control : t ≡ good_control v) where
  pub shape_control : not t ≡ true → false ≡ good_shape words v
  unfolding good_shape
  shape_control h = rw (← control, not-true t h, and-false)

  -- the log's start is below L
  pub shape_some : not t ≡ false → 1 ≤ v.shape.entries
  unfolding good_control
  shape_some h =
      let good = sym control ∙ not-false t h in
      let start : v.control.start < v.shape.entries = search held depth 12 in
      omega arith

  pub shape_sizes : (u : Bool) (lines : ℕ) → not t ≡ false → OwnLines v.shape lines → u ≡ good_sizes words lines v.shape.entries
      → u ≡ good_shape words v
  unfolding good_shape good_sizes
  shape_sizes u lines h own sizes =
      sizes ∙ rw (← control, not-false t h, le-leb log_at words long, and-true) (go (eqb v.shape.version board_version) refl)
    where
      go : (e : Bool) → eqb v.shape.version board_version ≡ e
          → good_sizes words lines v.shape.entries ≡ e && good_sizes words v.shape.lines v.shape.entries
      go true e = ap (λ (n : ℕ). good_sizes words n v.shape.entries) (own.own (eqb-true _ _ e))
      go false e = rw (lt-leb lines most_lines (own.other (eqb-false _ _ e)), and-false)

-- of 1: L is 0; or N, then L, then the word count
pub entries_none : (words lines entries : ℕ) → entries ≡ 0 → false ≡ good_sizes words lines entries
unfolding good_sizes
entries_none words lines entries none = rw (lt-leb 1 entries (omega arith), and-false)

module _ (words lines entries x : ℕ) (n : Less lines 1 x) (hx : x < 2 ^ word_bits) where
  pub lines_beyond : most_lines ≤ x → false ≡ good_sizes words lines entries
  unfolding good_sizes
  lines_beyond h = hold_together false _ (λ t. absurd (false≢true t)) (λ t.
      let some : 1 ≤ lines = search held depth 12 in
      let few : lines ≤ most_lines = search held depth 12 in
      absurd (omega arith))

  pub entries_beyond : most_entries < entries → false ≡ good_sizes words lines entries
  unfolding good_sizes
  entries_beyond h = rw (lt-leb entries most_entries h, and-false)

  pub sizes_words : x < most_lines → 1 ≤ entries → entries ≤ most_entries → eqb words (board_words lines entries) ≡ good_sizes words lines entries
  unfolding good_sizes
  sizes_words few some most =
      rw (
        le-leb 1 lines (omega arith),
        le-leb lines most_lines (omega arith),
        le-leb 1 entries some,
        le-leb entries most_entries most,
      )

-- 2: a number of words more than the least is a multiple of 8 and has nine digits, slotWords * mostSlots being 2 ^ 9; tested are the digits above
-- them and the last three
abbrev unused : ℕ
unused = 2 ^ word_bits - 1 - (work_words most_slots - work_words ways)

module _ (more : ℕ) (h : more < 2 ^ word_bits) where
  abbrev tested : ℕ
  tested = more / 2 ^ 9 * 2 ^ 9 + more % 8

  unused_bits : bit_and more unused ≡ tested
  unused_bits = and_high_last more (word_bits - 9) 9 3 (omega arith) ∙ omega arith

  pub work_bits : (words : ℕ) → Less words (work_words ways) more → eqb (bit_and more unused) 0 ≡ good_work words
  unfolding good_work good_slots
  work_bits words l =
      rw unused_bits
      (hold_together _ _
      (λ t.
      let none : tested ≡ 0 = eqb-true tested 0 t in
      rw (
        eq-eqb (slots_of words % ways) 0 (omega arith),
        le-leb ways (slots_of words) (omega arith),
        le-leb (slots_of words) most_slots (omega arith),
        eq-eqb words (work_words (slots_of words)) (omega arith),
      ))
      (λ t.
      let fours : slots_of words % ways ≡ 0 = search held depth 12 in
      let some : ways ≤ slots_of words = search held depth 12 in
      let most : slots_of words ≤ most_slots = search held depth 12 in
      let whole : words ≡ work_words (slots_of words) = search held depth 12 in
      eq-eqb tested 0 (omega arith)))

pub read_view : (board : List ℕ) (c : Control) (s : Shape) → Decoded ControlFits (decode_control (get_or board control_at 0)) c
    → Decoded ShapeFits (decode_shape (get_or board shape_at 0)) s → Viewed board (record { control = c; shape = s; slots = 0 })
unfolding view_of
read_view board c s x y =
    record { is = λ i. record { control = x.is i; shape = y.is i; slots = 0 }; control = x.fits; shape = y.fits }

pub view_lent : (v : View) (words slots : ℕ) → slots ≡ slots_of words
    → ◌≡◌ {A = View} (record { control = v.control; shape = v.shape; slots = slots }) (lent v words)
view_lent v words slots e = λ i. record { control = v.control; shape = v.shape; slots = e i }
