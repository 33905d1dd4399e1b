-- A store to a line that was not held: filling its slot before is storingHeld it at once.
use Prim.Native.Nat.{ℕ, ◌+◌, ◌*◌, ◌^◌, ◌<◌, ◌≤◌}
use mathlib.Core.Path.{◌≡◌, sym, ap, ◌∙◌}
use mathlib.Core.List.{List}
use native.Mathlib.Omega.{arith}
use lib.ListN.{length, get_or, take, set, length-set, length-take}
use lib.Seq.{get_or-set_same, get_or-set_other, set-set, set_comm, set-append_left, take-set-lt, drop-set-lt}
use Rattle.base.specs.Parts.{set_pair}
use Rattle.board.specs.declared.Meter.{Meter}
use Rattle.layout.specs.declared.Entry.{Entry}
use Rattle.layout.specs.Laws.{slot_laws}
use Rattle.layout.specs.Limits.{address_bits}
use Rattle.layout.specs.Memory.{lines_at, buffer_words, buffer_at, buffer_in, slot_in, data_in}
use Rattle.layout.specs.Words.{decode_slot, encode_slot}
use Rattle.undo.specs.declared.LogState.{LogState}
use Rattle.undo.specs.declared.Progress.{Progress}
use Rattle.undo.specs.Log.{pushed}
use Rattle.slots.specs.Slots.{clean_slot, dirty_slot, zeroed, filled, dirtied}
use Rattle.layout.specs.Memory.{with_buffer}
use Rattle.steps.specs.Effects.{line_in, entry_between, entry_for, logged, storing_held}
use Rattle.slots.specs.Slots.{entry_due}
use Rattle.steps.specs.Promises.{Acts, logging_store, LogStoreReady, StoreAbsentReady}

pair_again : (memory : List ℕ) (at a b x y : ℕ) → set_pair (set_pair memory at a b) at x y ≡ set_pair memory at x y
pair_again memory at a b x y =
    ap (λ (w : List ℕ). set w (at + 1) y) (set_comm (set memory at a) (at + 1) at b x (omega arith))
    ∙ ap (λ (w : List ℕ). set (set w (at + 1) b) (at + 1) y) (set-set memory at a x)
    ∙ set-set (set memory at x) (at + 1) b y

pub filled_zeroed : (work : List ℕ) (k address line : ℕ) → filled (zeroed work k) k address line ≡ filled work k address line
unfolding filled zeroed
filled_zeroed work k address line = pair_again work (2 * k) 0 0 (encode_slot (clean_slot address)) line

-- an entry goes to the buffer, whatever the slots are
logged_set : (u : LogState) (work : List ℕ) (e : Entry) (old i word : ℕ) → i + buffer_words < length work
    → logged u (set work i word) e old ≡ set (logged u work e old) i word
unfolding logged with_buffer
logged_set u work e old i word h =
    let n = buffer_at (length work) in
    rw (length-set, take-set-lt n work i word (omega arith), drop-set-lt n work i word (omega arith))
    (sym (set-append_left (take n work) (pushed (buffer_in work) u.buffered e old) i word (simp length-take (omega arith))))

dirtied_filled : (work : List ℕ) (k address line epoch value : ℕ)
    → dirtied (filled work k address line) k address epoch value ≡ dirtied work k address epoch value
unfolding filled dirtied
dirtied_filled work k address line epoch value =
    pair_again work (2 * k) (encode_slot (clean_slot address)) line (encode_slot (dirty_slot address epoch)) value

module _ (work : List ℕ) (k address line : ℕ) (within : 2 * k + 2 + buffer_words ≤ length work) where
  logged_filled : (u : LogState) (e : Entry) (old : ℕ) → logged u (filled work k address line) e old ≡ filled (logged u work e old) k address line
  unfolding filled
  logged_filled u e old =
      let word = encode_slot (clean_slot address) in
      logged_set u (set work (2 * k) word) e old (2 * k + 1) line (simp length-set (omega arith))
      ∙ ap (λ (w : List ℕ). set w (2 * k + 1) line) (logged_set u work e old (2 * k) word (omega arith))

  slot_filled : address < 2 ^ address_bits → slot_in (filled work k address line) k ≡ clean_slot address
  unfolding filled
  slot_filled fits =
      let word = encode_slot (clean_slot address) in
      ap decode_slot
      (get_or-set_other (set work (2 * k) word) (2 * k + 1) (2 * k) line 0 (omega arith) ∙ get_or-set_same work (2 * k) word 0 (omega arith))
      ∙ slot_laws.decode_encode (clean_slot address) (record { address = fits; tag = omega arith; spare = omega arith })

  data_filled : data_in (filled work k address line) k ≡ line
  unfolding filled
  data_filled = get_or-set_same (set work (2 * k) (encode_slot (clean_slot address))) (2 * k + 1) line 0 (simp length-set (omega arith))

  -- a slot filled clean makes the entry P, s with its line, and its words give way to the dirty ones
  storing_held_filled : (u : LogState) (epoch value : ℕ) → address < 2 ^ address_bits
      → storing_held u (filled work k address line) k address epoch value
      ≡ logging_store u work k (entry_between address u.control.persisted epoch) line value
  unfolding storing_held entry_due entry_for
  storing_held_filled u epoch value fits =
      rw (slot_filled fits, data_filled, logged_filled u (entry_between address u.control.persisted epoch) line, dirtied_filled)

-- the way out of a store to a line that was not held
module _ (board work : List ℕ) (u : LogState) (k address epoch : ℕ) (ready : StoreAbsentReady board work u k address epoch) (e : Entry)
    (entry : e ≡ entry_between address u.control.persisted epoch) where
  pub absent_log_ready : LogStoreReady board work u k e
  absent_log_ready =
      rw entry record {
        ready = ready.ready;
        within = ready.taken.within;
        place = ready.place;
        room = ready.room;
        fits = record { address = ready.taken.fits; till = ready.window.fits; span = omega (arith, ready.window) };
      }

  pub absent_stored : (lines value : ℕ) (m : Meter) (board' work' : List ℕ) (r : Progress) → lines ≡ lines_at u.entries
      → Acts board m (logging_store u work k e (get_or board (lines + address) 0) value) board' work' r
      → Acts board m (storing_held u (filled work k address (line_in board u address)) k address epoch value) board' work' r
  unfolding line_in
  absent_stored lines value m board' work' r at x =
      rw (
        storing_held_filled work k address (line_in board u address) ready.taken.within u epoch value ready.taken.fits,
        ← at,
      )
      (rw entry at x)
