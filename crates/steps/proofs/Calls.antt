-- The steps of load, store, evict and scan: one law for each way out of a function.
use Prim.Native.Nat.{ℕ, ◌+◌, ◌*◌, ◌<◌, ◌≤◌}
use mathlib.Core.Path.{◌≡◌, refl, sym, ap, ◌∙◌}
use mathlib.Core.Bool.{Bool, true, false, not, cond, ◌||◌}
use mathlib.Core.List.{List, ◌++◌}
use native.Mathlib.Omega.{arith}
use borrow.Author.Tests.{not-true, not-false, le-leb, lt-leb}
use lib.ListN.{length, get_or, set, length-append}
use Rattle.board.specs.declared.Meter.{Meter}
use Rattle.board.specs.Stores.{applied, allowed, Ran}
use Rattle.board.specs.Laws.{ran_none, ran_all, ran_read, ran_length}
use Rattle.layout.specs.declared.Slot.{Slot}
use Rattle.layout.specs.Limits.{buffer_places}
use Rattle.layout.specs.Memory.{lines_at, buffer_in, slot_in, data_in}
use Rattle.layout.specs.Words.{Decoded, SlotFits, encode_slot}
use Rattle.undo.specs.declared.LogState.{LogState}
use Rattle.undo.specs.declared.Progress.{Progress}
use Rattle.undo.specs.Filter.{hits}
use Rattle.undo.specs.Log.{Sound, flushed, advance_stores}
use Rattle.undo.specs.Promises.{AdvanceReady}
use Rattle.undo.specs.Laws.{sound_flushed}
use Rattle.slots.specs.declared.Spot.{Spot}
use Rattle.slots.specs.Slots.{clean_slot, cleaned, filled}
use Rattle.steps.specs.Effects.{Effect, nothing, flushing, flushing_if, writing_out, writing_back, emptying, line_in, bringing, storing_held}
use Rattle.slots.specs.Slots.{entry_due, undo_due}
use Rattle.steps.specs.Effects.{loading, storing, evicting, cleaning, visiting, persisting}
use Rattle.steps.specs.Promises.{Acts, Carries, StoreHeldReady, StoreAbsentReady, StoreReady, PersistReady}
use Rattle.steps.proofs.StoringAbsent.{filled_zeroed}

-- an effect that does not depend on the board is told in any case
told : {board board' work' : List ℕ} {m : Meter} {e : Effect} {r : Progress} → Acts board m e board' work' r → Carries board m e board' work' r
told x = record { ran = x.ran; undo = λ h. x.undo; memory = λ h. x.memory }

-- evict
module _ (board work : List ℕ) (u : LogState) (spot : Spot) (m : Meter) where
  pub evict_none : not spot.held ≡ true → Acts board m (evicting u work spot) board work (record { undo = u; meter = m })
  unfolding evicting
  evict_none h = rw (not-true spot.held h) record { ran = ran_none board m; undo = refl; memory = refl }

  pub evict_held : (board' work' : List ℕ) (r : Progress) → not spot.held ≡ false → Acts board m (emptying u work spot.slot) board' work' r
      → Acts board m (evicting u work spot) board' work' r
  unfolding evicting
  evict_held board' work' r h x = rw (not-false spot.held h) x

-- a scan's visit
pub cleaned_out : (board work : List ℕ) (u : LogState) (k address : ℕ) (m : Meter) (board' work' : List ℕ) (r : Progress) (word : ℕ)
    → address ≡ (slot_in work k).address → Acts board m (writing_out u work address (data_in work k)) board' work' r
    → word ≡ encode_slot (clean_slot address) → Acts board m (cleaning u work k) board' (set work' (2 * k) word) r
unfolding cleaning cleaned
cleaned_out board work u k address m board' work' r word e x w =
    rw (← e, ← w) record { ran = x.ran; undo = x.undo; memory = rw (← x.memory) }

module _ (board work : List ℕ) (u : LogState) (k target : ℕ) (m : Meter) (s : Slot) (read : Decoded SlotFits (slot_in work k) s) where
  pub clean_address : s.address ≡ (slot_in work k).address
  clean_address = ap (λ (x : Slot). x.address) read.is

  pub visit_clean : not s.dirty ≡ true → Acts board m (visiting u work k target) board work (record { undo = u; meter = m })
  unfolding visiting
  visit_clean h = rw (← read.is, not-true s.dirty h) record { ran = ran_none board m; undo = refl; memory = refl }

  module _ (dirty : not s.dirty ≡ false) where
    pub visit_other : target < s.tag → Acts board m (visiting u work k target) board work (record { undo = u; meter = m })
    unfolding visiting
    visit_other n =
        rw (← read.is, not-false s.dirty dirty, lt-leb s.tag target n) record { ran = ran_none board m; undo = refl; memory = refl }

    pub visit_target : (board' work' : List ℕ) (r : Progress) → s.tag ≤ target → Acts board m (cleaning u work k) board' work' r
        → Acts board m (visiting u work k target) board' work' r
    unfolding visiting
    visit_target board' work' r e x = rw (← read.is, not-false s.dirty dirty, le-leb s.tag target e) x

-- a scan's last step
module _ (board work : List ℕ) (u : LogState) (target : ℕ) (m : Meter) (board' work' : List ℕ) (f : Progress)
    (ready : PersistReady board work u target) (flush : Acts board m (flushing_if true u work) board' work' f) where
  pub persist_ready : AdvanceReady board' f.undo target
  unfolding flushing_if flushed
  persist_ready =
      rw flush.undo record {
        sound = sound_flushed u ready.ready.sound;
        board_words_holds = rw (ran_length (flushing_if true u work).stores flush.ran) ready.ready.board_words_holds;
        fits = ready.fits;
      }

  pub persist_done : (board'' : List ℕ) (m' : Meter) → Ran board' f.meter (advance_stores board' f.undo target) board'' m'
      → Carries board m (persisting board u work target) board'' work' (record { undo = f.undo; meter = m' })
  unfolding persisting
  persist_done board'' m' x =
      record {
        ran =
            ran_read (flushing_if true u work).stores flush.ran x
            (λ h. rw (flush.undo, ran_all (flushing_if true u work).stores flush.ran h));
        undo = λ h. flush.undo;
        memory = λ h. flush.memory;
      }

-- the line left its slot and the board's line fills it: the slot's words between them do not matter
brought : (board work : List ℕ) (u : LogState) (k address : ℕ) (m : Meter) (board' work' : List ℕ) (r : Progress)
    → Acts board m (writing_back u work k) board' work' r → length (writing_back u work k).stores ≤ allowed m
    → filled work' k address (line_in board' u address) ≡ (bringing board u work k address).work
unfolding bringing emptying
brought board work u k address m board' work' r x g =
    rw (x.memory, ran_all (writing_back u work k).stores x.ran g)
    (sym (filled_zeroed (writing_back u work k).work k address (line_in (applied board (writing_back u work k).stores) u address)))

-- load
module _ (board work : List ℕ) (u : LogState) (address : ℕ) (spot : Spot) (m : Meter) where
  pub load_held : spot.held ≡ true → Carries board m (loading board u work address spot) board work (record { undo = u; meter = m })
  unfolding loading
  load_held h = rw h record { ran = ran_none board m; undo = λ x. refl; memory = λ x. refl }

  pub load_brought : (board' work' work'' : List ℕ) (r : Progress) → spot.held ≡ false → Acts board m (writing_back u work spot.slot) board' work' r
      → work'' ≡ filled work' spot.slot address (line_in board' u address)
      → Carries board m (loading board u work address spot) board' work'' r
  unfolding loading bringing emptying
  load_brought board' work' work'' r h x f =
      rw h record {
        ran = x.ran;
        undo = λ g. x.undo;
        memory = λ g. f ∙ brought board work u spot.slot address m board' work' r x g;
      }

-- store
module _ (board work : List ℕ) (u : LogState) (address : ℕ) (spot : Spot) (epoch : ℕ) (ready : StoreReady board work u address spot epoch) where
  pub store_held_ready : spot.held ≡ true → StoreHeldReady board work u spot.slot address epoch
  unfolding undo_due
  store_held_ready h =
      let room : not spot.held || entry_due epoch (slot_in work spot.slot) ≡ true → u.control.length + u.buffered + 1 ≤ u.entries = ready.room in
      record {
        ready = ready.fill.slot.ready;
        within = ready.fill.slot.within;
        address_fits = ready.fill.fits;
        window = ready.window;
        tagged = ready.tagged;
        place = ready.place;
        room = rw h at room;
      }

  -- a line that leaves its slot flushes or leaves the log's numbers as they are; either keeps the room for the store's entry
  abbrev Kept : LogState → Type 0
  Kept v =
      Sound v × (v.entries ≡ u.entries) × (v.control.persisted ≡ u.control.persisted) × (v.buffered < buffer_places) × (v.control.length + v.buffered + 1 ≤ v.entries)

  kept : spot.held ≡ false → Kept (writing_back u work spot.slot).undo
  unfolding writing_back writing_out flushing_if flushed undo_due
  kept h = dirty (slot_in work spot.slot).dirty
    where
      room : u.control.length + u.buffered + 1 ≤ u.entries
      room = ready.room (rw h)

      same : Kept u
      same = (ready.fill.slot.ready.sound, refl, refl, ready.place, room)

      flush : (t : Bool) → Kept (cond t (flushing u work) (nothing u work)).undo
      flush true = (sound_flushed u ready.fill.slot.ready.sound, refl, refl, omega arith, omega (arith, room))
      flush false = same

      dirty : (t : Bool) → Kept (cond t (writing_out u work (slot_in work spot.slot).address (data_in work spot.slot)) (nothing u work)).undo
      dirty true = flush (hits (buffer_in work) u.buffered (slot_in work spot.slot).address)
      dirty false = same

  module _ (m : Meter) (board' work' : List ℕ) (b : Progress) (out : spot.held ≡ false)
      (leaves : Acts board m (writing_back u work spot.slot) board' work' b) where
    same_board : length board' ≡ length board
    same_board = ran_length (writing_back u work spot.slot).stores leaves.ran

    pub store_absent_ready : length work' ≡ length work → StoreAbsentReady board' work' b.undo spot.slot address epoch
    store_absent_ready l =
        let k = kept out in
        let fill = ready.fill in
        rw leaves.undo record {
          ready =
              record {
                sound = k.0;
                board_words_holds = omega (arith, k.1, fill.slot.ready.board_words_holds, same_board);
                work_words_holds = rw l fill.slot.ready.work_words_holds;
              };
          taken =
              record {
                entries_most = k.0.most;
                within = rw l fill.slot.within;
                named = omega (arith, k.1, fill.named, same_board);
                fits = fill.fits;
              };
          window = rw k.2 ready.window;
          place = k.3;
          room = k.4;
        }

    -- what was brought, where all stores were allowed
    same_undo : b.undo ≡ (loading board u work address spot).undo
    unfolding loading bringing emptying
    same_undo = rw out leaves.undo

    same_line : line_in board' b.undo address ≡ line_in board' u address
    unfolding line_in
    same_line = ap (λ (n : ℕ). get_or board' (lines_at n + address) 0) (ap (λ (v : LogState). v.entries) leaves.undo ∙ (kept out).1)

    same_work : length (writing_back u work spot.slot).stores ≤ allowed m
        → filled work' spot.slot address (line_in board' b.undo address) ≡ (loading board u work address spot).work
    unfolding loading
    same_work h = rw (out, same_line) (brought board work u spot.slot address m board' work' b leaves h)

    same_stores : (loading board u work address spot).stores ≡ (writing_back u work spot.slot).stores
    unfolding loading bringing emptying
    same_stores = rw out

    pub store_brought : (value : ℕ) (board'' work'' : List ℕ) (r : Progress)
        → Acts board' b.meter
        (storing_held b.undo (filled work' spot.slot address (line_in board' b.undo address)) spot.slot address epoch value) board'' work'' r
        → Carries board m (storing board u work address spot epoch value) board'' work'' r
    unfolding storing
    store_brought value board'' work'' r x =
        let xs = (writing_back u work spot.slot).stores in
        let l = loading board u work address spot in
        let f = filled work' spot.slot address (line_in board' b.undo address) in
        let same : length xs ≤ allowed m
        → storing_held b.undo f spot.slot address epoch value ≡ storing_held l.undo l.work spot.slot address epoch value =
        λ h. rw (same_work h, same_undo) in
        let part : length (l.stores ++ (storing_held l.undo l.work spot.slot address epoch value).stores) ≤ allowed m → length xs ≤ allowed m =
        λ h. omega (arith, ap length same_stores, length-append l.stores (storing_held l.undo l.work spot.slot address epoch value).stores) in
        record {
          ran = rw same_stores (ran_read xs leaves.ran x.ran (λ h. ap (λ (e : Effect). e.stores) (same h)));
          undo = λ h. x.undo ∙ ap (λ (e : Effect). e.undo) (same (part h));
          memory = λ h. x.memory ∙ ap (λ (e : Effect). e.work) (same (part h));
        }

pub store_held : (board work : List ℕ) (u : LogState) (address : ℕ) (spot : Spot) (epoch value : ℕ) (m : Meter) (board' work' : List ℕ) (r : Progress)
    → spot.held ≡ true → Acts board m (storing_held u work spot.slot address epoch value) board' work' r
    → Carries board m (storing board u work address spot epoch value) board' work' r
unfolding storing loading
store_held board work u address spot epoch value m board' work' r h x = rw h (told x)
