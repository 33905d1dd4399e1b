-- What the second memory is filled with: the lines of the old board with its log's entries restored, and what stands
-- before them.
use Prim.Native.Nat.{ℕ, zero, suc, ◌+◌, ◌-◌, ◌*◌, ◌<◌, ◌≤◌}
use mathlib.Core.Path.{◌≡◌, refl, sym, ap, ◌∙◌}
use mathlib.Core.Bool.{Bool, true, false, cond}
use mathlib.Core.List.{List, [], ◌++◌}
use native.Mathlib.Nat.{zero-add}
use native.Mathlib.Omega.{arith}
use borrow.Author.Tests.{lt-ltb, le-leb, lt-leb}
use lib.ListN.{length, set, take, drop, replicate, length-append, length-set, length-drop, length-replicate}
use lib.Seq.{length-take-le, take_at, drop_at}
use Rattle.base.specs.Parts.{rest_lent, rest_back}
use Rattle.board.specs.Stores.{one, applied, each, shifted}
use Rattle.board.specs.Laws.{length_applied, applied_append}
use Rattle.board.specs.Parts.{shifted_append, applied_shifted}
use Rattle.ranges.specs.Ranges.{covers}
use Rattle.layout.specs.declared.Control.{Control}
use Rattle.layout.specs.Memory.{lines_at, board_words, shape_for}
use Rattle.layout.specs.Words.{encode_control, encode_shape}
use Rattle.undo.specs.declared.LogState.{LogState}
use Rattle.undo.specs.Log.{emptied}
use Rattle.undo.specs.Laws.{proper_named, proper_till}
use Rattle.undo.specs.Recovery.{Log, restore_stores, restore_turn, restore_all}
use Rattle.convert.specs.declared.old.OldEntry.{OldEntry}
use Rattle.convert.specs.Old.{old_log_in, recovered_lines}
use Rattle.convert.specs.Convert.{head_of, converted}
use Rattle.convert.specs.Promises.{EntryRead, Recoverable, EntryReady, HeadReady, FillReady}

-- one entry
module _ (lines old : List ℕ) (u : LogState) (i : ℕ) (e : OldEntry) (held : ℕ) (ready : EntryReady old u (length lines) i)
    (read : EntryRead old u i e held) where
  abbrev log : Log
  log = old_log_in old u

  pub entry_line : e.address < length lines
  entry_line = rw read.entry (proper_named log (length lines) i (ready.ready.proper i ready.within))

  pub entry_skipped : u.control.persisted < e.from → lines ≡ applied lines (restore_stores log 0 i)
  unfolding restore_stores covers applied
  entry_skipped h = rw (← read.entry, lt-leb e.from u.control.persisted h)

  pub entry_made : e.from ≤ u.control.persisted → set lines e.address held ≡ applied lines (restore_stores log 0 i)
  unfolding restore_stores covers applied
  entry_made h =
      let till : u.control.persisted < e.till = rw read.entry (proper_till log (length lines) i (ready.ready.proper i ready.within)) in
      rw (← read.entry, ← read.held, le-leb e.from u.control.persisted h, lt-ltb u.control.persisted e.till till, zero-add)

-- all of them, from the newest on: left are still to be restored
pub record Restoring (old before : List ℕ) (u : LogState) (lines : List ℕ) (left : ℕ) : Type 0 where
  pub within : left ≤ u.control.length
  pub same : length lines ≡ length before
  pub so_far : lines ≡ applied before (each (restore_turn (old_log_in old u) 0) (u.control.length - left))

module _ (old before : List ℕ) (u : LogState) where
  pub restore_start : Restoring old before u before u.control.length
  unfolding each applied
  restore_start =
      let none : u.control.length - u.control.length ≡ 0 = omega arith in
      record { within = omega arith; same = refl; so_far = rw none }

  module _ (lines : List ℕ) (left : ℕ) (s : Restoring old before u lines left) where
    pub restore_ready : 0 < left → Recoverable old u (length before) → EntryReady old u (length lines) (left - 1)
    restore_ready h ready = record { ready = rw s.same ready; within = omega (arith, s.within) }

    pub restore_next : 0 < left → (lines' : List ℕ) → lines' ≡ applied lines (restore_stores (old_log_in old u) 0 (left - 1))
        → Restoring old before u lines' (left - 1)
    unfolding each restore_turn
    restore_next h lines' x =
        let turn = u.control.length - left in
        let more : u.control.length - (left - 1) ≡ suc turn = omega (arith, s.within) in
        let here : u.control.length - (turn + 1) ≡ left - 1 = omega (arith, s.within) in
        record {
          within = omega (arith, s.within);
          same = ap length x ∙ length_applied _ lines ∙ s.same;
          so_far = x ∙ rw (more, here, applied_append, ← s.so_far);
        }

    pub restore_end : left ≤ 0 → lines ≡ applied before (restore_all (old_log_in old u) 0)
    restore_end h =
        let all : u.control.length - left ≡ u.control.length = omega arith in
        rw all at s.so_far

-- the same stores to the lines by themselves, and to the lines of a board
module _ (log : Log) (a : ℕ) where
  stores_shifted : (i : ℕ) → restore_stores log a i ≡ shifted a (restore_stores log 0 i)
  unfolding restore_stores shifted
  stores_shifted i = go (covers (log.range i) log.persisted)
    where
      go : (t : Bool) → cond t (one (a + (log.range i).address) (log.old i)) [] ≡ shifted a (cond t (one (0 + (log.range i).address) (log.old i)) [])
      go true = rw zero-add
      go false = refl

  turns_shifted : (n : ℕ) → each (restore_turn log a) n ≡ shifted a (each (restore_turn log 0) n)
  unfolding each restore_turn shifted
  turns_shifted zero = refl
  turns_shifted (suc n) = rw (shifted_append, turns_shifted n, stores_shifted (log.count - (n + 1)))

module _ (lines old : List ℕ) (u : LogState) (ready : Recoverable old u (length lines)) (copied : List ℕ) where
  pub copied_ready : length copied ≡ length lines → Recoverable old u (length copied)
  copied_ready l = rw l ready

  pub lines_recovered : (first : ℕ) (lines' : List ℕ) → first ≡ lines_at u.entries → copied ≡ take (length old - first) (drop first old)
      → lines' ≡ applied copied (restore_all (old_log_in old u) 0) → lines' ≡ recovered_lines old u
  unfolding recovered_lines
  lines_recovered first lines' f c x =
      let a = lines_at u.entries in
      let ss = restore_all (old_log_in old u) 0 in
      let within : a ≤ length old = omega (arith, ready.words) in
      let whole : applied old (restore_all (old_log_in old u) a) ≡ take a old ++ applied (drop a old) ss =
      ap (applied old) (turns_shifted (old_log_in old u) a u.control.length) ∙ applied_shifted a ss old within in
      let apart : drop a (take a old ++ applied (drop a old) ss) ≡ applied (drop a old) ss =
      drop_at (take a old) (applied (drop a old) ss) a (length-take-le a old within) in
      x ∙ rw (c, rest_lent, f) (sym (ap (drop a) whole ∙ apart))

-- what stands before them
module _ (head : List ℕ) (c : Control) (lines entries : ℕ) (ready : HeadReady head c lines entries) where
  pub head_within : (cleared : List ℕ) (w : ℕ) → length cleared ≡ length head → 1 < length (set cleared 0 w)
  head_within cleared w l = rw length-set (omega (arith, ready.words))

  pub head_put : (cleared : List ℕ) (w v : ℕ) → cleared ≡ replicate (length head) 0 → w ≡ encode_control (emptied c)
      → v ≡ encode_shape (shape_for lines entries) → set (set cleared 0 w) 1 v ≡ head_of c lines entries
  unfolding head_of
  head_put cleared w v z x y =
      let e : length head ≡ suc (suc (2 * entries)) = omega (arith, ready.words) in
      rw (z, e, x, y)

-- both, one behind the other: the head is lent first, then what is behind it
module _ (board old : List ℕ) (u : LogState) (lines first : ℕ) (ready : FillReady board old u lines) (f : first ≡ lines_at u.entries) where
  pub fill_head : HeadReady (take first board) u.control lines u.entries
  fill_head =
      record {
        words = length-take-le first board (omega (arith, ready.words)) ∙ f;
        control_fits = record { persisted = ready.ready.sound.persisted; start = omega arith; length = omega arith };
        shape_fits = omega (arith, ready.sizes);
      }

  module _ (head : List ℕ) (h : head ≡ head_of u.control lines u.entries) where
    abbrev begun : List ℕ
    begun = head ++ drop first board

    head_words : length head ≡ first
    unfolding head_of
    head_words = rw (h, length-replicate) (omega arith)

    begun_words : length begun ≡ board_words lines u.entries
    begun_words = length-append head _ ∙ rw (length-drop, head_words) (omega (arith, ready.words))

    pub fill_ready : Recoverable old u (length (take (length begun - first) (drop first begun)))
    fill_ready =
        let n : length (take (length begun - first) (drop first begun)) ≡ lines =
        rw (rest_lent first begun, length-drop, begun_words) (omega arith) in
        rw n ready.ready

    pub fill_done : (part : List ℕ) → part ≡ recovered_lines old u
        → take first begun ++ (part ++ drop (length begun - first) (drop first begun)) ≡ converted old u lines
    unfolding converted
    fill_done part x =
        rw (rest_back first begun part, take_at head (drop first board) first head_words, h, x)
