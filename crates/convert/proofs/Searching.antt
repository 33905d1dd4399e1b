-- The search for the first improper entry of the old log.
use Prim.Native.Nat.{ℕ, ◌+◌, ◌<◌, ◌≤◌}
use mathlib.Core.Path.{◌≡◌, refl, sym, ap, ◌∙◌}
use mathlib.Core.Bool.{Bool, true, false, not}
use mathlib.Core.List.{List}
use native.Mathlib.Numerals.{add-one}
use borrow.Author.Tests.{lt-ltb, le-ltb}
use lib.ListN.{get_or}
use Rattle.std.specs.Prelude.{Ok, Err}
use Rattle.base.specs.Walk.{Walked, walk_start, walk_end, walk_found, walk_next}
use Rattle.status.specs.declared.Status.TheVariants as status
use Rattle.layout.specs.Memory.{log_at}
use Rattle.layout.specs.Words.{Decoded}
use Rattle.undo.specs.declared.LogState.{LogState}
use Rattle.undo.specs.Entries.{proper_entry}
use Rattle.undo.specs.Log.{Placed, old_in}
use Rattle.undo.specs.Recovery.{older_till, proper_at, first_improper}
use Rattle.convert.specs.declared.old.OldEntry.{OldEntry}
use Rattle.convert.specs.Old.{decode_old_entry, OldEntryFits, old_range, old_entry_in, old_log_in}
use Rattle.convert.specs.Promises.{EntryRead, entries_checked}

-- an entry that was read at its place
pub entry_read : (old : List ℕ) (u : LogState) (i at : ℕ) (e : OldEntry) → Placed u i at
    → Decoded OldEntryFits (decode_old_entry (get_or old (log_at + at) 0)) e → EntryRead old u i e (get_or old (log_at + at + 1) 0)
unfolding old_entry_in old_in
entry_read old u i at e placed d =
    record {
      entry = d.is ∙ ap (λ (p : ℕ). decode_old_entry (get_or old (log_at + p) 0)) placed.is;
      fits = d.fits;
      held = ap (λ (p : ℕ). get_or old (log_at + p + 1) 0) placed.is;
    }

-- the entries before i are proper, and the next older one ends with the epoch older
pub record Searched (old : List ℕ) (u : LogState) (lines i older : ℕ) : Type 0 where
  pub walked : Walked (proper_at (old_log_in old u) lines) u.control.length i
  pub carried : older ≡ older_till (old_log_in old u) i

pub search_start : (old : List ℕ) (u : LogState) (lines : ℕ) → Searched old u lines 0 0
unfolding older_till
search_start old u lines = record { walked = walk_start (proper_at (old_log_in old u) lines) u.control.length; carried = refl }

module _ {old : List ℕ} {u : LogState} {lines i older : ℕ} (s : Searched old u lines i older) where
  pub search_end : u.control.length ≤ i → Ok tt ≡ entries_checked (old_log_in old u) lines
  unfolding entries_checked first_improper
  search_end h = sym (rw (← (walk_end s.walked h), le-ltb i u.control.length h))

  module _ (e : OldEntry) (held : ℕ) (r : EntryRead old u i e held) (h : i < u.control.length) (t : Bool)
      (a : t ≡ proper_entry lines u.control.persisted older (old_range e)) where
    tested : t ≡ proper_at (old_log_in old u) lines i
    unfolding proper_at
    tested = a ∙ rw (r.entry, s.carried)

    pub search_found : not t ≡ true → Err (record { status = status.Entry; value = i }) ≡ entries_checked (old_log_in old u) lines
    unfolding entries_checked first_improper
    search_found x = sym (rw (← (walk_found s.walked t tested h x), lt-ltb i u.control.length h))

    pub search_next : not t ≡ false → Searched old u lines (i + 1) e.till
    unfolding older_till
    search_next x =
        record {
          walked = walk_next s.walked t tested h x;
          carried = rw add-one (ap (λ (y : OldEntry). y.till) r.entry);
        }
