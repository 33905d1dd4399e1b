-- What the invariant says of one line and of one entry. Assumes nothing.
use Rattle.std.specs.Prelude.{◌≡◌, refl, List, ℕ, suc, ◌-◌, ◌≤◌, ◌<◌}
use Rattle.std.proofs.Common.{sym, ◌∙◌, arith}
use Rattle.base.specs.Every.{Every}
use Rattle.ranges.specs.Ranges.{facts_proper}
use Rattle.history.specs.Machine.{Entry, recall, Told, Durable, Line, absent, clean, dirty, Volatile, undo, written, recovered}
use Rattle.base.specs.Cases.{update}
use Rattle.reference.specs.Machine.{Reference}
use Rattle.history.specs.Invariant.{ProperEntry, Fits, Held, Live, entries}
use Rattle.base.specs.Cases.{here_or_there, update_same, update_other}
use Rattle.history.proofs.Proper.{proper_every}

-- ---- recovery of a line

-- a store to a line that the log tells changes nothing that recovery sees
pub written_recovered : (b : Durable) (a v : ℕ) → Told b.log b.persisted a → (c : ℕ) → recovered (written b a v) c ≡ recovered b c
written_recovered b a v told = here_or_there a (λ c. recovered (written b a v) c ≡ recovered b c)
    (told.1 (update b.memory a v a) ∙ sym (told.1 (b.memory a)))
    (λ c away. rw (update_other b.memory a v c away))

-- ---- a line in the cache

-- one line is held otherwise
pub held_update : (b : Durable) (w : Volatile) (g : Reference) (a : ℕ) (l : Line) → Held b w g a l → ((c : ℕ) → Held b w g c (w.cache c))
    → (c : ℕ) → Held b w g c (update w.cache a l c)
held_update b w g a l new old = here_or_there a (λ c. Held b w g c (update w.cache a l c))
    (rw (update_same w.cache a l) new)
    (λ c away. rw (update_other w.cache a l c away) (old c))

-- the line is not touched, while epochs, log and copies go on
pub fits_later : (P P' s s' : ℕ) (log log' : List Entry) (a m c : ℕ) (copy copy' : ℕ → ℕ) (l : Line) → P ≤ P' → s ≤ s'
    → ((t d : ℕ) → l ≡ dirty t d → P < t → P' < t)
    → ((e d : ℕ) → P' ≤ e → e < s → recall log' e a d ≡ recall log e a d)
    → ((e : ℕ) → e < s → copy' e ≡ copy e)
    → Fits P s log a m c copy l → Fits P' s' log' a m c copy' l
fits_later P P' s s' log log' a m c copy copy' absent h_p hs tag same kept f = f
fits_later P P' s s' log log' a m c copy copy' (clean d) h_p hs tag same kept f = f
fits_later P P' s s' log log' a m c copy copy' (dirty t d) h_p hs tag same kept f = record {
  current = f.current;
  waiting = tag t d refl f.waiting;
  started = omega (arith, f.started);
  told = λ e lo hi z. same e z lo (omega (arith, f.started)) ∙ f.told e (omega arith) hi z ∙ sym (kept e (omega (arith, f.started)));
}

module _ {N W : ℕ} {b : Durable} {w : Volatile} {g : Reference} (live : Live N W b w g) where
  -- the line, where it is known how it is held
  pub held_as : (a : ℕ) {l : Line} → w.cache a ≡ l → Held b w g a l
  held_as a p = rw p at (live.held a)

  -- Memory, undone back to epoch e, is its copy, if no store of e or before waits in the cache: why a flush is safe (e is P), and
  -- an advance (e is q).
  pub undone_memory : (a e : ℕ) → b.persisted ≤ e → e < w.running → ((t d : ℕ) → w.cache a ≡ dirty t d → e < t)
      → recall (entries b w) e a (b.memory a) ≡ g.copies e a
  undone_memory a e lo hi later = go (w.cache a) refl (live.held a)
    where
      go : (l : Line) → w.cache a ≡ l → Held b w g a l → recall (entries b w) e a (b.memory a) ≡ g.copies e a
      go absent p f = rw f (live.history.past a e lo hi)
      go (clean d) p f = rw (sym f.1 ∙ f.0) (live.history.past a e lo hi)
      go (dirty t d) p f = f.told e lo (later t d p) (b.memory a)

  -- ---- an entry

  -- every entry, flushed or buffered, ends after P and not after s
  pub entries_proper : Every (ProperEntry N W (suc b.persisted) w.running) (entries b w)
  entries_proper = proper_every N W (suc b.persisted) w.running (entries b w) live.history.proper

  -- the entry that a store makes, from P (a clean line) or from a tag after P (a dirty one), spans 1 to s − P epochs
  pub undo_proper : (a f d : ℕ) → a < N → b.persisted ≤ f → f < w.running
      → ProperEntry N (w.running - b.persisted) (suc b.persisted) w.running (undo w.running a f d)
  undo_proper a f d inside lo hi =
      record { proper = facts_proper N _ _ (undo w.running a f d).range (omega (arith, live.history.ahead)); narrow = omega arith }
