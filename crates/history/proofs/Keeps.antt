-- Every action keeps the invariant: `ACTION-live` gives Live after the action, `ACTION-safe` gives Safe. Where an action has no
-- `-safe`, neither what a cut leaves nor the reference machine has moved. Assumes nothing.
use Rattle.std.specs.Prelude.{◌≡◌, refl, ◌≢◌, List, [], ◌∷◌, ◌++◌}
use Rattle.std.proofs.Math.Path.{sym, ap}
use Rattle.std.proofs.Common.{◌∙◌, append_assoc, append-nil, arith, le-leb}
use Prim.Native.Nat.{ℕ, suc, ◌+◌, ◌≤◌, ◌<◌}
use Rattle.history.specs.Machine.{Entry, recall, Tells, drop_ended, Durable, Line, absent, clean, dirty, Volatile}
use Rattle.base.specs.Cases.{update}
use Rattle.reference.specs.Machine.{Reference}
use Rattle.reference.specs.Machine.{stores, commits, persists, up_to, restarts}
use Rattle.history.specs.Machine.{holding, undo, marked, flushed, unbuffered, written, next_epoch, advanced}
use Rattle.history.specs.Machine.{cleared, restarted, Logged, Scanned, recovered, Restored}
use Rattle.history.specs.Invariant.{ProperEntry, ProperLog, Safe, History, Fits, Held, Live, entries}
use Rattle.base.specs.Cases.{here_or_there, below_or_not, update_same, update_other}
use Rattle.history.proofs.Recall.{recall_append, recall_new, recall_new_away, recall_drop_ended}
use Rattle.history.proofs.Proper.{entry_wider, proper_wider, proper_new, proper_drop_ended, proper_silent}
use Rattle.history.proofs.Lines.{held_update, fits_later, held_as, undone_memory, undo_proper}

-- ---- what a cut leaves, by itself

module _ {N W : ℕ} {b : Durable} {g : Reference} (safe : Safe N W b g) where
  -- the reference machine moves, but p and copy p stay
  pub safe_for : {g' : Reference} → g.persisted ≡ g'.persisted → ((a : ℕ) → g.copies b.persisted a ≡ g'.copies b.persisted a) → Safe N W b g'
  safe_for p copy = record { named = safe.named ∙ p; proper = safe.proper; recovers = λ a. safe.recovers a ∙ copy a }

  -- all three stores: only the current lines move
  pub store_safe : (a v : ℕ) → Safe N W b (stores g a v)
  store_safe a v = safe_for refl (λ c. refl)

  -- memory is the copy: with no log, no cache and no epoch but P there is nothing to undo
  module _ (restored : Restored b) where
    pub restart_safe : Safe N W (cleared b) (restarts g)
    unfolding recall up_to
    restart_safe = record {
      named = safe.named;
      proper = tt;
      recovers = λ a. rw (le-leb b.persisted g.persisted (omega (arith, safe.named))) (sym (restored a) ∙ safe.recovers a);
    }

    pub restart_live : 0 < W → Live N W (cleared b) (restarted b) (restarts g)
    unfolding recall up_to
    restart_live positive = record {
      history = record {
        clock = ap suc (sym safe.named);
        ahead = omega arith;
        window = omega arith;
        proper = tt;
        past = λ a e lo hi. rw (le-leb e g.persisted (omega (arith, safe.named))) (ap (λ (p : ℕ). g.copies p a) (omega (arith, safe.named)));
      };
      held = λ a. sym (restored a) ∙ safe.recovers a ∙ ap (λ (p : ℕ). g.copies p a) safe.named;
    }

-- ---- a new entry

-- The entry x takes the data d that line a has now. From then on the log tells the line at every ended epoch: from f on by x, or
-- by an entry older than x; before f by the older ones, as it did.
module _ {N W P s : ℕ} {log : List Entry} {g : Reference} (h : History N W P s log g) (a f d : ℕ) (current : d ≡ g.lines a)
    (told : (e : ℕ) → P ≤ e → e < f → Tells log e a (g.copies e a)) where
  abbrev x : Entry
  x = undo s a f d

  abbrev longer : List Entry
  longer = log ++ (x ∷ [])

  new_told : (e : ℕ) → P ≤ e → e < s → Tells longer e a (g.copies e a)
  new_told e lo hi z = below_or_not e f
      (λ early. recall_append log (x ∷ []) e a z ∙ told e lo early (recall (x ∷ []) e a z))
      (λ late. recall_new log x e late hi z ∙ rw current (h.past a e lo hi))

  new_away : (c : ℕ) → c ≢ a → (e z : ℕ) → recall longer e c z ≡ recall log e c z
  new_away c away e z = recall_new_away log x e c (λ q. away (sym q)) z

  new_history : ProperEntry N W (suc P) s x → (v : ℕ) → History N W P s longer (stores g a v)
  new_history fit v = record {
    clock = h.clock;
    ahead = h.ahead;
    window = h.window;
    proper = proper_new N W (suc P) log x fit h.proper;
    past = here_or_there a (λ c. (e : ℕ) → P ≤ e → e < s → recall longer e c (update g.lines a v c) ≡ g.copies e c)
        (λ e lo hi. new_told e lo hi (update g.lines a v a))
        (λ c away e lo hi. rw (update_other g.lines a v c away, new_away c away e (g.lines c)) (h.past c e lo hi));
  }

  new_fits : (memory : ℕ → ℕ) (cache : ℕ → Line) (v : ℕ) → ((c : ℕ) → Fits P s log c (memory c) (g.lines c) (λ e. g.copies e c) (cache c))
      → (c : ℕ) → Fits P s longer c (memory c) (update g.lines a v c) (λ e. g.copies e c) (update cache a (dirty s v) c)
  new_fits memory cache v fits = here_or_there a (λ c. Fits P s longer c (memory c) (update g.lines a v c) (λ e. g.copies e c) (update cache a (dirty s v) c))
      (rw (update_same cache a (dirty s v), update_same g.lines a v) (record { current = refl; waiting = h.ahead; started = omega arith; told = new_told }))
      (λ c away. rw (update_other cache a (dirty s v) c away, update_other g.lines a v c away)
      (fits_later P P s s log longer c (memory c) (g.lines c) (λ e. g.copies e c) (λ e. g.copies e c) (cache c) (omega arith) (omega arith)
      (λ t z p waits. waits) (λ e z lo hi. new_away c away e z) (λ e hi. refl) (fits c)))

-- ---- a running machine

module _ {N W : ℕ} {b : Durable} {w : Volatile} {g : Reference} (live : Live N W b w g) where
  abbrev P : ℕ
  P = b.persisted

  abbrev s : ℕ
  s = w.running

  abbrev log : List Entry
  log = entries b w

  -- ---- store

  -- Any `from` of P or later serves recovery, before which the log tells the line: P always does, and a dirty line's tag.
  pub mark_live : (a f d v : ℕ) → a < N → b.persisted ≤ f → f < w.running → d ≡ g.lines a
      → ((e : ℕ) → b.persisted ≤ e → e < f → Tells (entries b w) e a (g.copies e a)) → Live N W b (marked w a f d v) (stores g a v)
  mark_live a f d v inside lo hi current told =
      let fit = entry_wider W (omega (arith, live.history.window)) (undo_proper live a f d inside lo hi) in
      record {
        history = rw (← append_assoc) (new_history live.history a f d current told fit v);
        held = λ c. rw (← append_assoc) (new_fits live.history a f d current told b.memory w.cache v live.held c);
      }

  pub store_clean_live : (a v : ℕ) {d : ℕ} → w.cache a ≡ clean d → a < N → Live N W b (marked w a b.persisted d v) (stores g a v)
  store_clean_live a v {d} p inside =
      mark_live a P d v inside (omega arith) live.history.ahead (held_as live a p).0 (λ e lo hi. absurd (omega arith))

  pub store_committed_live : (a v : ℕ) {t d : ℕ} → w.cache a ≡ dirty t d → t < w.running → a < N → Live N W b (marked w a t d v) (stores g a v)
  store_committed_live a v {t} {d} p earlier inside =
      let f = held_as live a p in
      mark_live a t d v inside (omega (arith, f.waiting)) earlier f.current f.told

  -- no entry is due: the log tells every ended epoch already
  pub store_transient_live : (a v : ℕ) {d : ℕ} → w.cache a ≡ dirty w.running d → Live N W b (holding w a (dirty w.running v)) (stores g a v)
  store_transient_live a v p =
      let f = held_as live a p in
      let h = live.history in
      record {
        history = record {
          clock = h.clock;
          ahead = h.ahead;
          window = h.window;
          proper = h.proper;
          past = here_or_there a (λ c. (e : ℕ) → P ≤ e → e < s → recall log e c (update g.lines a v c) ≡ g.copies e c)
              (λ e lo hi. f.told e lo hi (update g.lines a v a))
              (λ c away e lo hi. rw (update_other g.lines a v c away) (h.past c e lo hi));
        };
        held = here_or_there a (λ c. Held b w (stores g a v) c (update w.cache a (dirty s v) c))
            (rw (update_same w.cache a (dirty s v), update_same g.lines a v)
            (record { current = refl; waiting = f.waiting; started = f.started; told = f.told }))
            (λ c away. rw (update_other w.cache a (dirty s v) c away, update_other g.lines a v c away) (live.held c));
      }

  -- ---- fill and discard

  pub fill_live : (a : ℕ) → w.cache a ≡ absent → Live N W b (holding w a (clean (b.memory a))) g
  fill_live a p = record { history = live.history; held = held_update b w g a (clean (b.memory a)) (held_as live a p, refl) live.held }

  pub discard_live : (a : ℕ) {d : ℕ} → w.cache a ≡ clean d → Live N W b (holding w a absent) g
  discard_live a p =
      let f = held_as live a p in
      record { history = live.history; held = held_update b w g a absent (sym f.1 ∙ f.0) live.held }

  -- ---- flush

  pub flush_safe : Safe N W b g → Safe N W (flushed b w) g
  flush_safe safe = record {
    named = safe.named;
    proper = proper_wider N W (suc P) s (P + W) log live.history.window live.history.proper;
    recovers = λ a. undone_memory live a P (omega arith) live.history.ahead (λ t d p. (held_as live a p).waiting);
  }

  pub flush_live : Live N W (flushed b w) (unbuffered w) g
  flush_live = record { history = rw append-nil live.history; held = λ a. rw append-nil (live.held a) }

  -- ---- write-out

  -- the buffer is silent, so the log on the board tells what all entries tell
  pub write_out_safe : Safe N W b g → (a : ℕ) {t d : ℕ} → w.cache a ≡ dirty t d → Logged b w a → Safe N W (written b a d) g
  write_out_safe safe a {t} {d} p silent =
      let f = held_as live a p in
      record {
        named = safe.named;
        proper = safe.proper;
        recovers = here_or_there a (λ c. recovered (written b a d) c ≡ g.copies P c)
            (rw (update_same b.memory a d)
            (ap (recall b.log P a) (sym (silent d)) ∙ sym (recall_append b.log w.buffer P a d) ∙ f.told P (omega arith) f.waiting d))
            (λ c away. rw (update_other b.memory a d c away) (safe.recovers c));
      }

  pub write_out_live : (a : ℕ) {t d : ℕ} → w.cache a ≡ dirty t d → Live N W (written b a d) (holding w a (clean d)) g
  write_out_live a {t} {d} p = record {
    history = live.history;
    held = here_or_there a (λ c. Held (written b a d) w g c (update w.cache a (clean d) c))
        (rw (update_same w.cache a (clean d), update_same b.memory a d) ((held_as live a p).current, refl))
        (λ c away. rw (update_other w.cache a (clean d) c away, update_other b.memory a d c away) (live.held c));
  }

  -- ---- commit

  -- copy s is new, copy P is not
  pub commit_safe : Safe N W b g → Safe N W b (commits g)
  commit_safe safe =
      let ended : b.persisted ≢ g.running = omega (arith, live.history.clock, live.history.ahead) in
      safe_for safe refl (λ a. rw (update_other g.copies g.running g.lines P ended))

  -- no entry covers s, so what the entries tell of s are the current lines
  pub commit_live : w.running < b.persisted + W → Live N W b (next_epoch w) (commits g)
  commit_live room =
      let h = live.history in
      record {
        history = record {
          clock = ap suc h.clock;
          ahead = omega (arith, h.ahead);
          window = room;
          proper = proper_wider N W (suc P) s (suc s) log (omega arith) h.proper;
          past = λ a. here_or_there g.running (λ e. P ≤ e → e < suc s → recall log e a (g.lines a) ≡ (commits g).copies e a)
              (λ lo hi. rw (update_same g.copies g.running g.lines)
              (proper_silent N W (suc P) s g.running a log (omega (arith, h.clock)) h.proper (g.lines a)))
              (λ e old lo hi. rw (update_other g.copies g.running g.lines e old) (h.past a e lo (omega (arith, h.clock))));
        };
        held = λ a. fits_later P P s (suc s) log log a (b.memory a) (g.lines a) (λ e. g.copies e a) (λ e. (commits g).copies e a) (w.cache a)
            (omega arith) (omega arith) (λ t d p waits. waits) (λ e z lo hi. refl)
            (λ e hi. rw (update_other g.copies g.running g.lines e (omega (arith, h.clock)))) (live.held a);
      }

  -- ---- advance

  -- The buffer is empty and no store up to q waits in the cache, so memory, undone back to q, is copy q. What has ended by q is not missed.
  module _ (q : ℕ) (after : b.persisted < q) (before : q < w.running) (empty : w.buffer ≡ []) (scanned : Scanned w q) where
    flat : entries b w ≡ b.log
    flat = rw empty (append-nil b.log)

    left_proper : ProperLog N W (suc q) s (drop_ended q b.log)
    left_proper = proper_drop_ended N W (suc P) s q b.log (rw flat at live.history.proper)

    pub advance_safe : Safe N W (advanced b q) (persists g q)
    advance_safe = record {
      named = refl;
      proper = proper_wider N W (suc q) s (q + W) (drop_ended q b.log) (omega (arith, live.history.window)) left_proper;
      recovers = λ a. recall_drop_ended q b.log q a (b.memory a) (omega arith) ∙ (rw flat at (undone_memory live a q (omega arith) before (scanned a)));
    }

    pub advance_live : Live N W (advanced b q) w (persists g q)
    advance_live = record {
      history = rw (empty, append-nil) record {
        clock = live.history.clock;
        ahead = before;
        window = omega (arith, live.history.window);
        proper = left_proper;
        past = λ a e lo hi. recall_drop_ended q b.log e a (g.lines a) lo ∙ (rw flat at (live.history.past a e (omega arith) hi));
      };
      held = λ a. rw (empty, append-nil)
          (fits_later P q s s b.log (drop_ended q b.log) a (b.memory a) (g.lines a) (λ e. g.copies e a) (λ e. g.copies e a) (w.cache a)
          (omega arith) (omega arith) (λ t d p waits. scanned a t d p) (λ e z lo hi. recall_drop_ended q b.log e a z lo) (λ e hi. refl)
          (rw flat at (live.held a)));
    }
