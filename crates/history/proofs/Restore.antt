-- All of power-up's stores make recovery, and after any number of them recovery still gives the same lines. Assumes nothing.
use Rattle.std.specs.Prelude.{◌≡◌, refl, List, [], ◌∷◌, ◌++◌, Bool, true, false, ℕ, ◌<◌, take}
use Rattle.std.proofs.Common.{sym, ap, ◌∙◌}
use Rattle.ranges.specs.Ranges.{covers}
use Rattle.history.specs.Machine.{Entry, covers_at, recall, Told, Durable, written, cleared, restarted, recovered, Restored}
use Rattle.base.specs.Cases.{update}
use Rattle.reference.specs.Machine.{Reference, restarts}
use Rattle.history.specs.Invariant.{Safe, Live}
use Rattle.base.specs.Every.{Every, every_map, every_append, every_take}
use Rattle.base.specs.Cases.{here_or_there, update_same, update_other}
use Rattle.history.proofs.Recall.{covers_at_own, covers_at_none, covers_at_away, recall_twice}
use Rattle.history.proofs.Lines.{written_recovered}
use Rattle.history.proofs.Keeps.{restart_safe, restart_live}
use Rattle.history.specs.Restore.{due, patched, patched_by, restored_all, restored_part}

-- ---- all of them

patched_append : (xs ys : List Entry) (memory : ℕ → ℕ) → patched (xs ++ ys) memory ≡ patched ys (patched xs memory)
unfolding patched
patched_append [] ys memory = refl
patched_append (x ∷ xs) ys memory = patched_append xs ys (update memory x.range.address x.old)

-- The oldest covering entry of a line is stored last, so its data stays: that is `recall`.
pub patched_due : (P : ℕ) (log : List Entry) (memory : ℕ → ℕ) (a : ℕ) → patched (due P log) memory a ≡ recall log P a (memory a)
unfolding due patched recall
patched_due P [] memory a = refl
patched_due P (x ∷ xs) memory a = go (covers x.range P) refl (patched_due P xs memory a)
  where
    newer : ℕ → ℕ
    newer = patched (due P xs) memory

    go : (t : Bool) → covers x.range P ≡ t → newer a ≡ recall xs P a (memory a) → patched (due P (x ∷ xs)) memory a ≡ recall (x ∷ xs) P a (memory a)
    go true p ih = rw (p, patched_append (due P xs) (x ∷ []) memory)
        (here_or_there x.range.address (λ c. newer c ≡ recall xs P c (memory c) → update newer x.range.address x.old c ≡ recall (x ∷ xs) P c (memory c))
        (λ i. rw (update_same newer x.range.address x.old, covers_at_own x P, p))
        (λ c n i. rw (update_other newer x.range.address x.old c n, covers_at_away x P c (λ q. n (sym q))) i)
        a ih)
    go false p ih = rw (p, covers_at_none x P a p) ih

-- then the log may be cleared
pub due_restored : (b : Durable) → Restored (restored_all b)
due_restored b a = rw (patched_due b.persisted b.log b.memory a) (recall_twice b.log b.persisted a (b.memory a))

-- ---- some of them

-- each goes to a line that the log tells
pub due_told : (P : ℕ) (log : List Entry) → Every (λ x. Told log P x.range.address) (due P log)
unfolding due recall
due_told P [] = tt
due_told P (x ∷ xs) = go (covers x.range P) refl
    (every_map (λ y. Told xs P y.range.address) (λ y. Told (x ∷ xs) P y.range.address)
    (λ y t. longer y.range.address t (covers_at x P y.range.address) refl) (due P xs) (due_told P xs))
  where
    longer : (a : ℕ) → Told xs P a → (u : Bool) → covers_at x P a ≡ u → Told (x ∷ xs) P a
    longer a t true p = (x.old, λ d. rw p)
    longer a t false p = (t.0, λ d. rw p (t.1 d))

    go : (u : Bool) → covers x.range P ≡ u → Every (λ y. Told (x ∷ xs) P y.range.address) (due P xs)
        → Every (λ y. Told (x ∷ xs) P y.range.address) (due P (x ∷ xs))
    go true p ih = rw p (every_append (λ y. Told (x ∷ xs) P y.range.address) (due P xs) (x ∷ []) ih ((x.old, λ d. rw (covers_at_own x P, p)), tt))
    go false p ih = rw p ih

-- and each is an entry of the log: so its address is below N (`log_proper`)
pub due_every : (Q : Entry → Type 0) (P : ℕ) (log : List Entry) → Every Q log → Every Q (due P log)
unfolding due
due_every Q P [] h = tt
due_every Q P (x ∷ xs) h = go (covers x.range P) refl (due_every Q P xs h.1)
  where
    go : (u : Bool) → covers x.range P ≡ u → Every Q (due P xs) → Every Q (due P (x ∷ xs))
    go true p ih = rw p (every_append Q (due P xs) (x ∷ []) ih (h.0, tt))
    go false p ih = rw p ih

-- Stores to told lines, of any data and in any order, change nothing that recovery sees.
pub patched_recovered : (b : Durable) (xs : List Entry) → Every (λ x. Told b.log b.persisted x.range.address) xs
    → (a : ℕ) → recovered (patched_by xs b) a ≡ recovered b a
unfolding patched
patched_recovered b [] told a = refl
patched_recovered b (x ∷ xs) told a =
    patched_recovered (written b x.range.address x.old) xs told.1 a ∙ written_recovered b x.range.address x.old told.0 a

-- so power-up may be cut after any of its stores
pub part_recovered : (b : Durable) (n a : ℕ) → recovered (restored_part n b) a ≡ recovered b a
part_recovered b n = patched_recovered b (take n (due b.persisted b.log))
    (every_take (λ x. Told b.log b.persisted x.range.address) n (due b.persisted b.log) (due_told b.persisted b.log))

-- ---- the invariant

module _ {N W : ℕ} {b : Durable} {g : Reference} (safe : Safe N W b g) where
  -- a cut after the first n stores
  pub part_safe : (n : ℕ) → Safe N W (restored_part n b) g
  part_safe n = record { named = safe.named; proper = safe.proper; recovers = λ a. part_recovered b n a ∙ safe.recovers a }

  all_safe : Safe N W (restored_all b) g
  all_safe = record {
    named = safe.named;
    proper = safe.proper;
    recovers = λ a. patched_recovered b (due b.persisted b.log) (due_told b.persisted b.log) a ∙ safe.recovers a;
  }

  -- all of them, and the control word
  pub power_up_safe : Safe N W (cleared (restored_all b)) (restarts g)
  power_up_safe = restart_safe all_safe (due_restored b)

  pub power_up_live : 0 < W → Live N W (cleared (restored_all b)) (restarted b) (restarts g)
  power_up_live positive = restart_live all_safe (due_restored b) positive

  -- "the board's lines are the loom's"
  pub power_up_lines : (a : ℕ) → (restored_all b).memory a ≡ (restarts g).lines a
  power_up_lines a = patched_due b.persisted b.log b.memory a ∙ safe.recovers a ∙ ap (λ (p : ℕ). g.copies p a) safe.named
