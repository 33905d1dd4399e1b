-- The log's numbers stay sound from step to step, and what a proper entry tells.
use Rattle.std.specs.Prelude.{ℕ, ◌+◌, ◌<◌, ◌≤◌, ◌≡◌, true, List, ltb}
use Rattle.std.proofs.Common.{arith}
use borrow.Author.Tests.{ltb-true, leb-true}
use Rattle.base.specs.Walk.{first_all}
use Rattle.base.specs.Tests.{and_left, and_right, held}
use Rattle.ranges.specs.Ranges.{proper_facts}
use Rattle.layout.specs.declared.Entry.{Entry}
use Rattle.layout.specs.Limits.{buffer_places, most_ahead}
use Rattle.layout.specs.Words.{formed}
use Rattle.undo.specs.declared.LogState.{LogState}
use Rattle.undo.specs.Entries.{range_of, proper_word, proper_entry}
use Rattle.undo.specs.Recovery.{Log, older_till, proper_at}
use Rattle.undo.specs.Log.{Sound, buffered_in, buffered_proper, buffer_proper, counted, flushed}

pub sound_counted : (u : LogState) → Sound u → u.buffered < buffer_places → u.control.length + u.buffered + 1 ≤ u.entries → Sound (counted u)
sound_counted u s h g = omega (arith, s)

pub sound_flushed : (u : LogState) → Sound u → Sound (flushed u)
unfolding flushed
sound_flushed u s = omega (arith, s)

-- the range of an entry that is formed is not empty
pub formed_nonempty : (e : Entry) → formed e ≡ true → (range_of e).from < (range_of e).till
unfolding formed
formed_nonempty e h =
    let some : 1 ≤ e.span = search held depth 12 in
    let within : e.span ≤ e.till = search held depth 12 in
    omega arith

-- "only spans 1 to 16"
pub formed_spans : (e : Entry) → formed e ≡ true → (1 ≤ e.span) × (e.span ≤ most_ahead)
unfolding formed
formed_spans e h = (search held depth 12, search held depth 12)

-- a proper buffered entry is formed, as a proper one of the log is
pub buffered_formed : (buffer : List ℕ) (count lines epoch : ℕ) → buffer_proper buffer count lines epoch ≡ true
    → (i : ℕ) → i < count → formed (buffered_in buffer i) ≡ true
unfolding buffer_proper buffered_proper proper_word
buffered_formed buffer count lines epoch h i below =
    and_left (formed (buffered_in buffer i)) _ (first_all (buffered_proper buffer lines epoch) count (leb-true _ _ h) i below)

-- what recovery knows of a proper entry
module _ (log : Log) (lines i : ℕ) (proper : proper_at log lines i ≡ true) where
  tested : proper_entry lines log.persisted (older_till log i) (log.range i) ≡ true
  unfolding proper_at
  tested = and_right (log.formed i) _ proper

  pub proper_formed : log.formed i ≡ true
  unfolding proper_at
  proper_formed = and_left _ _ proper

  pub proper_named : (log.range i).address < lines
  unfolding proper_entry
  proper_named = (proper_facts lines _ _ (log.range i) (and_right (ltb log.persisted (log.range i).till) _ tested)).inside

  pub proper_till : log.persisted < (log.range i).till
  unfolding proper_entry
  proper_till = ltb-true _ _ (and_left _ _ tested)
