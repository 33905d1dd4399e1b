-- What the functions of this crate do, and need, where it takes more than a line.
use Rattle.std.specs.Prelude.{ℕ, ◌-◌, ◌^◌, ◌<◌, ◌≤◌, ◌≡◌, Bool, true, List, leb, length}
use Rattle.std.specs.Int.Count.{ones}
use Rattle.board.specs.declared.Meter.{Meter}
use Rattle.board.specs.Stores.{Ran}
use Rattle.layout.specs.declared.Entry.{Entry}
use Rattle.layout.specs.Limits.{word_bits, epoch_bits, buffer_places, filter_size}
use Rattle.layout.specs.Memory.{lines_at, board_words, buffer_words}
use Rattle.layout.specs.Words.{EntryFits}
use Rattle.undo.specs.declared.LogState.{LogState}
use Rattle.undo.specs.declared.Progress.{Progress}
use Rattle.undo.specs.Filter.{first_bit, second_bit, is_set}
use Rattle.undo.specs.Recovery.{proper_at}
use Rattle.undo.specs.Log.{Sound, log_in, flush_stores, flushed, flushed_buffer, pushed, counted}

-- the two bits of an address
pub record FirstBit (address r : ℕ) : Type 0 where
  pub is : r ≡ first_bit address
  pub below : r < filter_size

pub record SecondBit (address r : ℕ) : Type 0 where
  pub is : r ≡ second_bit address
  pub below : r < filter_size

-- a word whose first bit is bit i of the filter
abbrev pub starts_with_one : ℕ → Bool
starts_with_one word = leb (2 ^ (word_bits - 1)) word

pub record ReadsBit (buffer : List ℕ) (i r : ℕ) : Type 0 where
  pub is : starts_with_one r ≡ is_set buffer i
  pub fits : r < 2 ^ word_bits

-- the ones of a word
pub record CountsOnes (word r : ℕ) : Type 0 where
  pub is : r ≡ ones word
  pub most : r ≤ word_bits

-- a flush of the buffer to the board's log
pub record Flushes (board buffer : List ℕ) (u : LogState) (m : Meter) (board' buffer' : List ℕ) (r : Progress) : Type 0 where
  pub ran : Ran board m (flush_stores u buffer) board' r.meter
  pub undo : r.undo ≡ flushed u
  pub memory : buffer' ≡ flushed_buffer u buffer

pub record FlushReady (board buffer : List ℕ) (u : LogState) : Type 0 where
  pub sound : Sound u
  pub board_words_holds : lines_at u.entries ≤ length board
  pub buffer_words_holds : length buffer ≡ buffer_words

-- one entry more at the buffer's end
pub record Pushes (buffer : List ℕ) (u : LogState) (e : Entry) (old : ℕ) (buffer' : List ℕ) (r : LogState) : Type 0 where
  pub undo : r ≡ counted u
  pub memory : buffer' ≡ pushed buffer u.buffered e old

pub record PushReady (buffer : List ℕ) (u : LogState) (e : Entry) : Type 0 where
  pub fits : EntryFits e
  pub place : u.buffered < buffer_places
  pub buffer_words_holds : length buffer ≡ buffer_words

-- an advance of the persisted epoch
pub record AdvanceReady (board : List ℕ) (u : LogState) (target : ℕ) : Type 0 where
  pub sound : Sound u
  pub board_words_holds : lines_at u.entries ≤ length board
  pub fits : target < 2 ^ epoch_bits

-- a recovery: the log's numbers are sound, and each entry is proper
pub record RecoverReady (board : List ℕ) (u : LogState) (lines : ℕ) : Type 0 where
  pub sound : Sound u
  pub board_words_holds : board_words lines u.entries ≤ length board
  pub proper : (i : ℕ) → i < u.control.length → proper_at (log_in board u) lines i ≡ true
