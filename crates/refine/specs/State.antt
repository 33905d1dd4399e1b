-- Words that hold the invariant of the abstract cache log: a board with the current off, and a running controller.
use Rattle.std.specs.Prelude.{ℕ, ◌+◌, ◌≤◌, ◌≡◌, List}
use Rattle.layout.specs.declared.Control.{Control}
use Rattle.layout.specs.Limits.{last_epoch, buffer_places, most_ahead}
use Rattle.layout.specs.Memory.{buffer_in}
use Rattle.undo.specs.declared.LogState.{LogState}
use Rattle.slots.specs.declared.Bounds.{Bounds}
use Rattle.history.specs.Machine.{Durable}
use Rattle.reference.specs.Machine.{Reference}
use Rattle.history.specs.Invariant.{Safe, Live}
use Rattle.durable.specs.View.{Reads}
use Rattle.volatile.specs.Filter.{Exact}
use Rattle.volatile.specs.Slotted.{Slotted}
use Rattle.volatile.specs.View.{volatile_of}
use Rattle.refine.specs.Pass.{Sweep, Pass}

-- A board of N lines and L log entries that recovers to the reference machine's copy of the persisted epoch: what every cut has to
-- leave.
pub record Off (N L : ℕ) (board : List ℕ) (g : Reference) : Type 0 where
  pub control : Control
  pub durable : Durable
  pub reads : Reads N L board control durable
  pub safe : Safe N most_ahead durable g

-- A controller at work on such a board: the log's numbers u with which a call goes on, and where the scan's pass is.
pub record Ok (L : ℕ) (b : Bounds) (at : Sweep) (board work : List ℕ) (u : LogState) (g : Reference) : Type 0 where
  pub durable : Durable
  pub reads : Reads b.lines L board u.control durable
  pub ring : u.entries ≡ L
  pub slotted : Slotted b work
  pub persisted : b.persisted ≡ durable.persisted
  pub last : b.epoch ≤ last_epoch
  -- "Since room for buffered entries is held back": so a flush always fits
  pub room : u.control.length + u.buffered ≤ L
  pub places : u.buffered ≤ buffer_places
  -- request 3/13: the filter is exactly the bits of the buffered entries
  pub filter : Exact (buffer_in work) u.buffered
  pub pass : Pass b work at
  pub safe : Safe b.lines most_ahead durable g
  pub live : Live b.lines most_ahead durable (volatile_of work b.slots b.epoch u.buffered) g
