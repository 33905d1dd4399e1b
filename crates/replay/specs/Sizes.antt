-- The sizes of a bench stay within its memories, whatever is performed.
use Rattle.std.specs.Prelude.{ℕ, ◌≡◌, refl, Bool, cond, List, Option, Some, None, IfSome, is_some}
use Rattle.std.proofs.Math.Bool.{true, false}
use Rattle.benchboard.specs.Sizes.{bench_sized, board_within, work_within}
use Rattle.script.specs.declared.Command.{Command}
use Rattle.script.specs.declared.Command.TheVariants as command
use Rattle.replay.specs.declared.Request.{Request}
use Rattle.replay.specs.declared.Request.TheVariants as request
use Rattle.replay.specs.declared.Bench.{Bench}
use Rattle.replay.specs.declared.Step.{Step}
use Rattle.replay.specs.Bench.{Effect, refusing, allowed_step, allowing}
use Rattle.replay.specs.Bench.{running, requesting, starting, formatting, performed}
use Rattle.replay.specs.Promises.{Performs, Sized}

module _ (board work : List ℕ) where
  choice_sized : (t : Bool) (e f : Effect) → IfSome e.step.bench Sized → IfSome f.step.bench Sized → IfSome (cond t e f).step.bench Sized
  choice_sized true e f p q = p
  choice_sized false e f p q = q

  allow_sized : (b : Option Bench) → IfSome b Sized → (count : ℕ) → IfSome (allowed_step b count).bench Sized
  unfolding allowed_step
  allow_sized None s count = tt
  allow_sized (Some b) s count = record { board = s.board; work = s.work }

  request_sized : (b : Option Bench) → IfSome b Sized → (q : Request) → IfSome (requesting b q board work).step.bench Sized
  unfolding requesting running
  request_sized None s q = tt
  request_sized (Some b) s q = record { board = s.board; work = s.work }

  start_sized : (lines entries slots : ℕ) → bench_sized lines entries slots ≡ true → IfSome (starting lines entries slots board work).step.bench Sized
  unfolding starting
  start_sized lines entries slots g = record { board = board_within lines entries slots g; work = work_within lines entries slots g }

  format_sized : (b : Option Bench) → IfSome b Sized → (lines entries slots : ℕ) → IfSome (formatting b lines entries slots board work).step.bench Sized
  unfolding formatting
  format_sized b s lines entries slots =
      choice_sized (is_some b) (refusing b board work) (cond (bench_sized lines entries slots) (starting lines entries slots board work) (refusing b board work)) s
      (go (bench_sized lines entries slots) refl)
    where
      go : (t : Bool) → bench_sized lines entries slots ≡ t → IfSome (cond t (starting lines entries slots board work) (refusing b board work)).step.bench Sized
      go true e = start_sized lines entries slots e
      go false e = s

  command_sized : (b : Option Bench) → IfSome b Sized → (k : Option Command) → IfSome (performed b k board work).step.bench Sized
  unfolding performed allowing
  command_sized b s (Some (command.Format lines entries slots)) = format_sized b s lines entries slots
  command_sized b s (Some (command.Call c)) = request_sized b s (request.Call c)
  command_sized b s (Some command.PowerUp) = request_sized b s request.PowerUp
  command_sized b s (Some (command.Allow count)) = allow_sized b s count
  command_sized b s None = s

pub performed_sized : (b : Option Bench) (k : Option Command) (board work board' work' : List ℕ) (t : Step) → IfSome b Sized
    → Performs (performed b k board work) board' work' t → IfSome t.bench Sized
performed_sized b k board work board' work' t s p = rw p.step (command_sized board work b s k)
