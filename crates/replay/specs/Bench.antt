-- The replay, "Replay on the bench": what a command prints, and the bench and the memories after it.
use Rattle.std.specs.Prelude.{ℕ, cond, List, Option, Some, None, is_some, get_or}
use Rattle.layout.specs.declared.Control.{Control}
use Rattle.layout.specs.Memory.{control_at, board_words, work_words}
use Rattle.layout.specs.Words.{decode_control}
use Rattle.status.specs.Numbers.{is_ok}
use Rattle.checks.specs.declared.Registers.{Registers}
use Rattle.checks.specs.Registers as registers
use Rattle.picl.specs.declared.Answer.{Answer}
use Rattle.benchboard.specs.Calls.{full_allowance, started}
use Rattle.benchboard.specs.Sizes.{bench_sized}
use Rattle.script.specs.declared.Command.{Command}
use Rattle.script.specs.declared.Command.TheVariants as command
use Rattle.replay.specs.declared.Request.{Request}
use Rattle.replay.specs.declared.Request.TheVariants as request
use Rattle.replay.specs.declared.Line.{Line}
use Rattle.replay.specs.declared.Reply.{Reply}
use Rattle.replay.specs.declared.Reply.TheVariants.{Quiet, Said, Last, Bad}
use Rattle.replay.specs.declared.Bench.{Bench}
use Rattle.replay.specs.declared.Step.{Step}
use Rattle.replay.specs.Calls.{requested, within}

-- a bench of which `n` was done, with the registers that a call returned; "allowance for the next call"
abbrev pub ready_bench : (board_words work_words : ℕ) → Registers → (allowance : ℕ) → Bench
ready_bench n w r allowance = record { board = n; work = w; registers = r; allowance = allowance }

-- before the first line `n` was not done
abbrev pub new_bench : Option Bench
new_bench = None

abbrev pub answered_bench : Bench → Registers → Bench
answered_bench b r = record { board = b.board; work = b.work; registers = r; allowance = full_allowance }

-- "Output: letter, name, value, stores, s, P, log length, b": P and the log length are those of the control word
abbrev pub line_with : Answer → Control → Line
line_with a control =
    record {
      status = a.status;
      value = a.value;
      stores = a.stores;
      epoch = a.registers.epoch;
      persisted = control.persisted;
      length = control.length;
      buffered = a.registers.buffered;
    }

abbrev pub line_of : Answer → (word : ℕ) → Line
line_of a word = line_with a (decode_control word)

-- "a refused `n` ends it after its own line"
abbrev pub start_reply : Line → Reply
start_reply l = cond (is_ok l.status) (Said l) (Last l)

-- what a command prints, and the bench and both memories after it
pub record Effect : Type 0 where
  pub step : Step
  pub board : List ℕ
  pub work : List ℕ

-- "Any other line, larger sizes included, gives `?` .. and ends it"
abbrev pub bad_step : Option Bench → Step
bad_step b = record { bench = b; reply = Bad }

abbrev pub refusing : Option Bench → (board work : List ℕ) → Effect
refusing b board work = record { step = bad_step b; board = board; work = work }

-- "`k count` (allowance for the next call, the last `k` before it counting, no output"
abbrev pub ready_step : Bench → (count : ℕ) → Step
ready_step b count = record { bench = Some (ready_bench b.board b.work b.registers count); reply = Quiet }

-- "first": none comes before `n`
unfoldable pub allowed_step : Option Bench → (count : ℕ) → Step
allowed_step None count = bad_step None
allowed_step (Some b) count = ready_step b count

unfoldable pub allowing : Option Bench → (count : ℕ) → (board work : List ℕ) → Effect
allowing b count board work = record { step = allowed_step b count; board = board; work = work }

-- a request to the board that `n` has formatted, with the bench's registers and allowance
unfoldable pub running : Bench → Request → (board work : List ℕ) → Effect
running b q board work =
    let l = within b.board b.work (requested q b.registers b.allowance) board work in
    record {
      step = record { bench = Some (answered_bench b l.answer.registers); reply = Said (line_of l.answer (get_or l.board control_at 0)) };
      board = l.board;
      work = l.work;
    }

unfoldable pub requesting : Option Bench → Request → (board work : List ℕ) → Effect
requesting None q board work = refusing None board work
requesting (Some b) q board work = running b q board work

unfoldable pub starting : (lines entries slots : ℕ) → (board work : List ℕ) → Effect
starting lines entries slots board work =
    let l = within (board_words lines entries) (work_words slots) (started lines entries) board work in
    record {
      step = record {
        bench = Some (ready_bench (board_words lines entries) (work_words slots) l.answer.registers full_allowance);
        reply = start_reply (line_of l.answer (get_or l.board control_at 0));
      };
      board = l.board;
      work = l.work;
    }

-- "first, once"; "larger sizes included"
unfoldable pub formatting : Option Bench → (lines entries slots : ℕ) → (board work : List ℕ) → Effect
formatting b lines entries slots board work =
    cond (is_some b) (refusing b board work) (cond (bench_sized lines entries slots) (starting lines entries slots board work) (refusing b board work))

-- no command: a bad line
unfoldable pub performed : Option Bench → Option Command → (board work : List ℕ) → Effect
performed b (Some (command.Format lines entries slots)) board work = formatting b lines entries slots board work
performed b (Some (command.Call c)) board work = requesting b (request.Call c) board work
performed b (Some command.PowerUp) board work = requesting b request.PowerUp board work
performed b (Some (command.Allow count)) board work = allowing b count board work
performed b None board work = refusing b board work
