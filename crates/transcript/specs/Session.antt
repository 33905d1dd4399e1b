-- How the code does what `Script` says: a replay between two bytes of its script, what each byte does, and what the end
-- of the script does. That bytes in any parts print what `Script` says of them is `parts_printed`, in `Parts`.
use Rattle.std.specs.Prelude.{◌≡◌, ℕ, ◌+◌, ◌%◌, ◌^◌, ◌≤◌, Bool, true, false, cond, List, [], ◌++◌, length, take, drop, IfSome, ◌==◌, nat_le}
use mathlib.Core.List.{foldl}
use Rattle.base.specs.Walk.{first}
use Rattle.text.specs.Text.{line_feed}
use Rattle.script.specs.declared.Reader.{Reader}
use Rattle.script.specs.Steps.{reader_of, step_of, letter_by, command_by}
use Rattle.replay.specs.Bench.{new_bench, performed}
use Rattle.replay.specs.Promises.{Sized, Lent}
use Rattle.transcript.specs.declared.Session.{Session}
use Rattle.transcript.specs.declared.Fed.{Fed}
use Rattle.transcript.specs.Text.{reply_text}
use Rattle.transcript.specs.Script.{State, state_after, ends}
use Rattle.transcript.specs.Printing.{longest}

-- a replay between two bytes: the state between two lines, and so much of the next line
pub record Machine : Type 0 where
  pub state : State
  pub reader : Reader
  pub number : ℕ
  pub begun : Bool
  pub over : Bool

abbrev pub new_machine : State → Machine
new_machine s = record { state = s; reader = reader_of []; number = 1; begun = false; over = false }

-- as the code has it: the two memories are lent, and the rest is one value, with how much of the buffer is in use
abbrev pub machine_of : Session → (board work : List ℕ) → Machine
machine_of s board work =
    record {
      state = record { bench = s.bench; board = board; work = work };
      reader = s.reader;
      number = s.number;
      begun = s.begun;
      over = s.over;
    }

abbrev pub session_of : Machine → (used : ℕ) → Session
session_of m used =
    record { bench = m.state.bench; reader = m.reader; number = m.number; begun = m.begun; over = m.over; used = used }

abbrev pub new_session : Session
new_session = record { bench = new_bench; reader = reader_of []; number = 1; begun = false; over = false; used = 0 }

abbrev pub emptied_session : Session → Session
emptied_session s = record { bench = s.bench; reader = s.reader; number = s.number; begun = s.begun; over = s.over; used = 0 }

abbrev pub reading_session : Session → (byte : ℕ) → Session
reading_session s byte =
    record { bench = s.bench; reader = step_of s.reader byte; number = s.number; begun = true; over = s.over; used = s.used }

abbrev pub closed_session : Session → Session
closed_session s = record { bench = s.bench; reader = s.reader; number = s.number; begun = false; over = true; used = s.used }

-- one more byte of the line that is being read
abbrev pub reading : Machine → (byte : ℕ) → Machine
reading m byte = record { state = m.state; reader = step_of m.reader byte; number = m.number; begun = true; over = m.over }

-- the script is at its end
abbrev pub closed : Machine → Machine
closed m = record { state = m.state; reader = m.reader; number = m.number; begun = false; over = true }

-- what is printed, and the replay after it
pub record Turn : Type 0 where
  pub machine : Machine
  pub text : List ℕ

abbrev pub resting : Machine → Turn
resting m = record { machine = m; text = [] }

-- the end of a line: its command is performed, and the next line begins. No script has 2^64 lines
unfoldable pub line_turn : Machine → Turn
line_turn m =
    let e = performed m.state.bench (command_by m.reader) m.state.board m.state.work in
    record {
      machine = record {
        state = state_after e;
        reader = reader_of [];
        number = (m.number + 1) % 2 ^ 64;
        begun = false;
        over = ends e.step.reply;
      };
      text = reply_text (letter_by m.reader) e.step.reply m.number;
    }

unfoldable pub feed_turn : Machine → (byte : ℕ) → Turn
feed_turn m byte = cond m.over (resting m) (cond (byte == line_feed) (line_turn m) (resting (reading m byte)))

abbrev pub closing : Turn → Turn
closing t = record { machine = closed t.machine; text = t.text }

-- a last line with no line feed is a line, if it has a byte
unfoldable pub finish_turn : Machine → Turn
finish_turn m = cond m.over (resting m) (cond m.begun (closing (line_turn m)) (resting (closed m)))

-- one turn, and another from where it ended
abbrev pub joined : Turn → Turn → Turn
joined t u = record { machine = u.machine; text = t.text ++ u.text }

abbrev pub fed_byte : Turn → (byte : ℕ) → Turn
fed_byte t byte = joined t (feed_turn t.machine byte)

-- more bytes, one after the other
unfoldable pub fed : Turn → (bytes : List ℕ) → Turn
fed t bytes = foldl fed_byte t bytes

-- the end of the script
abbrev pub finished : Turn → Turn
finished t = joined t (finish_turn t.machine)

-- whether a buffer of so many bytes, some of them in use, has room for one more line
unfoldable pub roomy : (used bytes : ℕ) → Bool
roomy used bytes = nat_le (used + longest) bytes

-- how many bytes of the input are read: one is read where one more line would fit
unfoldable pub victim_of : Machine → (input : List ℕ) → (used bytes : ℕ) → ℕ
victim_of m input used bytes = first (λ k. roomy (used + length (fed (resting m) (take k input)).text) bytes) (length input)

-- The memories and the buffer are large enough for the next byte.
pub record Ready (s : Session) (board work out : List ℕ) : Type 0 where
  pub lent : Lent s.bench board work
  pub room : s.used + longest ≤ length out

-- The sizes of the bench lie within its memories, and so much of the buffer is in use at most.
pub record Open (s : Session) (most : ℕ) : Type 0 where
  pub sized : IfSome s.bench Sized
  pub used_most : s.used ≤ most

-- The turn that was taken: the replay and the memories are those of the turn, and its text stands in the buffer behind
-- what was in use. What stands behind the text is kept. So much of the buffer is then in use at most.
pub record Turns (most : ℕ) (s : Session) (out : List ℕ) (t : Turn) (board' work' out' : List ℕ) (r : Session) : Type 0 where
  pub session : r ≡ session_of t.machine (s.used + length t.text)
  pub shown : take r.used out' ≡ take s.used out ++ t.text
  pub behind : drop r.used out' ≡ drop r.used out
  pub board_left : board' ≡ t.machine.state.board
  pub work_left : work' ≡ t.machine.state.work
  pub kept : Open r most

-- As many bytes were read as there was room for.
pub record Feeds (s : Session) (input board work out board' work' out' : List ℕ) (r : Fed) : Type 0 where
  pub taken : r.taken ≡ victim_of (machine_of s board work) input s.used (length out)
  pub turns : Turns (length out) s out (fed (resting (machine_of s board work)) (take r.taken input)) board' work' out' r.session
