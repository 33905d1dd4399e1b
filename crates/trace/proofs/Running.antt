-- One law for each way out of a function.
use Rattle.std.proofs.Common.{◌≡◌, ℕ, ◌-◌, ◌<◌, Bool, true, false, not, leb, List, [], ◌∷◌, length, get_or, take, drop, sym, refl, ap, ◌∙◌, arith, leb-true, eqb, eqb-true}
use mathlib.Core.List.{foldl, foldl-append}
use borrow.Author.Tests.{not-true, not-false}
use Rattle.std.proofs.lemmas.List.{take-append-drop, nil_from_length}
use Rattle.base.specs.Parts.{rest_lent}
use Rattle.base.specs.Tests.{and_left, and_right}
use Rattle.layout.specs.Bytes.{AreBytes}
use Rattle.status.specs.declared.Status.{Status}
use denote.Enum.Bare.{sameb}
use Rattle.std.specs.Prelude.{Option, Some, None, Result, Ok, Err}
use Rattle.status.specs.contracts.Status.{the_type}
use Rattle.status.specs.declared.Status.TheVariants as status
use Rattle.status.specs.Numbers.{is_ok}
use Rattle.status.specs.Tests.{ok_same}
use Rattle.picl.specs.declared.Answer.{Answer}
use Rattle.picl.specs.Promises.{Calls}
use Rattle.benchboard.specs.Calls.{full_allowance, call_of, started, Leaves}
use Rattle.records.specs.declared.Call.{Call}
use Rattle.records.specs.declared.Reader.{Reader}
use Rattle.records.specs.Records.{record_bytes, reading}
use Rattle.records.specs.Steps.{new_reader, is_new, is_full, step_of, reading_by}
use Rattle.records.specs.Laws.{new_reader_holds}
use Rattle.trace.specs.declared.Run.{Run}
use Rattle.trace.specs.declared.Totals.{Totals}
use Rattle.trace.specs.Run.{counted, started_state, called, taken, turn}
use Rattle.trace.specs.Steps.{Machine, machine_of, run_of, new_run, reading_run, ended_run, resting, turned, waiting, stepped, has_record, fed, finished}
use Rattle.trace.specs.Promises.{Runs, Feeds}
use Rattle.trace.specs.Laws.{record_fed}

pub start_runs : (lines entries : ℕ) (board work board' work' : List ℕ) (a : Answer) (r : Run) → Leaves (started lines entries board work) board' work' a
    → r ≡ new_run a.status a.registers → Runs (resting (started_state (started lines entries board work))) board' work' r
start_runs lines entries board work board' work' a r l e =
    record { run = e ∙ ap (λ (x : Answer). new_run x.status x.registers) l.answer; board_left = l.board_left; work_left = l.work_left }

-- ── a record ──

module _ (r : Run) (board work : List ℕ) where
  abbrev given : Machine
  given = machine_of r board work

  pub call_runs : (c : Call) (board' work' : List ℕ) (a : Answer) (t : Totals) (reader : Reader)
      → Calls (call_of c) full_allowance r.registers board work board' work' a → t ≡ counted r.totals c a.stores → reader ≡ new_reader
      → Runs (resting (called given.state c)) board' work' (record { status = r.status; registers = a.registers; totals = t; reader = reader })
  unfolding called
  call_runs c board' work' a t reader p e f =
      record { run = rw (e, f, p.answer); board_left = p.board_left; work_left = p.work_left }

  module _ (x : Result (Option Call) Status) (t : Bool) (differs : t ≡ not (sameb the_type r.status status.Ok)) where
    is : t ≡ not (is_ok r.status)
    is = differs ∙ ap not (ok_same r.status)

    pub take_over : (r' : Run) → t ≡ true → r' ≡ ended_run r r.status → Runs (turned given x) board work r'
    unfolding turn
    take_over r' n e = rw (not-true (is_ok r.status) (sym is ∙ n)) (record { run = e; board_left = refl; work_left = refl })

    module _ (n : t ≡ false) where
      good : is_ok r.status ≡ true
      good = not-false (is_ok r.status) (sym is ∙ n)

      pub take_end : (r' : Run) → x ≡ Ok None → r' ≡ ended_run r r.status → Runs (turned given x) board work r'
      unfolding turn taken
      take_end r' e f = rw (good, e) (record { run = f; board_left = refl; work_left = refl })

      pub take_refused : (status : Status) (r' : Run) → x ≡ Err status → r' ≡ ended_run r status → Runs (turned given x) board work r'
      unfolding turn taken
      take_refused status r' e f = rw (good, e) (record { run = f; board_left = refl; work_left = refl })

      pub take_call : (c : Call) (board' work' : List ℕ) (r' : Run) → x ≡ Ok (Some c) → Runs (resting (called given.state c)) board' work' r'
          → Runs (turned given x) board' work' r'
      unfolding turn taken
      take_call c board' work' r' e p = rw (good, e) p

  -- ── a byte ──

  module _ (byte : ℕ) (next : Reader) (full : Bool) (e : next ≡ step_of r.reader byte) (is : full ≡ is_full next) where
    pub feed_waits : (r' : Run) → not full ≡ true → r' ≡ reading_run r next → Runs (stepped given byte) board work r'
    unfolding stepped
    feed_waits r' n f = rw (← e, ← is, not-true full n) (record { run = f; board_left = refl; work_left = refl })

    pub feed_takes : (x : Result (Option Call) Status) (board' work' : List ℕ) (r' : Run) → not full ≡ false → x ≡ reading_by next → Runs (turned given x) board' work' r'
        → Runs (stepped given byte) board' work' r'
    unfolding stepped
    feed_takes x board' work' r' n f p = rw (← e, ← is, not-false full n, ← f) p

  pub finish_runs : (x : Result (Option Call) Status) (board' work' : List ℕ) (r' : Run) → x ≡ reading_by r.reader → Runs (turned given x) board' work' r'
      → Runs (finished given) board' work' r'
  finish_runs x board' work' r' e p = rw (← e) p

-- ── bytes ──

fed_one : (m : Machine) (input : List ℕ) → 0 < length input → fed m (take 1 input) ≡ stepped m (get_or input 0 0)
unfolding fed
fed_one m [] h = absurd (omega arith)
fed_one m (b ∷ bs) h = refl

module _ (r : Run) (input board work board' work' : List ℕ) (r' : Run) (some : 0 < length input) where
  pub some_byte : Runs (stepped (machine_of r board work) (get_or input 0 0)) board' work' r' → Feeds (machine_of r board work) input board' work' r' 1
  some_byte p = record { some = omega arith; most = omega arith; runs = rw (fed_one (machine_of r board work) input some) p }

  pub some_record : AreBytes input → (x : Result (Option Call) Status) (t : Bool) → t ≡ has_record r.reader (length input) → t ≡ true → x ≡ reading input
      → Runs (turned (machine_of r board work) x) board' work' r' → Feeds (machine_of r board work) input board' work' r' record_bytes
  unfolding has_record
  some_record h x t is n e p =
      let both = sym is ∙ n in
      let fresh = new_reader_holds r.reader (and_left (is_new r.reader) (leb record_bytes (length input)) both) in
      let long = leb-true record_bytes (length input) (and_right (is_new r.reader) (leb record_bytes (length input)) both) in
      let from : machine_of r board work ≡ resting (machine_of r board work).state = ap (waiting (machine_of r board work)) fresh in
      let whole = ap (λ (m : Machine). fed m (take record_bytes input)) from ∙ record_fed (machine_of r board work).state input h long in
      record { some = omega arith; most = long; runs = rw (whole, ← e) p }

-- Feeding the rest from here ends as feeding all does.
pub record Feeding (m : Machine) (input rest board work : List ℕ) (r : Run) : Type 0 where
  pub same : fed (machine_of r board work) rest ≡ fed m input

pub feeding_start : (r : Run) (input board work : List ℕ) → Feeding (machine_of r board work) input input board work r
feeding_start r input board work = record { same = refl }

module _ (m : Machine) (input rest board work : List ℕ) (r : Run) (f : Feeding m input rest board work r) where
  module _ (board' work' : List ℕ) (r' : Run) (taken : ℕ) (p : Feeds (machine_of r board work) rest board' work' r' taken) where
    machine_is : machine_of r' board' work' ≡ fed (machine_of r board work) (take taken rest)
    machine_is j =
        record {
          state = record {
            status = (p.runs.run j).status;
            registers = (p.runs.run j).registers;
            totals = (p.runs.run j).totals;
            board = p.runs.board_left j;
            work = p.runs.work_left j;
          };
          reader = (p.runs.run j).reader;
        }

    -- the part that is lent next is what is behind them
    pub feeding_next : Feeding m input (take (length rest - taken) (drop taken rest)) board' work' r'
    unfolding fed
    feeding_next =
        rw (rest_lent taken rest) (record {
          same = ap (λ (x : Machine). foldl stepped x (drop taken rest)) machine_is
              ∙ sym (foldl-append stepped (machine_of r board work) (take taken rest) (drop taken rest))
              ∙ ap (foldl stepped (machine_of r board work)) (take-append-drop taken rest)
              ∙ f.same;
        })

  pub feeding_end : (t : Bool) → t ≡ eqb (length rest) 0 → not t ≡ false → Runs (fed m input) board work r
  unfolding fed
  feeding_end t is n =
      let none = eqb-true (length rest) 0 (sym is ∙ not-false t n) in
      let all : machine_of r board work ≡ fed m input = rw (nil_from_length rest none) at f.same in
      record {
        run = ap run_of all;
        board_left = ap (λ (x : Machine). x.state.board) all;
        work_left = ap (λ (x : Machine). x.state.work) all;
      }
