-- One law for each way out of a function: its premises are what the code knows there, its conclusion is the contract.
use Rattle.std.specs.Prelude.{ℕ, ◌-◌, ◌≡◌, refl, Bool, true, false, cond, not, List, ◌++◌, Option, Some, None, is_some, get_or, take, drop}
use Rattle.std.proofs.Math.Path.{sym, ap}
use Rattle.std.proofs.Common.{◌∙◌, arith}
use Rattle.std.proofs.lemmas.Bool.{not-true, not-false}
use Rattle.base.specs.Tests.{cond_true, cond_false}
use Rattle.layout.specs.declared.Control.{Control}
use Rattle.layout.specs.Memory.{control_at, board_words, work_words}
use Rattle.layout.specs.Words.{Decoded, ControlFits, decode_control}
use denote.Enum.Bare.{sameb}
use Rattle.status.specs.contracts.Status.{the_type}
use Rattle.status.specs.declared.Status.TheVariants.{Ok}
use Rattle.status.specs.Numbers.{is_ok}
use Rattle.status.specs.Tests.{ok_same}
use Rattle.checks.specs.declared.Registers.{Registers}
use Rattle.checks.specs.Registers as registers
use Rattle.picl.specs.declared.Answer.{Answer}
use Rattle.picl.specs.Answers.{Verdict}
use Rattle.picl.specs.Calls.{power_up_verdict}
use Rattle.picl.specs.Promises.{Answers, Calls}
use Rattle.records.specs.declared.Call.{Call}
use Rattle.benchboard.specs.Calls.{Left, full_allowance, call_of, left, started, Leaves}
use Rattle.benchboard.specs.Sizes.{bench_sized, Sizes, sizes_tested}
use Rattle.script.specs.declared.Command.{Command}
use Rattle.script.specs.declared.Command.TheVariants as command
use Rattle.replay.specs.declared.Request.{Request}
use Rattle.replay.specs.declared.Request.TheVariants as request
use Rattle.replay.specs.declared.Line.{Line}
use Rattle.replay.specs.declared.Reply.{Reply}
use Rattle.replay.specs.declared.Reply.TheVariants.{Said, Last}
use Rattle.replay.specs.declared.Bench.{Bench}
use Rattle.replay.specs.declared.Step.{Step}
use Rattle.replay.specs.Calls.{requested, within}
use Rattle.replay.specs.Bench.{Effect, ready_bench, answered_bench, line_with, line_of, start_reply}
use Rattle.replay.specs.Bench.{bad_step, refusing, ready_step, allowed_step, allowing}
use Rattle.replay.specs.Bench.{running, requesting, starting, formatting, performed}
use Rattle.replay.specs.Promises.{Performs, Lent}

moved : {e f : Effect} {board work : List ℕ} {s : Step} → e ≡ f → Performs f board work s → Performs e board work s
moved p x = rw p x

abbrev still : {e : Effect} {s : Step} → s ≡ e.step → Performs e e.board e.work s
still p = record { step = p; board_left = refl; work_left = refl }

-- ── a request, on the words that it is lent ──

abbrev answered : {allowance : ℕ} {given : Registers} {board work : List ℕ} {v : Verdict} {board' work' : List ℕ} {a : Answer}
    → Answers allowance given board work v board' work' a → Leaves (left allowance given board work v) board' work' a
answered x = record { answer = x.answer; board_left = x.board_left; work_left = x.work_left }

module _ (q : Request) (r : Registers) (allowance : ℕ) (board work board' work' : List ℕ) (a : Answer) where
  pub requested_call : (c : Call) → q ≡ request.Call c → Calls (call_of c) allowance r board work board' work' a
      → Leaves (requested q r allowance board work) board' work' a
  unfolding requested
  requested_call c e p = rw e (answered p)

  pub requested_power_up : q ≡ request.PowerUp → Answers allowance registers.all_zero board work (power_up_verdict board work) board' work' a
      → Leaves (requested q r allowance board work) board' work' a
  unfolding requested
  requested_power_up e p = rw e (answered p)

-- ── what is printed ──

pub line_made : (word : ℕ) (a : Answer) (k : Control) → Decoded ControlFits (decode_control word) k → line_with a k ≡ line_of a word
line_made word a k d = rw d.is

module _ (l : Line) (t : Bool) (same : t ≡ sameb the_type l.status Ok) where
  is : t ≡ is_ok l.status
  is = same ∙ ok_same l.status

  pub reply_last : t ≡ false → Last l ≡ start_reply l
  reply_last h = rw (← is, h)

  pub reply_said : t ≡ true → Said l ≡ start_reply l
  reply_said h = rw (← is, h)

-- ── the bench ──

part_within : (n w : ℕ) (f : List ℕ → List ℕ → Left) (board work part work_part : List ℕ) (a : Answer)
    → Leaves (f (take n board) (take w work)) part work_part a → Leaves (within n w f board work) (part ++ drop n board) (work_part ++ drop w work) a
unfolding within
part_within n w f board work part work_part a l = record { answer = l.answer; board_left = rw l.board_left; work_left = rw l.work_left }

module _ (board work part work_part : List ℕ) (a : Answer) (line : Line) where
  pub ran_within : (b : Bench) (q : Request) (after : Bench)
      → Leaves (requested q b.registers b.allowance (take b.board board) (take b.work work)) part work_part a
      → line ≡ line_of a (get_or (part ++ drop b.board board) control_at 0) → after ≡ answered_bench b a.registers
      → Performs (running b q board work) (part ++ drop b.board board) (work_part ++ drop b.work work) (record { bench = Some after; reply = Said line })
  unfolding running
  ran_within b q after l d g =
      let k = part_within b.board b.work (requested q b.registers b.allowance) board work part work_part a l in
      record { step = rw (g, d, k.answer, k.board_left); board_left = k.board_left; work_left = k.work_left }

  pub start_done : (lines entries slots n w : ℕ) (reply : Reply) → n ≡ board_words lines entries → w ≡ work_words slots
      → Leaves (started lines entries (take n board) (take w work)) part work_part a
      → line ≡ line_of a (get_or (part ++ drop n board) control_at 0) → reply ≡ start_reply line
      → Performs (starting lines entries slots board work) (part ++ drop n board) (work_part ++ drop w work)
      (record { bench = Some (ready_bench n w a.registers full_allowance); reply = reply })
  unfolding starting
  start_done lines entries slots n w reply i j l d g =
      let k = part_within n w (started lines entries) board work part work_part a l in
      rw (← i, ← j) (record { step = rw (g, d, k.answer, k.board_left); board_left = k.board_left; work_left = k.work_left })

module _ (b : Option Bench) (board work : List ℕ) (s : Step) where
  pub request_refused : (q : Request) → b ≡ None → s ≡ bad_step b → Performs (requesting b q board work) board work s
  unfolding requesting
  request_refused q h e = rw h (still (rw h at e))

  pub request_ready : (q : Request) (r : Bench) (board' work' : List ℕ) → b ≡ Some r → Performs (running r q board work) board' work' s
      → Performs (requesting b q board work) board' work' s
  unfolding requesting
  request_ready q r board' work' h p = rw h p

  module _ (lines entries slots : ℕ) (done : Bool) (was : done ≡ is_some b) where
    abbrev sized : Bool → Effect
    sized good = cond good (starting lines entries slots board work) (refusing b board work)

    pub format_again : done ≡ true → s ≡ bad_step b → Performs (formatting b lines entries slots board work) board work s
    unfolding formatting
    format_again h e = moved (cond_true (is_some b) (refusing b board work) (sized (bench_sized lines entries slots)) (sym was ∙ h)) (still e)

    module _ (good : Bool) (is : good ≡ bench_sized lines entries slots) (first : done ≡ false) where
      format_first : formatting b lines entries slots board work ≡ sized good
      unfolding formatting
      format_first = cond_false (is_some b) (refusing b board work) (sized (bench_sized lines entries slots)) (sym was ∙ first) ∙ ap sized (sym is)

      pub format_large : not good ≡ true → s ≡ bad_step b → Performs (formatting b lines entries slots board work) board work s
      format_large h e = moved (format_first ∙ ap sized (not-true good h)) (still e)

      pub format_starts : (board' work' : List ℕ) → not good ≡ false → Performs (starting lines entries slots board work) board' work' s
          → Performs (formatting b lines entries slots board work) board' work' s
      format_starts board' work' h p = moved (format_first ∙ ap sized (not-false good h)) p

pub sizes_good : (lines entries slots : ℕ) (b : Option Bench) (board work : List ℕ) (good : Bool) → good ≡ bench_sized lines entries slots → not good ≡ false
    → Lent b board work → Sizes lines entries slots board work
sizes_good lines entries slots b board work good is h l = sizes_tested lines entries slots board work good is h l.board_length l.work_length

-- ── a command ──

module _ (b : Option Bench) (k : Option Command) (c : Command) (is : k ≡ Some c) where
  pub commanded : (d : Command) (board work board' work' : List ℕ) (s : Step) → c ≡ d → Performs (performed b (Some d) board work) board' work' s
      → Performs (performed b k board work) board' work' s
  commanded d board work board' work' s e p = rw (is, e) p

  pub command_allow : (count : ℕ) (board work : List ℕ) (s : Step) → c ≡ command.Allow count → s ≡ allowed_step b count
      → Performs (performed b k board work) board work s
  unfolding performed allowing
  command_allow count board work s e p = rw (is, e) (still p)
