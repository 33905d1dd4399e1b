-- One law for each way out of a function on a session.
use Rattle.std.specs.Prelude.{◌≡◌, ℕ, ◌+◌, ◌%◌, ◌^◌, ◌<◌, ◌≤◌, Bool, true, false, cond, not, List, [], length, take, Option, ◌==◌, ◌≢◌}
use Rattle.std.proofs.Math.Path.{refl}
use Rattle.std.proofs.Common.{sym, ap, ◌∙◌, append-nil, le-leb, leb-true, eq-eqb, ne_eqb, arith}
use Rattle.std.proofs.lemmas.Bool.{not-true, not-false}
use Rattle.std.proofs.Math.Nat.{add-zero}
use Rattle.base.specs.Tests.{cond_true, cond_false}
use Rattle.base.specs.Walk.{first_most, first_least}
use Rattle.script.specs.declared.Command.{Command}
use Rattle.script.specs.declared.Reader.{Reader}
use Rattle.script.specs.Steps.{reader_of, step_of, letter_by, command_by}
use Rattle.replay.specs.declared.Bench.{Bench}
use Rattle.replay.specs.declared.Step.{Step}
use Rattle.replay.specs.Bench.{new_bench, performed}
use Rattle.benchboard.specs.Sizes.{bench_board, bench_work}
use Rattle.replay.specs.Promises.{Performs}
use Rattle.replay.specs.Sizes.{performed_sized}
use Rattle.text.specs.Text.{line_feed}
use Rattle.text.specs.Printing.{Prints}
use Rattle.transcript.specs.declared.Session.{Session}
use Rattle.transcript.specs.declared.Fed.{Fed}
use Rattle.transcript.specs.Text.{reply_text}
use Rattle.transcript.specs.Script.{ends}
use Rattle.transcript.specs.Printing.{longest}
use Rattle.transcript.specs.Session.{new_session, emptied_session, reading_session, closed_session}
use Rattle.transcript.specs.Session.{Machine, machine_of, session_of, Turn, resting, reading, closed, line_turn, feed_turn, closing, finish_turn, fed}
use Rattle.transcript.specs.Session.{roomy, victim_of, Ready, Turns, Feeds}

pub session_new : (b : Option Bench) (reader : Reader) → b ≡ new_bench → reader ≡ reader_of []
    → ◌≡◌ {A = Session} (record { bench = b; reader = reader; number = 1; begun = false; over = false; used = 0 }) new_session
session_new b reader e g = rw (e, g)

pub session_reads : (s : Session) (byte : ℕ) (reader : Reader) → reader ≡ step_of s.reader byte
    → ◌≡◌ {A = Session} (record { bench = s.bench; reader = reader; number = s.number; begun = true; over = s.over; used = s.used }) (reading_session s byte)
session_reads s byte reader e = rw e

-- ── a turn ──

moved : {most : ℕ} {s r : Session} {out board' work' out' : List ℕ} {t u : Turn} → t ≡ u → Turns most s out u board' work' out' r → Turns most s out t board' work' out' r
moved e p = rw e p

module _ (s : Session) (board work out : List ℕ) (ready : Ready s board work out) where
  abbrev given : Machine
  given = machine_of s board work

  -- nothing is printed, and the bench and the memories stay
  pub still : (most : ℕ) → s.used ≤ most → (r : Session) (m : Machine) → r ≡ session_of m s.used → m.state ≡ given.state
      → Turns most s out (resting m) board work out r
  still most h r m e same =
      rw e (record {
        session = ap (session_of m) (sym (add-zero s.used));
        shown = sym (append-nil (take s.used out));
        behind = refl;
        board_left = rw same;
        work_left = rw same;
        kept = record { sized = rw same ready.lent.sized; used_most = h };
      })

  abbrev longer : ℕ
  longer = s.used + longest

  module _ (byte : ℕ) where
    abbrev fed_byte : Turn
    fed_byte = cond (byte == line_feed) (line_turn given) (resting (reading given byte))

    pub feed_over : s.over ≡ true → Turns longer s out (feed_turn given byte) board work out s
    unfolding feed_turn
    feed_over h = moved (cond_true s.over (resting given) fed_byte h) (still longer (omega arith) s given refl refl)

    module _ (h : s.over ≡ false) where
      pub feed_line : (board' work' out' : List ℕ) (r : Session) → byte ≡ line_feed → Turns longer s out (line_turn given) board' work' out' r
          → Turns longer s out (feed_turn given byte) board' work' out' r
      unfolding feed_turn
      feed_line board' work' out' r e p =
          moved
          (cond_false s.over (resting given) fed_byte h
          ∙ cond_true (byte == line_feed) (line_turn given) (resting (reading given byte)) (eq-eqb byte line_feed e)) p

      pub feed_byte : (r : Session) → (byte ≢ line_feed) → r ≡ reading_session s byte → Turns longer s out (feed_turn given byte) board work out r
      unfolding feed_turn
      feed_byte r e p =
          moved
          (cond_false s.over (resting given) fed_byte h
          ∙ cond_false (byte == line_feed) (line_turn given) (resting (reading given byte)) (ne_eqb byte line_feed e))
          (still longer (omega arith) r (reading given byte) p refl)

  abbrev rest : Turn
  rest = cond s.begun (closing (line_turn given)) (resting (closed given))

  pub finish_over : s.over ≡ true → Turns longer s out (finish_turn given) board work out s
  unfolding finish_turn
  finish_over h = moved (cond_true s.over (resting given) rest h) (still longer (omega arith) s given refl refl)

  pub finish_none : (r : Session) → s.over ≡ false → not s.begun ≡ true → r ≡ closed_session s → Turns longer s out (finish_turn given) board work out r
  unfolding finish_turn
  finish_none r h e p =
      moved
      (cond_false s.over (resting given) rest h
      ∙ cond_false s.begun (closing (line_turn given)) (resting (closed given)) (not-true s.begun e))
      (still longer (omega arith) r (closed given) p refl)

pub finish_line : (s t r : Session) (board work out board' work' out' : List ℕ) → s.over ≡ false → not s.begun ≡ false
    → Turns (s.used + longest) s out (line_turn (machine_of s board work)) board' work' out' t → r ≡ closed_session t
    → Turns (s.used + longest) s out (finish_turn (machine_of s board work)) board' work' out' r
unfolding finish_turn
finish_line s t r board work out board' work' out' h e p c =
    let m = machine_of s board work in
    moved
    (cond_false s.over (resting m) (cond s.begun (closing (line_turn m)) (resting (closed m))) h
    ∙ cond_true s.begun (closing (line_turn m)) (resting (closed m)) (not-false s.begun e))
    (rw c (record {
      session = ap closed_session p.session;
      shown = p.shown;
      behind = p.behind;
      board_left = p.board_left;
      work_left = p.work_left;
      kept = record { sized = p.kept.sized; used_most = p.kept.used_most };
    }))

pub line_ended : (s : Session) (board work out board' work' out' : List ℕ) (k : Option Command) (t : Step) (reader : Reader) (letter number used : ℕ) (over : Bool)
    → Ready s board work out → k ≡ command_by s.reader → Performs (performed s.bench k board work) board' work' t → reader ≡ reader_of []
    → number ≡ (s.number + 1) % 2 ^ 64 → over ≡ ends t.reply → letter ≡ letter_by s.reader
    → Prints longest out s.used (reply_text letter t.reply s.number) out' used
    → Turns (s.used + longest) s out (line_turn (machine_of s board work)) board' work' out'
    (record { bench = t.bench; reader = reader; number = number; begun = false; over = over; used = used })
unfolding line_turn
line_ended s board work out board' work' out' k t reader letter number used over ready e p f n o i w =
    let g = rw e at p in
    let said = rw (i, g.step) at w in
    record {
      session = rw (f, n, o, said.end, g.step);
      shown = said.shown;
      behind = said.behind;
      board_left = g.board_left;
      work_left = g.work_left;
      kept = record {
        sized = performed_sized s.bench k board work board' work' t ready.lent.sized p;
        used_most = omega (arith, w.end, w.short);
      };
    }

-- ── a caller's next turn ──

-- the buffer has room as it is
pub ready_roomy : (most : ℕ) (s t : Session) (u : Turn) (board work out board' work' out' : List ℕ) → bench_board ≤ length board → bench_work ≤ length work
    → Turns most s out u board' work' out' t → length board' ≡ length board → length work' ≡ length work → (roomy_now : Bool)
    → roomy_now ≡ roomy t.used (length out') → not roomy_now ≡ false → Ready t board' work' out'
unfolding roomy
ready_roomy most s t u board work out board' work' out' b w p same_board same_work roomy_now e h =
    record {
      lent = record { sized = p.kept.sized; board_length = omega (arith, b, same_board); work_length = omega (arith, w, same_work) };
      room = leb-true (t.used + longest) (length out') (sym e ∙ not-false roomy_now h);
    }

-- and is not overrun by one more turn
pub used_roomy : (s r : Session) (u : Turn) (out board' work' out' : List ℕ) (roomy_now : Bool) → roomy_now ≡ roomy s.used (length out) → not roomy_now ≡ false
    → Turns (s.used + longest) s out u board' work' out' r → length out' ≡ length out → r.used ≤ length out'
unfolding roomy
used_roomy s r u out board' work' out' roomy_now e h p same_out =
    let room = leb-true (s.used + longest) (length out) (sym e ∙ not-false roomy_now h) in
    omega (arith, p.kept.used_most, room, same_out)

-- the caller has emptied it
pub ready_emptied : (most : ℕ) (s t r : Session) (u : Turn) (board work out board' work' out' : List ℕ) → Ready s board work out → Turns most s out u board' work' out' t
    → length board' ≡ length board → length work' ≡ length work → length out' ≡ length out → r ≡ emptied_session t → Ready r board' work' out'
ready_emptied most s t r u board work out board' work' out' ready p same_board same_work same_out e =
    rw e (record {
      lent = record {
        sized = p.kept.sized;
        board_length = omega (arith, ready.lent.board_length, same_board);
        work_length = omega (arith, ready.lent.work_length, same_work);
      };
      room = omega (arith, ready.room, same_out);
    })

-- some bytes were read, if there were any
module _ (s : Session) (input board work out board' work' out' : List ℕ) (r : Fed) (p : Feeds s input board work out board' work' out' r) where
  abbrev room_after : ℕ → Bool
  room_after k = roomy (s.used + length (fed (resting (machine_of s board work)) (take k input)).text) (length out)

  pub taken_most : r.taken ≤ length input
  unfolding victim_of
  taken_most = rw p.taken (first_most room_after (length input))

  pub taken_some : Ready s board work out → 0 < length input → 0 < r.taken
  unfolding victim_of fed roomy
  taken_some ready h =
      rw p.taken (first_least room_after (length input) h (rw add-zero (le-leb (s.used + longest) (length out) ready.room)))

pub ready_new : (s : Session) (board work out : List ℕ) → s ≡ new_session → bench_board ≤ length board → bench_work ≤ length work → longest ≤ length out
    → Ready s board work out
ready_new s board work out e b w h =
    rw e (record { lent = record { sized = tt; board_length = b; work_length = w }; room = omega (arith, h) })

pub ready_used : (s : Session) (board work out : List ℕ) → Ready s board work out → s.used ≤ length out
ready_used s board work out r = omega (arith, r.room)
