-- Bytes in any parts print what `Script` says of them.
use Rattle.std.specs.Prelude.{◌≡◌, ℕ, ◌+◌, ◌%◌, ◌^◌, ◌<◌, ◌≤◌, Bool, true, false, cond, not, List, [], ◌∷◌, ◌++◌, length, take, ◌==◌, nat_eq}
use Rattle.std.proofs.Math.Path.{refl, sym, ap}
use Rattle.std.proofs.Common.{◌∙◌, arith}
use Rattle.std.proofs.lemmas.Bool.{false≢true}
use mathlib.Core.List.{foldl, flatten, append_assoc, append-nil}
use Rattle.text.specs.Text.{line_feed}
use Rattle.script.specs.Syntax.{is_empty}
use Rattle.script.specs.Steps.{reader_of, step_of, letter_by, command_by}
use Rattle.script.specs.Laws.{reads, reader_more, letter_or_bad}
use Rattle.replay.specs.Bench.{Effect, performed}
use Rattle.transcript.specs.Text.{reply_text}
use Rattle.transcript.specs.Script.{with_byte, lines_of, State, fresh, effect_of, state_after, ends, letter_of, lines_text, printed}
use Rattle.transcript.specs.Session.{Machine, new_machine, machine_of, Turn, resting, reading, line_turn, feed_turn, finish_turn, joined, fed_byte, fed, finished}
use Rattle.transcript.specs.Session.{new_session, emptied_session, Turns, Feeds}
use Rattle.transcript.specs.Printing.{longest}
use Rattle.transcript.specs.declared.Session.{Session}
use Rattle.transcript.specs.declared.Fed.{Fed}

-- ── lines ──

-- the lines of a script of which these bytes of the first line have been read
opened : (line : List ℕ) → (lines : List (List ℕ)) → List (List ℕ)
opened [] lines = lines
opened (b ∷ line) lines = with_byte b (opened line lines)

opened_more : (line : List ℕ) (b : ℕ) (lines : List (List ℕ)) → opened line (with_byte b lines) ≡ opened (line ++ (b ∷ [])) lines
unfolding opened
opened_more [] b lines = refl
opened_more (x ∷ line) b lines = ap (with_byte x) (opened_more line b lines)

opened_ends : (line : List ℕ) (lines : List (List ℕ)) → opened line ([] ∷ lines) ≡ line ∷ lines
unfolding opened
opened_ends [] lines = refl
opened_ends (x ∷ line) lines = ap (with_byte x) (opened_ends line lines)

opened_last : (b : ℕ) (line : List ℕ) → opened (b ∷ line) [] ≡ (b ∷ line) ∷ []
unfolding opened
opened_last b [] = refl
opened_last b (x ∷ line) = ap (with_byte b) (opened_last x line)

-- ── a line ──

-- the letter that is printed is the line's first byte
pub letter_printed : (s : State) (line : List ℕ) (number : ℕ)
    → reply_text (letter_by (reader_of line)) (effect_of s line).step.reply number ≡ reply_text (letter_of line) (effect_of s line).step.reply number
unfolding effect_of performed reply_text
letter_printed s line number =
    letter_or_bad line
    (λ e. ap (λ (letter : ℕ). reply_text letter (effect_of s line).step.reply number) e)
    (λ e. rw e refl)

-- the turn of a line, as the definition has it
module _ (m : Machine) (line : List ℕ) (number : ℕ) (read : m.reader ≡ reader_of line) (count : m.number ≡ number) where
  line_effect : performed m.state.bench (command_by m.reader) m.state.board m.state.work ≡ effect_of m.state line
  unfolding effect_of
  line_effect = rw (read, reads line)

  line_state : (line_turn m).machine.state ≡ state_after (effect_of m.state line)
  unfolding line_turn
  line_state = ap state_after line_effect

  line_over : (line_turn m).machine.over ≡ ends (effect_of m.state line).step.reply
  unfolding line_turn
  line_over = ap (λ (e : Effect). ends e.step.reply) line_effect

  line_text : (line_turn m).text ≡ reply_text (letter_of line) (effect_of m.state line).step.reply number
  unfolding line_turn
  line_text =
      ap (λ (e : Effect). reply_text (letter_by m.reader) e.step.reply m.number) line_effect
      ∙ rw (read, count) (letter_printed m.state line number)

-- ── a script ──

-- A replay in the middle of its script: it has read these bytes of the line with this number. What it has printed, and
-- what the rest of the script prints, is the whole.
record Midway (t : Turn) (rest whole : List ℕ) : Type 0 where
  line : List ℕ
  number : ℕ
  reader_is : t.machine.reader ≡ reader_of line
  begun_is : t.machine.begun ≡ not (is_empty line)
  number_is : t.machine.number ≡ number % 2 ^ 64
  few : t.machine.over ≡ false → number + length (opened line (lines_of rest)) ≤ 2 ^ 64
  prints : t.text ++ cond t.machine.over [] (lines_text t.machine.state number (opened line (lines_of rest))) ≡ whole

module _ (t : Turn) (rest whole : List ℕ) (w : Midway t rest whole) where
  -- a replay that is over has printed the whole
  midway_over : t.machine.over ≡ true → t.text ≡ whole
  midway_over h = sym (append-nil t.text) ∙ rw h at w.prints

  -- and reads no further
  midway_stays : t.machine.over ≡ true → (more : List ℕ) → Midway t more whole
  midway_stays h more =
      record {
        line = w.line;
        number = w.number;
        reader_is = w.reader_is;
        begun_is = w.begun_is;
        number_is = w.number_is;
        few = λ e. absurd (false≢true (sym e ∙ h));
        prints = rw h (append-nil t.text ∙ midway_over h);
      }

  -- a line that ends here
  module _ (go_on : t.machine.over ≡ false) (lines : List (List ℕ)) (split : opened w.line (lines_of rest) ≡ w.line ∷ lines) where
    abbrev effect : Effect
    effect = effect_of t.machine.state w.line

    count_is : t.machine.number ≡ w.number
    count_is =
        let few : w.number + length (w.line ∷ lines) ≤ 2 ^ 64 = rw split at (w.few go_on) in
        w.number_is ∙ omega (arith, few)

    line_prints : t.text ++ (line_turn t.machine).text ++ cond (ends effect.step.reply) [] (lines_text (state_after effect) (w.number + 1) lines) ≡ whole
    unfolding lines_text
    line_prints =
        rw (line_text t.machine w.line w.number w.reader_is count_is)
        (append_assoc t.text (reply_text (letter_of w.line) effect.step.reply w.number) _ ∙ rw (go_on, split) at w.prints)

joined_rest : (t : Turn) → joined t (resting t.machine) ≡ t
joined_rest t i = record { machine = t.machine; text = append-nil t.text i }

module _ (t : Turn) (b : ℕ) (rest whole : List ℕ) (w : Midway t (b ∷ rest) whole) where
  by_turn : (u : Turn) → feed_turn t.machine b ≡ u → Midway (joined t u) rest whole → Midway (fed_byte t b) rest whole
  by_turn u e m = rw e m

  byte_over : t.machine.over ≡ true → Midway (fed_byte t b) rest whole
  unfolding feed_turn
  byte_over h = by_turn (resting t.machine) (rw h) (rw joined_rest (midway_stays t (b ∷ rest) whole w h rest))

  module _ (h : t.machine.over ≡ false) where
    byte_ends : nat_eq b line_feed ≡ true → Midway (fed_byte t b) rest whole
    unfolding feed_turn line_turn lines_of opened
    byte_ends e =
        let split : opened w.line (lines_of (b ∷ rest)) ≡ w.line ∷ lines_of rest = rw e (opened_ends w.line (lines_of rest)) in
        let counted = count_is t (b ∷ rest) whole w h (lines_of rest) split in
        by_turn (line_turn t.machine) (rw (h, e)) (record {
          line = [];
          number = w.number + 1;
          reader_is = refl;
          begun_is = refl;
          number_is = rw counted;
          few = λ x. omega (arith, rw split at (w.few h));
          prints = rw (line_state t.machine w.line w.number w.reader_is counted, line_over t.machine w.line w.number w.reader_is counted)
              (line_prints t (b ∷ rest) whole w h (lines_of rest) split);
        })

    byte_reads : nat_eq b line_feed ≡ false → Midway (fed_byte t b) rest whole
    unfolding feed_turn lines_of opened
    byte_reads e =
        let split : opened w.line (lines_of (b ∷ rest)) ≡ opened (w.line ++ (b ∷ [])) (lines_of rest) = rw e (opened_more w.line b (lines_of rest)) in
        by_turn (resting (reading t.machine b)) (rw (h, e)) (record {
          line = w.line ++ (b ∷ []);
          number = w.number;
          reader_is = ap (λ r. step_of r b) w.reader_is ∙ sym (reader_more w.line b);
          begun_is = longer_begun w.line;
          number_is = w.number_is;
          few = λ x. rw split at (w.few h);
          prints = rw append-nil (rw split at w.prints);
        })
      where
        longer_begun : (line : List ℕ) → true ≡ not (is_empty (line ++ (b ∷ [])))
        longer_begun [] = refl
        longer_begun (x ∷ line) = refl

  midway_byte : Midway (fed_byte t b) rest whole
  midway_byte = go t.machine.over (b == line_feed) refl refl
    where
      go : (o e : Bool) → t.machine.over ≡ o → (b == line_feed) ≡ e → Midway (fed_byte t b) rest whole
      go true e h f = byte_over h
      go false true h f = byte_ends h f
      go false false h f = byte_reads h f

midway_fed : (bytes : List ℕ) (t : Turn) (rest whole : List ℕ) → Midway t (bytes ++ rest) whole → Midway (fed t bytes) rest whole
unfolding fed
midway_fed [] t rest whole w = w
midway_fed (b ∷ bytes) t rest whole w = midway_fed bytes (fed_byte t b) rest whole (midway_byte t b (bytes ++ rest) whole w)

midway_parts : (parts : List (List ℕ)) (t : Turn) (rest whole : List ℕ) → Midway t (flatten parts ++ rest) whole → Midway (foldl fed t parts) rest whole
unfolding flatten
midway_parts [] t rest whole w = w
midway_parts (part ∷ parts) t rest whole w =
    midway_parts parts (fed t part) rest whole (midway_fed part t (flatten parts ++ rest) whole (rw append_assoc at w))

midway_start : (s : State) (script : List ℕ) → length (lines_of script) < 2 ^ 64 → Midway (resting (new_machine s)) script (lines_text s 1 (lines_of script))
unfolding opened
midway_start s script h =
    record { line = []; number = 1; reader_is = refl; begun_is = refl; number_is = refl; few = λ e. omega arith; prints = refl }

-- the end of the script
midway_end : (t : Turn) (whole : List ℕ) → Midway t [] whole → (finished t).text ≡ whole
unfolding finish_turn line_turn lines_of lines_text opened
midway_end t whole w = go t.machine.over w.line refl refl
  where
    none : (ended : Bool) → ◌≡◌ {A = List ℕ} (cond ended [] []) []
    none true = refl
    none false = refl

    go : (over : Bool) (line : List ℕ) → t.machine.over ≡ over → w.line ≡ line → (finished t).text ≡ whole
    go true line h e = rw h (append-nil t.text ∙ midway_over t [] whole w h)
    go false [] h e =
        let empty : t.machine.begun ≡ false = rw e at w.begun_is in
        rw (h, empty) (rw (h, e) at w.prints)
    go false (b ∷ line) h e =
        let some : t.machine.begun ≡ true = rw e at w.begun_is in
        let split : opened w.line [] ≡ w.line ∷ [] = rw e (opened_last b line) in
        let whole_is = line_prints t [] whole w h [] split in
        rw (h, some) (sym (append-nil (t.text ++ (line_turn t.machine).text)) ∙ rw none at whole_is)

-- ── the laws ──

module _ (parts : List (List ℕ)) where
  abbrev replayed : Turn
  replayed = foldl fed (resting (new_machine fresh)) parts

  -- whatever parts a script comes in, it prints what the definition says
  pub parts_printed : length (lines_of (flatten parts)) < 2 ^ 64 → (finished replayed).text ≡ printed (flatten parts)
  unfolding printed
  parts_printed few =
      midway_end replayed (printed (flatten parts))
      (midway_parts parts (resting (new_machine fresh)) [] (printed (flatten parts)) (rw append-nil (midway_start fresh (flatten parts) few)))

  -- a replay that is over has printed what the definition says, whatever follows
  pub ended_early : (more : List ℕ) → length (lines_of (flatten parts ++ more)) < 2 ^ 64 → replayed.machine.over ≡ true
      → replayed.text ≡ printed (flatten parts ++ more)
  unfolding printed
  ended_early more few h =
      midway_over replayed more (printed (flatten parts ++ more))
      (midway_parts parts (resting (new_machine fresh)) more (printed (flatten parts ++ more)) (midway_start fresh (flatten parts ++ more) few)) h

-- ── a caller of the functions ──

-- A session that has printed so much: the caller has taken these bytes out of the buffer, and the others stand in it.
pub record Stands (t : Turn) (s : Session) (board work out taken_out : List ℕ) : Type 0 where
  pub machine_is : machine_of s board work ≡ t.machine
  pub text_is : t.text ≡ taken_out ++ take s.used out

-- a turn of a session is the next of its replay
turn_stands : (u : Machine → Turn) {most : ℕ} {t : Turn} {s r : Session} {board work out board' work' out' taken_out : List ℕ}
    → Stands t s board work out taken_out → Turns most s out (u (machine_of s board work)) board' work' out' r
    → Stands (joined t (u t.machine)) r board' work' out' taken_out
turn_stands u {t = t} {s = s} {out = out} {taken_out = taken_out} w p =
    let q = rw w.machine_is at p in
    let next = u t.machine in
    record {
      machine_is = rw (q.session, q.board_left, q.work_left);
      text_is = ap (λ (x : List ℕ). x ++ next.text) w.text_is ∙ append_assoc taken_out (take s.used out) next.text
          ∙ ap (λ (x : List ℕ). taken_out ++ x) (sym q.shown);
    }

fed_joined : (bytes : List ℕ) (t u : Turn) → fed (joined t u) bytes ≡ joined t (fed u bytes)
unfolding fed
fed_joined [] t u = refl
fed_joined (b ∷ bytes) t u =
    ap (λ (x : List ℕ). foldl fed_byte (record { machine = (feed_turn u.machine b).machine; text = x }) bytes)
    (append_assoc t.text u.text (feed_turn u.machine b).text)
    ∙ fed_joined bytes t (fed_byte u b)

-- before the first byte
pub stands_new : (s : Session) (board work out : List ℕ) → s ≡ new_session → board ≡ fresh.board → work ≡ fresh.work
    → Stands (resting (new_machine fresh)) s board work out []
stands_new s board work out e b w = rw (e, b, w) (record { machine_is = refl; text_is = refl })

module _ (t : Turn) (s : Session) (board work out taken_out : List ℕ) (w : Stands t s board work out taken_out) where
  -- bytes were fed
  pub stands_fed : (input board' work' out' : List ℕ) (r : Fed) → Feeds s input board work out board' work' out' r
      → Stands (fed t (take r.taken input)) r.session board' work' out' taken_out
  stands_fed input board' work' out' r p =
      rw (← (joined_rest t), fed_joined (take r.taken input) t (resting t.machine))
      (turn_stands (λ m. fed (resting m) (take r.taken input)) w p.turns)

  -- the script was ended
  pub stands_finished : (board' work' out' : List ℕ) (r : Session) → Turns (s.used + longest) s out (finish_turn (machine_of s board work)) board' work' out' r
      → Stands (finished t) r board' work' out' taken_out
  stands_finished board' work' out' r p = turn_stands finish_turn w p

  -- the buffer was emptied
  pub stands_emptied : Stands t (emptied_session s) board work out (taken_out ++ take s.used out)
  stands_emptied = record { machine_is = w.machine_is; text_is = w.text_is ∙ sym (append-nil (taken_out ++ take s.used out)) }

-- what the caller has taken out of the buffer, and what stands in it, is what the script prints
pub caller_printed : (parts : List (List ℕ)) (s : Session) (board work out taken_out : List ℕ) → length (lines_of (flatten parts)) < 2 ^ 64
    → Stands (finished (replayed parts)) s board work out taken_out → taken_out ++ take s.used out ≡ printed (flatten parts)
caller_printed parts s board work out taken_out few w = sym w.text_is ∙ parts_printed parts few
