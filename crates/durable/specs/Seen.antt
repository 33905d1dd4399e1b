-- What a store changes of what the board reads as, by where it goes: to a free place of the ring nothing, to a line that line, to
-- the control word what it says. Every store of a call but format's is one of these. Assumes nothing.
use Rattle.std.specs.Prelude.{ℕ, ◌+◌, ◌<◌, ◌≡◌, ◌≢◌, List, get_or, set}
use Rattle.std.proofs.Common.{sym, ap, ◌∙◌, arith, length-set, get_or-set_same, get_or-set_other}
use Rattle.board.specs.Stores.{Store, one, applied}
use Rattle.board.specs.Laws.{length_applied}
use Rattle.layout.specs.declared.Control.{Control}
use Rattle.layout.specs.Memory.{control_at, shape_at, log_at, lines_at, control_in}
use Rattle.layout.specs.Sizes.{Bounded}
use Rattle.layout.specs.Words.{ControlFits, encode_control, decode_control}
use Rattle.layout.specs.Laws.{control_laws}
use Rattle.undo.specs.declared.LogState.{LogState}
use Rattle.base.specs.Every.{Every, every_map}
use Rattle.history.specs.Machine.{Durable, written}
use Rattle.base.specs.Cases.{update}
use Rattle.base.specs.Cases.{here_or_there, update_same, update_other}
use Rattle.durable.specs.Stores.{applied_away}
use Rattle.durable.specs.View.{undo_with, log_of, durable_with, durable_of, Sized, Reads}
use Rattle.durable.specs.Log.{InLog, Free, word_behind, word_before, free_apart, log_same}
use Rattle.durable.specs.Reads.{sized_again, durable_same}

-- ---- stores to free places of the ring

module _ {N L : ℕ} {board : List ℕ} {d : Durable} (u : LogState) (r : Reads N L board u.control d) (same : u.entries ≡ L)
    (ss : List Store) (free : Every (λ s. Free u s.at) ss) where
  abbrev behind : List ℕ
  behind = applied board ss

  kept : (p : ℕ) → ((q : ℕ) → Free u q → p ≢ q) → get_or behind p 0 ≡ get_or board p 0
  kept p off = applied_away ss board p (every_map (λ s. Free u s.at) (λ s. p ≢ s.at) (λ s f. off s.at f) ss free)

  first_kept : (p : ℕ) → p < log_at → get_or behind p 0 ≡ get_or board p 0
  first_kept p h = kept p (λ q f. omega (arith, word_behind u f.entry q f.word))

  log_kept : (p : ℕ) → InLog u p → get_or behind p 0 ≡ get_or board p 0
  log_kept p g = kept p (λ q f e. free_apart u p (rw (← e) at f) g)

  line_kept : (a : ℕ) → get_or behind (lines_at u.entries + a) 0 ≡ get_or board (lines_at u.entries + a) 0
  line_kept a = kept (lines_at u.entries + a) (λ q f. omega (arith, word_before u f.entry q (omega (arith, f.within)) f.word))

  pub free_reads : Reads N L (applied board ss) u.control d
  free_reads =
      let control : control_in behind ≡ u.control = ap decode_control (first_kept control_at (omega arith)) ∙ r.control in
      let alike : durable_of L behind ≡ durable_of L board =
      rw (control, r.control, ← same) (durable_same board behind u log_kept line_kept) in
      record {
        sized = sized_again behind r.sized (length_applied ss board) (first_kept shape_at (omega arith))
            (rw (control, ← r.control) r.sized.control);
        control = control;
        durable = alike ∙ r.durable;
      }

-- ---- a store to a line

module _ {N L : ℕ} {board : List ℕ} {c : Control} {d : Durable} (r : Reads N L board c d) (a v : ℕ) (inside : a < N) where
  abbrev lined : List ℕ
  lined = set board (lines_at L + a) v

  other_kept : (p : ℕ) → p ≢ lines_at L + a → get_or lined p 0 ≡ get_or board p 0
  other_kept p off = get_or-set_other board (lines_at L + a) p v 0 off

  lined_control : control_in lined ≡ control_in board
  lined_control = ap decode_control (other_kept control_at (omega arith))

  lined_log : log_of lined (undo_with (control_in board) L) ≡ log_of board (undo_with (control_in board) L)
  lined_log =
      let u = undo_with (control_in board) L in
      log_same board lined u (λ p g. other_kept p (omega (arith, word_before u g.entry p r.sized.sizes.entries_some g.word)))

  lined_memory : (b : ℕ) → get_or lined (lines_at L + b) 0 ≡ update (durable_of L board).memory a v b
  lined_memory =
      let memory = (durable_of L board).memory in
      here_or_there a (λ b. get_or lined (lines_at L + b) 0 ≡ update memory a v b)
      (get_or-set_same board (lines_at L + a) v 0 (omega (arith, r.sized.words)) ∙ sym (update_same memory a v))
      (λ b away. other_kept (lines_at L + b) (omega arith) ∙ sym (update_other memory a v b away))

  pub line_reads : Reads N L (applied board (one (lines_at L + a) v)) c (written d a v)
  unfolding applied
  line_reads = record {
    sized = sized_again lined r.sized (length-set board (lines_at L + a) v) (other_kept shape_at (omega arith))
        (rw lined_control r.sized.control);
    control = lined_control ∙ r.control;
    durable = rw (← r.durable, lined_control)
        (λ i. record { persisted = (control_in board).persisted; log = lined_log i; memory = λ b. lined_memory b i });
  }

-- ---- a store of the control word

pub control_reads : {N L : ℕ} {board : List ℕ} → Sized N L board → (c : Control) → Bounded L c
    → Reads N L (applied board (one control_at (encode_control c))) c (durable_with c L board)
unfolding applied
control_reads {N} {L} {board} s c bounded =
    let fits : ControlFits c = omega (arith, s.sizes) in
    let control : control_in board' ≡ c =
    ap decode_control (get_or-set_same board control_at (encode_control c) 0 (omega (arith, s.words))) ∙ control_laws.decode_encode c fits in
    record {
      sized = sized_again board' s (length-set board control_at (encode_control c)) (kept shape_at (omega arith)) (rw control bounded);
      control = control;
      durable = rw control (durable_same board board' (undo_with c L)
          (λ p g. kept p (omega (arith, word_behind (undo_with c L) g.entry p g.word)))
          (λ a. kept (lines_at L + a) (omega arith)));
    }
  where
    board' : List ℕ
    board' = set board control_at (encode_control c)

    kept : (p : ℕ) → p ≢ control_at → get_or (set board control_at (encode_control c)) p 0 ≡ get_or board p 0
    kept p off = get_or-set_other board control_at p (encode_control c) 0 off
