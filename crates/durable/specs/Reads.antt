-- What is known of a board that reads as a control word and a durable state, and when another board reads alike. Assumes nothing.
use Rattle.std.specs.Prelude.{ℕ, ◌+◌, ◌≡◌, List, length, get_or}
use Rattle.std.proofs.Common.{sym, ap, ◌∙◌}
use Rattle.layout.specs.declared.Control.{Control}
use Rattle.layout.specs.Memory.{shape_at, lines_at, control_in}
use Rattle.layout.specs.Sizes.{Bounded}
use Rattle.layout.specs.Words.{decode_shape}
use Rattle.undo.specs.declared.LogState.{LogState}
use Rattle.history.specs.Machine.{Durable}
use Rattle.durable.specs.View.{log_of, durable_with, Sized, Reads}
use Rattle.durable.specs.Log.{InLog, log_same, log_unbuffered}

module _ {N L : ℕ} {board : List ℕ} where
  pub reads_bounded : {c : Control} {d : Durable} → Reads N L board c d → Bounded L c
  reads_bounded r = rw (← r.control) r.sized.control

  -- the same state in other words
  pub reads_as : {c : Control} {d d' : Durable} → Reads N L board c d → d ≡ d' → Reads N L board c d'
  reads_as r e = record { sized = r.sized; control = r.control; durable = r.durable ∙ e }

  -- the durable state, by the control word that is known
  pub reads_with : {c : Control} {d : Durable} → Reads N L board c d → durable_with c L board ≡ d
  reads_with r = rw (← r.control) r.durable

  pub reads_persisted : {c : Control} {d : Durable} → Reads N L board c d → c.persisted ≡ d.persisted
  reads_persisted r = ap (λ (b : Durable). b.persisted) (reads_with r)

  -- its log, by the log's numbers that a call carries
  pub reads_log : {d : Durable} (u : LogState) → Reads N L board u.control d → u.entries ≡ L → log_of board u ≡ d.log
  reads_log u r same = sym (log_unbuffered board u) ∙ rw same (ap (λ (b : Durable). b.log) (reads_with r))

-- ---- another board

pub sized_again : {N L : ℕ} {board : List ℕ} (board' : List ℕ) → Sized N L board → length board' ≡ length board
    → get_or board' shape_at 0 ≡ get_or board shape_at 0 → Bounded L (control_in board') → Sized N L board'
sized_again board' s words shape control =
    record {
      sizes = s.sizes;
      words = words ∙ s.words;
      shape = ap decode_shape shape ∙ s.shape;
      control = control;
    }

pub durable_same : (board board' : List ℕ) (u : LogState) → ((p : ℕ) → InLog u p → get_or board' p 0 ≡ get_or board p 0)
    → ((a : ℕ) → get_or board' (lines_at u.entries + a) 0 ≡ get_or board (lines_at u.entries + a) 0)
    → durable_with u.control u.entries board' ≡ durable_with u.control u.entries board
durable_same board board' u words lines =
    let log = log_unbuffered board' u ∙ log_same board board' u words ∙ sym (log_unbuffered board u) in
    λ i. record { persisted = u.control.persisted; log = log i; memory = λ a. lines a i }
