-- The board as format leaves it: no epoch persisted but 0, no log, every line zero. Assumes nothing.
use Rattle.std.specs.Prelude.{ℕ, ◌+◌, ◌<◌, ◌≡◌, ◌≢◌, List, [], get_or}
use Rattle.std.proofs.Math.Path.{ap}
use Rattle.std.proofs.Common.{◌∙◌, length-set, get_or-set_same}
use native.Mathlib.Omega.{arith}
use Rattle.std.proofs.Math.ListN.{length, length-replicate}
use Rattle.std.proofs.Math.Seq.{get_or-set_other}
use Rattle.layout.specs.Memory.{control_at, shape_at, lines_at, board_words, shape_for, formatted, control_in, shape_in}
use Rattle.layout.specs.Sizes.{Sizes}
use Rattle.layout.specs.Words.{ShapeFits, encode_shape, decode_control, decode_shape}
use Rattle.layout.specs.Laws.{shape_laws}
use Rattle.layout.specs.ZeroWord.{zero_control, decode_zero_control}
use Rattle.history.specs.Machine.{Durable}
use Rattle.base.specs.Listed.{listed}
use Rattle.durable.specs.Zeros.{zeros, get_d_zeros}
use Rattle.durable.specs.View.{Reads}

-- the board of history's `fresh 0 (λ a. 0)`
abbrev pub blank : Durable
blank = record { persisted = 0; log = []; memory = λ a. 0 }

module _ (N L : ℕ) (sizes : Sizes N L) where
  abbrev board : List ℕ
  board = formatted N L

  zero_word : (p : ℕ) → p ≢ shape_at → get_or board p 0 ≡ 0
  unfolding formatted
  zero_word p off =
      get_or-set_other (zeros (board_words N L)) shape_at p (encode_shape (shape_for N L)) 0 off ∙ get_d_zeros (board_words N L) p

  format_control : control_in board ≡ zero_control
  format_control = ap decode_control (zero_word control_at (omega arith)) ∙ decode_zero_control

  format_shape : shape_in board ≡ shape_for N L
  unfolding formatted
  format_shape =
      let fits : ShapeFits (shape_for N L) = omega arith in
      let room : shape_at < length (zeros (board_words N L)) = simp length-replicate (omega arith) in
      ap decode_shape (get_or-set_same (zeros (board_words N L)) shape_at (encode_shape (shape_for N L)) 0 room)
      ∙ shape_laws.decode_encode (shape_for N L) fits

  pub format_reads : Reads N L (formatted N L) zero_control blank
  unfolding listed formatted
  format_reads = record {
    sized = record {
      sizes = sizes;
      words = simp (length-set, length-replicate);
      shape = format_shape;
      control = rw format_control (omega arith);
    };
    control = format_control;
    durable = rw format_control (λ i. record { persisted = 0; log = []; memory = λ a. zero_word (lines_at L + a) (omega arith) i });
  }
