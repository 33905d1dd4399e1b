-- The words of the log: where they are, which entries' words are apart, and when two boards have the same log. Assumes nothing.
use Rattle.std.specs.Prelude.{ℕ, ◌+◌, ◌/◌, ◌%◌, ◌≤◌, ◌<◌, ◌≡◌, refl, List, get_or}
use Rattle.std.proofs.Common.{ap₂, mod-lt, div-add-mod', mul-le-mul_right, arith}
use Rattle.layout.specs.Memory.{log_at, lines_at}
use Rattle.layout.specs.Words.{decode_entry}
use Rattle.undo.specs.declared.LogState.{LogState}
use Rattle.undo.specs.Log.{place_of, entry_in, old_in}
use Rattle.base.specs.Cases.{below_or_not}
use Rattle.base.specs.Listed.{listed_same}
use Rattle.durable.specs.View.{undo_with, entry_of, entry_at, entry_with, log_of}

-- place p of the board is one of the two words of entry i
pub record WordOf (u : LogState) (i p : ℕ) : Type 0 where
  pub from : log_at + place_of u i ≤ p
  pub till : p ≤ log_at + place_of u i + 1

-- of an entry of the log
pub record InLog (u : LogState) (p : ℕ) : Type 0 where
  pub entry : ℕ
  pub within : entry < u.control.length
  pub word : WordOf u entry p

-- of none, but the ring has room for the entry
pub record Free (u : LogState) (p : ℕ) : Type 0 where
  pub entry : ℕ
  pub behind : u.control.length ≤ entry
  pub within : entry < u.entries
  pub word : WordOf u entry p

-- ---- where the words are

-- behind the two first words of the board
pub word_behind : (u : LogState) (i p : ℕ) → WordOf u i p → log_at ≤ p
word_behind u i p w = omega arith

-- and before the lines
pub word_before : (u : LogState) (i p : ℕ) → 0 < u.entries → WordOf u i p → p < lines_at u.entries
unfolding place_of
word_before u i p some w = omega (arith, mod-lt (u.control.start + i) some)

-- two numbers less than l apart have different remainders
mod_apart : (l x y : ℕ) → x < y → y < x + l → x % l ≡ y % l → ⊥
mod_apart l x y h k e = below_or_not (x / l) (y / l)
    (λ q. omega (arith, div-add-mod' x l, div-add-mod' y l, mul-le-mul_right l q))
    (λ q. omega (arith, div-add-mod' x l, div-add-mod' y l, mul-le-mul_right l q))

-- so entries less than a round apart have no word in common
pub words_apart : (u : LogState) (i j p : ℕ) → i < j → j < i + u.entries → WordOf u i p → WordOf u j p → ⊥
unfolding place_of
words_apart u i j p lo hi v w =
    let start = u.control.start in
    let apart : (start + i) % u.entries ≡ (start + j) % u.entries → ⊥ =
    mod_apart u.entries (start + i) (start + j) (omega arith) (omega arith) in
    omega arith

pub free_apart : (u : LogState) (p : ℕ) → Free u p → InLog u p → ⊥
free_apart u p f g =
    words_apart u g.entry f.entry p (omega (arith, g.within, f.behind)) (omega (arith, f.within)) g.word f.word

-- ---- the same log

pub entry_same : (board board' : List ℕ) (u : LogState) (i : ℕ) → ((p : ℕ) → WordOf u i p → get_or board' p 0 ≡ get_or board p 0)
    → entry_at board' u i ≡ entry_at board u i
unfolding entry_of entry_in old_in
entry_same board board' u i same =
    ap₂ (λ (w old : ℕ). entry_with (decode_entry w) old)
    (same (log_at + place_of u i) (omega arith))
    (same (log_at + place_of u i + 1) (omega arith))

pub log_same : (board board' : List ℕ) (u : LogState) → ((p : ℕ) → InLog u p → get_or board' p 0 ≡ get_or board p 0)
    → log_of board' u ≡ log_of board u
log_same board board' u same = listed_same (entry_at board' u) (entry_at board u) 0 u.control.length
    (λ i lo hi. entry_same board board' u i (λ p w. same p (record { entry = i; within = omega arith; word = w })))

-- how many entries are buffered does not matter
pub log_unbuffered : (board : List ℕ) (u : LogState) → log_of board (undo_with u.control u.entries) ≡ log_of board u
unfolding entry_of entry_in old_in place_of
log_unbuffered board u =
    listed_same (entry_at board (undo_with u.control u.entries)) (entry_at board u) 0 u.control.length (λ i lo hi. refl)
