-- That the reader reads what the syntax says: `reads`, for every list of bytes. Before it, the laws that the functions'
-- proofs cite; after it, that the letter is the first byte, and the laws for a caller's loop.
use Prim.Native.Nat.{ℕ, zero, suc, ◌+◌, ◌^◌, ◌≤◌, ◌<◌}
use Rattle.std.specs.Prelude.{◌≡◌, Bool, not, ◌&&◌, ◌||◌, ltb, eqb, length, take, get_or, Option, Some, None, IfSome}
use Rattle.std.proofs.Math.Path.{refl}
use Rattle.std.proofs.Common.{sym, ap, ◌∙◌, take-suc, take_all, add-one}
use Rattle.std.proofs.Math.Bool.{true, false, cond, and-false}
use Rattle.std.proofs.lemmas.Bool.{false≢true}
use mathlib.Core.List.{List, [], ◌∷◌, ◌++◌, map, foldl, foldl-append}
use Rattle.std.proofs.Math.Dec.{eqb-suc-zero}
use native.Mathlib.Omega.{arith}
use borrow.Author.Tests.{lt-ltb, le-ltb, le-leb, lt-leb, eq-eqb, ne_eqb, not-true, not-false, ltb-true, ltb-false}
use Rattle.script.specs.declared.Command.{Command}
use Rattle.script.specs.declared.Line.{Line}
use Rattle.script.specs.declared.Reader.{Reader}
use Rattle.script.specs.Syntax.{Fields, spaced, prefixed, fields, every, is_empty, is_digit, longer, value_of, is_number, command_with, command_in, command_of}
use Rattle.script.specs.Steps.{first_of, second_of, third_of, new_line, next_field, with_letter, with_digit, ended, lettered, digited, line_step, numbers_of, line_command, new_reader, step_in, step_of, letter_by, command_at, command_by, reader_of}

cond_same : {A : Type 0} (t : Bool) (a : A) → cond t a a ≡ a
cond_same true a = refl
cond_same false a = refl

pub ruleset tests = (lt-ltb, le-ltb, le-leb, lt-leb, eq-eqb, ne_eqb)

-- ── a number, digit by digit ──

-- bytes that may follow digits of value v: digits, none of which takes the value to 2^64
fits : ℕ → List ℕ → Bool
fits v [] = true
fits v (b ∷ bs) = is_digit b && (ltb (longer v b) (2 ^ 64) && fits (longer v b) bs)

grows : (bs : List ℕ) (v : ℕ) → v ≤ foldl longer v bs
grows [] v = omega arith
grows (b ∷ bs) v = omega (arith, grows bs (longer v b))

-- the value only grows, so it is below 2^64 at the end where it is so after each digit
fits_is : (bs : List ℕ) (v : ℕ) → v < 2 ^ 64 → every is_digit bs && ltb (foldl longer v bs) (2 ^ 64) ≡ fits v bs
unfolding every fits
fits_is [] v h = lt-ltb v (2 ^ 64) h
fits_is (b ∷ bs) v h = go (is_digit b) (ltb (longer v b) (2 ^ 64)) refl (fits_is bs (longer v b))
  where
    go : (t u : Bool) → ltb (longer v b) (2 ^ 64) ≡ u
        → (longer v b < 2 ^ 64 → every is_digit bs && ltb (foldl longer (longer v b) bs) (2 ^ 64) ≡ fits (longer v b) bs)
        → (t && every is_digit bs) && ltb (foldl longer (longer v b) bs) (2 ^ 64) ≡ t && (u && fits (longer v b) bs)
    go false u e ih = refl
    go true true e ih = ih (ltb-true _ _ e)
    go true false e ih =
        let low : 2 ^ 64 ≤ longer v b = ltb-false _ _ e in
        let high : 2 ^ 64 ≤ foldl longer (longer v b) bs = omega (arith, grows bs (longer v b)) in
        rw (le-ltb (foldl longer (longer v b) bs) (2 ^ 64) high, and-false)

-- whether bs completes a number: digits of value v stand before it, or, where not full, nothing does
goes_on : Bool → ℕ → List ℕ → Bool
goes_on full v bs = (full || not (is_empty bs)) && fits v bs

number_is : (bs : List ℕ) → is_number bs ≡ goes_on false 0 bs
unfolding is_number goes_on
number_is bs = rw (fits_is bs 0 (omega arith))

-- ── what a line asks for of which a reader has read the start ──

-- the line with another count, and with or without a byte in the field that is being read
abbrev line_at : Line → ℕ → Bool → Line
line_at l count full = record { letter = l.letter; count = count; numbers = l.numbers; full = full }

-- the n numbers before the one that is being read
before : ℕ → ℕ → ℕ → List ℕ
before zero first second = []
before (suc zero) first second = second ∷ []
before (suc (suc n)) first second = first ∷ second ∷ []

-- f: the fields of the rest of the line. The first of them continues the field that is being read
meant : Line → Bool → ℕ → Fields → Option Command
meant l false zero f = command_in f.head f.rest
meant l true zero f = command_in (l.letter ∷ f.head) f.rest
meant l full (suc n) f =
    cond (goes_on full (third_of l) f.head && every is_number f.rest)
    (command_with l.letter (before n (first_of l) (second_of l) ++ (foldl longer (third_of l) f.head ∷ map value_of f.rest)))
    None

abbrev meaning : Option Line → Fields → Option Command
meaning None f = None
meaning (Some l) f = meant l l.full l.count f

module _ (l : Line) where
  at_end : (count : ℕ) (full : Bool) → line_command (line_at l count full) ≡ meaning (Some (line_at l count full)) (record { head = []; rest = [] })
  unfolding line_command meant numbers_of command_in goes_on fits every before
  at_end zero false = refl
  at_end zero true = refl
  at_end (suc n) false = refl
  at_end (suc zero) true = refl
  at_end (suc (suc zero)) true = refl
  at_end (suc (suc (suc n))) true = refl

  module _ (f : Fields) where
    at_space : (count : ℕ) (full : Bool) → meaning (ended (line_at l count full)) f ≡ meaning (Some (line_at l count full)) (spaced f)
    unfolding ended meant command_in command_with goes_on fits every before
    at_space zero false = refl
    at_space zero true = rw number_is
    at_space (suc n) false = refl
    at_space (suc zero) true = rw number_is
    at_space (suc (suc zero)) true = rw number_is
    at_space (suc (suc (suc n))) true = rw (le-ltb (suc (suc (suc n))) 3 (omega arith), cond_same)

    at_digit : (b n : ℕ) (full : Bool) → meaning (digited (line_at l (suc n) full) b) f ≡ meaning (Some (line_at l (suc n) full)) (prefixed b f)
    unfolding digited meant goes_on fits every
    at_digit b n full = go full (is_digit b) (ltb (longer (third_of l) b) (2 ^ 64))
      where
        go : (full t u : Bool)
            → meaning (cond (t && u) (Some (with_digit (line_at l (suc n) full) b)) None) f
            ≡ cond ((full || true) && (t && (u && fits (longer (third_of l) b) f.head)) && every is_number f.rest)
            (command_with l.letter (before n (first_of l) (second_of l) ++ (foldl longer (longer (third_of l) b) f.head ∷ map value_of f.rest)))
            None
        go true true true = refl
        go true true false = refl
        go true false u = refl
        go false true true = refl
        go false true false = refl
        go false false u = refl

    -- a byte that is read, and the same byte still to come
    at_byte : (b count : ℕ) (full : Bool)
        → meaning (line_step (line_at l count full) b) f ≡ meaning (Some (line_at l count full)) (cond (eqb b 32) (spaced f) (prefixed b f))
    unfolding line_step lettered meant command_in
    at_byte b count full = go count full (eqb b 32) refl
      where
        go : (count : ℕ) (full t : Bool) → eqb b 32 ≡ t
            → meaning (line_step (line_at l count full) b) f ≡ meaning (Some (line_at l count full)) (cond t (spaced f) (prefixed b f))
        go count full true e = rw e (at_space count full)
        go zero false false e = rw e
        go zero true false e = rw e
        go (suc n) full false e = rw (e, eqb-suc-zero n) (at_digit b n full)

reads_on : (line : List ℕ) (r : Reader) → command_by (foldl step_of r line) ≡ meaning r.line (fields line)
unfolding fields
reads_on [] r = go r.line
  where
    go : (o : Option Line) → command_at o ≡ meaning o (record { head = []; rest = [] })
    go None = refl
    go (Some l) = at_end l l.count l.full
reads_on (b ∷ line) r = reads_on line (step_of r b) ∙ go r.line
  where
    go : (o : Option Line) → meaning (step_in o b) (fields line) ≡ meaning o (cond (eqb b 32) (spaced (fields line)) (prefixed b (fields line)))
    go None = refl
    go (Some l) = at_byte l (fields line) b l.count l.full

-- what the reader answers at the end of a line is what the line asks for
pub reads : (line : List ℕ) → command_by (reader_of line) ≡ command_of line
unfolding command_of meant reader_of
reads line = reads_on line new_reader

-- ── the letter of a line is its first byte ──

-- the line has its letter
record HasLetter (letter : ℕ) (l : Line) : Type 0 where
  some : eqb l.count 0 && not l.full ≡ false
  is : l.letter ≡ letter

-- it keeps it, where it is not bad
letter_kept : (letter : ℕ) (l : Line) (b : ℕ) → HasLetter letter l → IfSome (line_step l b) (HasLetter letter)
unfolding line_step ended lettered digited
letter_kept letter l b h =
    go (eqb b 32) (eqb l.count 0) l.full (ltb l.count 3) (is_digit b && ltb (longer (third_of l) b) (2 ^ 64)) refl refl
  where
    go : (space first full few digit : Bool) → eqb l.count 0 ≡ first → l.full ≡ full
        → IfSome (cond space (cond (full && few) (Some (next_field l)) None)
        (cond first (cond full None (Some (with_letter l b))) (cond digit (Some (with_digit l b)) None))) (HasLetter letter)
    go true first true true digit f g = record { some = rw (add-one, eqb-suc-zero l.count); is = h.is }
    go true first true false digit f g = tt
    go true first false few digit f g = tt
    go false true true few digit f g = tt
    go false true false few digit f g = absurd (false≢true (sym (rw (f, g) at h.some)))
    go false false full few true f g = record { some = rw f; is = h.is }
    go false false full few false f g = tt

letter_begun : (b : ℕ) → IfSome (line_step new_line b) (HasLetter b)
unfolding line_step ended lettered
letter_begun b = go (eqb b 32)
  where
    go : (space : Bool) → IfSome (cond space None (Some (with_letter new_line b))) (HasLetter b)
    go true = tt
    go false = record { some = refl; is = refl }

letter_on : (line : List ℕ) (letter : ℕ) (r : Reader) → IfSome r.line (HasLetter letter) → IfSome (foldl step_of r line).line (HasLetter letter)
letter_on [] letter r h = h
letter_on (b ∷ line) letter r h = letter_on line letter (step_of r b) (go r.line h)
  where
    go : (o : Option Line) → IfSome o (HasLetter letter) → IfSome (step_in o b) (HasLetter letter)
    go None h = tt
    go (Some l) h = letter_kept letter l b h

letter_is : (line : List ℕ) (l : Line) → (reader_of line).line ≡ Some l → letter_by (reader_of line) ≡ get_or line 0 0
unfolding reader_of
letter_is [] l e = refl
letter_is (b ∷ line) l e = rw e (rw e at (letter_on line b (step_of new_reader b) (letter_begun b))).is

-- the reader's letter is the first byte, or the line is bad
pub letter_or_bad : {C : Type 0} (line : List ℕ) → (letter_by (reader_of line) ≡ get_or line 0 0 → C) → (command_of line ≡ None → C) → C
letter_or_bad {C} line good bad = go (reader_of line).line refl
  where
    go : (o : Option Line) → (reader_of line).line ≡ o → C
    go None e = bad (sym (reads line) ∙ ap command_at e)
    go (Some l) e = good (letter_is line l e)

-- ── for a caller's loop over the bytes of a line ──

pub reader_more : (line : List ℕ) (b : ℕ) → reader_of (line ++ (b ∷ [])) ≡ step_of (reader_of line) b
unfolding reader_of
reader_more line b = foldl-append step_of new_reader line (b ∷ [])

-- a turn: the byte at k is read
pub byte_read : (line : List ℕ) (k : ℕ) (r t : Reader) → k < length line → r ≡ reader_of (take k line) → t ≡ step_of r (get_or line k 0)
    → t ≡ reader_of (take (k + 1) line)
byte_read line k r t h e g = rw (add-one, take-suc line k 0, reader_more (take k line) (get_or line k 0), ← e) g

-- the end: every byte is read, and the command is asked for
pub line_read : (line : List ℕ) (k : ℕ) (r : Reader) (c : Option Command) → length line ≤ k → r ≡ reader_of (take k line) → c ≡ command_by r
    → c ≡ command_of line
line_read line k r c h e g = let all : r ≡ reader_of line = rw (take_all k line h) at e in rw (← reads, ← all) g
