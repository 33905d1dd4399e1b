-- What is written for an input, one law for each way out of a function.
use Prim.Native.Nat.{ℕ, ◌%◌, ◌<◌}
use mathlib.Core.Path.{◌≡◌, refl, sym, ap, ◌∙◌}
use mathlib.Core.Bool.{Bool, true, false, not, cond, false≢true}
use mathlib.Core.List.{List, [], ◌∷◌}
use native.Mathlib.Omega.{arith}
use borrow.Author.Tests.{eq-eqb, ne_eqb, eqb-true, not-true, not-false}
use lib.Dec.{eqb}
use lib.ListN.{length, get_or, get_or-eq_default}
use Rattle.status.specs.declared.Status.{Status}
use Rattle.status.specs.declared.Status.TheVariants as status
use Rattle.status.specs.Names.{most_letters}
use Rattle.status.specs.Numbers.{is_ok}
use Rattle.layout.specs.declared.Shape.{Shape}
use Rattle.layout.specs.Bytes.{bytes_of_word}
use Rattle.layout.specs.Fields.{width, unpack, decode}
use Rattle.layout.specs.Memory.{shape_at}
use Rattle.layout.specs.Words.{Decoded}
use Rattle.benchboard.specs.Sizes.{bench_board, bench_sized, board_within}
use Rattle.picl.specs.declared.Report.{Report}
use Rattle.text.specs.Printing.{Prints, prints_then}
use Rattle.text.specs.Text.{line_feed, name_text}
use Rattle.image.specs.Image.{image_of}
use Rattle.layout.specs.ByteWords.{words_of, length_words}
use Rattle.convert.specs.Old.{decode_old_shape, OldShapeFits, old_control_in, old_shape_in, old_undo}
use Rattle.convert.specs.Convert.{convertible, Conversion, refused, filled, entries_conversion, conversion, conversion_report, memory_after, Converts}
use Rattle.checks.specs.Laws.{words_told}
use Rattle.convert.specs.Laws.{convertible_told, is_filled, ok_filled}
use Rattle.loomconvert.specs.Output.{no_slots, refusal_text, conversion_text, words_text, output, most_refusal, most_output}

pub refusal_put : (s : Status) (at end r : ℕ) (out out' out'' : List ℕ) → Prints most_letters out at (name_text s) out' end
    → Prints 1 out' end (line_feed ∷ []) out'' r → Prints most_refusal out at (refusal_text s) out'' r
unfolding refusal_text
refusal_put s at end r out out' out'' p q = prints_then p q

-- a conversion: the status says which text is due
module _ (v : Conversion) (told : is_ok (conversion_report v).status ≡ is_filled v) (report : Report) (is : report ≡ conversion_report v) where
  text_refused : (report.status ≡ status.Ok → ⊥) → conversion_text v ≡ refusal_text report.status
  text_refused n = go v is
    where
      go : (w : Conversion) → report ≡ conversion_report w → conversion_text w ≡ refusal_text report.status
      go (refused why value) e = ap (λ (x : Report). refusal_text x.status) (sym e)
      go (filled words) e = absurd (n (ap (λ (x : Report). x.status) e))

  text_filled : (board board' : List ℕ) → board' ≡ memory_after board v → report.status ≡ status.Ok → conversion_text v ≡ image_of board'
  text_filled board board' m y = go v told is m
    where
      go : (w : Conversion) → is_ok (conversion_report w).status ≡ is_filled w → report ≡ conversion_report w → board' ≡ memory_after board w → conversion_text w ≡ image_of board'
      go (refused why value) t e x = absurd (false≢true (sym t ∙ ap (λ (z : Report). is_ok z.status) (sym e) ∙ ap is_ok y))
      go (filled words) t e x = ap image_of (sym x)

-- the sizes
module _ (old : List ℕ) where
  pub sizes_short : length old < 2 → true ≡ bench_sized (old_shape_in old).lines (old_shape_in old).entries no_slots
  unfolding bench_sized decode unpack width
  sizes_short h = rw (get_or-eq_default old 0 {n = 1} (omega arith))

  pub sizes_told : (s : Shape) (r : Bool) → Decoded OldShapeFits (decode_old_shape (get_or old shape_at 0)) s
      → r ≡ bench_sized s.lines s.entries no_slots → r ≡ bench_sized (old_shape_in old).lines (old_shape_in old).entries no_slots
  sizes_told s r d x = rw (← d.is) x

pub words_unsized : (old : List ℕ) (t : Bool) → t ≡ bench_sized (old_shape_in old).lines (old_shape_in old).entries no_slots → not t ≡ true
    → words_text old ≡ refusal_text status.Shape
unfolding words_text
words_unsized old t test h = rw (← test, not-true t h)

module _ (old board board' : List ℕ) (report : Report) (same : length board ≡ length old) (t : Bool)
    (test : t ≡ bench_sized (old_shape_in old).lines (old_shape_in old).entries no_slots) (sized : not t ≡ false)
    (converts : Converts board (conversion old (length board)) board' report) where
  text_is : words_text old ≡ conversion_text (conversion old (length board))
  unfolding words_text
  text_is = rw (← test, not-false t sized, same)

  pub words_refused : (report.status ≡ status.Ok → ⊥) → words_text old ≡ refusal_text report.status
  words_refused n = text_is ∙ text_refused (conversion old (length board)) (ok_filled old (length board)) report converts.answer n

  pub words_filled : report.status ≡ status.Ok → words_text old ≡ image_of board'
  words_filled y = text_is ∙ text_filled (conversion old (length board)) (ok_filled old (length board)) report converts.answer board board' converts.memory y

-- an input that is longer than any image of the replay's sizes is no such image
large_refused : (old : List ℕ) → bench_board < length old → words_text old ≡ refusal_text status.Shape
unfolding words_text conversion
large_refused old h =
    go (bench_sized s.lines s.entries no_slots) (convertible (length old) (length old) s (old_control_in old)) refl refl
  where
    s : Shape
    s = old_shape_in old

    go : (t u : Bool) → bench_sized s.lines s.entries no_slots ≡ t → convertible (length old) (length old) s (old_control_in old) ≡ u
        → cond t (conversion_text (cond u (entries_conversion old (old_undo s (old_control_in old)) s.lines) (refused status.Shape 0))) (refusal_text status.Shape)
        ≡ refusal_text status.Shape
    go false u e f = refl
    go true false e f = refl
    go true true e f =
        let most = board_within s.lines s.entries no_slots e in
        let told = convertible_told (length old) (length old) s (old_control_in old) f in
        let words = words_told (length old) s.lines s.entries told.sizes in
        absurd (omega (arith, most, words))

pub long_refused : (input : List ℕ) → most_output < length input → output input ≡ refusal_text status.Shape
unfolding output
long_refused input h = go (eqb (length input % bytes_of_word) 0) refl
  where
    go : (t : Bool) → eqb (length input % bytes_of_word) 0 ≡ t
        → cond t (words_text (words_of input)) (refusal_text status.Shape) ≡ refusal_text status.Shape
    go true e =
        let whole : length input % bytes_of_word ≡ 0 = eqb-true (length input % bytes_of_word) 0 e in
        large_refused (words_of input) (rw (length_words input) (omega arith))
    go false e = refl

pub part_refused : (input : List ℕ) → (length input % bytes_of_word ≡ 0 → ⊥) → output input ≡ refusal_text status.Shape
unfolding output
part_refused input h = rw (ne_eqb (length input % bytes_of_word) 0 h)

pub output_whole : (input : List ℕ) → length input % bytes_of_word ≡ 0 → output input ≡ words_text (words_of input)
unfolding output
output_whole input h = rw (eq-eqb (length input % bytes_of_word) 0 h)
