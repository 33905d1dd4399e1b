-- The texts of records: their frames, and the digits of lines gathered.
use Rattle.std.proofs.Common.{◌≡◌, ℕ, suc, ◌+◌, ◌-◌, ◌*◌, ◌<◌, ◌≤◌, Bool, true, false, cond, not, ◌||◌, eqb, List, [], ◌∷◌, ◌++◌, map, length, get_or, take, drop, sym, refl, ap, ap₂, ◌∙◌, subst, append_assoc, arith, length-append, drop-drop, take_at, drop_at, eq-eqb, ne_eqb, eqb-true}
use mathlib.Core.Bool.{false≢true}
use borrow.Author.Tests.{eqb-false}
use lib.Seq.{sets, sets-eq}
use Rattle.std.specs.Prelude.{IsTrue, ◌↔◌}
use Rattle.std.specs.Char.{to_ascii_lowercase}
use Rattle.base.specs.Every.{Every}
use Rattle.base.specs.Walk.{first_from, first, first_all}
use Rattle.layout.specs.Bytes.{bytes_of_word, AreBytes}
use Rattle.intel_hex.specs.Reading.{place_in}
use Rattle.intel_hex.specs.Records.{digit, byte_digits, digits_of, line_feed, data_type, record_bytes}
use Rattle.intel_hex.specs.Records.{end_text}
use Rattle.intel_hex.specs.Export.{most_text}
use Rattle.intel_hex.specs.Import.{capital, in_capitals, same}
use Rattle.intel_hex.specs.RecordTexts.{same_told, told_same}
use Rattle.intel_hex.specs.Promises.{text_bytes, tail_bytes, colon_mark, Decides, Framed, has_lines, count_for, LineCount, line_digits, zeros, all_read, with_place, gathered}

-- ── frames ──

never : {P : Type 0} → (P → ⊥) → Decides P false
never other = record { sound = λ e. absurd (false≢true e); complete = λ p. absurd (other p) }

module _ (text count kind : List ℕ) where
  pub other_colon : (get_or text 0 0 ≡ colon_mark → ⊥) → Decides (Framed text count kind) false
  other_colon other = never (λ f. other f.colon)

  pub other_count : (get_or text 1 0 ≡ get_or count 0 0 → ⊥) → Decides (Framed text count kind) false
  other_count other = never (λ f. other f.count_high)

  pub other_count_low : (get_or text 2 0 ≡ get_or count 1 0 → ⊥) → Decides (Framed text count kind) false
  other_count_low other = never (λ f. other f.count_low)

  pub other_kind : (get_or text 7 0 ≡ get_or kind 0 0 → ⊥) → Decides (Framed text count kind) false
  other_kind other = never (λ f. other f.kind_high)

  pub other_kind_low : (get_or text 8 0 ≡ get_or kind 1 0 → ⊥) → Decides (Framed text count kind) false
  other_kind_low other = never (λ f. other f.kind_low)

  pub framed_by_feed : get_or text 0 0 ≡ colon_mark → get_or text 1 0 ≡ get_or count 0 0 → get_or text 2 0 ≡ get_or count 1 0 → get_or text 7 0 ≡ get_or kind 0 0
      → get_or text 8 0 ≡ get_or kind 1 0 → Decides (Framed text count kind) (eqb (get_or text (length text - 1) 0) line_feed)
  framed_by_feed c h l k m =
      record {
        sound = λ e.
            record { colon = c; count_high = h; count_low = l; kind_high = k; kind_low = m; feed = eqb-true (get_or text (length text - 1) 0) line_feed e };
        complete = λ f. eq-eqb (get_or text (length text - 1) 0) line_feed f.feed;
      }

-- the texts of two lines, and of one
pub has_least : (n : ℕ) → has_lines n ≡ true → text_bytes bytes_of_word ≤ n
has_least n h = go (eqb n most_text) (eqb n (text_bytes bytes_of_word)) refl refl h
  where
    go : (t u : Bool) → eqb n most_text ≡ t → eqb n (text_bytes bytes_of_word) ≡ u → t || u ≡ true → text_bytes bytes_of_word ≤ n
    go true u e f g = omega (arith, eqb-true n most_text e)
    go false true e f g = omega (arith, eqb-true n (text_bytes bytes_of_word) f)
    go false false e f g = absurd (false≢true g)

pub has_some : (n : ℕ) → has_lines n ≡ true → text_bytes 0 ≤ n
has_some n h = omega (arith, has_least n h)

pub has_one : (n : ℕ) → has_lines n ≡ true → (n ≡ most_text → ⊥) → n ≡ text_bytes bytes_of_word
has_one n h other = go (eqb n most_text) (eqb n (text_bytes bytes_of_word)) refl refl h
  where
    go : (t u : Bool) → eqb n most_text ≡ t → eqb n (text_bytes bytes_of_word) ≡ u → t || u ≡ true → n ≡ text_bytes bytes_of_word
    go true u e f g = absurd (other (eqb-true n most_text e))
    go false true e f g = eqb-true n (text_bytes bytes_of_word) f
    go false false e f g = absurd (false≢true g)

-- a claim about both
pub by_lines : (n : ℕ) → has_lines n ≡ true → (Q : ℕ → Type 0) → Q most_text → Q (text_bytes bytes_of_word) → Q n
by_lines n h Q two one = go (eqb n most_text) refl
  where
    go : (t : Bool) → eqb n most_text ≡ t → Q n
    go true e = subst Q (sym (eqb-true n most_text e)) two
    go false e = subst Q (sym (has_one n h (eqb-false n most_text e))) one

pub line_count : (n : ℕ) → has_lines n ≡ true → (count : ℕ) → count ≡ count_for n → LineCount n count
line_count n h count e =
    record {
      is = e;
      some = rw e (by_lines n h (λ k. 1 ≤ count_for k) (omega arith) (omega arith));
      most = rw e (by_lines n h (λ k. count_for k ≤ record_bytes) (omega arith) (omega arith));
    }

module _ (text : List ℕ) (r : Bool) where
  pub two_framed : length text ≡ most_text → Decides (Framed text (49 ∷ 48 ∷ []) (48 ∷ 48 ∷ [])) r
      → Decides (Framed text (digits_of (count_for (length text) ∷ [])) (digits_of (data_type ∷ []))) r
  unfolding digits_of digit
  two_framed e d = rw e d

  pub one_framed : has_lines (length text) ≡ true → (length text ≡ most_text → ⊥) → Decides (Framed text (48 ∷ 56 ∷ []) (48 ∷ 48 ∷ [])) r
      → Decides (Framed text (digits_of (count_for (length text) ∷ [])) (digits_of (data_type ∷ []))) r
  unfolding digits_of digit
  one_framed h other d = let e = has_one (length text) h other in rw e d

-- ── the digits of lines, gathered ──

-- a part of a list that is lent and comes back as another list
pub part_put : (whole part new : List ℕ) (at end : ℕ) → end ≡ at + length new → at + length new ≤ length whole → part ≡ new
    → take at whole ++ (part ++ drop (end - at) (drop at whole)) ≡ sets whole at new
part_put whole part new at end e fits is =
    let past : at + (end - at) ≡ at + length new = omega (arith, e) in
    let rest : drop (end - at) (drop at whole) ≡ drop (at + length new) whole = drop-drop (end - at) at whole ∙ ap (λ (n : ℕ). drop n whole) past in
    rw (is, rest) (sym (append_assoc (take at whole) new (drop (at + length new) whole)) ∙ sym (sets-eq new whole at fits))

pub with_done : (digits part more : List ℕ) (at : ℕ) → length digits ≡ all_read → at + length more ≤ all_read → part ≡ more
    → take at digits ++ (part ++ drop (at + length more - at) (drop at digits)) ≡ sets digits at more
with_done digits part more at all fits is = part_put digits part more at (at + length more) refl (omega (arith, all, fits)) is

-- a part of a list replaced by as many numbers
pub sets_middle : (before middle after more : List ℕ) (at : ℕ) → at ≡ length before → length more ≡ length middle
    → sets (before ++ (middle ++ after)) at more ≡ before ++ (more ++ after)
sets_middle before middle after more at e m =
    let whole = before ++ (middle ++ after) in
    let fits : at + length more ≤ length whole = rw (length-append before (middle ++ after), length-append middle after) (omega (arith, e, m)) in
    let rest : drop (at + length more) whole ≡ after =
    sym (drop-drop (length more) at whole) ∙ ap (drop (length more)) (drop_at before (middle ++ after) at (sym e))
    ∙ drop_at middle after (length more) (sym m) in
    sets-eq more whole at fits ∙ rw (take_at before (middle ++ after) at (sym e), rest) (append_assoc before more after)

pub place_done : (digits text placed r : List ℕ) (tail : ℕ) → tail ≡ length text - tail_bytes → placed ≡ sets digits (2 * line_digits) (take 4 (drop 3 text))
    → r ≡ sets placed 36 (take (tail + byte_digits - tail) (drop tail text)) → r ≡ with_place digits text
place_done digits text placed r tail t p e =
    let two : tail + byte_digits - tail ≡ byte_digits = omega arith in
    e ∙ rw (two, p, t)

module _ (text one : List ℕ) (o : one ≡ sets (zeros all_read) 0 (take 16 (drop 9 text))) where
  pub one_done : (length text ≡ most_text → ⊥) → (r : List ℕ) → r ≡ with_place one text → r ≡ gathered text
  unfolding gathered
  one_done other r e = e ∙ rw (o, ne_eqb (length text) most_text other)

  pub two_done : length text ≡ most_text → (two r : List ℕ) → two ≡ sets one 16 (take 16 (drop 25 text)) → r ≡ with_place two text → r ≡ gathered text
  unfolding gathered
  two_done most two r t e = e ∙ rw (t, o, eq-eqb (length text) most_text most)

-- ── the end ──

-- By one test of all characters: a character of the end is met in either case exactly where the capital is it.
abbrev characters : ℕ
characters = 256

folds_to : (e c : ℕ) → Bool
folds_to e c = cond (eqb (to_ascii_lowercase c) (to_ascii_lowercase e)) (eqb (capital c) e) (not (eqb (capital c) e))

abbrev Foldable : ℕ → Type 0
Foldable e = characters ≤ first (folds_to e) characters

all_foldable : Every Foldable end_text
unfolding folds_to end_text capital place_in first_from
all_foldable =
    (omega arith, (omega arith, (omega arith, (omega arith, (omega arith, (omega arith, (omega arith, (omega arith, (omega arith, (omega arith, (omega arith, (omega arith, tt))))))))))))

module _ (e : ℕ) (all : Foldable e) (c : ℕ) (byte : c < characters) where
  fold_told : folds_to e c ≡ true
  fold_told = first_all (folds_to e) characters all c byte

  folded_here : to_ascii_lowercase c ≡ to_ascii_lowercase e → capital c ≡ e
  unfolding folds_to
  folded_here is = eqb-true (capital c) e (rw (eq-eqb (to_ascii_lowercase c) (to_ascii_lowercase e) is) at fold_told)

  lowered_here : capital c ≡ e → to_ascii_lowercase c ≡ to_ascii_lowercase e
  unfolding folds_to
  lowered_here is = go (eqb (to_ascii_lowercase c) (to_ascii_lowercase e)) refl (rw (eq-eqb (capital c) e is) at fold_told)
    where
      go : (t : Bool) → eqb (to_ascii_lowercase c) (to_ascii_lowercase e) ≡ t → cond t true false ≡ true → to_ascii_lowercase c ≡ to_ascii_lowercase e
      go true same f = eqb-true (to_ascii_lowercase c) (to_ascii_lowercase e) same
      go false same f = absurd (false≢true f)

head_of : {x y : ℕ} {xs ys : List ℕ} → x ∷ xs ≡ y ∷ ys → x ≡ y
head_of p = ap (λ (l : List ℕ). get_or l 0 0) p

tail_of : {x y : ℕ} {xs ys : List ℕ} → x ∷ xs ≡ y ∷ ys → xs ≡ ys
tail_of p = ap (λ (l : List ℕ). drop 1 l) p

folded_all : (cs es : List ℕ) → AreBytes cs → Every Foldable es → map to_ascii_lowercase cs ≡ map to_ascii_lowercase es → map capital cs ≡ es
folded_all [] [] fine all is = refl
folded_all [] (e ∷ es) fine all is = cc
folded_all (c ∷ cs) [] fine all is = cc
folded_all (c ∷ cs) (e ∷ es) fine all is =
    ap₂ ◌∷◌ (folded_here e all.0 c (fine 0) (head_of is)) (folded_all cs es (λ i. fine (suc i)) all.1 (tail_of is))

lowered_all : (cs es : List ℕ) → AreBytes cs → Every Foldable es → map capital cs ≡ es → map to_ascii_lowercase cs ≡ map to_ascii_lowercase es
lowered_all [] [] fine all is = refl
lowered_all [] (e ∷ es) fine all is = cc
lowered_all (c ∷ cs) [] fine all is = cc
lowered_all (c ∷ cs) (e ∷ es) fine all is =
    ap₂ ◌∷◌ (lowered_here e all.0 c (fine 0) (head_of is)) (lowered_all cs es (λ i. fine (suc i)) all.1 (tail_of is))

pub end_met : (text end : List ℕ) → AreBytes text → end ≡ end_text → (r : Bool)
    → (IsTrue r ↔ (map to_ascii_lowercase text ≡ map to_ascii_lowercase end)) → r ≡ same (in_capitals text) end_text
end_met text end fine is r told = go r (same (in_capitals text) end_text) refl refl
  where
    go : (t u : Bool) → r ≡ t → same (in_capitals text) end_text ≡ u → t ≡ u
    go true true e f = refl
    go false false e f = refl
    go true false e f =
        let folded : in_capitals text ≡ end_text = folded_all text end_text fine all_foldable (rw is at (told.0 e)) in
        absurd (false≢true (sym f ∙ rw folded (told_same end_text)))
    go false true e f =
        let lowered = lowered_all text end_text fine all_foldable (same_told (in_capitals text) end_text f) in
        sym e ∙ told.1 (rw is lowered)
