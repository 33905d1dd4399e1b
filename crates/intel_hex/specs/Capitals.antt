-- "in either case of digits": texts that are the same in capitals are taken alike, in one call (`report_alike`,
-- `reader_alike`, `board_alike`) and as a file (`imports_alike`). Such are a file and the same with small letters at any
-- places (`file_small`). What 7/13 writes is in capitals (`file_capitals`).
use Rattle.std.specs.Prelude.{◌≡◌, ℕ, suc, ◌/◌, ◌%◌, ◌^◌, Bool, true, false, cond, List, [], ◌∷◌, ◌++◌, map, ◌==◌, slice_index_or, refl}
use Rattle.std.proofs.Common.{sym, ap, ap₂, ◌∙◌, eqb-true}
use Rattle.std.proofs.lemmas.List.{map-append}
use Rattle.std.proofs.Math.ListN.{get_or-map}
use Rattle.base.specs.Cases.{either}
use Rattle.base.specs.Every.{Every}
use Rattle.status.specs.Names.{bytes}
use Rattle.checks.specs.Laws.{differ}
use Rattle.intel_hex.specs.declared.Reader.{Reader}
use Rattle.intel_hex.specs.Records.{digit, digit_bits, digits_of, line_feed, text_of, checked, record_text, records_of}
use Rattle.intel_hex.specs.Contents.{digits}
use Rattle.intel_hex.specs.Reading.{place_in, before_check}
use Rattle.intel_hex.specs.Laws.{every_record}
use Rattle.intel_hex.specs.Import.{small_digits, capital, in_capitals, import_checked, import_report, import_reader, import_stores, import_board}
use Rattle.intel_hex.specs.Import.{Importing, behind_text, imported, reports_of}

-- ---- small letters

-- a capital letter that is a digit as the small one, and every other character as it is
unfoldable pub small : ℕ → ℕ
small c = slice_index_or small_digits (place_in digits c) c

-- a text with the digits at some places small
unfoldable pub with_small : (at : ℕ → Bool) (text : List ℕ) → List ℕ
with_small at [] = []
with_small at (c ∷ cs) = cond (at 0) (small c) c ∷ with_small (λ i. at (suc i)) cs

-- characters exchanged for others that are the same in capitals
exchanged : (xs ys : List ℕ) → in_capitals ys ≡ in_capitals xs → (c : ℕ) → capital (slice_index_or ys (place_in xs c) c) ≡ capital c
unfolding place_in
exchanged [] [] e c = refl
exchanged [] (y ∷ ys) e c = absurd (differ cc)
exchanged (x ∷ xs) [] e c = absurd (differ cc)
exchanged (x ∷ xs) (y ∷ ys) e c = go (c == x) refl (exchanged xs ys (cc) c)
  where
    go : (t : Bool) → (c == x) ≡ t → capital (slice_index_or ys (place_in xs c) c) ≡ capital c
        → capital (slice_index_or (y ∷ ys) (cond t 0 (suc (place_in xs c))) c) ≡ capital c
    go true f rest = let first : capital y ≡ capital x = cc in first ∙ ap capital (sym (eqb-true c x f))
    go false f rest = rest

both_cases : in_capitals small_digits ≡ in_capitals digits
unfolding capital place_in
both_cases = refl

capital_small : (c : ℕ) → capital (small c) ≡ capital c
unfolding small
capital_small c = exchanged digits small_digits both_cases c

-- whichever digits of a text are small, it is the same in capitals
pub small_alike : (at : ℕ → Bool) (text : List ℕ) → in_capitals (with_small at text) ≡ in_capitals text
unfolding with_small
small_alike at [] = refl
small_alike at (c ∷ cs) =
    ap₂ ◌∷◌ (either (λ d. capital d ≡ capital c) (at 0) (capital_small c) refl) (small_alike (λ i. at (suc i)) cs)

-- a file's texts, each with the digits at some places small
unfoldable pub file_with_small : (at : (text place : ℕ) → Bool) (texts : List (List ℕ)) → List (List ℕ)
file_with_small at [] = []
file_with_small at (t ∷ ts) = with_small (at 0) t ∷ file_with_small (λ i. at (suc i)) ts

-- ---- what is written in capitals

abbrev pub InCapitals : (text : List ℕ) → Type 0
InCapitals text = in_capitals text ≡ text

capital_digit : (n : ℕ) → capital (digit n) ≡ digit n
unfolding digit capital place_in
capital_digit n = sym (get_or-map capital digits n 0)

digits_capitals : (bs : List ℕ) → InCapitals (digits_of bs)
unfolding digits_of
digits_capitals [] = refl
digits_capitals (b ∷ bs) = rw (capital_digit (b / 2 ^ digit_bits), capital_digit (b % 2 ^ digit_bits), digits_capitals bs)

pub text_capitals : (bs : List ℕ) → InCapitals (text_of bs)
unfolding text_of capital place_in
text_capitals bs =
    ap (λ (ds : List ℕ). bytes ":" ++ ds)
    (map-append capital (digits_of bs) (line_feed ∷ []) ∙ ap (λ (ds : List ℕ). ds ++ (line_feed ∷ [])) (digits_capitals bs))

pub record_capitals : (address type : ℕ) (held : List ℕ) → InCapitals (record_text address type held)
unfolding record_text
record_capitals address type held = text_capitals (checked (before_check address type held))

-- ---- texts that are the same in capitals

module _ (board : List ℕ) (reader : Reader) (text text' : List ℕ) (alike : in_capitals text ≡ in_capitals text') where
  pub report_alike : import_report board reader text ≡ import_report board reader text'
  unfolding import_report import_checked
  report_alike = rw alike

  pub reader_alike : import_reader board reader text ≡ import_reader board reader text'
  unfolding import_reader import_checked
  reader_alike = rw alike

  pub board_alike : import_board board reader text ≡ import_board board reader text'
  unfolding import_board import_stores import_checked
  board_alike = rw alike

-- files of which each text is
abbrev pub Alike : (texts texts' : List (List ℕ)) → Type 0
Alike texts texts' = map in_capitals texts ≡ map in_capitals texts'

pub file_small : (at : (text place : ℕ) → Bool) (texts : List (List ℕ)) → Alike (file_with_small at texts) texts
unfolding file_with_small
file_small at [] = refl
file_small at (t ∷ ts) = ap₂ ◌∷◌ (small_alike (at 0) t) (file_small (λ i. at (suc i)) ts)

-- an exported file is in capitals
pub file_capitals : (lines : List ℕ) → map in_capitals (records_of lines) ≡ records_of lines
file_capitals lines =
    whole (records_of lines) (every_record InCapitals (λ address type held small fine few. record_capitals address type held) 0 lines)
  where
    whole : (texts : List (List ℕ)) → Every InCapitals texts → map in_capitals texts ≡ texts
    whole [] h = refl
    whole (t ∷ ts) h = ap₂ ◌∷◌ h.0 (whole ts h.1)

pub record SameLoads (s : Importing) (texts texts' : List (List ℕ)) : Type 0 where
  pub reports : reports_of s texts ≡ reports_of s texts'
  pub left : imported s texts ≡ imported s texts'

pub imports_alike : (s : Importing) (texts texts' : List (List ℕ)) → Alike texts texts' → SameLoads s texts texts'
unfolding reports_of imported
imports_alike s [] [] e = record { reports = refl; left = refl }
imports_alike s [] (u ∷ us) e = absurd (differ cc)
imports_alike s (t ∷ ts) [] e = absurd (differ cc)
imports_alike s (t ∷ ts) (u ∷ us) e =
    let first : in_capitals t ≡ in_capitals u = cc in
    let rest = imports_alike (behind_text s t) ts us (cc) in
    let next : behind_text s t ≡ behind_text s u =
    λ i. record { board = board_alike s.board s.reader t u first i; reader = reader_alike s.board s.reader t u first i } in
    record {
      reports = ap₂ ◌∷◌ (report_alike s.board s.reader t u first) (rest.reports ∙ ap (λ (x : Importing). reports_of x us) next);
      left = rest.left ∙ ap (λ (x : Importing). imported x us) next;
    }
