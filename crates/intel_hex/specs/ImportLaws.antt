-- Laws of the reader beyond its contract: what a call answers (`answers`), what an accepted record tells
-- (`accepted_told`), what moves the reader (`upper_moved`, `ended_moved`), and which words of the board stay, also where
-- the current goes between a record's stores (`cut_kept`, `line_kept`), and behind any file (`import_kept`).
use Rattle.std.specs.Prelude.{Ok, Err, ◌≡◌, ℕ, ◌+◌, ◌/◌, ◌<◌, ◌≤◌, Bool, true, false, cond, not, ◌||◌, ◌≢◌, List, [], ◌∷◌, map, length, take, ◌==◌, nat_eq, slice_index, slice_set}
use Rattle.std.proofs.Math.Path.{refl, ap, subst}
use Rattle.std.proofs.Common.{sym, ◌∙◌, arith, get_or-set_other, get_or-take}
use Rattle.std.proofs.lemmas.Bool.{false≢true}
use borrow.Author.Tests.{eqb-true, not-false}
use Rattle.std.proofs.lemmas.List.{take-set-le}
use Rattle.std.proofs.Math.Seq.{take-length}
use Rattle.base.specs.Every.{Every, every_take}
use Rattle.base.specs.Several.{any_of}
use Rattle.layout.specs.Bytes.{bytes_of_word, word_of}
use Rattle.layout.specs.Memory.{control_at, shape_at, lines_at, control_in, shape_in}
use Rattle.layout.specs.Words.{decode_control, decode_shape}
use Rattle.status.specs.declared.Status.{Status}
use Rattle.status.specs.declared.Status.TheVariants as status
use Rattle.status.specs.Numbers.{number_of}
use Rattle.board.specs.Stores.{Store, applied}
use Rattle.board.specs.Laws.{length_applied}
use Rattle.checks.specs.declared.View.{View}
use Rattle.checks.specs.Refusals.{Checked, row, tested, then, board_checked}
use Rattle.checks.specs.View.{view_of, good_shape}
use Rattle.checks.specs.Promises.{Opened}
use Rattle.checks.specs.Laws.{held_as, then_both, passed_row, board_opened}
use Rattle.picl.specs.declared.Report.{Report}
use Rattle.picl.specs.Calls.{report}
use Rattle.intel_hex.specs.declared.Reader.{Reader}
use Rattle.intel_hex.specs.Records.{bank_type}
use Rattle.intel_hex.specs.Laws.{end_type}
use Rattle.intel_hex.specs.Reading.{type_in, held_in, Held, upper_behind}
use Rattle.intel_hex.specs.Contents.{content_of, record_holds}
use Rattle.intel_hex.specs.Import.{in_capitals, well_formed, is_outside, import_rows, import_checked, reader_for, line_store, stores_for, report_for}
use Rattle.intel_hex.specs.Import.{import_report, import_reader, import_stores, import_board, import_cut, Importing, behind_text, imported}

-- ---- what it answers

-- "after 1 and 18, in this order, and it refuses by no other"
abbrev pub import_answers : List Status
import_answers = status.Ok ∷ status.Shape ∷ status.LogHeld ∷ status.Record ∷ status.Outside ∷ []

-- one of them, and "no allowance, 0 stores reported"
pub record Answers (r : Report) : Type 0 where
  pub among : any_of (nat_eq (number_of r.status)) (map number_of import_answers) ≡ true
  pub value : r.value ≡ 0
  pub stores : r.stores ≡ 0

pub answers : (board : List ℕ) (reader : Reader) (text : List ℕ) → Answers (import_report board reader text)
unfolding import_report import_checked board_checked
answers board reader text = first (not (good_shape (length board) (view_of board [])))
  where
    rows : (v : View) (log malformed outside : Bool)
        → Answers (report_for (tested (row log status.LogHeld ∷ row malformed status.Record ∷ row outside status.Outside ∷ []) v))
    rows v true malformed outside = record { among = refl; value = refl; stores = refl }
    rows v false true outside = record { among = refl; value = refl; stores = refl }
    rows v false false true = record { among = refl; value = refl; stores = refl }
    rows v false false false = record { among = refl; value = refl; stores = refl }

    first : (shape : Bool)
        → Answers (report_for (then (tested (row shape status.Shape ∷ []) (view_of board [])) (import_rows reader (in_capitals text))))
    first true = record { among = refl; value = refl; stores = refl }
    first false =
        let v = view_of board [] in
        rows v (not (v.control.length == 0)) (reader.ended || not (well_formed (in_capitals text)))
        (is_outside v.shape.lines reader.upper (content_of (in_capitals text)))

-- ---- stores of lines

abbrev Behind : (n : ℕ) → Store → Type 0
Behind n s = n ≤ s.at

lines_behind : (first : ℕ) (hs : List Held) → Every (Behind first) (map (line_store first) hs)
lines_behind first [] = tt
lines_behind first (h ∷ hs) = (omega arith, lines_behind first hs)

front_stays : (n : ℕ) (ss : List Store) (b : List ℕ) → Every (Behind n) ss → take n (applied b ss) ≡ take n b
unfolding applied
front_stays n [] b h = refl
front_stays n (s ∷ ss) b h = front_stays n ss (slice_set b s.at s.word) h.1 ∙ take-set-le n b s.at s.word h.0

abbrev Elsewhere : (i : ℕ) → Store → Type 0
Elsewhere i s = i ≢ s.at

-- line a is none of these
abbrev pub Spared : (a : ℕ) → List Held → Type 0
Spared a hs = Every (λ (h : Held). h.address / bytes_of_word ≢ a) hs

lines_elsewhere : (first a : ℕ) (hs : List Held) → Spared a hs → Every (Elsewhere (first + a)) (map (line_store first) hs)
lines_elsewhere first a [] spared = tt
lines_elsewhere first a (h ∷ hs) spared = (λ same. spared.0 (omega (arith, same)), lines_elsewhere first a hs spared.1)

word_stays : (i : ℕ) (ss : List Store) (b : List ℕ) → Every (Elsewhere i) ss → slice_index (applied b ss) i ≡ slice_index b i
unfolding applied
word_stays i [] b h = refl
word_stays i (s ∷ ss) b h = word_stays i ss (slice_set b s.at s.word) h.1 ∙ get_or-set_other b s.at i s.word 0 h.0

-- ---- the words before the lines

-- a board whose control word, shape word and log are those of another
pub record Kept (board board' : List ℕ) : Type 0 where
  pub words : length board' ≡ length board
  pub front : take (lines_at (shape_in board).entries) board' ≡ take (lines_at (shape_in board).entries) board

module _ {board board' : List ℕ} (k : Kept board board') where
  word_kept : (i : ℕ) → i < lines_at (shape_in board).entries → slice_index board' i ≡ slice_index board i
  word_kept i h =
      let n = lines_at (shape_in board).entries in
      sym (get_or-take n board' i 0 h) ∙ ap (λ (words : List ℕ). slice_index words i) k.front ∙ get_or-take n board i 0 h

  pub control_kept : control_in board' ≡ control_in board
  control_kept = ap decode_control (word_kept control_at (omega arith))

  pub shape_kept : shape_in board' ≡ shape_in board
  shape_kept = ap decode_shape (word_kept shape_at (omega arith))

  -- so 1 passes both or neither
  pub checked_kept : board_checked board' ≡ board_checked board
  unfolding board_checked view_of
  checked_kept = rw (k.words, control_kept, shape_kept)

pub kept_on : {board board' board'' : List ℕ} → Kept board board' → Kept board' board'' → Kept board board''
kept_on {board} {board'} {board''} k l =
    let front = rw (shape_kept k) at l.front in
    record { words = l.words ∙ k.words; front = front ∙ k.front }

-- ---- an accepted record

pub record Accepted (board : List ℕ) (reader : Reader) (text : List ℕ) (v : View) : Type 0 where
  pub opened : Opened board v
  pub log_empty : v.control.length ≡ 0
  pub before_end : reader.ended ≡ false
  pub formed : well_formed (in_capitals text) ≡ true
  pub inside : is_outside v.shape.lines reader.upper (content_of (in_capitals text)) ≡ false

module _ (board : List ℕ) (reader : Reader) (text : List ℕ) where
  abbrev content : List ℕ
  content = content_of (in_capitals text)

  pub accepted_told : (v : View) → Ok v ≡ import_checked board reader text → Accepted board reader text v
  unfolding import_checked
  accepted_told v e =
      let both = then_both (board_checked board) (import_rows reader (in_capitals text)) v e in
      let passed : (s : Status) → held_as s (import_rows reader (in_capitals text) v) ≡ false =
      λ s. passed_row s (import_rows reader (in_capitals text) v) v v both.here in
      record {
        opened = board_opened board v both.before;
        log_empty = eqb-true v.control.length 0 (not-false _ (passed status.LogHeld));
        before_end = or_left reader.ended _ (passed status.Record);
        formed = not-false _ (or_right reader.ended _ (passed status.Record));
        inside = passed status.Outside;
      }
    where
      or_left : (a b : Bool) → a || b ≡ false → a ≡ false
      or_left true b e = e
      or_left false b e = refl

      or_right : (a b : Bool) → a || b ≡ false → b ≡ false
      or_right true b e = absurd (false≢true (sym e))
      or_right false b e = e

  -- ---- what moves the reader

  -- accepted, and of this type
  pub record AcceptedAs (type : ℕ) : Type 0 where
    pub ok : import_report board reader text ≡ report status.Ok 0
    pub type_is : type_in content ≡ type

  -- only a record of type 04 moves the upper address
  pub upper_moved : (import_reader board reader text).upper ≢ reader.upper → AcceptedAs bank_type
  unfolding import_reader import_report upper_behind
  upper_moved moved = go (import_checked board reader text) refl moved
    where
      go : (k : Checked) → import_checked board reader text ≡ k → (reader_for k reader content).upper ≢ reader.upper → AcceptedAs bank_type
      go (Err why) e moved = absurd (moved refl)
      go (Ok v) e moved = typed (type_in content == bank_type) refl moved
        where
          typed : (t : Bool) → (type_in content == bank_type) ≡ t → cond t (word_of (held_in content)) reader.upper ≢ reader.upper → AcceptedAs bank_type
          typed true f moved = record { ok = rw e; type_is = eqb-true (type_in content) bank_type f }
          typed false f moved = absurd (moved refl)

  -- and only one of type 01 ends a file
  pub ended_moved : (import_reader board reader text).ended ≢ reader.ended → AcceptedAs end_type
  unfolding import_reader import_report
  ended_moved moved = go (import_checked board reader text) refl moved
    where
      go : (k : Checked) → import_checked board reader text ≡ k → (reader_for k reader content).ended ≢ reader.ended → AcceptedAs end_type
      go (Err why) e moved = absurd (moved refl)
      go (Ok v) e moved = typed (type_in content == end_type) refl moved
        where
          typed : (t : Bool) → (type_in content == end_type) ≡ t → t ≢ reader.ended → AcceptedAs end_type
          typed true f moved = record { ok = rw e; type_is = eqb-true (type_in content) end_type f }
          typed false f moved = absurd (moved (sym (accepted_told v (sym e)).before_end))

  -- ---- which words stay

  -- all stores made
  pub cut_nowhere : import_cut board reader text (length (import_stores board reader text)) ≡ import_board board reader text
  unfolding import_cut import_board
  cut_nowhere = ap (applied board) (take-length (import_stores board reader text))

  -- where the lines begin
  abbrev first : ℕ
  first = lines_at (shape_in board).entries

  abbrev named : List Held
  named = record_holds reader.upper content

  module _ (made : ℕ) where
    -- what holds of the stores of the lines that it names holds of those that are made
    every_made : (Q : Store → Type 0) → Every Q (map (line_store first) named) → Every Q (take made (import_stores board reader text))
    unfolding import_stores view_of
    every_made Q each = every_take Q made (import_stores board reader text) (go (import_checked board reader text) refl)
      where
        go : (k : Checked) → import_checked board reader text ≡ k → Every Q (stores_for k reader content)
        go (Err why) e = tt
        go (Ok v) e =
            subst (λ (w : View). Every Q (map (line_store (lines_at w.shape.entries)) named)) (sym (accepted_told v (sym e)).opened.is) each

    -- the control word, the shape word and the log stay
    pub cut_kept : Kept board (import_cut board reader text made)
    unfolding import_cut
    cut_kept =
        let ss = take made (import_stores board reader text) in
        record { words = length_applied ss board; front = front_stays first ss board (every_made (Behind first) (lines_behind first named)) }

    -- and every line that the record does not name
    pub line_kept : (a : ℕ) → Spared a named → slice_index (import_cut board reader text made) (first + a) ≡ slice_index board (first + a)
    unfolding import_cut
    line_kept a spared =
        word_stays (first + a) (take made (import_stores board reader text)) board
        (every_made (Elsewhere (first + a)) (lines_elsewhere first a named spared))

  pub board_kept : Kept board (import_board board reader text)
  board_kept = subst (Kept board) cut_nowhere (cut_kept (length (import_stores board reader text)))

-- the same of a file, whatever is accepted of it
pub import_kept : (s : Importing) (texts : List (List ℕ)) → Kept s.board (imported s texts).board
unfolding imported
import_kept s [] = record { words = refl; front = refl }
import_kept s (t ∷ ts) = kept_on (board_kept s.board s.reader t) (import_kept (behind_text s t) ts)
