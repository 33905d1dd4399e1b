-- "All records of an export, read in order from the first state into a board of the same N that passes 1 and 18,
-- rebuild every line": `rebuilds`, and of what the export's calls give `exported_rebuilds`, both in either case of
-- digits. On the way: which records are taken (`bank_took`, `data_took`, `end_took`), and that of texts that are all
-- accepted the board gets what their records hold (`stored_as_held`).
use Rattle.std.specs.Prelude.{Ok, ◌≡◌, ℕ, suc, ◌+◌, ◌*◌, ◌/◌, ◌%◌, ◌^◌, ◌<◌, ◌≤◌, Bool, true, false, cond, ◌||◌, List, [], ◌∷◌, ◌++◌, map, length, take, drop, ◌==◌, slice_set}
use Rattle.std.proofs.Math.Path.{refl, ap}
use Rattle.std.proofs.Common.{sym, subst, ◌∙◌, append-nil, append_assoc, length-set, length-drop, take_all, take-suc-set}
use Rattle.std.proofs.lemmas.List.{map-append, drop-set-add}
use native.Mathlib.Omega.{arith}
use borrow.Author.Tests.{eq-eqb, eqb-false, le-ltb}
use Rattle.base.specs.Every.{Every}
use Rattle.layout.specs.Bytes.{byte_bits, bytes_of_word, bytes_of, AreBytes}
use Rattle.layout.specs.Limits.{most_lines}
use Rattle.layout.specs.Memory.{lines_at, shape_in}
use Rattle.status.specs.declared.Status.TheVariants as status
use Rattle.board.specs.Stores.{applied}
use Rattle.board.specs.Laws.{applied_append}
use Rattle.checks.specs.declared.View.{View}
use Rattle.checks.specs.Refusals.{board_checked}
use Rattle.checks.specs.View.{view_of}
use Rattle.checks.specs.Promises.{Opened}
use Rattle.checks.specs.Laws.{board_opened}
use Rattle.picl.specs.declared.Report.{Report}
use Rattle.picl.specs.Calls.{report}
use Rattle.intel_hex.specs.declared.Reader.{Reader}
use Rattle.intel_hex.specs.Records.{two_bytes, record_text, bank_bytes, bank_type, bank_text, opening}
use Rattle.intel_hex.specs.Records.{data_type, record_bytes, data_text, end_text, records_from, records_of}
use Rattle.intel_hex.specs.Laws.{end_type}
use Rattle.intel_hex.specs.Export.{lines_on, most_text}
use Rattle.intel_hex.specs.Reading.{Held, held_from, upper_behind, first_upper}
use Rattle.intel_hex.specs.Contents.{content_of, record_holds, held_by}
use Rattle.intel_hex.specs.Reading.{AreWords, Carried, carried_on, address_space, content_for}
use Rattle.intel_hex.specs.Contents.{lines_read}
use Rattle.intel_hex.specs.Reading.{record_count, record_address, record_type, record_held, two_bytes_holds}
use Rattle.intel_hex.specs.Contents.{record_content}
use Rattle.intel_hex.specs.Reading.{two_many, two_read, word_bytes, word_many, pair_bytes, pair_many}
use Rattle.intel_hex.specs.Laws.{end_is, lines_many, records_on, exported_by, exported_all}
use Rattle.intel_hex.specs.RecordTexts.{written_record}
use Rattle.intel_hex.specs.Import.{in_capitals, is_offered, well_formed, is_outside, import_checked, first_reader, line_store}
use Rattle.intel_hex.specs.Import.{import_report, import_reader, import_stores, import_board, Importing, behind_text, imported, reports_of}
use Rattle.intel_hex.specs.Capitals.{record_capitals, Alike, file_capitals, imports_alike}
use Rattle.intel_hex.specs.ImportLaws.{board_kept, import_kept, checked_kept, shape_kept}

-- ---- what a file stores

-- every record passes, the board's view being v
unfoldable pub Passing : View → Importing → (texts : List (List ℕ)) → Type 0
Passing v s [] = Unit {0}
Passing v s (t ∷ ts) = (import_checked s.board s.reader t ≡ Ok v) × Passing v (behind_text s t) ts

-- so every call answers 0
abbrev pub AllOk : List Report → Type 0
AllOk reports = Every (λ (r : Report). r ≡ report status.Ok 0) reports

module _ (v : View) where
  pub all_ok : (s : Importing) (texts : List (List ℕ)) → Passing v s texts → AllOk (reports_of s texts)
  unfolding Passing reports_of import_report
  all_ok s [] p = tt
  all_ok s (t ∷ ts) p = (rw p.0, all_ok (behind_text s t) ts p.1)

  -- and what is stored is what the records hold
  pub stored_as_held : (s : Importing) (texts : List (List ℕ)) → Passing v s texts
      → (imported s texts).board ≡ applied s.board (map (line_store (lines_at v.shape.entries)) (held_by s.reader.upper (map in_capitals texts)))
  unfolding Passing imported held_by applied import_board import_stores import_reader
  stored_as_held s [] p = refl
  stored_as_held s (t ∷ ts) p =
      let store = line_store (lines_at v.shape.entries) in
      let content = content_of (in_capitals t) in
      let here = map store (record_holds s.reader.upper content) in
      let later = held_by (upper_behind s.reader.upper content) (map in_capitals ts) in
      let next : import_board s.board s.reader t ≡ applied s.board here = rw p.0 in
      let upper : (import_reader s.board s.reader t).upper ≡ upper_behind s.reader.upper content = rw p.0 in
      stored_as_held (behind_text s t) ts p.1 ∙ rw (next, upper)
      (sym (applied_append here (map store later) s.board)
      ∙ ap (applied s.board) (sym (map-append store (record_holds s.reader.upper content) later)))

-- ---- lines one behind the other, from the first on

drop_stores : (first : ℕ) (hs : List Held) (b : List ℕ)
    → drop first (applied b (map (line_store first) hs)) ≡ applied (drop first b) (map (line_store 0) hs)
unfolding applied
drop_stores first [] b = refl
drop_stores first (h ∷ hs) b =
    let line = h.address / bytes_of_word in
    let at : 0 + line ≡ line = omega arith in
    rw (drop_stores first hs (slice_set b (first + line) h.word), drop-set-add first b line h.word, at)

lines_set : (words : List ℕ) (k : ℕ) (b : List ℕ) → length b ≡ k + length words
    → applied b (map (line_store 0) (held_from (bytes_of_word * k) words)) ≡ take k b ++ words
unfolding applied held_from
lines_set [] k b many = sym (rw append-nil (take_all k b (omega (arith, many))))
lines_set (w ∷ ws) k b many =
    let at : 0 + bytes_of_word * k / bytes_of_word ≡ k = omega arith in
    let next : bytes_of_word * k + bytes_of_word ≡ bytes_of_word * suc k = omega arith in
    rw (at, next)
    (lines_set ws (suc k) (slice_set b k w) (omega (arith, many, length-set b k w))
    ∙ ap (λ (words : List ℕ). words ++ ws) (take-suc-set b k w (omega (arith, many)))
    ∙ append_assoc (take k b) (w ∷ []) ws)

-- ---- the records of a file, one by one

-- an import under way: its board's view is v, and the end was not seen
pub record Ready (v : View) (upper : ℕ) (s : Importing) : Type 0 where
  pub passes : board_checked s.board ≡ Ok v
  pub reader_is : s.reader ≡ record { upper = upper; ended = false }

-- a text that passes, and what it leaves
pub record Took (v : View) (s : Importing) (text : List ℕ) (left : Reader) : Type 0 where
  pub checked : import_checked s.board s.reader text ≡ Ok v
  pub board_passes : board_checked (import_board s.board s.reader text) ≡ Ok v
  pub reader_left : import_reader s.board s.reader text ≡ left

module _ (v : View) (log_empty : v.control.length ≡ 0) (upper : ℕ) (s : Importing) (ready : Ready v upper s) where
  module _ (address type : ℕ) (held : List ℕ) (small : type < 2 ^ byte_bits) (fine : AreBytes held) (few : length held < 2 ^ byte_bits) where
    abbrev content : List ℕ
    content = content_for address type held

    written_passes : is_offered content ≡ true → is_outside v.shape.lines upper content ≡ false
        → import_checked s.board s.reader (record_text address type held) ≡ Ok v
    unfolding import_checked well_formed
    written_passes offered inside =
        rw (
          ready.passes,
          ready.reader_is,
          record_capitals address type held,
          written_record address type held small fine few,
          record_content address type held small fine few,
          offered,
          inside,
          log_empty,
        )

    written_took : is_offered content ≡ true → is_outside v.shape.lines upper content ≡ false → (upper' : ℕ) → upper_behind upper content ≡ upper'
        → Took v s (record_text address type held) (record { upper = upper'; ended = (type == end_type) })
    unfolding import_reader
    written_took offered inside upper' moves =
        let passes = written_passes offered inside in
        record {
          checked = passes;
          board_passes = checked_kept (board_kept s.board s.reader (record_text address type held)) ∙ ready.passes;
          reader_left =
              rw (
                passes,
                ready.reader_is,
                record_capitals address type held,
                record_content address type held small fine few,
                moves,
                record_type,
              );
        }

  -- a record of type 04 is accepted whatever it names
  pub bank_took : (bank : ℕ) → Took v s (bank_text bank) (record { upper = bank % bank_bytes; ended = false })
  unfolding bank_text is_offered is_outside upper_behind
  bank_took bank =
      let few : length (two_bytes bank) < 2 ^ byte_bits = rw (two_many bank) (omega arith) in
      written_took 0 bank_type (two_bytes bank) (omega arith) (two_bytes_holds bank) few (rw (record_type, record_count, record_address, two_many)) (rw record_type)
      (bank % bank_bytes) (rw (record_type, record_held, two_read))

  -- one of type 00 at every multiple of 8 from which it ends within its bank and the lines
  pub data_took : (address : ℕ) (held : List ℕ) → AreBytes held → length held ≤ record_bytes
      → (length held == bytes_of_word) || (length held == record_bytes) ≡ true → address % bytes_of_word ≡ 0 → address % bank_bytes + length held ≤ bank_bytes
      → bank_bytes * upper + (address % bank_bytes + length held) ≤ bytes_of_word * v.shape.lines
      → Took v s (data_text address held) (record { upper = upper; ended = false })
  unfolding data_text is_offered is_outside upper_behind
  data_took address held fine few whole even within room =
      let start : address % bank_bytes % bytes_of_word ≡ 0 = omega arith in
      written_took address data_type held (omega arith) fine (omega arith) (rw (record_type, record_count, whole))
      (rw (
        record_type,
        record_count,
        record_address,
        eq-eqb (address % bank_bytes % bytes_of_word) 0 start,
        le-ltb bank_bytes (address % bank_bytes + length held) within,
        le-ltb (bytes_of_word * v.shape.lines) (bank_bytes * upper + (address % bank_bytes + length held)) room,
      ))
      upper (rw record_type)

  pub end_took : Took v s end_text (record { upper = upper; ended = true })
  unfolding is_offered is_outside upper_behind
  end_took =
      rw end_is (written_took 0 end_type [] (omega arith) (λ i. omega arith) (omega arith) (rw (record_type, record_count, record_address)) (rw record_type)
      upper (rw record_type))

-- ---- the records of a file, in order

-- a file that is taken to its end
record Read (v : View) (s : Importing) (texts : List (List ℕ)) : Type 0 where
  passing : Passing v s texts
  ended : (imported s texts).reader.ended ≡ true

module _ (v : View) (log_empty : v.control.length ≡ 0) where
  took_ready : {s : Importing} {text : List ℕ} {upper : ℕ} → Took v s text (record { upper = upper; ended = false }) → Ready v upper (behind_text s text)
  took_ready t = record { passes = t.board_passes; reader_is = t.reader_left }

  read_on : (s : Importing) (text : List ℕ) (texts : List (List ℕ)) {left : Reader} → Took v s text left → Read v (behind_text s text) texts
      → Read v s (text ∷ texts)
  unfolding Passing imported
  read_on s text texts t rest = record { passing = (t.checked, rest.passing); ended = rest.ended }

  read_end : (upper : ℕ) (s : Importing) → Ready v upper s → Read v s (end_text ∷ [])
  unfolding Passing imported
  read_end upper s ready =
      let t = end_took v log_empty upper s ready in
      record { passing = (t.checked, tt); ended = ap (λ (r : Reader). r.ended) t.reader_left }

  read_opened : (upper address : ℕ) (texts : List (List ℕ)) (s : Importing) → Ready v upper s → address < address_space → Carried upper address
      → ((s' : Importing) → Ready v (address / bank_bytes) s' → Read v s' texts) → Read v s (opening address ++ texts)
  read_opened upper address texts s ready below carried rest = go (address % bank_bytes == 0) refl
    where
      go : (t : Bool) → (address % bank_bytes == 0) ≡ t → Read v s (cond t (bank_text (address / bank_bytes) ∷ []) [] ++ texts)
      go true e =
          let bank : address / bank_bytes % bank_bytes ≡ address / bank_bytes = omega arith in
          let t = rw bank at (bank_took v log_empty upper s ready (address / bank_bytes)) in
          read_on s (bank_text (address / bank_bytes)) texts t (rest (behind_text s (bank_text (address / bank_bytes))) (took_ready t))
      go false e = rest s (rw (carried (eqb-false (address % bank_bytes) 0 e)) at ready)

  module _ (most : v.shape.lines ≤ most_lines) where
    read_data : (upper address : ℕ) (held : List ℕ) (texts : List (List ℕ)) (s : Importing) → Ready v upper s → address % record_bytes ≡ 0
        → Carried upper address → AreBytes held → length held ≤ record_bytes → (length held == bytes_of_word) || (length held == record_bytes) ≡ true
        → address + length held ≤ bytes_of_word * v.shape.lines
        → ((s' : Importing) → Ready v (address / bank_bytes) s' → Read v s' texts) → Read v s (opening address ++ (data_text address held ∷ texts))
    read_data upper address held texts s ready even carried fine few whole room rest =
        read_opened upper address (data_text address held ∷ texts) s ready (omega arith) carried
        (λ s' ready'.
        let t = data_took v log_empty (address / bank_bytes) s' ready' address held fine few whole (omega arith) (omega arith) (omega arith) in
        read_on s' (data_text address held) texts t (rest (behind_text s' (data_text address held)) (took_ready t)))

    read_from : (upper address : ℕ) (lines : List ℕ) (s : Importing) → Ready v upper s → address % record_bytes ≡ 0 → Carried upper address
        → address + bytes_of_word * length lines ≤ bytes_of_word * v.shape.lines → Read v s (records_from address lines)
    unfolding records_from
    read_from upper address [] s ready even carried room = read_end upper s ready
    read_from upper address (x ∷ []) s ready even carried room =
        read_data upper address (bytes_of x) (end_text ∷ []) s ready even carried (word_bytes x) (rw (word_many x) (omega arith)) (rw (word_many x))
        (rw (word_many x) (omega (arith, room))) (read_end (address / bank_bytes))
    read_from upper address (x ∷ y ∷ lines) s ready even carried room =
        read_data upper address (bytes_of x ++ bytes_of y) (records_from (address + record_bytes) lines) s ready even carried (pair_bytes x y)
        (rw (pair_many x y) (omega arith)) (rw (pair_many x y)) (rw (pair_many x y) (omega (arith, room)))
        (λ s' ready'. read_from (address / bank_bytes) (address + record_bytes) lines s' ready' (omega arith) (carried_on address even) (omega (arith, room)))

-- ---- the whole file

-- "from the first state"
abbrev pub from_first : (board : List ℕ) → Importing
from_first board = record { board = board; reader = first_reader }

-- every call answers 0, the board's lines are then these, and the end was seen
pub record Rebuilds (lines board : List ℕ) (texts : List (List ℕ)) : Type 0 where
  pub accepted : AllOk (reports_of (from_first board) texts)
  pub lines_left : lines_on (imported (from_first board) texts).board ≡ lines
  pub ended : (imported (from_first board) texts).reader.ended ≡ true

rebuilds_alike : (lines board : List ℕ) (texts texts' : List (List ℕ)) → Alike texts texts' → Rebuilds lines board texts'
    → Rebuilds lines board texts
rebuilds_alike lines board texts texts' alike r =
    let same = imports_alike (from_first board) texts texts' alike in
    record {
      accepted = subst AllOk (sym same.reports) r.accepted;
      lines_left = ap (λ (s : Importing). lines_on s.board) same.left ∙ r.lines_left;
      ended = ap (λ (s : Importing). s.reader.ended) same.left ∙ r.ended;
    }

-- "into a board of the same N that passes 1 and 18"
module _ (board : List ℕ) (v : View) (passed : Ok v ≡ board_checked board) (log_empty : v.control.length ≡ 0) where
  module _ (lines : List ℕ) (words : AreWords lines) (many : length lines ≡ v.shape.lines) where
    opened : Opened board v
    opened = board_opened board v passed

    first_read : Read v (from_first board) (records_of lines)
    first_read =
        read_from v log_empty opened.good.sizes.lines_most first_upper 0 lines (from_first board) record { passes = sym passed; reader_is = refl }
        (omega arith) (λ inside. omega arith) (omega (arith, many))

    -- where the lines begin
    abbrev first : ℕ
    first = lines_at v.shape.entries

    board_left : (imported (from_first board) (records_of lines)).board ≡ applied board (map (line_store first) (held_from 0 lines))
    board_left =
        stored_as_held v (from_first board) (records_of lines) first_read.passing
        ∙ rw (file_capitals lines, lines_read lines words (omega (arith, many, opened.good.sizes.lines_most)))

    lines_rebuilt : drop first (applied board (map (line_store first) (held_from 0 lines))) ≡ lines
    lines_rebuilt =
        drop_stores first (held_from 0 lines) board
        ∙ lines_set lines 0 (drop first board) (omega (arith, many, length-drop first board, opened.good.board_words_holds))

    first_is : lines_at (shape_in (imported (from_first board) (records_of lines)).board).entries ≡ first
    unfolding view_of
    first_is = rw (shape_kept (import_kept (from_first board) (records_of lines)), opened.is)

    lines_rebuild : Rebuilds lines board (records_of lines)
    lines_rebuild =
        record {
          accepted = all_ok v (from_first board) (records_of lines) first_read.passing;
          lines_left = rw (first_is, board_left) lines_rebuilt;
          ended = first_read.ended;
        }

  -- "All records of an export", of a board of as many lines that passes 1, in either case of digits
  module _ (source : List ℕ) (w : View) (source_passed : Ok w ≡ board_checked source) (same : w.shape.lines ≡ v.shape.lines)
      (words : AreWords (lines_on source)) (texts : List (List ℕ)) where
    pub rebuilds : Alike texts (records_of (lines_on source)) → Rebuilds (lines_on source) board texts
    rebuilds alike =
        let many = lines_many source w (board_opened source w source_passed) in
        rebuilds_alike (lines_on source) board texts (records_of (lines_on source)) alike (lines_rebuild (lines_on source) words (many ∙ same))

    -- and as the export's calls give them
    pub exported_rebuilds : w.control.length ≡ 0 → (lent : ℕ → List ℕ) → ((n : ℕ) → most_text ≤ length (lent n))
        → Alike texts (exported_by source lent (records_on source)) → Rebuilds (lines_on source) board texts
    exported_rebuilds empty lent room alike = rebuilds (alike ∙ ap (map in_capitals) (exported_all source w source_passed empty lent room))
