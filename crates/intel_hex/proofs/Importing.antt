-- One law for each way out of a record that is taken.
use Rattle.std.proofs.Common.{Ok, Err, ◌≡◌, ℕ, suc, ◌+◌, ◌-◌, ◌*◌, ◌/◌, ◌%◌, ◌<◌, ◌≤◌, Bool, true, false, not, ◌&&◌, ◌||◌, eqb, ltb, List, [], ◌∷◌, ◌++◌, map, length, take, drop, set, sym, refl, ap, ◌∙◌, arith, length-take-le, ltb-false, le-ltb, lt-ltb, eq-eqb, ne_eqb, eqb-true}
use mathlib.Core.Bool.{false≢true}
use borrow.Author.Tests.{not-true, not-false}
use lib.ListN.{length-map}
use lib.Seq.{sets}
use Rattle.base.specs.Tests.{and_left, and_right}
use Rattle.layout.specs.Bytes.{bytes_of_word}
use Rattle.layout.specs.ByteWords.{words_of, length_words}
use Rattle.layout.specs.Limits.{most_lines}
use Rattle.layout.specs.Memory.{lines_at}
use Rattle.status.specs.declared.Status.{Status}
use Rattle.status.specs.declared.Status.TheVariants as status
use Rattle.board.specs.Stores.{applied}
use Rattle.checks.specs.declared.Refusal.{Refusal}
use Rattle.checks.specs.declared.View.{View}
use Rattle.checks.specs.Refusals.{unvalued, board_checked}
use Rattle.intel_hex.specs.declared.Reader.{Reader}
use Rattle.std.specs.Prelude.{Some, None, Result, IsErrAnd}
use Rattle.intel_hex.specs.Records.{byte_digits, address_bytes, record_text, bank_bytes, bank_type, data_type, record_bytes, end_text}
use Rattle.intel_hex.specs.Laws.{end_type}
use Rattle.intel_hex.specs.Reading.{count_in, address_in, type_in, held_in, held_from, upper_behind, record_type, record_count, record_address}
use Rattle.intel_hex.specs.Contents.{content_of, record_holds, record_content}
use Rattle.intel_hex.specs.Export.{most_text}
use Rattle.intel_hex.specs.Import.{capital, in_capitals, are_bytes, same, is_record, is_offered, well_formed, is_past, is_outside, import_checked, import_report, import_reader, import_stores, import_board, line_store, Imports}
use Rattle.intel_hex.specs.Laws.{bare_text, text_many, end_is}
use Rattle.intel_hex.specs.RecordTexts.{record_told, same_told, told_same, written_record}
use Rattle.intel_hex.specs.Promises.{text_bytes, has_lines, count_for, LinesRead, ReadsLines, ReadsBank, taken_as, taken_from, taken_by, line_from, Inside, Ready, ShortText, LineCount}
use Rattle.intel_hex.proofs.TextReading.{part_put, by_lines}

pub two_lines : (n : ℕ) → n ≡ most_text → true ≡ has_lines n
two_lines n e = rw (eq-eqb n most_text e)

pub one_line : (n : ℕ) → (n ≡ most_text → ⊥) → eqb n (text_bytes bytes_of_word) ≡ has_lines n
one_line n other = rw (ne_eqb n most_text other)

-- ── 20 ──

module _ (lines upper from count : ℕ) where
  pub past_odd : (from % bytes_of_word ≡ 0 → ⊥) → true ≡ is_past lines upper from count
  past_odd other = rw (ne_eqb (from % bytes_of_word) 0 other)

  module _ (whole : from % bytes_of_word ≡ 0) where
    pub past_bank : bank_bytes < from + count → true ≡ is_past lines upper from count
    past_bank h = rw (eq-eqb (from % bytes_of_word) 0 whole, lt-ltb bank_bytes (from + count) h)

    module _ (within : from + count ≤ bank_bytes) where
      pub past_board : lines ≤ most_lines → 1 ≤ count → 8 ≤ upper → true ≡ is_past lines upper from count
      past_board most some h =
          rw (
            eq-eqb (from % bytes_of_word) 0 whole,
            le-ltb bank_bytes (from + count) within,
            lt-ltb (bytes_of_word * lines) (bank_bytes * upper + (from + count)) (omega (arith, most, some, h)),
          )

      pub past_lines : ltb (bytes_of_word * lines) (bank_bytes * upper + from + count) ≡ is_past lines upper from count
      past_lines =
          let same_end : bank_bytes * upper + from + count ≡ bank_bytes * upper + (from + count) = omega arith in
          rw (eq-eqb (from % bytes_of_word) 0 whole, le-ltb bank_bytes (from + count) within, same_end)

  -- what is not past
  record Within : Type 0 where
    whole : from % bytes_of_word ≡ 0
    end : bank_bytes * upper + (from + count) ≤ bytes_of_word * lines

  within_told : is_past lines upper from count ≡ false → Within
  within_told e = go (eqb (from % bytes_of_word) 0) (ltb bank_bytes (from + count)) (ltb (bytes_of_word * lines) (bank_bytes * upper + (from + count))) refl refl e
    where
      go : (t u w : Bool) → eqb (from % bytes_of_word) 0 ≡ t → ltb (bytes_of_word * lines) (bank_bytes * upper + (from + count)) ≡ w → not t || u || w ≡ false → Within
      go true false false x y f =
          record { whole = eqb-true (from % bytes_of_word) 0 x; end = ltb-false (bytes_of_word * lines) (bank_bytes * upper + (from + count)) y }
      go true false true x y f = absurd (false≢true (sym f))
      go true true w x y f = absurd (false≢true (sym f))
      go false u w x y f = absurd (false≢true (sym f))

-- lines that are there
pub lines_there : (n : ℕ) (t : Bool) → t ≡ has_lines n → not t ≡ false → has_lines n ≡ true
lines_there n t x e = sym x ∙ not-false t e

count_whole : (n : ℕ) → has_lines n ≡ true → count_for n ≡ bytes_of_word * (count_for n / bytes_of_word)
count_whole n h = by_lines n h (λ k. count_for k ≡ bytes_of_word * (count_for k / bytes_of_word)) refl refl

pub lines_inside : (board : List ℕ) (reader : Reader) (v : View) → Ready board reader v → (n from count : ℕ) → has_lines n ≡ true → LineCount n count
    → (p : Bool) → p ≡ is_past v.shape.lines reader.upper from count → p ≡ false → (held : List ℕ) → length held ≡ record_bytes
    → Inside board reader.upper from (length (take count held)) v
lines_inside board reader v ready n from count h c p is e held long =
    let w = within_told v.shape.lines reader.upper from count (sym is ∙ e) in
    let many : length (take count held) ≡ count = length-take-le count held (omega (arith, long, c.most)) in
    rw many record { good = ready.opened.good; lines_whole = rw c.is (count_whole n h); from_whole = w.whole; end = w.end }

-- ── lines that are put ──

pub words_put : (board held part : List ℕ) (at end : ℕ) → end ≡ at + length held / bytes_of_word → at + length held / bytes_of_word ≤ length board
    → part ≡ words_of held → take at board ++ (part ++ drop (end - at) (drop at board)) ≡ sets board at (words_of held)
words_put board held part at end e fits p =
    let many : length (words_of held) ≡ length held / bytes_of_word = length_words held in
    part_put board part (words_of held) at end (rw many e) (rw many fits) p

pub lines_put : (v : View) (upper from : ℕ) (board board' words : List ℕ) (first line : ℕ) → first ≡ lines_at v.shape.entries
    → line ≡ (bank_bytes * upper + from) / bytes_of_word → board' ≡ sets board (first + line) words → board' ≡ sets board (line_from v upper from) words
lines_put v upper from board board' words first line f l b = b ∙ rw (f, l)

-- the words of a record, each to its line
pub stored_lines : (ws board : List ℕ) (first from : ℕ) → from % bytes_of_word ≡ 0
    → sets board (first + from / bytes_of_word) ws ≡ applied board (map (line_store first) (held_from from ws))
unfolding held_from applied
stored_lines [] board first from e = refl
stored_lines (w ∷ ws) board first from e =
    let at : suc (first + from / bytes_of_word) ≡ first + (from + bytes_of_word) / bytes_of_word = omega (arith, e) in
    rw at (stored_lines ws (set board (first + from / bytes_of_word) w) first (from + bytes_of_word) (omega (arith, e)))

-- ── which texts there are ──

or_cases : {C : Type 0} (a b : Bool) → a || b ≡ true → (a ≡ true → C) → (b ≡ true → C) → C
or_cases true b e left right = left refl
or_cases false b e left right = right e

-- what is offered has 8 or 16 bytes, 2, or none; in the last case it is the end
offered_cases : {C : Type 0} (content : List ℕ) → is_offered content ≡ true → (count_in content ≡ bytes_of_word → C) → (count_in content ≡ record_bytes → C)
    → (count_in content ≡ address_bytes → C) → (type_in content ≡ end_type → address_in content ≡ 0 → count_in content ≡ 0 → C) → C
unfolding is_offered
offered_cases content e eight sixteen two none =
    let type = type_in content in
    let count = count_in content in
    let lines = eqb count bytes_of_word || eqb count record_bytes in
    let bank = eqb type bank_type && eqb count address_bytes in
    let end = eqb type end_type && eqb count 0 in
    or_cases (eqb type data_type && lines) (eqb (address_in content) 0 && (bank || end)) e
    (λ l. or_cases (eqb count bytes_of_word) (eqb count record_bytes) (and_right (eqb type data_type) lines l) (λ f. eight (eqb-true count bytes_of_word f))
    (λ f. sixteen (eqb-true count record_bytes f)))
    (λ o. or_cases bank end (and_right (eqb (address_in content) 0) (bank || end) o)
    (λ f. two (eqb-true count address_bytes (and_right (eqb type bank_type) (eqb count address_bytes) f)))
    (λ f. none (eqb-true type end_type (and_left (eqb type end_type) (eqb count 0) f))
    (eqb-true (address_in content) 0 (and_left (eqb (address_in content) 0) (bank || end) o)) (eqb-true count 0 (and_right (eqb type end_type) (eqb count 0) f))))

module _ (text : List ℕ) (formed : well_formed (in_capitals text) ≡ true) where
  abbrev text_in_capitals : List ℕ
  text_in_capitals = in_capitals text

  abbrev its_content : List ℕ
  its_content = content_of text_in_capitals

  is_record_holds : is_record text_in_capitals ≡ true
  unfolding well_formed
  is_record_holds = and_left (is_record text_in_capitals) (is_offered its_content) formed

  is_offered_holds : is_offered its_content ≡ true
  unfolding well_formed
  is_offered_holds = and_right (is_record text_in_capitals) (is_offered its_content) formed

  formed_many : length text ≡ bare_text + byte_digits * count_in its_content
  formed_many =
      let r = record_told text_in_capitals is_record_holds in
      let all = ap length r.text_is ∙ text_many its_content in
      omega (arith, all, length-map text capital, r.many)

  -- a text as short as the end's is the end
  short_end : ShortText (length text) → text_in_capitals ≡ end_text
  unfolding is_record held_in
  short_end s =
      offered_cases its_content is_offered_holds (λ n. absurd (omega (arith, n, formed_many, s.short))) (λ n. absurd (omega (arith, n, formed_many, s.short)))
      (λ n. absurd (s.no_bank (omega (arith, n, formed_many))))
      (λ type address none. same_told text_in_capitals (record_text (address_in its_content) (type_in its_content) (held_in its_content))
      (and_right (are_bytes its_content) (same text_in_capitals (record_text (address_in its_content) (type_in its_content) (held_in its_content))) is_record_holds)
      ∙ rw (type, address, none) (sym end_is))

  -- and one as long as lines' is that of lines
  long_lines : text_bytes bytes_of_word ≤ length text → has_lines (length text) ≡ true
  long_lines h =
      offered_cases its_content is_offered_holds (λ n. let e : length text ≡ text_bytes bytes_of_word = omega (arith, n, formed_many) in rw e refl)
      (λ n. let e : length text ≡ most_text = omega (arith, n, formed_many) in rw e refl) (λ n. absurd (omega (arith, n, formed_many, h)))
      (λ type address n. absurd (omega (arith, n, formed_many, h)))

-- ── the calls ──

module _ (board : List ℕ) (reader : Reader) (text : List ℕ) where
  abbrev folded : List ℕ
  folded = in_capitals text

  -- refused before the record is looked at
  pub board_out : (why : Refusal) → Err why ≡ board_checked board → (r : Result Reader Refusal) → IsErrAnd r (λ f. f ≡ why)
      → Imports board reader text board (taken_by reader r)
  unfolding import_report import_reader import_board import_stores import_checked applied
  board_out why is (Ok next) f = absurd f
  board_out why is (Err g) f = record { report = rw (← is, f) refl; reader_left = rw (← is); board_left = rw (← is) }

  -- refused behind that
  pub row_out : (board' : List ℕ) (why : Status) → Imports board reader text board' (taken_from reader (Err why))
      → (r : Result Reader Refusal) → IsErrAnd r (λ f. f ≡ unvalued why) → Imports board reader text board' (taken_by reader r)
  row_out board' why x (Ok next) f = absurd f
  row_out board' why x (Err g) f = rw f x

  -- refused by a later row
  refused_out : (why : Status) → import_checked board reader text ≡ Err (unvalued why) → Imports board reader text board (taken_as why reader)
  unfolding import_report import_reader import_board import_stores applied
  refused_out why c = record { report = rw c; reader_left = rw c; board_left = rw c }

  module _ (v : View) (passed : Ok v ≡ board_checked board) where
    pub log_out : (v.control.length ≡ 0 → ⊥) → Imports board reader text board (taken_as status.LogHeld reader)
    unfolding import_checked
    log_out other = refused_out status.LogHeld (rw (← passed, ne_eqb v.control.length 0 other))

    pub ended_out : v.control.length ≡ 0 → reader.ended ≡ true → Imports board reader text board (taken_as status.Record reader)
    unfolding import_checked
    ended_out empty ended = refused_out status.Record (rw (← passed, empty, ended))

  module _ (v : View) (ready : Ready board reader v) where
    pub malformed : well_formed folded ≡ false → Imports board reader text board (taken_as status.Record reader)
    unfolding import_checked
    malformed f = refused_out status.Record (rw (← ready.passed, ready.empty, ready.before_end, f))

    module _ (formed : well_formed folded ≡ true) where
      past : is_outside v.shape.lines reader.upper (content_of folded) ≡ true → Imports board reader text board (taken_as status.Outside reader)
      unfolding import_checked
      past o = refused_out status.Outside (rw (← ready.passed, ready.empty, ready.before_end, formed, o))

      checked : is_outside v.shape.lines reader.upper (content_of folded) ≡ false → import_checked board reader text ≡ Ok v
      unfolding import_checked
      checked o = rw (← ready.passed, ready.empty, ready.before_end, formed, o)

      accepted : is_outside v.shape.lines reader.upper (content_of folded) ≡ false → (left : Reader) (board' : List ℕ)
          → left ≡ record { upper = upper_behind reader.upper (content_of folded); ended = eqb (type_in (content_of folded)) end_type }
          → board' ≡ applied board (map (line_store (lines_at v.shape.entries)) (record_holds reader.upper (content_of folded)))
          → Imports board reader text board' (taken_as status.Ok left)
      unfolding import_report import_reader import_board import_stores
      accepted o left board' l b = record { report = rw (checked o); reader_left = rw (checked o) l; board_left = rw (checked o) b }

    -- ---- records without lines

    pub bank_refused : ReadsBank text None → Imports board reader text board (taken_as status.Record reader)
    bank_refused reads = malformed (sym reads.is)

    pub bank_out : (bank : ℕ) → ReadsBank text (Some bank) → Imports board reader text board (taken_as status.Ok (record { upper = bank; ended = false }))
    unfolding is_outside upper_behind record_holds applied
    bank_out bank reads =
        let type = reads.told.type in
        accepted (sym reads.is) (rw type) (record { upper = bank; ended = false }) board (rw (type, reads.told.bank_is)) (rw type)

    -- the end's text
    end_formed : well_formed end_text ≡ true
    unfolding well_formed is_offered
    end_formed =
        rw (end_is, written_record 0 end_type [] (omega arith) (λ i. omega arith) (omega arith), record_content 0 end_type [] (omega arith) (λ i. omega arith) (omega arith), record_type, record_count, record_address)

    end_type_holds : type_in (content_of end_text) ≡ end_type
    end_type_holds = rw (end_is, record_content 0 end_type [] (omega arith) (λ i. omega arith) (omega arith), record_type)

    pub end_out : (t : Bool) → t ≡ same folded end_text → not t ≡ false → Imports board reader text board (taken_as status.Ok (record { upper = reader.upper; ended = true }))
    unfolding is_outside upper_behind record_holds applied
    end_out b x e =
        let is : folded ≡ end_text = same_told folded end_text (sym x ∙ not-false b e) in
        let type : type_in (content_of folded) ≡ end_type = rw is end_type_holds in
        accepted (rw is end_formed) (rw type) (record { upper = reader.upper; ended = true }) board (rw type) (rw type)

    not_formed : (well_formed folded ≡ true → ⊥) → Imports board reader text board (taken_as status.Record reader)
    not_formed other = go (well_formed folded) refl
      where
        go : (t : Bool) → well_formed folded ≡ t → Imports board reader text board (taken_as status.Record reader)
        go true f = absurd (other f)
        go false f = malformed f

    pub end_refused : ShortText (length text) → (t : Bool) → t ≡ same folded end_text → not t ≡ true → Imports board reader text board (taken_as status.Record reader)
    end_refused s t x e = not_formed (λ w. false≢true (sym (not-true t e) ∙ x ∙ rw (short_end text w s) (told_same end_text)))

    pub long_refused : text_bytes bytes_of_word ≤ length text → (t : Bool) → t ≡ has_lines (length text) → not t ≡ true → Imports board reader text board (taken_as status.Record reader)
    long_refused h t x e = not_formed (λ w. false≢true (sym (not-true t e) ∙ x ∙ long_lines text w h))

    -- ---- lines

    pub lines_refused : (held : List ℕ) → ReadsLines text held None → Imports board reader text board (taken_as status.Record reader)
    lines_refused held reads = malformed (sym reads.is)

    module _ (held : List ℕ) (from : ℕ) (reads : ReadsLines text held (Some from)) (count : ℕ) (c : LineCount (length text) count) where
      formed : well_formed folded ≡ true
      formed = sym reads.is

      read : LinesRead (content_of folded) held (count_for (length text)) from
      read = reads.told

      outside_is : is_outside v.shape.lines reader.upper (content_of folded) ≡ is_past v.shape.lines reader.upper from count
      unfolding is_outside
      outside_is = rw (read.type, read.count_is, read.address, ← c.is)

      module _ (p : Bool) (is : p ≡ is_past v.shape.lines reader.upper from count) where
        pub lines_outside : p ≡ true → Imports board reader text board (taken_as status.Outside reader)
        lines_outside e = past formed (outside_is ∙ sym is ∙ e)

        pub lines_out : p ≡ false → (board' : List ℕ) → board' ≡ sets board (line_from v reader.upper from) (words_of (take count held))
            → Imports board reader text board' (taken_as status.Ok reader)
        unfolding upper_behind record_holds
        lines_out e board' b =
            let whole = (within_told v.shape.lines reader.upper from count (sym is ∙ e)).whole in
            let all : (bank_bytes * reader.upper + from) % bytes_of_word ≡ 0 = omega (arith, whole) in
            let words = words_of (take (count_for (length text)) held) in
            accepted formed (outside_is ∙ sym is ∙ e) reader board' (kept_reader ready.before_end ∙ rw read.type)
            (b
            ∙ rw (read.type, read.address, read.data_is, c.is)
            (stored_lines words board (lines_at v.shape.entries) (bank_bytes * reader.upper + from) all))
          where
            kept_reader : reader.ended ≡ false → reader ≡ record { upper = reader.upper; ended = false }
            kept_reader f = ap (λ (x : Bool). record { upper = reader.upper; ended = x }) f
