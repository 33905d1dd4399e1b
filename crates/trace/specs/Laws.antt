-- Bytes in any parts leave what `Run` says of them.
use Rattle.std.specs.Prelude.{◌≡◌, ℕ, zero, suc, ◌+◌, ◌-◌, ◌*◌, ◌/◌, ◌<◌, ◌≤◌, false, List, [], ◌∷◌, ◌++◌, length, take, drop, refl}
use Rattle.std.proofs.Common.{sym, ap₂, ◌∙◌, arith, add-zero, add-suc, le-leb, length-append, length-drop, drop_of_length-le, take_all, length-take-le}
use Rattle.std.proofs.Math.Path.{ap}
use mathlib.Core.List.{foldl, flatten, append_assoc, append-nil}
use Rattle.std.proofs.Math.Numerals.{add-one}
use Rattle.std.proofs.lemmas.Bool.{lt-leb}
use Rattle.std.proofs.lemmas.List.{take-append-le, drop-append-le}
use Rattle.base.specs.Cases.{below_or_not}
use Rattle.layout.specs.Bytes.{AreBytes, bytes_drop, bytes_take}
use Rattle.status.specs.Numbers.{is_ok}
use Rattle.records.specs.declared.Reader.{Reader}
use Rattle.records.specs.Records.{record_bytes, reading}
use Rattle.records.specs.Steps.{step_of, is_full, reading_by}
use Rattle.records.specs.Laws.{reader_of, reader_new, reader_steps, reader_reads, reading_first, front_bytes}
use Rattle.trace.specs.Run.{State, begun, turn, record_at, after, ran, failed, line_text, printed}
use Rattle.trace.specs.Steps.{Machine, resting, turned, waiting, stepped, fed, finished, broken}

-- the whole records of some bytes, and what is behind them
abbrev pub whole_in : List ℕ → ℕ
whole_in bytes = length bytes / record_bytes

abbrev pub rest_of : List ℕ → List ℕ
rest_of bytes = drop (record_bytes * whole_in bytes) bytes

-- the definition's run after these bytes
abbrev pub so_far : State → (bytes : List ℕ) → Machine
so_far s bytes = record { state = after s bytes (whole_in bytes); reader = reader_of (rest_of bytes) }

rest_length : (bytes : List ℕ) → length (rest_of bytes) ≡ length bytes - record_bytes * whole_in bytes
rest_length bytes = length-drop (record_bytes * whole_in bytes) bytes

rest_short : (bytes : List ℕ) → length (rest_of bytes) < record_bytes
rest_short bytes = omega (arith, rest_length bytes)

-- bytes behind a whole record do not change it
record_kept : (xs ys : List ℕ) (k : ℕ) → record_bytes * k + record_bytes ≤ length xs → record_at (xs ++ ys) k ≡ record_at xs k
record_kept xs ys k h =
    ap (take record_bytes) (drop-append-le (record_bytes * k) xs ys (omega arith))
    ∙ take-append-le record_bytes (drop (record_bytes * k) xs) ys (rw (length-drop (record_bytes * k) xs) (omega arith))

after_kept : (s : State) (xs ys : List ℕ) (k : ℕ) → record_bytes * k ≤ length xs → after s (xs ++ ys) k ≡ after s xs k
unfolding after
after_kept s xs ys zero h = refl
after_kept s xs ys (suc k) h = ap₂ (λ (t : State) (x : List ℕ). turn t (reading x)) (after_kept s xs ys k (omega arith)) (record_kept xs ys k (omega arith))

module _ (s : State) (xs : List ℕ) (b : ℕ) (h : AreBytes xs) where
  abbrev more : List ℕ
  more = xs ++ (b ∷ [])

  count_more : length more ≡ length xs + 1
  count_more = length-append xs (b ∷ [])

  rest_more : drop (record_bytes * whole_in xs) more ≡ rest_of xs ++ (b ∷ [])
  rest_more = drop-append-le (record_bytes * whole_in xs) xs (b ∷ []) (omega arith)

  reader_more : step_of (reader_of (rest_of xs)) b ≡ reader_of (rest_of xs ++ (b ∷ []))
  reader_more = reader_steps (rest_of xs) b (bytes_drop (record_bytes * whole_in xs) xs h) (rest_short xs)

  same_after : after s more (whole_in xs) ≡ after s xs (whole_in xs)
  same_after = after_kept s xs (b ∷ []) (whole_in xs) (omega arith)

  abbrev longer : List ℕ
  longer = rest_of xs ++ (b ∷ [])

  longer_length : length longer ≡ length xs - record_bytes * whole_in xs + 1
  longer_length = rw (← (rest_length xs)) (length-append (rest_of xs) (b ∷ []))

  -- the byte does not complete a record
  module _ (l : length longer < record_bytes) where
    same_whole : whole_in more ≡ whole_in xs
    same_whole = omega (arith, count_more, longer_length)

    byte_waits : waiting (so_far s xs) (reader_of longer) ≡ so_far s more
    byte_waits i =
        record {
          state = (sym same_after ∙ ap (after s more) (sym same_whole)) i;
          reader = reader_of ((sym rest_more ∙ ap (λ (k : ℕ). drop (record_bytes * k) more) (sym same_whole)) i);
        }

  -- it does
  module _ (l : record_bytes ≤ length longer) where
    one_more : whole_in more ≡ whole_in xs + 1
    one_more = omega (arith, count_more, longer_length)

    last_record : record_at more (whole_in xs) ≡ longer
    last_record = ap (take record_bytes) rest_more ∙ take_all record_bytes longer (omega (arith, longer_length))

    none_left : rest_of more ≡ []
    none_left = drop_of_length-le more {i = record_bytes * whole_in more} (omega (arith, one_more, count_more, longer_length))

    turn_more : turn (after s xs (whole_in xs)) (reading_by (reader_of longer)) ≡ after s more (whole_in xs + 1)
    unfolding after
    turn_more =
        rw add-one (ap₂ turn (sym same_after) (reader_reads longer (omega (arith, longer_length)) ∙ ap reading (sym last_record)))

    record_taken : turned (so_far s xs) (reading_by (reader_of longer)) ≡ so_far s more
    record_taken i =
        record {
          state = (turn_more ∙ ap (after s more) (sym one_more)) i;
          reader = (reader_new ∙ ap reader_of (sym none_left)) i;
        }

  step_so_far : stepped (so_far s xs) b ≡ so_far s more
  unfolding stepped is_full
  step_so_far =
      rw reader_more (below_or_not (length longer) record_bytes
      (λ l. rw (lt-leb record_bytes (length longer) l) (byte_waits l))
      (λ l. rw (le-leb record_bytes (length longer) l) (record_taken l)))

-- bytes that follow others
pub fed_so_far : (s : State) (xs ys : List ℕ) → AreBytes (xs ++ ys) → fed (so_far s xs) ys ≡ so_far s (xs ++ ys)
unfolding fed
fed_so_far s xs [] h = ap (so_far s) (sym (append-nil xs))
fed_so_far s xs (b ∷ ys) h =
    let same = append_assoc xs (b ∷ []) ys in
    ap (λ (m : Machine). foldl stepped m ys) (step_so_far s xs b (front_bytes xs (b ∷ ys) h))
    ∙ fed_so_far s (xs ++ (b ∷ [])) ys (rw same h)
    ∙ ap (so_far s) same

pub starts_so_far : (s : State) → resting s ≡ so_far s []
unfolding after
starts_so_far s = ap (λ (r : Reader). record { state = s; reader = r }) reader_new

-- the bytes of a whole record are that record
pub record_fed : (s : State) (bytes : List ℕ) → AreBytes bytes → record_bytes ≤ length bytes → fed (resting s) (take record_bytes bytes) ≡ resting (turn s (reading bytes))
unfolding after
record_fed s bytes h long =
    let whole : length (take record_bytes bytes) ≡ record_bytes = length-take-le record_bytes bytes long in
    let one : whole_in (take record_bytes bytes) ≡ 1 = omega (arith, whole) in
    ap (λ (m : Machine). fed m (take record_bytes bytes)) (starts_so_far s)
    ∙ fed_so_far s [] (take record_bytes bytes) (bytes_take record_bytes bytes h)
    ∙ λ i. record {
      state = (ap (after s (take record_bytes bytes)) one ∙ ap (turn s) (reading_first (take record_bytes bytes) ∙ reading_first bytes)) i;
      reader = (ap reader_of (none_behind whole one) ∙ sym reader_new) i;
    }
  where
    none_behind : length (take record_bytes bytes) ≡ record_bytes → whole_in (take record_bytes bytes) ≡ 1 → rest_of (take record_bytes bytes) ≡ []
    none_behind whole one = drop_of_length-le (take record_bytes bytes) {i = record_bytes * whole_in (take record_bytes bytes)} (omega (arith, whole, one))

-- whatever parts the bytes come in, the state after them is that of the bytes so far
parts_from : (s : State) (xs : List ℕ) (parts : List (List ℕ)) → AreBytes (xs ++ flatten parts) → foldl fed (so_far s xs) parts ≡ so_far s (xs ++ flatten parts)
unfolding flatten
parts_from s xs [] h = ap (so_far s) (sym (append-nil xs))
parts_from s xs (part ∷ parts) h =
    let same = append_assoc xs part (flatten parts) in
    ap (λ (m : Machine). foldl fed m parts) (fed_so_far s xs part (front_bytes (xs ++ part) (flatten parts) (rw same h)))
    ∙ parts_from s (xs ++ part) parts (rw same h)
    ∙ ap (so_far s) same

pub parts_so_far : (s : State) (parts : List (List ℕ)) → AreBytes (flatten parts) → foldl fed (resting s) parts ≡ so_far s (flatten parts)
parts_so_far s parts h = ap (λ (m : Machine). foldl fed m parts) (starts_so_far s) ∙ parts_from s [] parts h

-- and at the end of the file that of the whole run
pub finished_ran : (s : State) (file : List ℕ) → finished (so_far s file) ≡ resting (ran s file)
unfolding ran after
finished_ran s file =
    ap resting (rw add-one (ap (turn (after s file (whole_in file)))
    (reader_reads (rest_of file) (omega (arith, rest_short file))
    ∙ ap reading (sym (take_all record_bytes (rest_of file) (omega (arith, rest_short file)))))))

pub broken_failed : (s : State) (bytes : List ℕ) → broken (so_far s bytes) ≡ resting (failed s bytes)
unfolding failed
broken_failed s bytes = refl

abbrev line_of : State → List ℕ
line_of s = line_text s.status s.totals

-- so the line of a run whose file has come in parts is the definition's
pub parts_printed : (lines entries slots : ℕ) (parts : List (List ℕ)) → AreBytes (flatten parts)
    → line_of (finished (foldl fed (resting (begun lines entries slots)) parts)).state ≡ printed lines entries slots (flatten parts)
parts_printed lines entries slots parts h =
    let s = begun lines entries slots in
    ap (λ (m : Machine). line_of (finished m).state) (parts_so_far s parts h) ∙ ap (λ (m : Machine). line_of m.state) (finished_ran s (flatten parts))

-- ── what has ended stays so, whatever follows ──

over_stays : (s : State) (file : List ℕ) (k n : ℕ) → is_ok (after s file k).status ≡ false → after s file (k + n) ≡ after s file k
unfolding after turn
over_stays s file k zero h = ap (after s file) (add-zero k)
over_stays s file k (suc n) h = rw (add-suc k n, over_stays s file k n h, h)

-- so a caller may stop there
pub ended_early : (s : State) (xs ys : List ℕ) → is_ok (so_far s xs).state.status ≡ false → ran s (xs ++ ys) ≡ (so_far s xs).state
unfolding ran
ended_early s xs ys h =
    let kept = after_kept s xs ys (whole_in xs) (omega arith) in
    let all = length-append xs ys in
    let more : whole_in (xs ++ ys) + 1 ≡ whole_in xs + (whole_in (xs ++ ys) + 1 - whole_in xs) = omega (arith, all) in
    ap (after s (xs ++ ys)) more ∙ over_stays s (xs ++ ys) (whole_in xs) (whole_in (xs ++ ys) + 1 - whole_in xs) (ap (λ (t : State). is_ok t.status) kept ∙ h) ∙ kept
