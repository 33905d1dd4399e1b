-- The tests of 1 and 3, one law for each way out of a function.
use Prim.Native.Nat.{ℕ, ◌<◌, ◌≤◌}
use mathlib.Core.Path.{◌≡◌, refl, sym, ap, ◌∙◌}
use mathlib.Core.Bool.{Bool, true, false, cond, not, false≢true}
use mathlib.Core.List.{List}
use native.Mathlib.Omega.{arith}
use borrow.Author.Tests.{lt-ltb, le-leb, lt-leb, ltb-false, eq-eqb, ne_eqb, not-true, not-false}
use lib.Dec.{leb, ltb}
use Rattle.std.specs.Prelude.{Result, Ok, Err, IsErrAnd}
use lib.ListN.{length, get_or}
use Rattle.base.specs.Tests.{held, hold_together}
use Rattle.base.specs.Walk.{first_all}
use Rattle.status.specs.declared.Status.TheVariants as status
use Rattle.layout.specs.declared.Control.{Control}
use Rattle.layout.specs.declared.Shape.{Shape}
use Rattle.layout.specs.Limits.{most_lines, most_entries}
use Rattle.layout.specs.Memory.{log_at, board_words}
use Rattle.layout.specs.Sizes.{Sizes}
use Rattle.layout.specs.Words.{Decoded, decode_shape, ShapeFits}
use Rattle.undo.specs.declared.LogState.{LogState}
use Rattle.undo.specs.Recovery.{Log, proper_at, first_improper}
use Rattle.checks.specs.View.{good_sizes}
use Rattle.checks.specs.Laws.{sizes_told, words_told}
use Rattle.convert.specs.Old.{old_version, old_last_epoch, old_most_entries, good_old_sizes, good_old_control, good_old, old_undo, old_log_in}
use Rattle.checks.specs.declared.Refusal.{Refusal}
use Rattle.convert.specs.Old.{decode_old_control, OldControlFits}
use Rattle.convert.specs.Laws.{Convertible, convertible_told}
use Rattle.convert.specs.Convert.{convertible, converted, entries_conversion, conversion, refused, filled}
use Rattle.convert.specs.Promises.{Readable, entries_checked, FillReady, Sized, Fills}

module _ (given words : ℕ) (s : Shape) (c : Control) where
  module _ (t : Convertible given words s c) where
    sizes : Sizes s.lines s.entries
    sizes = sizes_told words s.lines s.entries t.sizes

    second_words : words ≡ board_words s.lines s.entries
    second_words = words_told words s.lines s.entries t.sizes

    good_sizes_holds : good_old_sizes given s ≡ true
    unfolding good_old_sizes
    good_sizes_holds =
        rw (
          le-leb 1 s.lines sizes.lines_some,
          le-leb s.lines most_lines sizes.lines_most,
          le-leb 1 s.entries sizes.entries_some,
          le-leb s.entries old_most_entries (omega (arith, sizes.entries_most)),
          eq-eqb given (board_words s.lines s.entries) (t.same ∙ second_words),
        )

    good_control : good_old_control s c ≡ true
    unfolding good_old_control
    good_control =
        rw (
          ne_eqb c.persisted old_last_epoch t.persisted,
          lt-ltb c.start s.entries t.start,
          le-leb c.length s.entries t.length,
        )

    told_convertible : convertible given words s c ≡ true
    unfolding convertible good_old
    told_convertible =
        rw (
          le-leb log_at given (omega (arith, t.same, second_words)),
          eq-eqb s.version old_version t.version,
          good_sizes_holds,
          good_control,
          le-leb s.entries most_entries sizes.entries_most,
          eq-eqb words (board_words s.lines s.entries) second_words,
        )

  fails : (Convertible given words s c → ⊥) → false ≡ convertible given words s c
  fails none = go (convertible given words s c) refl
    where
      go : (t : Bool) → convertible given words s c ≡ t → false ≡ t
      go true e = absurd (none (convertible_told given words s c e))
      go false e = refl

  pub other_version : (s.version ≡ old_version → ⊥) → false ≡ convertible given words s c
  other_version h = fails (λ t. h t.version)

  module _ (good : Bool) (test : good ≡ good_sizes words s.lines s.entries) where
    pub other_sizes : not good ≡ true → false ≡ convertible given words s c
    other_sizes h = fails (λ t. false≢true (sym (not-true good h) ∙ test ∙ t.sizes))

  pub other_words : (given ≡ words → ⊥) → false ≡ convertible given words s c
  other_words h = fails (λ t. h t.same)

  pub last_persisted : c.persisted ≡ old_last_epoch → false ≡ convertible given words s c
  last_persisted h = fails (λ t. t.persisted h)

  pub start_outside : s.entries ≤ c.start → false ≡ convertible given words s c
  start_outside h = fails (λ t. let below : c.start < s.entries = t.start in omega arith)

  pub length_tested : s.version ≡ old_version → (good : Bool) → good ≡ good_sizes words s.lines s.entries → not good ≡ false → given ≡ words
      → (c.persisted ≡ old_last_epoch → ⊥) → c.start < s.entries → leb c.length s.entries ≡ convertible given words s c
  length_tested v good test h same p start =
      hold_together (leb c.length s.entries) (convertible given words s c)
      (λ e. told_convertible (record {
        version = v;
        sizes = sym test ∙ not-false good h;
        same = same;
        persisted = p;
        start = start;
        length = search held;
      }))
      (λ e. le-leb c.length s.entries (convertible_told given words s c e).length)

-- 3
entries_ready : (board old : List ℕ) (u : LogState) (lines found : ℕ) → Sized board old u lines → found ≡ first_improper (old_log_in old u) lines
    → u.control.length ≤ found → FillReady board old u lines
unfolding first_improper
entries_ready board old u lines found sized is h =
    record {
      ready =
          record {
            sound = sized.sound;
            words = sized.old_words;
            proper = first_all (proper_at (old_log_in old u) lines) u.control.length (rw is at h);
          };
      sizes = sized.sizes;
      words = sized.words;
    }

module _ (board old : List ℕ) (u : LogState) (lines : ℕ) where
  abbrev found : ℕ
  found = first_improper (old_log_in old u) lines

  abbrev improper : Result Unit Refusal
  improper = Err (record { status = status.Entry; value = found })

  abbrev proper : Result Unit Refusal
  proper = Ok tt

  readable : Sized board old u lines → Readable old u
  readable sized = record { sound = sized.sound; words = omega (arith, sized.old_words) }

  check_refused : (e : Refusal) → Err e ≡ entries_checked (old_log_in old u) lines → (r : Result Unit Refusal) → r ≡ Err e
      → Fills board (entries_conversion old u lines) board r
  unfolding entries_checked entries_conversion
  check_refused e h r x = go (ltb found u.control.length) h
    where
      go : (t : Bool) → Err e ≡ cond t improper proper
          → Fills board (cond t (refused status.Entry found) (filled (converted old u lines))) board r
      go true y = record { answer = x ∙ y; memory = refl }
      go false y = cc

  module _ (all : proper ≡ entries_checked (old_log_in old u) lines) where
    none_found : ltb found u.control.length ≡ false
    unfolding entries_checked
    none_found = go (ltb found u.control.length) refl all
      where
        go : (t : Bool) → ltb found u.control.length ≡ t → proper ≡ cond t improper proper
            → ltb found u.control.length ≡ false
        go true e y = cc
        go false e y = e

    check_passed : Sized board old u lines → FillReady board old u lines
    check_passed sized = entries_ready board old u lines found sized refl (ltb-false found u.control.length none_found)

    filled_whole : (board' : List ℕ) → board' ≡ converted old u lines → Fills board (entries_conversion old u lines) board' (Ok tt)
    unfolding entries_conversion
    filled_whole board' y = rw none_found (record { answer = refl; memory = y })

-- 1
module _ (old board : List ℕ) (r : Result Unit Refusal) where
  pub convert_short : length old < log_at → r ≡ Err (record { status = status.Shape; value = 0 }) → Fills board (conversion old (length board)) board r
  unfolding conversion convertible good_old
  convert_short h x =
      let e = lt-leb log_at (length old) h in
      record { answer = rw e x; memory = rw e }

module _ (old board : List ℕ) (c : Control) (s : Shape) (control : Decoded OldControlFits (decode_old_control (get_or old 0 0)) c)
    (shape : Decoded ShapeFits (decode_shape (get_or old 1 0)) s) (t : Bool) (test : t ≡ convertible (length old) (length board) s c) where
  pub convert_refused : (r : Result Unit Refusal) → not t ≡ true → r ≡ Err (record { status = status.Shape; value = 0 }) → Fills board (conversion old (length board)) board r
  unfolding conversion
  convert_refused r h x =
      record {
        answer = rw (← control.is, ← shape.is, ← test, not-true t h) x;
        memory = rw (← control.is, ← shape.is, ← test, not-true t h);
      }

  module _ (passed : not t ≡ false) where
    told : Convertible (length old) (length board) s c
    told = convertible_told (length old) (length board) s c (sym test ∙ not-false t passed)

    sized : Sized board old (old_undo s c) s.lines
    sized =
        let sizes = sizes_told (length board) s.lines s.entries told.sizes in
        let words = words_told (length board) s.lines s.entries told.sizes in
        record {
          sound =
              record {
                persisted = omega (arith, control.fits.persisted);
                some = sizes.entries_some;
                most = sizes.entries_most;
                begin = told.start;
                room = omega (arith, told.length);
                count = omega arith;
              };
          sizes = sizes;
          old_words = told.same ∙ words;
          words = words;
        }

    abbrev log : Log
    log = old_log_in old (old_undo s c)

    whole : (board' : List ℕ) (r : Result Unit Refusal) → Fills board (entries_conversion old (old_undo s c) s.lines) board' r
        → Fills board (conversion old (length board)) board' r
    unfolding conversion
    whole board' r x = rw (← control.is, ← shape.is, ← test, not-false t passed) x

    pub convert_readable : Readable old (old_undo s c)
    convert_readable = readable board old (old_undo s c) s.lines sized

    pub convert_improper : (e : Refusal) → Err e ≡ entries_checked log s.lines → (r : Result Unit Refusal) → IsErrAnd r (λ f. f ≡ e)
        → Fills board (conversion old (length board)) board r
    convert_improper e h (Ok x) g = absurd g
    convert_improper e h (Err f) g = whole board (Err f) (check_refused board old (old_undo s c) s.lines e h (Err f) (ap Err g))

    pub convert_ready : Ok tt ≡ entries_checked log s.lines → FillReady board old (old_undo s c) s.lines
    convert_ready h = check_passed board old (old_undo s c) s.lines h sized

    pub convert_filled : Ok tt ≡ entries_checked log s.lines → (board' : List ℕ) → board' ≡ converted old (old_undo s c) s.lines
        → Fills board (conversion old (length board)) board' (Ok tt)
    convert_filled h board' y = whole board' (Ok tt) (filled_whole board old (old_undo s c) s.lines h board' y)
