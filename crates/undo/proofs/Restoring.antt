-- Recovery's stores go to the lines, behind the log: so they are stores to the lines' part of the board, for the entries as they are lent.
use Prim.Native.Nat.{ℕ, zero, suc, ◌+◌, ◌-◌, ◌<◌, ◌≤◌}
use mathlib.Core.Path.{◌≡◌, refl, sym, ap, ap₂, ◌∙◌}
use mathlib.Core.Bool.{Bool, true, false, cond, and-true}
use mathlib.Core.List.{List, [], ◌∷◌, ◌++◌, append-nil, append_assoc}
use native.Mathlib.Omega.{arith}
use borrow.Author.Tests.{lt-ltb, le-leb, lt-leb}
use lib.ListN.{length, get_or, take, drop, length-drop}
use lib.Dec.{leb}
use lib.Seq.{get_or-take}
use Rattle.std.proofs.Math.ListN.{get_or-append}
use Rattle.std.proofs.lemmas.List.{length_push, get_or_push}
use Rattle.base.specs.Parts.{rest_lent, rest_back}
use Rattle.board.specs.declared.Meter.{Meter}
use Rattle.board.specs.Stores.{Store, one, shifted, each, Ran}
use Rattle.board.specs.Laws.{ran_none, ran_then, each_none, each_next}
use Rattle.board.specs.Parts.{ran_part, shifted_append}
use Rattle.ranges.specs.Ranges.{covers}
use Rattle.layout.specs.declared.Entry.{Entry}
use Rattle.layout.specs.Memory.{log_at, lines_at}
use Rattle.layout.specs.Words.{decode_entry}
use Rattle.layout.specs.Words.{encode_control}
use Rattle.layout.specs.Memory.{control_at}
use Rattle.undo.specs.declared.LogState.{LogState}
use Rattle.undo.specs.Entries.{range_of}
use Rattle.undo.specs.Recovery.{restore_stores, restore_turn, restore_all}
use Rattle.undo.specs.Log.{place_of, entry_in, old_in, log_in, emptied, recover_stores}
use Rattle.undo.specs.Promises.{RecoverReady}
use Rattle.undo.specs.Stretches.{Stretches, log_words, restore_line, restore_back, AllNamed}
use Rattle.undo.specs.Laws.{proper_named, proper_till}
use Rattle.undo.proofs.Ring.{place_below}

-- ---- one entry

module _ (lines : List ℕ) (persisted : ℕ) (e : Entry) (old : ℕ) (m : Meter) where
  pub restore_skipped : persisted + e.span < e.till → Ran lines m (restore_line persisted e old) lines m
  unfolding restore_line
  restore_skipped h = rw (lt-leb (range_of e).from persisted (omega arith)) (ran_none lines m)

  pub restore_made : (lines' : List ℕ) (m' : Meter) → e.till ≤ persisted + e.span → Ran lines m (one e.address old) lines' m'
      → Ran lines m (restore_line persisted e old) lines' m'
  unfolding restore_line
  restore_made lines' m' h x = rw (le-leb (range_of e).from persisted (omega arith)) x

-- ---- the entries of a stretch, from the newest on

pub record Restoring (lines₀ : List ℕ) (persisted : ℕ) (entries : List (List ℕ)) (m₀ : Meter) (lines : List ℕ) (m : Meter) (left : List (List ℕ))
    (turn : ℕ) : Type 0 where
  pub ran : Ran lines₀ m₀ (each (restore_back persisted entries) turn) lines m
  pub rest : length left + turn ≡ length entries
  pub same : (i : ℕ) → i < length left → get_or left i [] ≡ get_or entries i []
  pub same_words : length lines ≡ length lines₀

module _ (lines₀ : List ℕ) (persisted : ℕ) (entries : List (List ℕ)) (m₀ : Meter) where
  pub restore_start : (left : List (List ℕ)) → left ≡ entries → Restoring lines₀ persisted entries m₀ lines₀ m₀ left 0
  restore_start left e = rw e (record { ran = each_none (restore_back persisted entries) lines₀ m₀; rest = omega arith; same = λ i h. refl; same_words = refl })

  module _ (lines : List ℕ) (m : Meter) (left left' : List (List ℕ)) (turn : ℕ) (so_far : Restoring lines₀ persisted entries m₀ lines m left turn)
      (words : List ℕ) (taken : left ≡ left' ++ words ∷ []) where
    counted : length left ≡ length left' + 1
    counted = ap length taken ∙ length_push left' words

    read : words ≡ get_or entries (length left') []
    read = sym (ap (λ (xs : List (List ℕ)). get_or xs (length left') []) taken ∙ get_or_push left' words [] (length left') refl)
        ∙ so_far.same (length left') (omega (arith, counted))

    pub restore_ready : AllNamed entries (length lines₀) → (decode_entry (get_or words 0 0)).address < length lines
    restore_ready named = rw (read, so_far.same_words) (named.named (length left') (omega (arith, counted, so_far.rest)))

    pub restore_next : (lines' : List ℕ) (m' : Meter) (turn' : ℕ) → turn' ≡ turn + 1 → length lines' ≡ length lines
        → Ran lines m (restore_line persisted (decode_entry (get_or words 0 0)) (get_or words 1 0)) lines' m'
        → Restoring lines₀ persisted entries m₀ lines' m' left' turn'
    unfolding restore_back
    restore_next lines' m' turn' next l x =
        rw next
        (let k : length entries - (turn + 1) ≡ length left' = omega (arith, counted, so_far.rest) in
        record {
          ran = each_next (restore_back persisted entries) turn so_far.ran (rw (k, ← read) x);
          rest = omega (arith, counted, so_far.rest);
          same = λ i h.
              sym (ap (λ (xs : List (List ℕ)). get_or xs i []) taken ∙ get_or-append left' (words ∷ []) [] i h) ∙ so_far.same i (omega (arith, counted));
          same_words = l ∙ so_far.same_words;
        })

  pub restore_end : (lines : List ℕ) (m : Meter) (left : List (List ℕ)) (turn : ℕ) → Restoring lines₀ persisted entries m₀ lines m left turn
      → length left ≡ 0 → Ran lines₀ m₀ (each (restore_back persisted entries) (length entries)) lines m
  restore_end lines m left turn so_far none =
      let e : turn ≡ length entries = omega (arith, so_far.rest) in rw e at so_far.ran

-- ---- both stretches, the newer entries first

each_parts : (f : ℕ → List Store) (a b : ℕ) → each f (a + b) ≡ each f a ++ each (λ (k : ℕ). f (a + k)) b
unfolding each
each_parts f a zero = let e : a + 0 ≡ a = omega arith in rw (e, append-nil)
each_parts f a (suc b) =
    let e : a + suc b ≡ suc (a + b) = omega arith in
    ap (each f) e ∙ ap (λ (l : List Store). l ++ f (a + b)) (each_parts f a b)
    ∙ append_assoc (each f a) (each (λ (k : ℕ). f (a + k)) b) (f (a + b))

shifted_each : (a : ℕ) (f g : ℕ → List Store) (n : ℕ) → ((k : ℕ) → k < n → shifted a (f k) ≡ g k) → shifted a (each f n) ≡ each g n
unfolding each shifted
shifted_each a f g zero same = refl
shifted_each a f g (suc n) same =
    shifted_append a (each f n) (f n)
    ∙ ap₂ (λ (x y : List Store). x ++ y) (shifted_each a f g n (λ k h. same k (omega arith))) (same n (omega arith))

module _ (board : List ℕ) (u : LogState) (lines : ℕ) (ready : RecoverReady board u lines) where
  abbrev first_line : ℕ
  first_line = lines_at u.entries

  abbrev head : List ℕ
  head = take first_line board

  abbrev part : List ℕ
  part = drop first_line board

  module _ (i : ℕ) (within : i < u.control.length) (words : List ℕ) (read : words ≡ log_words head u i) where
    entry_read : decode_entry (get_or words 0 0) ≡ entry_in board u i
    unfolding entry_in
    entry_read =
        rw read
        (ap decode_entry (get_or-take first_line board (log_at + place_of u i) 0 (omega (arith, place_below u ready.sound i))))

    old_read : get_or words 1 0 ≡ old_in board u i
    unfolding old_in
    old_read = rw read (get_or-take first_line board (log_at + place_of u i + 1) 0 (omega (arith, place_below u ready.sound i)))

    named : (decode_entry (get_or words 0 0)).address < length part
    named =
        rw (entry_read, length-drop)
        (omega (arith, proper_named (log_in board u) lines i (ready.proper i within), ready.board_words_holds))

    -- of an entry that ends above P, the test of its begin alone decides
    stores_same : shifted first_line (restore_line u.control.persisted (decode_entry (get_or words 0 0)) (get_or words 1 0))
        ≡ restore_stores (log_in board u) first_line i
    unfolding restore_line restore_stores covers shifted
    stores_same =
        rw (entry_read, old_read, lt-ltb u.control.persisted (entry_in board u i).till (proper_till (log_in board u) lines i (ready.proper i within)), and-true)
        (go (leb (range_of (entry_in board u i)).from u.control.persisted))
      where
        go : (t : Bool) → shifted first_line (cond t (one (entry_in board u i).address (old_in board u i)) [])
            ≡ cond t (one (first_line + (entry_in board u i).address) (old_in board u i)) []
        go true = refl
        go false = refl

  module _ (older newer : List (List ℕ)) (s : Stretches head u older newer) where
    older_all : AllNamed older (length part)
    older_all = record { named = λ i h. named i (omega (arith, s.all)) (get_or older i []) (s.older_same i h) }

    newer_all : AllNamed newer (length part)
    newer_all = record { named = λ i h. named (length older + i) (omega (arith, s.all)) (get_or newer i []) (s.newer_same i h) }

    newer_turn : (j : ℕ) → j < length newer
        → shifted first_line (restore_back u.control.persisted newer j) ≡ restore_turn (log_in board u) first_line j
    unfolding restore_back restore_turn
    newer_turn j h =
        let i : ℕ = length newer - (j + 1) in
        let k : u.control.length - (j + 1) ≡ length older + i = omega (arith, s.all) in
        rw k (stores_same (length older + i) (omega (arith, s.all)) (get_or newer i []) (s.newer_same i (omega arith)))

    older_turn : (j : ℕ) → j < length older
        → shifted first_line (restore_back u.control.persisted older j) ≡ restore_turn (log_in board u) first_line (length newer + j)
    unfolding restore_back restore_turn
    older_turn j h =
        let i : ℕ = length older - (j + 1) in
        let k : u.control.length - (length newer + j + 1) ≡ i = omega (arith, s.all) in
        rw k (stores_same i (omega (arith, s.all)) (get_or older i []) (s.older_same i (omega arith)))

    both_restored : {m m' m'' : Meter} {part' part'' : List ℕ}
        → Ran part m (each (restore_back u.control.persisted newer) (length newer)) part' m'
        → Ran part' m' (each (restore_back u.control.persisted older) (length older)) part'' m''
        → Ran board m (restore_all (log_in board u) first_line) (head ++ part'') m''
    both_restored {m} {m'} {m''} {part'} {part''} x y =
        let within : first_line ≤ length board = omega (arith, ready.board_words_holds) in
        let whole : u.control.length ≡ length newer + length older = omega (arith, s.all) in
        let turns : shifted first_line
        (each (restore_back u.control.persisted newer) (length newer) ++ each (restore_back u.control.persisted older) (length older))
        ≡ restore_all (log_in board u) first_line =
        shifted_append first_line (each (restore_back u.control.persisted newer) (length newer)) (each (restore_back u.control.persisted older) (length older))
        ∙ ap₂ (λ (p q : List Store). p ++ q)
        (shifted_each first_line (restore_back u.control.persisted newer) (restore_turn (log_in board u) first_line) (length newer) newer_turn)
        (shifted_each first_line (restore_back u.control.persisted older) (λ (k : ℕ). restore_turn (log_in board u) first_line (length newer + k))
        (length older) older_turn)
        ∙ sym (each_parts (restore_turn (log_in board u) first_line) (length newer) (length older))
        ∙ ap (each (restore_turn (log_in board u) first_line)) (sym whole) in
        rw (turns, rest_back) at (ran_part first_line within (rw (← (rest_lent first_line board)) at (ran_then x y)))

-- the board in its two parts, as they are lent
module _ (board : List ℕ) (u : LogState) (lines : ℕ) (ready : RecoverReady board u lines) (n : ℕ) (at : n ≡ lines_at u.entries)
    (front back : List ℕ) (front_is : front ≡ take n board) (back_is : back ≡ drop n board)
    (older newer : List (List ℕ)) (stretches : Stretches front u older newer) where
  front_same : front ≡ take (lines_at u.entries) board
  front_same = rw at at front_is

  back_same : back ≡ drop (lines_at u.entries) board
  back_same = rw at at back_is

  s : Stretches (take (lines_at u.entries) board) u older newer
  s = rw front_same at stretches

  pub newer_named : AllNamed newer (length back)
  newer_named = rw back_same (newer_all board u lines ready older newer s)

  pub older_named : (back' : List ℕ) → length back' ≡ length back → AllNamed older (length back')
  older_named back' l = rw (l, back_same) (older_all board u lines ready older newer s)

  pub restored : {m m' m'' : Meter} {back' back'' : List ℕ}
      → Ran back m (each (restore_back u.control.persisted newer) (length newer)) back' m'
      → Ran back' m' (each (restore_back u.control.persisted older) (length older)) back'' m''
      → Ran board m (restore_all (log_in board u) (lines_at u.entries)) (front ++ back'') m''
  restored x y = rw front_same (both_restored board u lines ready older newer s (rw back_same at x) y)

-- and then the control word
pub recover_done : (u : LogState) (w : ℕ) {board board' board'' : List ℕ} {m m' m'' : Meter}
    → Ran board m (restore_all (log_in board u) (lines_at u.entries)) board' m' → w ≡ encode_control (emptied u.control)
    → Ran board' m' (one control_at w) board'' m'' → Ran board m (recover_stores board u) board'' m''
unfolding recover_stores
recover_done u w x h y = rw (← h) (ran_then x y)
