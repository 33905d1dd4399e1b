-- Reading the log and the buffer: the search for the first improper entry, the test of the buffered entries and of their bits, and the run that an
-- advance drops.
use Prim.Native.Nat.{ℕ, zero, suc, ◌+◌, ◌-◌, ◌<◌, ◌≤◌}
use mathlib.Core.Path.{◌≡◌, refl, sym, ap, ap₂, subst, ◌∙◌}
use mathlib.Core.Bool.{Bool, true, false, cond, not, ◌&&◌, and-false}
use mathlib.Core.List.{List, []}
use native.Mathlib.Numerals.{add-one}
use native.Mathlib.Omega.{arith}
use borrow.Author.Tests.{lt-ltb, le-leb, lt-leb, ltb-true, ltb-false, leb-true, eqb-false, not-true, not-false}
use Rattle.std.proofs.Common.{eqb-true}
use mir.Syntax.{w64}
use mir.Val.{Fits}
use lib.Dec.{ltb, leb, eqb}
use lib.ListN.{length, get_or, take, drop, length-drop}
use lib.Seq.{get_or-drop}
use Rattle.std.proofs.Common.{take_all}
use Rattle.std.specs.Prelude.{None, Some}
use Rattle.std.specs.List.{slice_get}
use Rattle.std.specs.Option.{is_some}
use Rattle.std.proofs.Math.Decide.{ℕ_discrete}
use Rattle.std.proofs.lemmas.Bool.{false≢true}
use Rattle.std.proofs.lemmas.Option.{slice_get_within, slice_get-get_or, get_or_from_slice_get}
use Rattle.base.specs.Cases.{below_or_not}
use Rattle.base.specs.Walk.{first, first_from, Walked, walk_start, walk_end, walk_found, walk_next, walk_all, walk_not_all, first_same, first_early, first_late, first_all, first_most, both_first}
use Rattle.ranges.specs.Ranges.{Range, proper_range}
use Rattle.layout.specs.declared.Entry.{Entry}
use Rattle.layout.specs.Limits.{most_ahead}
use Rattle.layout.specs.Words.{Decoded, EntryFits, decode_entry, formed}
use Rattle.layout.specs.Laws.{entry_laws}
use Rattle.undo.specs.declared.LogState.{LogState}
use Rattle.undo.specs.Entries.{range_of, proper_word, proper_entry}
use Rattle.undo.specs.Recovery.{older_till, proper_at, first_improper}
use Rattle.undo.specs.Log.{Sound, entry_in, log_in}
use Rattle.undo.specs.Filter.{marks}
use Rattle.undo.specs.Log.{buffered_in, buffered_proper, buffer_proper, buffered_marked, buffer_marked, expired, dropped, DroppedBy}
use Rattle.undo.specs.Stretches.{Entries, Stretches, entry_of, least_till, in_order, useless_at}
use Rattle.undo.specs.Laws.{formed_nonempty, proper_till}

-- one lower bound stands for both: what is at or above least is above P, and not below the older entry's ValidTill
abbrev pub Bounds : (persisted older least : ℕ) → Type 0
Bounds persisted older least = (till : ℕ) → leb least till ≡ ltb persisted till && leb older till

-- the test of an entry's word, one law for each way out
module _ (word lines least most : ℕ) (t : Bool) (address : t ≡ ltb (decode_entry word).address lines) where
  pub word_address : not t ≡ true → false ≡ proper_word lines least most (decode_entry word)
  unfolding proper_word proper_range
  word_address x = rw (← address, not-true t x, and-false)

  module _ (named : not t ≡ false) (e : Entry) (d : Decoded EntryFits (decode_entry word) e) (s : Bool) (span : s ≡ formed e) where
    pub word_unformed : not s ≡ true → false ≡ proper_word lines least most (decode_entry word)
    unfolding proper_word
    word_unformed x = rw (← d.is, ← span, not-true s x)

    pub word_till : (r : Bool) → not s ≡ false → r ≡ leb least e.till && leb e.till most → r ≡ proper_word lines least most (decode_entry word)
    unfolding proper_word proper_range
    word_till r x between =
        let h : formed e ≡ true = sym span ∙ not-false s x in
        let inside : ltb e.address lines ≡ true = rw d.is (sym address ∙ not-false t named) in
        between ∙ rw (← d.is, h, inside, lt-ltb _ _ (formed_nonempty e h))

-- the two lower bounds of a ValidTill that one stands for
bounds_first : (persisted : ℕ) → Bounds persisted 0 (persisted + 1)
bounds_first persisted till = go (ltb persisted till) refl
  where
    go : (t : Bool) → ltb persisted till ≡ t → leb (persisted + 1) till ≡ t && leb 0 till
    go true e =
        let h : persisted < till = ltb-true persisted till e in
        le-leb (persisted + 1) till (omega arith) ∙ sym (le-leb 0 till (omega arith))
    go false e = let h : till ≤ persisted = ltb-false persisted till e in lt-leb (persisted + 1) till (omega arith)

bounds_next : (persisted older : ℕ) → persisted < older → Bounds persisted older older
bounds_next persisted older h till = go (leb older till) refl
  where
    go : (t : Bool) → leb older till ≡ t → t ≡ ltb persisted till && t
    go true e = let g : older ≤ till = leb-true older till e in rw (lt-ltb persisted till (omega arith))
    go false e = none (ltb persisted till)
      where
        none : (t : Bool) → false ≡ t && false
        none true = refl
        none false = refl

proper_between : (lines persisted older least : ℕ) → Bounds persisted older least → (r : Range)
    → proper_range lines least (persisted + most_ahead) r ≡ proper_entry lines persisted older r
unfolding proper_range proper_entry
proper_between lines persisted older least h r =
    rw (h r.till) (go (ltb persisted r.till) (ltb r.address lines && ltb r.from r.till))
  where
    go : (t some : Bool)
        → some && (t && leb older r.till) && leb r.till (persisted + most_ahead)
        ≡ t && (some && leb older r.till && leb r.till (persisted + most_ahead))
    go true some = refl
    go false some = rw and-false

-- two tests that agree at every place before which the second has passed stop at one place
from_agree : (f g : ℕ → Bool) (k i : ℕ) → ((j : ℕ) → j < i → g j ≡ true)
    → ((j : ℕ) → j < i + k → ((l : ℕ) → l < j → g l ≡ true) → f j ≡ g j) → first_from f i k ≡ first_from g i k
unfolding first_from
from_agree f g zero i before same = refl
from_agree f g (suc k) i before same =
    go (λ t. from_agree f g k (suc i) (λ j h. passed t j h (ℕ_discrete j i)) (λ j h past. same j (omega arith) past)) (f i) refl
  where
    here : f i ≡ g i
    here = same i (omega arith) before

    passed : g i ≡ true → (j : ℕ) → j < suc i → Dec (j ≡ i) → g j ≡ true
    passed e j h (yes p) = rw p e
    passed e j h (no n) = before j (omega arith)

    go : (g i ≡ true → first_from f (suc i) k ≡ first_from g (suc i) k)
        → (t : Bool) → f i ≡ t → cond t (first_from f (suc i) k) i ≡ cond (g i) (first_from g (suc i) k) i
    go rest true e = let t : g i ≡ true = sym here ∙ e in rw t (rest t)
    go rest false e = let t : g i ≡ false = sym here ∙ e in rw t

first_agree : (f g : ℕ → Bool) (n : ℕ) → ((i : ℕ) → i < n → ((j : ℕ) → j < i → g j ≡ true) → f i ≡ g i) → first f n ≡ first g n
first_agree f g n same = from_agree f g n 0 (λ j h. absurd (omega arith)) (λ j h before. same j (omega arith) before)

-- entries that stand behind each other in the log, from one on
module _ (board : List ℕ) (u : LogState) (entries : List (List ℕ)) (at : ℕ → ℕ) (step : (j : ℕ) → at (suc j) ≡ suc (at j))
    (same : (i : ℕ) → i < length entries → entry_of entries i ≡ entry_in board u (at i)) where
  useless_same : (target : ℕ) → first (useless_at entries target) (length entries) ≡ first (λ i. expired board u target (at i)) (length entries)
  unfolding useless_at expired
  useless_same target =
      first_same (useless_at entries target) (λ i. expired board u target (at i)) (length entries)
      (λ i h. ap (λ (e : Entry). leb e.till target) (same i h))

  module _ (lines bound : ℕ) (begun : Bounds u.control.persisted (older_till (log_in board u) (at 0)) bound) where
    above : (k : ℕ) → proper_at (log_in board u) lines k ≡ true
        → Bounds u.control.persisted (older_till (log_in board u) (suc k)) (entry_in board u k).till
    unfolding older_till
    above k p = bounds_next u.control.persisted (entry_in board u k).till (proper_till (log_in board u) lines k p)

    carried : (i : ℕ) → i < length entries → ((j : ℕ) → j < i → proper_at (log_in board u) lines (at j) ≡ true)
        → Bounds u.control.persisted (older_till (log_in board u) (at i)) (least_till entries bound i)
    unfolding least_till
    carried zero h before = begun
    carried (suc j) h before =
        subst (λ (k : ℕ). Bounds u.control.persisted (older_till (log_in board u) k) (entry_of entries j).till) (sym (step j))
        (subst (λ (e : Entry). Bounds u.control.persisted (older_till (log_in board u) (suc (at j))) e.till) (sym (same j (omega arith)))
        (above (at j) (before j (omega arith))))

    order_same : first (in_order entries lines u.control.persisted bound) (length entries)
        ≡ first (λ i. proper_at (log_in board u) lines (at i)) (length entries)
    unfolding in_order proper_word proper_at
    order_same =
        first_agree (in_order entries lines u.control.persisted bound) (λ i. proper_at (log_in board u) lines (at i)) (length entries)
        (λ i h before.
        rw (same i h)
        (ap (λ (p : Bool). formed (entry_in board u (at i)) && p)
        (proper_between lines _ _ (least_till entries bound i) (carried i h before) (range_of (entry_in board u (at i))))))

-- the log in its two stretches
module _ {board : List ℕ} {u : LogState} {older newer : List (List ℕ)} (s : Stretches board u older newer) where
  older_entry : (i : ℕ) → i < length older → entry_of older i ≡ entry_in board u i
  unfolding entry_in
  older_entry i h = rw (s.older_same i h)

  newer_entry : (i : ℕ) → i < length newer → entry_of newer i ≡ entry_in board u (length older + i)
  unfolding entry_in
  newer_entry i h = rw (s.newer_same i h)

  module _ (lines found : ℕ) (walked : found ≡ first (in_order older lines u.control.persisted (u.control.persisted + 1)) (length older)) where
    walked_older : found ≡ first (proper_at (log_in board u) lines) (length older)
    unfolding older_till
    walked_older =
        walked ∙ order_same board u older (λ i. i) (λ j. refl) older_entry lines (u.control.persisted + 1) (bounds_first u.control.persisted)

    pub search_most : found ≤ length older
    search_most = rw walked (first_most (in_order older lines u.control.persisted (u.control.persisted + 1)) (length older))

    pub search_early : found < length older → found ≡ first_improper (log_in board u) lines
    unfolding first_improper
    search_early h =
        walked_older ∙ sym (first_early (proper_at (log_in board u) lines) (length older) (length newer) (omega (arith, walked_older)))
        ∙ ap (first (proper_at (log_in board u) lines)) s.all

    pub search_none : None ≡ slice_get older (length older - 1) → 0 ≡ first_improper (log_in board u) lines
    unfolding first_improper
    search_none e =
        let empty : length older ≡ 0 =
        below_or_not (length older - 1) (length older)
        (λ h. absurd (false≢true (ap is_some (e ∙ slice_get-get_or older (length older - 1) [] h)))) (λ h. omega arith) in
        let behind : length newer ≡ 0 = s.none empty in
        let all : 0 ≡ u.control.length = omega (arith, s.all) in
        walk_end (walk_start (proper_at (log_in board u) lines) 0) (omega arith) ∙ ap (first (proper_at (log_in board u) lines)) all

    module _ (all : length older ≤ found) (words : List ℕ) (taken : Some words ≡ slice_get older (length older - 1)) where
      abbrev last : ℕ
      last = length older - 1

      search_last : last < length older
      search_last = slice_get_within older last words (sym taken)

      last_words : get_or older last [] ≡ words
      last_words = get_or_from_slice_get older last words [] (sym taken)

      pub search_late : (e : Entry) → Decoded EntryFits (decode_entry (get_or words 0 0)) e → (behind : ℕ)
          → behind ≡ first (in_order newer lines u.control.persisted e.till) (length newer)
          → found + behind ≡ first_improper (log_in board u) lines
      unfolding first_improper older_till
      search_late e d behind h =
          let whole : found ≡ length older = omega (arith, search_most) in
          let same : first (in_order newer lines u.control.persisted e.till) (length newer)
          ≡ first (λ i. proper_at (log_in board u) lines (length older + i)) (length newer) =
          order_same board u newer (λ i. length older + i) (λ j. omega arith) newer_entry lines e.till begun in
          ap₂ (λ (x y : ℕ). x + y) whole (h ∙ same)
          ∙ sym (first_late (proper_at (log_in board u) lines) (length older) (length newer) (omega (arith, walked_older)))
          ∙ ap (first (proper_at (log_in board u) lines)) s.all
        where
          begun : Bounds u.control.persisted (older_till (log_in board u) (length older + 0)) e.till
          begun =
              let here : length older + 0 ≡ suc last = omega (arith, search_last) in
              let same : e ≡ entry_in board u last =
              d.is ∙ ap (λ (w : List ℕ). decode_entry (get_or w 0 0)) (sym last_words) ∙ older_entry last search_last in
              let passed : proper_at (log_in board u) lines last ≡ true =
              first_all (proper_at (log_in board u) lines) (length older) (omega (arith, walked_older)) last search_last in
              rw (here, same) (bounds_next u.control.persisted (entry_in board u last).till (proper_till (log_in board u) lines last passed))

  pub both_fit : Sound u → (f g : ℕ → Bool) (a b : ℕ) → a ≡ first f (length older) → b ≡ first g (length newer) → Fits w64 (a + b)
  both_fit sound f g a b x y =
      let in_older : a ≤ length older = rw x (first_most f (length older)) in
      let in_newer : b ≤ length newer = rw y (first_most g (length newer)) in
      record { fits = omega (arith, s.all, sound.room, sound.most) }

  -- the run that an advance drops
  module _ (target run : ℕ) (walked : run ≡ first (useless_at older target) (length older)) where
    run_older : run ≡ first (expired board u target) (length older)
    run_older = walked ∙ useless_same board u older (λ i. i) (λ j. refl) older_entry target

    pub run_most : run ≤ length older
    run_most = rw walked (first_most (useless_at older target) (length older))

    pub run_early : run < length older → DroppedBy board u target run
    unfolding dropped
    run_early h = record {
      is =
          run_older ∙ sym (first_early (expired board u target) (length older) (length newer) (omega (arith, run_older)))
          ∙ ap (first (expired board u target)) s.all;
      within = omega (arith, s.all);
    }

    pub run_late : length older ≤ run → (behind : ℕ) → behind ≡ first (useless_at newer target) (length newer) → DroppedBy board u target (run + behind)
    unfolding dropped
    run_late h behind x =
        let whole : run ≡ length older = omega (arith, run_most) in
        let most : behind ≤ length newer = rw x (first_most (useless_at newer target) (length newer)) in
        record {
          is =
              ap₂ (λ (x y : ℕ). x + y) whole (x ∙ useless_same board u newer (λ i. length older + i) (λ j. omega arith) newer_entry target)
              ∙ sym (first_late (expired board u target) (length older) (length newer) (omega (arith, run_older)))
              ∙ ap (first (expired board u target)) s.all;
          within = omega (arith, s.all, run_most);
        }

  -- the same of what it keeps
  module _ (target kept : ℕ) (is : kept + first (useless_at older target) (length older) ≡ length older) where
    abbrev useless : ℕ
    useless = first (useless_at older target) (length older)

    pub kept_early : 0 < kept → DroppedBy board u target (u.control.length - (kept + length newer))
    kept_early h =
        let dropped : u.control.length - (kept + length newer) ≡ useless = omega (arith, is, s.all) in
        rw dropped (run_early target useless refl (omega (arith, is)))

    pub kept_late : kept ≤ 0 → (behind : ℕ) → behind + first (useless_at newer target) (length newer) ≡ length newer
        → DroppedBy board u target (u.control.length - behind)
    kept_late h behind x =
        let dropped : u.control.length - behind ≡ useless + first (useless_at newer target) (length newer) = omega (arith, is, x, s.all) in
        rw dropped (run_late target useless refl (omega (arith, is)) (first (useless_at newer target) (length newer)) refl)

-- the test of a buffered entry's word, one law for each way out
module _ (word lines epoch : ℕ) (t : Bool) (address : t ≡ ltb (decode_entry word).address lines) where
  pub buffered_outside : not t ≡ true → false ≡ proper_word lines 0 epoch (decode_entry word)
  buffered_outside x = word_address word lines 0 epoch t address x

  module _ (named : not t ≡ false) (s : Bool) (till : s ≡ leb (decode_entry word).till epoch) where
    pub buffered_late : not s ≡ true → false ≡ proper_word lines 0 epoch (decode_entry word)
    unfolding proper_word proper_range
    buffered_late x = rw (← till, not-true s x, and-false, and-false)

    pub buffered_span : (r : Bool) → not s ≡ false → r ≡ formed (decode_entry word) → r ≡ proper_word lines 0 epoch (decode_entry word)
    buffered_span r x span = go r refl
      where
        read : Decoded EntryFits (decode_entry word) (decode_entry word)
        read = record { is = refl; fits = entry_laws.decoded_fits word }

        go : (q : Bool) → r ≡ q → r ≡ proper_word lines 0 epoch (decode_entry word)
        go false e = e ∙ word_unformed word lines 0 epoch t address named (decode_entry word) read r span (ap not e)
        go true e =
            e ∙ word_till word lines 0 epoch t address named (decode_entry word) read r span true (ap not e)
            (sym (rw (le-leb 0 (decode_entry word).till (omega arith), ← till, not-false s x)))

-- the walk over a stretch that tests each entry, and carries the bound
pub record Ordered (entries : List (List ℕ)) (lines persisted bound i least : ℕ) : Type 0 where
  pub walked : Walked (in_order entries lines persisted bound) (length entries) i
  pub carried : least ≡ least_till entries bound i

module _ (entries : List (List ℕ)) (lines persisted bound : ℕ) where
  pub order_start : Ordered entries lines persisted bound 0 bound
  unfolding least_till
  order_start = record { walked = walk_start (in_order entries lines persisted bound) (length entries); carried = refl }

  module _ (i least : ℕ) (s : Ordered entries lines persisted bound i least) where
    pub order_end : length entries ≤ i → length entries ≡ first (in_order entries lines persisted bound) (length entries)
    order_end h = let e : length entries ≡ i = omega (arith, s.walked.within) in e ∙ walk_end s.walked h

    module _ (h : i < length entries) (t : Bool) (a : t ≡ proper_word lines least (persisted + most_ahead) (entry_of entries i)) where
      tested : t ≡ in_order entries lines persisted bound i
      unfolding in_order
      tested = rw (← s.carried) a

      pub order_found : not t ≡ true → i ≡ first (in_order entries lines persisted bound) (length entries)
      order_found x = walk_found s.walked t tested h x

      pub order_next : (e : Entry) → not t ≡ false → Decoded EntryFits (entry_of entries i) e → Ordered entries lines persisted bound (i + 1) e.till
      unfolding least_till
      order_next e x d = record { walked = walk_next s.walked t tested h x; carried = rw (add-one, d.is) }

-- the walk over a stretch up to the first entry that is not useless: what it has left are the last of the entries
pub record Left (entries rest : List (List ℕ)) (target : ℕ) : Type 0 where
  pub few : length rest ≤ length entries
  pub same : (j : ℕ) → get_or rest j [] ≡ get_or entries (length entries - length rest + j) []
  pub walked : Walked (useless_at entries target) (length entries) (length entries - length rest)

pub left_start : (entries : List (List ℕ)) (target : ℕ) → Left entries entries target
left_start entries target =
    let none : length entries - length entries ≡ 0 = omega arith in
    record {
      few = omega arith;
      same = λ j. ap (λ (k : ℕ). get_or entries k []) (omega arith);
      walked = rw none (walk_start (useless_at entries target) (length entries));
    }

module _ (entries rest : List (List ℕ)) (target : ℕ) (l : Left entries rest target) (e : Bool) (empty : e ≡ eqb (length rest) 0) where
  pub kept_none : not e ≡ false → 0 + first (useless_at entries target) (length entries) ≡ length entries
  kept_none h =
      let none : length rest ≡ 0 = eqb-true (length rest) 0 (sym empty ∙ not-false e h) in
      let all : length entries - length rest ≡ first (useless_at entries target) (length entries) = walk_end l.walked (omega (arith, none)) in
      omega (arith, none, all)

  module _ (some : not e ≡ true) (t : Bool) (tested : t ≡ leb (entry_of rest 0).till target) where
    one : 1 ≤ length rest
    one = omega (arith, eqb-false (length rest) 0 (sym empty ∙ not-true e some))

    abbrev at : ℕ
    at = length entries - length rest

    tested_here : t ≡ useless_at entries target at
    unfolding useless_at
    tested_here =
        tested ∙ ap (λ (x : List ℕ). leb (decode_entry (get_or x 0 0)).till target)
        (l.same 0 ∙ ap (λ (k : ℕ). get_or entries k []) (omega arith))

    pub kept_found : not t ≡ true → length rest + first (useless_at entries target) (length entries) ≡ length entries
    kept_found x =
        let passed : at ≡ first (useless_at entries target) (length entries) = walk_found l.walked t tested_here (omega (arith, one, l.few)) x in
        omega (arith, passed, l.few)

    pub kept_next : not t ≡ false → Left entries (take (length rest - 1) (drop 1 rest)) target
    kept_next x =
        let fewer : length (drop 1 rest) ≡ length rest - 1 = length-drop 1 rest in
        let next : length entries - length (drop 1 rest) ≡ at + 1 = omega (arith, fewer, one, l.few) in
        rw (take_all (length rest - 1) (drop 1 rest) (omega (arith, fewer))) (record {
          few = omega (arith, fewer, l.few);
          same = λ j. get_or-drop 1 rest j [] ∙ l.same (1 + j) ∙ ap (λ (k : ℕ). get_or entries k []) (omega (arith, next));
          walked = rw next (walk_next l.walked t tested_here (omega (arith, one, l.few)) x);
        })

-- the walk over the buffered entries that tests each, and the filter's bits of each
abbrev pub sound_at : List ℕ → (lines epoch : ℕ) → ℕ → Bool
sound_at buffer lines epoch i = buffered_proper buffer lines epoch i && buffered_marked buffer i

module _ (buffer : List ℕ) (count lines epoch : ℕ) (entries : List (List ℕ)) (s : Entries buffer count entries) (i : ℕ) where
  pub proper_end : (w : Walked (buffered_proper buffer lines epoch) count i) → length entries ≤ i → true ≡ buffer_proper buffer count lines epoch
  unfolding buffer_proper
  proper_end w h = walk_all w (omega (arith, s.count_is))

  module _ (h : i < length entries) (t : Bool) (proper : t ≡ proper_word lines 0 epoch (entry_of entries i)) where
    pub within : i < count
    within = omega (arith, s.count_is)

    pub proper_tested : t ≡ buffered_proper buffer lines epoch i
    unfolding buffered_proper buffered_in
    proper_tested = proper ∙ ap (λ (words : List ℕ). proper_word lines 0 epoch (decode_entry (get_or words 0 0))) (s.same i within)

    module _ (w : Walked (buffered_proper buffer lines epoch) count i) where
      pub proper_failed : not t ≡ true → false ≡ buffer_proper buffer count lines epoch
      unfolding buffer_proper
      proper_failed x = walk_not_all w t proper_tested within x

      pub proper_next : not t ≡ false → Walked (buffered_proper buffer lines epoch) count (i + 1)
      proper_next x = walk_next w t proper_tested within x

  module _ (w : Walked (sound_at buffer lines epoch) count i) where
    sound_both : leb count (first (sound_at buffer lines epoch) count) ≡ buffer_proper buffer count lines epoch && buffer_marked buffer count
    unfolding buffer_proper buffer_marked
    sound_both = both_first (buffered_proper buffer lines epoch) (buffered_marked buffer) count

    pub sound_end : length entries ≤ i → true ≡ buffer_proper buffer count lines epoch && buffer_marked buffer count
    sound_end h = walk_all w (omega (arith, s.count_is)) ∙ sound_both

    module _ (h : i < length entries) (t : Bool) (proper : t ≡ proper_word lines 0 epoch (entry_of entries i)) where
      pub sound_improper : not t ≡ true → false ≡ buffer_proper buffer count lines epoch && buffer_marked buffer count
      sound_improper x =
          walk_not_all w false (sym (rw (← (proper_tested h t proper), not-true t x))) (within h t proper) refl ∙ sound_both

      module _ (passed : not t ≡ false) (e : Entry) (d : Decoded EntryFits (entry_of entries i) e) (m : Bool) (marked : m ≡ marks buffer e.address) where
        tested_both : m ≡ sound_at buffer lines epoch i
        unfolding buffered_marked buffered_in
        tested_both = rw (← (proper_tested h t proper), not-false t passed) (marked ∙ ap (λ (x : Entry). marks buffer x.address) d.is
            ∙ ap (λ (words : List ℕ). marks buffer (decode_entry (get_or words 0 0)).address) (s.same i (within h t proper)))

        pub sound_unmarked : not m ≡ true → false ≡ buffer_proper buffer count lines epoch && buffer_marked buffer count
        sound_unmarked x = walk_not_all w m tested_both (within h t proper) x ∙ sound_both

        pub sound_next : not m ≡ false → Walked (sound_at buffer lines epoch) count (i + 1)
        sound_next x = walk_next w m tested_both (within h t proper) x
