-- A memory's words as entries, and the log's entries in their two stretches.
use Prim.Native.Nat.{ℕ, zero, suc, min, ◌+◌, ◌-◌, ◌*◌, ◌/◌, ◌<◌, ◌≤◌}
use mathlib.Core.Path.{◌≡◌, refl, sym, ap, ap₂, ◌∙◌}
use mathlib.Core.List.{List, [], ◌∷◌}
use native.Mathlib.Omega.{arith}
use lib.ListN.{length, get_or, take, drop, length-drop, length-take}
use lib.Seq.{get_or-take, get_or-drop}
use Rattle.std.specs.Simd.{first_chunks}
use Rattle.base.specs.Parts.{rest_lent}
use Rattle.layout.specs.Memory.{log_at, lines_at}
use Rattle.undo.specs.declared.LogState.{LogState}
use Rattle.undo.specs.Log.{Sound, place_of}
use Rattle.undo.specs.Stretches.{words_at, Entries, log_words, Stretches}
use Rattle.undo.proofs.Ring.{straight_place, turned_place}

-- entry i is the two words behind twice i others
words_behind : (words : List ℕ) (n at : ℕ) → words_at (drop n words) at ≡ words_at words (n + at)
words_behind words n at =
    let e : n + (at + 1) ≡ n + at + 1 = omega arith in
    ap₂ (λ (x y : ℕ). x ∷ y ∷ []) (get_or-drop n words at 0) (get_or-drop n words (at + 1) 0 ∙ ap (λ (k : ℕ). get_or words k 0) e)

chunk_at : (k : ℕ) (words : List ℕ) (i : ℕ) → i < k → 2 * k ≤ length words → get_or (first_chunks 2 k words) i [] ≡ words_at words (2 * i)
chunk_at zero words i h room = absurd (omega arith)
chunk_at (suc k) [] i h room = absurd (omega arith)
chunk_at (suc k) (x ∷ []) i h room = absurd (omega arith)
chunk_at (suc k) (x ∷ y ∷ words) zero h room = refl
chunk_at (suc k) (x ∷ y ∷ words) (suc i) h room =
    let e : 2 + 2 * i ≡ 2 * suc i = omega arith in
    chunk_at k words i (omega arith) (omega arith) ∙ words_behind (x ∷ y ∷ words) 2 (2 * i) ∙ ap (words_at (x ∷ y ∷ words)) e

pub entries_taken : (words : List ℕ) (count : ℕ) (entries : List (List ℕ)) → 2 * count ≤ length words
    → entries ≡ first_chunks 2 (length words / 2) words → length entries ≡ length words / 2 → Entries words count (take count entries)
entries_taken words count entries room e l =
    let most : count ≤ length words / 2 = omega arith in
    record {
      count_is = length-take count entries ∙ omega arith;
      same = λ i below.
          get_or-take count entries i [] below ∙ ap (λ (xs : List (List ℕ)). get_or xs i []) e
          ∙ chunk_at (length words / 2) words i (omega arith) (omega arith);
    }

module _ (board : List ℕ) (u : LogState) (sound : Sound u) (room : lines_at u.entries ≤ length board) (ring : List (List ℕ))
    (s : Entries (take (length board - log_at) (drop log_at board)) u.entries ring) where
  abbrev straight : List (List ℕ)
  straight = drop u.control.start ring

  at_place : (k i : ℕ) → k < u.entries → 2 * k ≡ place_of u i → get_or ring k [] ≡ log_words board u i
  at_place k i below p =
      s.same k below ∙ ap (λ (xs : List ℕ). words_at xs (2 * k)) (rest_lent log_at board) ∙ words_behind board log_at (2 * k)
      ∙ ap (λ (n : ℕ). words_at board (log_at + n)) p

  made : (older : ℕ) → older ≡ min u.control.length (length straight)
      → Stretches board u (take older straight) (take (u.control.length - older) (take u.control.start ring))
  made older o =
      let rest : length straight ≡ u.entries - u.control.start = rw (length-drop, s.count_is) in
      let front : length (take u.control.start ring) ≡ u.control.start = length-take u.control.start ring ∙ omega (arith, sound.begin, s.count_is) in
      let first : length (take older straight) ≡ older = length-take older straight ∙ omega (arith, o) in
      let second : length (take (u.control.length - older) (take u.control.start ring)) ≡ u.control.length - older =
      length-take (u.control.length - older) (take u.control.start ring) ∙ omega (arith, o, rest, front, sound.room, sound.begin) in
      record {
        all = omega (arith, o, first, second);
        none = λ h. omega (arith, o, first, second, rest, sound.begin);
        older_same = λ i h.
            get_or-take older straight i [] (omega (arith, first)) ∙ get_or-drop u.control.start ring i []
            ∙ at_place (u.control.start + i) i (omega (arith, first, o, rest))
            (omega (arith, straight_place u sound i (omega (arith, first, o, rest))));
        newer_same = λ i h.
            let behind : length (take older straight) + i ≡ u.entries - u.control.start + i = omega (arith, first, second, o, rest) in
            get_or-take (u.control.length - older) (take u.control.start ring) i [] (omega (arith, second))
            ∙ get_or-take u.control.start ring i [] (omega (arith, second, o, rest, sound.room))
            ∙ at_place i (length (take older straight) + i) (omega (arith, second, o, rest, sound.room))
            (omega (arith, turned_place u sound i (omega (arith, second, o, rest, sound.room))) ∙ ap (place_of u) (sym behind));
      }

  pub stretches_made : (turned rest : List (List ℕ)) → turned ≡ take u.control.start ring → rest ≡ drop u.control.start ring
      → (older : ℕ) → older ≡ min u.control.length (length rest) → Stretches board u (take older rest) (take (u.control.length - older) turned)
  stretches_made turned rest x y older o = rw (x, y) (made older (rw y at o))
