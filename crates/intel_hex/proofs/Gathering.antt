-- The bytes of a record's lines are gathered: those of one, or of two.
use Rattle.std.proofs.Common.{◌≡◌, ℕ, suc, ◌+◌, ◌<◌, List, [], ◌∷◌, ◌++◌, length, get_or, take, drop, sym, ap, ◌∙◌, append_assoc, add-one, arith, drop_of_length-le, drop-cons, take_at}
use Rattle.layout.specs.Bytes.{bytes_of_word, bytes_of}
use Rattle.intel_hex.specs.Records.{record_bytes}
use Rattle.intel_hex.specs.Reading.{word_many, pair_many}
use Rattle.intel_hex.specs.Places.{pair_bytes}

module _ (lines into : List ℕ) (first : ℕ) (within : first < length lines) where
  abbrev line : ℕ
  line = get_or lines first 0

  module _ (part word : List ℕ) (copied : part ≡ word) (is : word ≡ bytes_of line) where
    put : part ≡ bytes_of line
    put = copied ∙ is

    pub gather_one : first + 1 ≡ length lines → take bytes_of_word (part ++ drop bytes_of_word into) ≡ pair_bytes (drop first lines)
    gather_one last =
        let none : drop (suc first) lines ≡ [] = drop_of_length-le lines {i = suc first} (omega (arith, last)) in
        let alone : drop first lines ≡ line ∷ [] = drop-cons lines first 0 within ∙ ap (λ (l : List ℕ). line ∷ l) none in
        rw (alone, put) (take_at (bytes_of line) (drop bytes_of_word into) bytes_of_word (word_many line))

    module _ (more : first + 1 ≡ length lines → ⊥) where
      abbrev next : ℕ
      next = get_or lines (first + 1) 0

      both : drop first lines ≡ line ∷ next ∷ drop (suc (suc first)) lines
      both =
          let second : drop (suc first) lines ≡ next ∷ drop (suc (suc first)) lines = rw add-one (drop-cons lines (suc first) 0 (omega (arith, within, more))) in
          drop-cons lines first 0 within ∙ ap (λ (l : List ℕ). line ∷ l) second

      abbrev begun : List ℕ
      begun = part ++ drop bytes_of_word into

      pub gather_two : (part₂ word₂ : List ℕ) → part₂ ≡ word₂ → word₂ ≡ bytes_of next
          → take record_bytes (take bytes_of_word begun ++ (part₂ ++ drop bytes_of_word (drop bytes_of_word begun))) ≡ pair_bytes (drop first lines)
      gather_two part₂ word₂ copied₂ is₂ =
          let behind = drop bytes_of_word (drop bytes_of_word begun) in
          let ahead : take bytes_of_word begun ≡ bytes_of line = rw put (take_at (bytes_of line) (drop bytes_of_word into) bytes_of_word (word_many line)) in
          let joined : take bytes_of_word begun ++ (part₂ ++ behind) ≡ (bytes_of line ++ bytes_of next) ++ behind
          = rw (ahead, copied₂, is₂) (sym (append_assoc (bytes_of line) (bytes_of next) behind)) in
          ap (λ (l : List ℕ). take record_bytes l) joined
          ∙ take_at (bytes_of line ++ bytes_of next) behind record_bytes (pair_many line next)
          ∙ rw both
