-- Bytes as words, "most significant byte first".
use Rattle.std.specs.Prelude.{◌≡◌, ℕ, ◌+◌, ◌*◌, ◌/◌, List, ◌∷◌, ◌++◌, length, take, drop}
use Rattle.std.proofs.Math.Path.{sym, ap, ap₂}
use Rattle.std.proofs.Common.{◌∙◌, take_at, drop_at, drop-drop}
use native.Mathlib.Omega.{arith}
use Rattle.std.proofs.Math.ListN.{length-append}
use Rattle.base.specs.Listed.{listed, listed_same, listed_append, length_listed}
use Rattle.layout.specs.Bytes.{bytes_of_word, word_of}

-- word k of some bytes; and all of them, a last word that is not whole left out
unfoldable pub word_in : List ℕ → ℕ → ℕ
word_in bytes k = word_of (take bytes_of_word (drop (bytes_of_word * k) bytes))

unfoldable pub words_of : List ℕ → List ℕ
words_of bytes = listed (word_in bytes) 0 (length bytes / bytes_of_word)

-- ── laws ──

pub length_words : (bytes : List ℕ) → length (words_of bytes) ≡ length bytes / bytes_of_word
unfolding words_of
length_words bytes = length_listed (word_in bytes) 0 (length bytes / bytes_of_word)

-- the first word, and those of the rest
module _ (first rest : List ℕ) (h : length first ≡ bytes_of_word) where
  first_word : word_in (first ++ rest) 0 ≡ word_of first
  unfolding word_in
  first_word = ap word_of (take_at first rest bytes_of_word h)

  later_word : (k : ℕ) → word_in (first ++ rest) (1 + k) ≡ word_in rest k
  unfolding word_in
  later_word k =
      let e : bytes_of_word * (1 + k) ≡ bytes_of_word + bytes_of_word * k = omega arith in
      ap (λ (bytes : List ℕ). word_of (take bytes_of_word bytes))
      (ap (λ (n : ℕ). drop n (first ++ rest)) e ∙ sym (drop-drop (bytes_of_word * k) bytes_of_word (first ++ rest))
      ∙ ap (drop (bytes_of_word * k)) (drop_at first rest bytes_of_word h))

  pub words_cons : words_of (first ++ rest) ≡ word_of first ∷ words_of rest
  unfolding words_of listed
  words_cons =
      let n = length rest / bytes_of_word in
      let words : length (first ++ rest) / bytes_of_word ≡ 1 + n = rw length-append (omega arith) in
      ap (listed (word_in (first ++ rest)) 0) words ∙ listed_append (word_in (first ++ rest)) 1 n
      ∙ ap₂ (λ (x : ℕ) (xs : List ℕ). x ∷ xs) first_word
      (listed_same (λ k. word_in (first ++ rest) (1 + k)) (word_in rest) 0 n (λ k lo hi. later_word k))
