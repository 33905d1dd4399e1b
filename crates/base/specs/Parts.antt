-- Parts of a memory: a pair of words, and a part from a place to the end, `&s[a..]` or `&mut s[a..]`, as it is lent and as it
-- comes back.
use Rattle.std.specs.Prelude.{ℕ, ◌+◌, ◌-◌, ◌≡◌, List, ◌++◌, length, set, take, drop}
use Rattle.std.proofs.Common.{append-nil, arith, length-drop, drop_of_length-le, take_all}

abbrev pub set_pair : List ℕ → (at first second : ℕ) → List ℕ
set_pair memory at first second = set (set memory at first) (at + 1) second

pub rest_lent : (a : ℕ) (b : List ℕ) → take (length b - a) (drop a b) ≡ drop a b
rest_lent a b = take_all (length b - a) (drop a b) (simp length-drop (omega arith))

pub rest_back : (a : ℕ) (b p : List ℕ) → p ++ drop (length b - a) (drop a b) ≡ p
rest_back a b p = rw (drop_of_length-le (drop a b) {i = length b - a} (simp length-drop (omega arith)), append-nil)
