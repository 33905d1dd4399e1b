-- Which record of a file has which number. Lines go by pairs, two to a record: pair p stands at byte address 16p.
use Rattle.std.specs.Prelude.{◌≡◌, ℕ, zero, suc, ◌+◌, ◌-◌, ◌*◌, ◌/◌, ◌%◌, ◌<◌, ◌≤◌, Bool, true, false, List, [], ◌∷◌, ◌++◌, length, drop, ◌==◌, ◌≢◌, nat_eq, slice_index_or, refl}
use Rattle.std.proofs.Common.{◌∙◌, arith, eq-eqb, eqb-true, length-append, get_or-append-add}
use Rattle.std.proofs.lemmas.Bool.{eqb-false}
use Rattle.std.proofs.lemmas.List.{get_or_at}
use Rattle.layout.specs.Bytes.{bytes_of_word, bytes_of}
use Rattle.intel_hex.specs.Records.{bank_bytes, record_lines, record_bytes, bank_text, data_text, end_text, opening, records_from, records_of}

abbrev pub bank_pairs : ℕ
bank_pairs = bank_bytes / record_bytes

-- how many records stand before the first of pair p: one for each earlier pair, and the openers of the banks that begin before it
unfoldable pub before : (p : ℕ) → ℕ
before p = p + (p + (bank_pairs - 1)) / bank_pairs

-- the number of the record that has pair p: its bank's opener stands before it too
unfoldable pub pair_at : (p : ℕ) → ℕ
pair_at p = p + p / bank_pairs + 1

-- the number of a bank's opener
unfoldable pub bank_at : (bank : ℕ) → ℕ
bank_at bank = (bank_pairs + 1) * bank

-- the bytes of the first pair of some lines, or of the line that is left of it
abbrev pub pair_bytes : List ℕ → List ℕ
pair_bytes [] = []
pair_bytes (x ∷ []) = bytes_of x
pair_bytes (x ∷ y ∷ lines) = bytes_of x ++ bytes_of y

abbrev pub pairs_in : List ℕ → ℕ
pairs_in lines = (length lines + (record_lines - 1)) / record_lines

-- ── laws ──

abbrev openers : (p : ℕ) → ℕ
openers p = length (opening (record_bytes * p))

-- the first pair of a bank
bank_first : (p : ℕ) → record_bytes * p % bank_bytes ≡ 0 → p ≡ bank_pairs * (record_bytes * p / bank_bytes)
bank_first p z = omega (arith, z)

pair_opens : (p : ℕ) → before p + openers p ≡ pair_at p
unfolding before pair_at
pair_opens p = go (record_bytes * p % bank_bytes == 0) refl
  where
    first : (c : ℕ) → p ≡ bank_pairs * c → p + (p + (bank_pairs - 1)) / bank_pairs + 1 ≡ p + p / bank_pairs + 1
    first c e = omega (arith, e)

    go : (t : Bool) → (record_bytes * p % bank_bytes == 0) ≡ t → p + (p + (bank_pairs - 1)) / bank_pairs + openers p ≡ p + p / bank_pairs + 1
    go true e =
        let z = eqb-true (record_bytes * p % bank_bytes) 0 e in rw e (first (record_bytes * p / bank_bytes) (bank_first p z))
    go false e = let z : record_bytes * p % bank_bytes ≡ 0 → ⊥ = λ h. eqb-false (record_bytes * p % bank_bytes) 0 e h in rw e (omega (arith, z))

pair_next : (p : ℕ) → before (p + 1) ≡ pair_at p + 1
unfolding before pair_at
pair_next p = omega arith

pair_later : (p j : ℕ) → pair_at p + 1 ≤ pair_at (p + suc j)
unfolding pair_at
pair_later p j = omega arith

-- what stands behind a pair's record
beyond : (x : List (List ℕ)) (d : List ℕ) (rest : List (List ℕ)) (k m : ℕ) → k ≡ length x + suc m → slice_index_or (x ++ (d ∷ rest)) k [] ≡ slice_index_or rest m []
beyond x d rest k m e = rw e (get_or-append-add x (d ∷ rest) (suc m) [])

next_address : (p : ℕ) → record_bytes * p + record_bytes ≡ record_bytes * (p + 1)
next_address p = omega arith

-- the record of the pair that is j pairs on
pub pair_record : (lines : List ℕ) (p j k : ℕ) → record_lines * j < length lines → before p + k ≡ pair_at (p + j)
    → slice_index_or (records_from (record_bytes * p) lines) k [] ≡ data_text (record_bytes * (p + j)) (pair_bytes (drop (record_lines * j) lines))
unfolding records_from
pair_record [] p j k h e = absurd (omega (arith, h))
pair_record (x ∷ []) p zero k h e =
    let z : p + 0 ≡ p = omega arith in
    let here : before p + k ≡ pair_at p = rw z at e in
    rw z (get_or_at (opening (record_bytes * p)) (data_text (record_bytes * p) (bytes_of x)) (end_text ∷ []) [] k (omega (arith, pair_opens p, here)))
pair_record (x ∷ []) p (suc j) k h e = absurd (omega (arith, h))
pair_record (x ∷ y ∷ lines) p zero k h e =
    let z : p + 0 ≡ p = omega arith in
    let here : before p + k ≡ pair_at p = rw z at e in
    rw z
    (get_or_at (opening (record_bytes * p)) (data_text (record_bytes * p) (bytes_of x ++ bytes_of y)) (records_from (record_bytes * p + record_bytes) lines) [] k
    (omega (arith, pair_opens p, here)))
pair_record (x ∷ y ∷ lines) p (suc j) k h e =
    let m = k - openers p - 1 in
    let s : p + suc j ≡ p + 1 + j = omega arith in
    let two : record_lines * suc j ≡ suc (suc (record_lines * j)) = omega arith in
    let on : k ≡ openers p + suc m = omega (arith, e, pair_later p j, pair_opens p) in
    let there : before (p + 1) + m ≡ pair_at (p + 1 + j) = rw (← s) (omega (arith, on, e, pair_opens p, pair_next p)) in
    beyond (opening (record_bytes * p)) (data_text (record_bytes * p) (bytes_of x ++ bytes_of y)) (records_from (record_bytes * p + record_bytes) lines) k m on
    ∙ rw (next_address p, s, two) (pair_record lines (p + 1) j m (omega (arith, h)) there)

-- the opener of the bank whose first pair is j pairs on
bank_opens : (p c : ℕ) → p ≡ bank_pairs * c → opening (record_bytes * p) ≡ bank_text c ∷ []
bank_opens p c e =
    let first : nat_eq (record_bytes * p % bank_bytes) 0 ≡ true = eq-eqb (record_bytes * p % bank_bytes) 0 (omega (arith, e)) in
    let which : record_bytes * p / bank_bytes ≡ c = omega (arith, e) in
    rw (first, which)

bank_before : (p c : ℕ) → p ≡ bank_pairs * c → before p ≡ bank_at c
unfolding before bank_at
bank_before p c e = omega (arith, e)

bank_later : (p j c : ℕ) → p + suc j ≡ bank_pairs * c → pair_at p + 1 ≤ bank_at c
unfolding pair_at bank_at
bank_later p j c e = omega (arith, e)

pub bank_record : (lines : List ℕ) (p j k c : ℕ) → record_lines * j < length lines → p + j ≡ bank_pairs * c → before p + k ≡ bank_at c
    → slice_index_or (records_from (record_bytes * p) lines) k [] ≡ bank_text c
unfolding records_from
bank_record [] p j k c h f e = absurd (omega (arith, h))
bank_record (x ∷ []) p zero k c h f e =
    let here : p ≡ bank_pairs * c = omega (arith, f) in
    let none : k ≡ 0 = omega (arith, e, bank_before p c here) in
    rw (bank_opens p c here, none)
bank_record (x ∷ []) p (suc j) k c h f e = absurd (omega (arith, h))
bank_record (x ∷ y ∷ lines) p zero k c h f e =
    let here : p ≡ bank_pairs * c = omega (arith, f) in
    let none : k ≡ 0 = omega (arith, e, bank_before p c here) in
    rw (bank_opens p c here, none)
bank_record (x ∷ y ∷ lines) p (suc j) k c h f e =
    let m = k - openers p - 1 in
    let on : k ≡ openers p + suc m = omega (arith, e, bank_later p j c f, pair_opens p) in
    let there : before (p + 1) + m ≡ bank_at c = omega (arith, on, e, pair_opens p, pair_next p) in
    beyond (opening (record_bytes * p)) (data_text (record_bytes * p) (bytes_of x ++ bytes_of y)) (records_from (record_bytes * p + record_bytes) lines) k m on
    ∙ rw (next_address p) (bank_record lines (p + 1) j m c (omega (arith, h)) (omega (arith, f)) there)

-- the last record, and how many there are
before_later : (p n : ℕ) → pair_at p + 1 ≤ before (p + 1 + n)
unfolding before pair_at
before_later p n = omega arith

pairs_more : (x y : ℕ) (lines : List ℕ) → pairs_in (x ∷ y ∷ lines) ≡ 1 + pairs_in lines
pairs_more x y lines = omega arith

pub end_record : (lines : List ℕ) (p k : ℕ) → before p + k ≡ before (p + pairs_in lines) → slice_index_or (records_from (record_bytes * p) lines) k [] ≡ end_text
unfolding records_from
end_record [] p k e = let z : p + 0 ≡ p = omega arith in let none : k ≡ 0 = omega (arith, (rw z at e)) in rw none
end_record (x ∷ []) p k e =
    beyond (opening (record_bytes * p)) (data_text (record_bytes * p) (bytes_of x)) (end_text ∷ []) k 0 (omega (arith, e, pair_opens p, pair_next p))
end_record (x ∷ y ∷ lines) p k e =
    let m = k - openers p - 1 in
    let s : p + pairs_in (x ∷ y ∷ lines) ≡ p + 1 + pairs_in lines = omega (arith, pairs_more x y lines) in
    let far : before p + k ≡ before (p + 1 + pairs_in lines) = rw s at e in
    let on : k ≡ openers p + suc m = omega (arith, far, before_later p (pairs_in lines), pair_opens p) in
    let there : before (p + 1) + m ≡ before (p + 1 + pairs_in lines) = omega (arith, on, far, pair_opens p, pair_next p) in
    beyond (opening (record_bytes * p)) (data_text (record_bytes * p) (bytes_of x ++ bytes_of y)) (records_from (record_bytes * p + record_bytes) lines) k m on
    ∙ rw (next_address p) (end_record lines (p + 1) m there)

records_counted : (lines : List ℕ) (p : ℕ) → before p + length (records_from (record_bytes * p) lines) ≡ before (p + pairs_in lines) + 1
unfolding records_from
records_counted [] p = let z : p + 0 ≡ p = omega arith in rw z
records_counted (x ∷ []) p = rw length-append (omega (arith, pair_opens p, pair_next p))
records_counted (x ∷ y ∷ lines) p =
    let s : p + pairs_in (x ∷ y ∷ lines) ≡ p + 1 + pairs_in lines = omega (arith, pairs_more x y lines) in
    rw (length-append, next_address p, s) (omega (arith, records_counted lines (p + 1), pair_opens p, pair_next p))

-- ── a whole file ──

abbrev pub bank_lines : ℕ
bank_lines = record_lines * bank_pairs

abbrev pub bank_records : ℕ
bank_records = bank_pairs + 1

-- the number of the last record of a file of so many lines
abbrev pub last_of : (count : ℕ) → ℕ
last_of count = (count - 1) / bank_lines + (count - 1) / record_lines + 2

last_before : (count : ℕ) → 1 ≤ count → before (0 + (count + (record_lines - 1)) / record_lines) ≡ last_of count
unfolding before
last_before count h = omega (arith, h)

-- "Each bank .. opens with a type 04 record, then type 00 records of 16 bytes (8 for an odd last line), and the file closes": an opener for each
-- bank, a record for each two lines, rounded up, and one more
pub records_ruled : (lines : List ℕ)
    → length (records_of lines) ≡ (length lines + (bank_lines - 1)) / bank_lines + (length lines + (record_lines - 1)) / record_lines + 1
unfolding before
records_ruled lines = omega (arith, records_counted lines 0)

pub records_many : (lines : List ℕ) → 1 ≤ length lines → length (records_of lines) ≡ last_of (length lines) + 1
unfolding before
records_many lines h = omega (arith, records_counted lines 0, last_before (length lines) h)

module _ (lines : List ℕ) (some : 1 ≤ length lines) where
  pub last_record : (k : ℕ) → k ≡ last_of (length lines) → slice_index_or (records_of lines) k [] ≡ end_text
  unfolding before
  last_record k e = end_record lines 0 k (omega (arith, e, last_before (length lines) some))

  module _ (k bank : ℕ) (h : k < last_of (length lines)) (b : bank ≡ k / bank_records) where
    pub bank_number : k ≡ bank_records * bank → slice_index_or (records_of lines) k [] ≡ bank_text bank
    unfolding before bank_at
    bank_number e = bank_record lines 0 (bank_pairs * bank) k bank (omega (arith, h, e)) (omega arith) (omega (arith, e))

    -- the first line of a record that is no opener
    pub first_line : (k ≢ bank_records * bank) → record_lines * (k - bank - 1) < length lines
    first_line n = omega (arith, h, b, n)

    pub pair_number : (k ≢ bank_records * bank) → (first : ℕ) → first ≡ record_lines * (k - bank - 1)
        → slice_index_or (records_of lines) k [] ≡ data_text (bytes_of_word * first) (pair_bytes (drop first lines))
    unfolding before pair_at
    pair_number n first f =
        let a : record_bytes * (0 + (k - bank - 1)) ≡ bytes_of_word * first = omega (arith, f) in
        let l : record_lines * (k - bank - 1) ≡ first = omega (arith, f) in
        rw (← a, ← l) (pair_record lines 0 (k - bank - 1) k (first_line n) (omega (arith, b, n)))
