-- Printing into a buffer, and the laws of it that the proofs cite.
use Rattle.std.specs.Prelude.{ℕ, ◌+◌, ◌-◌, ◌*◌, ◌<◌, ◌≤◌, ◌≡◌, refl, List, [], ◌∷◌, ◌++◌, length, get_or, set, take, drop}
use Rattle.std.proofs.Common.{sym, ap₂, ◌∙◌, append_assoc, append-nil, add-one, arith, length-append, length-drop, take-append-drop, take_all, take-suc, take-suc-set, take_at, drop_at, drop-drop, drop-set-lt, length-take-le}
use Rattle.std.proofs.Math.Path.{ap}
use Rattle.base.specs.Parts.{rest_lent, rest_back}
use Rattle.status.specs.declared.Status.{Status}
use Rattle.status.specs.Names.{most_letters, name_of, PutsName}
use Rattle.status.specs.Laws.{name_short, with_name_holds}
use Rattle.status.specs.Numbers.{number_of}
use Rattle.text.specs.declared.Printer.{Printer}
use Rattle.text.specs.Text.{space_byte, most_digits, number_bytes, decimal_of, numbers_text, name_text}

-- A text of at most so many bytes was put into a buffer, from `at` on. What stood before it and behind it is kept.
pub record Prints (most : ℕ) (out : List ℕ) (at : ℕ) (text : List ℕ) (out' : List ℕ) (r : ℕ) : Type 0 where
  pub short : length text ≤ most
  pub end : r ≡ at + length text
  pub shown : take r out' ≡ take at out ++ text
  pub behind : drop r out' ≡ drop r out

-- The same of a printer: it still has the same buffer, of the same length.
pub record PrintsOn (most : ℕ) (p : Printer) (text : List ℕ) (p' : Printer) : Type 0 where
  pub same : p'.out.ghost_name ≡ p.out.ghost_name
  pub many : length p'.out.now ≡ length p.out.now
  pub printed : Prints most p.out.now p.used text p'.out.now p'.used

-- so the whole buffer is known
pub prints_whole : {most at r : ℕ} {out text out' : List ℕ} → Prints most out at text out' r → out' ≡ take at out ++ text ++ drop r out
prints_whole {at = at} {r = r} {out = out} {text = text} {out' = out'} p =
    sym (take-append-drop r out') ∙ ap₂ (λ (x y : List ℕ). x ++ y) p.shown p.behind

-- what is the same from q on is the same from a later place on
pub same_behind : (q r : ℕ) (xs ys : List ℕ) → q ≤ r → drop q xs ≡ drop q ys → drop r xs ≡ drop r ys
same_behind q r xs ys h e =
    let further : q + (r - q) ≡ r = omega arith in
    rw (← further, ← (drop-drop (r - q) q xs), ← (drop-drop (r - q) q ys), e)

pub prints_none : (most : ℕ) (out : List ℕ) (at : ℕ) → Prints most out at [] out at
prints_none most out at = record { short = omega arith; end = omega arith; shown = sym (append-nil (take at out)); behind = refl }

-- the same text, by another name, within another bound
pub prints_as : {m n : ℕ} {out out' : List ℕ} {at r : ℕ} {t u : List ℕ} → t ≡ u → m ≤ n → Prints m out at t out' r → Prints n out at u out' r
prints_as e h p = rw (← e) (record { short = omega (arith, p.short, h); end = p.end; shown = p.shown; behind = p.behind })

pub prints_then : {m n : ℕ} {out out' out'' : List ℕ} {at q r : ℕ} {t u : List ℕ} → Prints m out at t out' q → Prints n out' q u out'' r
    → Prints (m + n) out at (t ++ u) out'' r
prints_then {out = out} {out' = out'} {at = at} {q = q} {r = r} {t = t} {u = u} p s =
    record {
      short = rw length-append (omega (arith, p.short, s.short));
      end = rw length-append (omega (arith, p.end, s.end));
      shown = s.shown ∙ ap (λ (x : List ℕ). x ++ u) p.shown ∙ append_assoc (take at out) t u;
      behind = s.behind ∙ same_behind q r out' out (omega (arith, s.end)) p.behind;
    }

pub prints_byte : (out : List ℕ) (at b : ℕ) → at < length out → Prints 1 out at (b ∷ []) (set out at b) (at + 1)
prints_byte out at b h =
    record {
      short = omega arith;
      end = omega arith;
      shown = rw add-one (take-suc-set out at b h);
      behind = drop-set-lt (at + 1) out at b (omega arith);
    }

-- a text that was copied to its place in the buffer
pub prints_copied : (out text part : List ℕ) (at : ℕ) → at + length text ≤ length out → part ≡ text
    → Prints (length text) out at text (take at out ++ (part ++ drop (at + length text - at) (drop at out))) (at + length text)
prints_copied out text part at h e =
    let end : at + (at + length text - at) ≡ at + length text = omega arith in
    let rest = drop (at + length text) out in
    let front : length (take at out ++ text) ≡ at + length text
    = rw length-append (ap (λ (n : ℕ). n + length text) (length-take-le at out (omega arith))) in
    rw (e, drop-drop (at + length text - at) at out, end, ← (append_assoc (take at out) text rest))
    (record {
      short = omega arith;
      end = refl;
      shown = take_at (take at out ++ text) rest (at + length text) front;
      behind = drop_at (take at out ++ text) rest (at + length text) front;
    })

-- ── numbers ──

numbers_more : (ns : List ℕ) (n : ℕ) → numbers_text (ns ++ (n ∷ [])) ≡ numbers_text ns ++ ((space_byte ∷ []) ++ decimal_of n)
unfolding numbers_text
numbers_more [] n = rw append-nil
numbers_more (x ∷ ns) n =
    ap (λ (t : List ℕ). space_byte ∷ (decimal_of x ++ t)) (numbers_more ns n)
    ∙ ap (λ (t : List ℕ). space_byte ∷ t) (sym (append_assoc (decimal_of x) (numbers_text ns) ((space_byte ∷ []) ++ decimal_of n)))

pub numbers_start : (out numbers : List ℕ) (at : ℕ) → Prints 0 out at (numbers_text (take 0 numbers)) out at
unfolding numbers_text
numbers_start out numbers at = prints_none 0 out at

pub numbers_next : (out out' out'' out''' numbers : List ℕ) (at i p q r : ℕ) → Prints (number_bytes * i) out at (numbers_text (take i numbers)) out' p
    → Prints 1 out' p (space_byte ∷ []) out'' q → Prints most_digits out'' q (decimal_of (get_or numbers i 0)) out''' r → i < length numbers
    → Prints (number_bytes * (i + 1)) out at (numbers_text (take (i + 1) numbers)) out''' r
numbers_next out out' out'' out''' numbers at i p q r a b d h =
    let is : numbers_text (take (i + 1) numbers) ≡ numbers_text (take i numbers) ++ ((space_byte ∷ []) ++ decimal_of (get_or numbers i 0))
    = rw (add-one, take-suc numbers i 0 h) (numbers_more (take i numbers) (get_or numbers i 0)) in
    prints_as (sym is) (omega arith) (prints_then a (prints_then b d))

pub numbers_done : (out out' numbers : List ℕ) (at i r : ℕ) → Prints (number_bytes * i) out at (numbers_text (take i numbers)) out' r → length numbers ≤ i
    → i ≤ length numbers → Prints (number_bytes * length numbers) out at (numbers_text numbers) out' r
numbers_done out out' numbers at i r p h g =
    prints_as (ap numbers_text (take_all i numbers h)) (omega (arith, g)) p

-- ── a name ──

module _ (s : Status) (n k at : ℕ) (out part : List ℕ) (is : n ≡ number_of s) (room : at + most_letters ≤ length out)
    (put : PutsName n (take (length out - at) (drop at out)) part k) where
  part_is : part ≡ name_of n ++ drop (length (name_of n)) (drop at out)
  part_is = put.left ∙ rw (rest_lent at out) (with_name_holds (name_of n) (drop at out) (rw (length-drop at out) (omega (arith, room, name_short n))))

  abbrev rest : List ℕ
  rest = drop (length (name_of n)) (drop at out)

  whole_is : take at out ++ part ≡ take at out ++ name_of n ++ rest
  whole_is = rw part_is (sym (append_assoc (take at out) (name_of n) rest))

  front_length : length (take at out ++ name_of n) ≡ at + k
  front_length =
      let front : length (take at out) ≡ at = length-take-le at out (omega (arith, room)) in
      rw length-append (omega (arith, front, put.letters))

  shown_is : take (at + k) (take at out ++ part) ≡ take at out ++ name_of n
  shown_is = rw whole_is (take_at (take at out ++ name_of n) rest (at + k) front_length)

  behind_is : drop (at + k) (take at out ++ part) ≡ drop (at + k) out
  behind_is =
      rw whole_is (drop_at (take at out ++ name_of n) rest (at + k) front_length)
      ∙ drop-drop (length (name_of n)) at out
      ∙ ap (λ (m : ℕ). drop (at + m) out) (sym put.letters)

  pub name_printed : Prints most_letters out at (name_text s) (take at out ++ (part ++ drop (length out - at) (drop at out))) (at + k)
  unfolding name_text
  name_printed =
      rw (← is, rest_back at out part)
      (record { short = name_short n; end = ap (λ (m : ℕ). at + m) put.letters; shown = shown_is; behind = behind_is })
