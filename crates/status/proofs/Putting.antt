-- One law for each way out of putting a name.
use Prim.Native.Nat.{ℕ, ◌-◌, ◌<◌, ◌≤◌}
use mathlib.Core.Path.{◌≡◌, sym, ap, ◌∙◌}
use mathlib.Core.List.{List, [], ◌++◌}
use native.Mathlib.Omega.{arith}
use borrow.Author.Tests.{lt-leb}
use lib.ListN.{length, take, drop, length-drop}
use lib.Seq.{length-take-le}
use Rattle.status.specs.declared.names.Span.{Span}
use Rattle.status.specs.Names.{names, most_letters, name_of, with_name, PutsName}
use Rattle.status.specs.Letters.{letters, Spans}
use Rattle.status.specs.Laws.{name_none, name_short, with_name_holds}

pub put_none : (n : ℕ) (text : List ℕ) → length names ≤ n → PutsName n text text 0
put_none n text h = let none = name_none n h in record { letters = rw none; short = omega arith; left = rw none (sym (with_name_holds [] text (omega arith))) }

module _ (n : ℕ) (s : Span) (p : Spans n s) where
  span_length : length (name_of n) ≡ s.end - s.start
  span_length =
      ap length (sym p.is) ∙ length-take-le (s.end - s.start) (drop s.start letters)
      (rw (length-drop s.start letters) (omega (arith, p.within)))

  span_short : s.end - s.start ≤ most_letters
  span_short = omega (arith, span_length, name_short n)

  pub put_short : (text : List ℕ) → length text < s.end - s.start → PutsName n text text (s.end - s.start)
  unfolding with_name
  put_short text h =
      record { letters = sym span_length; short = span_short; left = rw (lt-leb (length (name_of n)) (length text) (omega (arith, h, span_length))) }

  module _ (all text : List ℕ) (same : all ≡ letters) where
    part_is : take (s.end - s.start) (drop s.start all) ≡ name_of n
    part_is = rw same p.is

    pub put_made : (part : List ℕ) → s.end - s.start ≤ length text → part ≡ take (s.end - s.start) (drop s.start all)
        → PutsName n text (part ++ drop (s.end - s.start) text) (s.end - s.start)
    put_made part h e =
        let put : part ++ drop (s.end - s.start) text ≡ name_of n ++ drop (length (name_of n)) text = rw (e, part_is, span_length) in
        record { letters = sym span_length; short = span_short; left = put ∙ sym (with_name_holds (name_of n) text (omega (arith, h, span_length))) }
