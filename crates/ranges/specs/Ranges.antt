-- For which epochs an undo entry keeps a line's old data, apart from how a word packs this: what a range covers, and when it
-- is proper. And the epochs that wait.
use Rattle.std.specs.Prelude.{ℕ, ◌≤◌, ◌<◌, ◌≡◌, Bool, true, false, ◌&&◌, ltb, leb}
use Rattle.std.proofs.Math.Bool.{and-false}
use Rattle.std.proofs.Common.{arith}
use borrow.Author.Tests.{lt-ltb, le-ltb, le-leb}
use Rattle.base.specs.Tests.{held}

-- PiCL: "they specify the validity range of the data"
pub record Range : Type 0 where
  pub address : ℕ
  pub from : ℕ
  pub till : ℕ

-- "each entry with ValidFrom ≤ P < ValidTill"
unfoldable pub covers : Range → (epoch : ℕ) → Bool
covers r epoch = leb r.from epoch && ltb epoch r.till

-- "address < N, ValidFrom < ValidTill", and a ValidTill from least to most
unfoldable pub proper_range : (lines least most : ℕ) → Range → Bool
proper_range lines least most r =
    ltb r.address lines && ltb r.from r.till && leb least r.till && leb r.till most

-- "Epochs between p and e wait": what the target of a pass is
pub record Waits (persisted running epoch : ℕ) : Type 0 where
  pub ahead : persisted < epoch
  pub ended : epoch < running

-- ---- what a range covers

module _ (r : Range) (epoch : ℕ) where
  pub covers_inside : r.from ≤ epoch → epoch < r.till → covers r epoch ≡ true
  unfolding covers
  covers_inside h k = rw (le-leb r.from epoch h, lt-ltb epoch r.till k)

  pub covers_ended : r.till ≤ epoch → covers r epoch ≡ false
  unfolding covers
  covers_ended h = rw (le-ltb epoch r.till h, and-false (leb r.from epoch))

-- ---- a proper range, test by test

pub record ProperFacts (lines least most : ℕ) (r : Range) : Type 0 where
  pub inside : r.address < lines
  pub nonempty : r.from < r.till
  pub after : least ≤ r.till
  pub before : r.till ≤ most

module _ (lines least most : ℕ) (r : Range) where
  pub proper_facts : proper_range lines least most r ≡ true → ProperFacts lines least most r
  unfolding proper_range
  proper_facts p =
      record {
        inside = search held depth 12;
        nonempty = search held depth 12;
        after = search held depth 12;
        before = search held depth 12;
      }

  pub facts_proper : ProperFacts lines least most r → proper_range lines least most r ≡ true
  unfolding proper_range
  facts_proper f =
      rw (
        lt-ltb r.address lines f.inside,
        lt-ltb r.from r.till f.nonempty,
        le-leb least r.till f.after,
        le-leb r.till most f.before,
      )

-- the same range between other bounds
pub proper_rebound : (lines least most least' most' : ℕ) (r : Range) → least' ≤ r.till → r.till ≤ most'
    → proper_range lines least most r ≡ true → proper_range lines least' most' r ≡ true
proper_rebound lines least most least' most' r l m p = facts_proper lines least' most' r (omega (arith, proper_facts lines least most r p))
