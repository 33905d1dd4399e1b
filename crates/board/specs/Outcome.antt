-- What the meter says at the end of a call that owed the stores ss under an allowance.
use Rattle.std.specs.Prelude.{ℕ, ◌+◌, ◌-◌, ◌<◌, ◌≤◌, ◌≡◌, true, false, List, take}
use native.Mathlib.Omega.{arith}
use borrow.Author.Tests.{eqb-true, eqb-false}
use Rattle.std.proofs.Math.ListN.{length}
use Rattle.board.specs.declared.Meter.{Meter}
use Rattle.board.specs.Stores.{Store, full, applied, allowed, was_cut, stored, spent, Ran}

pub allowed_full : (allowance : ℕ) → allowed (full allowance) ≡ allowance
unfolding allowed
allowed_full allowance = omega arith

-- a meter that was not cut has counted at most the allowance
pub not_cut : (m : Meter) → was_cut m ≡ false → 0 < m.left
unfolding was_cut
not_cut m e = omega (arith, eqb-false m.left 0 e)

module _ {b b' : List ℕ} {m : Meter} (allowance : ℕ) (ss : List Store) (p : Ran b (full allowance) ss b' m) where
  -- what is on the board
  pub ran_board : b' ≡ applied b (take allowance ss)
  unfolding stored
  ran_board = rw (allowed_full allowance) at p.memory

  pub ran_within : m.left ≤ allowance + 1
  unfolding spent
  ran_within = rw p.meter (omega arith)

  -- cut, exactly when more stores were due
  pub ran_cut_off : was_cut m ≡ true → allowance < length ss
  unfolding spent was_cut
  ran_cut_off e = let h : m.left ≡ 0 = eqb-true m.left 0 e in let g : allowance + 1 - length ss ≡ 0 = rw p.meter at h in omega arith

  pub ran_whole : was_cut m ≡ false → length ss ≤ allowance
  unfolding spent
  ran_whole e = let h : 0 < m.left = not_cut m e in let g : 0 < allowance + 1 - length ss = rw p.meter at h in omega arith

  -- then the meter's count is that of the stores
  pub ran_count : was_cut m ≡ false → allowance + 1 - m.left ≡ length ss
  unfolding spent
  ran_count e = let h : length ss ≤ allowance = ran_whole e in rw p.meter (omega arith)
