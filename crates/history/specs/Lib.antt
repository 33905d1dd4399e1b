-- The abstract half of the crash theorem: no words and no code. Its laws stand in proofs/, to be cited: Keeps for each action, Restore for
-- power-up, Lines for one line or entry.
-- Assumes nothing.
pub mod Machine
pub mod Invariant
pub mod Restore
