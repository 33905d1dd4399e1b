-- The board's words and the abstract cache log: what a board reads as, before and after the stores of each step and at every cut.
-- Definitions: View. To be cited: line-reads (Seen), Flush, Advance, Recover, Proper, Format. Assumes nothing.
pub mod Stores
pub mod Zeros
pub mod View
pub mod Log
pub mod Reads
pub mod Seen
pub mod Flush
pub mod Advance
pub mod Recover
pub mod Proper
pub mod Format
