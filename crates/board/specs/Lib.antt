pub mod Stores
pub mod Laws
pub mod Parts
pub mod Outcome
pub mod Kept
pub mod Verdict
