pub mod Runs
pub mod Progress
pub mod Theorem
pub mod Imports
