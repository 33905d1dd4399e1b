pub mod Machine
pub mod Runs
pub mod Work
