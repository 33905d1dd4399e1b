pub mod Effects
pub mod Promises
