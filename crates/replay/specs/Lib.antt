pub mod Calls
pub mod Bench
pub mod Promises
pub mod Laws
pub mod Sizes
