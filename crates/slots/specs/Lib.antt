pub mod Slots
pub mod Sets
pub mod Promises
pub mod Passes
pub mod Laws
pub mod Sited
