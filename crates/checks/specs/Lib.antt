pub mod Registers
pub mod View
pub mod Refusals
pub mod Promises
pub mod Laws
pub mod Stages
