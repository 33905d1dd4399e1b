pub mod Run
pub mod Steps
pub mod Promises
pub mod Laws
pub mod Line
