pub mod Old
pub mod Convert
pub mod Promises
pub mod Laws
