pub mod Searching
pub mod Filling
pub mod Testing
