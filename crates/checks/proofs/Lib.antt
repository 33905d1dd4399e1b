pub mod Testing
pub mod Counting
pub mod Checking
pub mod Rows
