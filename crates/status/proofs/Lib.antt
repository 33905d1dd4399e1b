pub mod Table
pub mod Putting
