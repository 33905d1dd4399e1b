pub mod Text
pub mod Printing
pub mod Examples
