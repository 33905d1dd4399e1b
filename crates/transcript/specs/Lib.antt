pub mod Text
pub mod Printing
pub mod Script
pub mod Session
pub mod Laws
pub mod Parts
pub mod Examples
