pub mod Laws
pub mod Lines
pub mod Writing
pub mod Imports
pub mod Naming
