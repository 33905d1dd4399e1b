pub mod Finding
pub mod Dividing
pub mod Lines
pub mod Victims
pub mod Sites
pub mod Dirty
