pub mod Statement
pub mod Lines
pub mod Theorem
