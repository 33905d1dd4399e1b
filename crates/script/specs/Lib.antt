-- The specifications of the crate `script`: the syntax, the reader's answers, their agreement, and lines of the paper.
pub mod Syntax
pub mod Steps
pub mod Laws
pub mod Examples
