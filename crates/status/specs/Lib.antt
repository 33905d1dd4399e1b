pub mod Numbers
pub mod Names
pub mod Letters
pub mod Laws
pub mod Tests
