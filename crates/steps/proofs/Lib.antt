pub mod Moving
pub mod StoringHeld
pub mod StoringAbsent
pub mod Calls
