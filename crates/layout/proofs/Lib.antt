pub mod Testing
mod SlotTesting
pub mod WordReading
