pub mod Costs
pub mod Bounds
