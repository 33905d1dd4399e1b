-- Demand 3. To be believed: Statement, and Beyond for what is proved beyond the demand. The theorems are `demand_3` and
-- `whole` in proofs/Theorem; Witness has runs that meet the premises. Imports says the same of a board that was loaded.
pub mod Statement
pub mod Beyond
pub mod Witness
pub mod State
pub mod Reached
pub mod Fares
pub mod Caches
pub mod Calls
pub mod Steps
pub mod Power
pub mod Exports
pub mod Proper
pub mod Format
pub mod Reports
pub mod Imports
