-- The work memory as history's volatile state. To be believed: `held_by` in Held, `cache_of` in Cache, `buffer_of` in durable's View,
-- `volatile_of` in View. To be cited: Proper and Slotted for the cases of a slot, Sets for the slots that a call visits and the one that an
-- address takes, Stores for a store to a slot, Buffer and Filter for the tests of the buffer, View for what a step makes of the volatile
-- state, Swept for the scan.
pub mod Parts
pub mod Held
pub mod Cache
pub mod Proper
pub mod Slotted
pub mod Sets
pub mod Stores
pub mod Buffer
pub mod Filter
pub mod View
pub mod Swept
pub mod Dirty
pub mod Moves
