pub mod Ring
pub mod Filtering
pub mod Stretching
pub mod Reading
pub mod Storing
pub mod Restoring
pub mod Kept
