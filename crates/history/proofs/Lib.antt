pub mod Recall
pub mod Proper
pub mod Lines
pub mod Keeps
pub mod Restore
