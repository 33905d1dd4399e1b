pub mod Finishing
pub mod Passing
pub mod Calling
pub mod Boards
pub mod Asking
