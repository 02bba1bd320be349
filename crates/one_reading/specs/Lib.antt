pub mod Single
pub mod Lay
pub mod Seen
