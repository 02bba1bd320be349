pub mod Left
pub mod Seen
