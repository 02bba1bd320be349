pub mod Frames
pub mod Answers
