pub mod Rest
pub mod Passes
pub mod Answers
