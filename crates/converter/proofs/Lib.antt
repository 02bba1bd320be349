pub mod Steps
pub mod Whole
pub mod Exact
pub mod Seventeen
