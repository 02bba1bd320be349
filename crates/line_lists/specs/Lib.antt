pub mod Promise
pub mod Passes
pub mod Determined
