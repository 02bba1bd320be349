pub mod Modest
pub mod Convert
pub mod Accepted
pub mod Steps
pub mod Determined
pub mod Exact
pub mod Seventeen
