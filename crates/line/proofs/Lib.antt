pub mod Extent
pub mod Pairs
pub mod Theorems
pub mod Bound
pub mod Exchange
pub mod Onward
pub mod Steps
