pub mod Ratio
pub mod Worded
pub mod Today
pub mod Gap
pub mod Carried
pub mod Running
pub mod Laws
