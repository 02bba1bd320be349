pub mod Answer
pub mod Needs
pub mod Tell
pub mod Whole
pub mod Determined
pub mod Form
pub mod Cases
