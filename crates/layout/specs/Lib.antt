pub mod Step
pub mod Element
pub mod Walk
pub mod Measure
