pub mod Came
pub mod Exact
pub mod Faults
pub mod Sound
pub mod Lent
pub mod Place
