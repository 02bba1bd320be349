-- What a declined line needs, by the job and by the rows of its table.
pub mod Needed
pub mod Cases
pub mod Shortest
pub mod Pass
pub mod Theorems
pub mod Join
pub mod Measure
pub mod Determined
