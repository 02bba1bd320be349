-- The rows of a job, and the laws that join them to its lines.
pub mod Rows
pub mod Runs
pub mod Part
pub mod Join
