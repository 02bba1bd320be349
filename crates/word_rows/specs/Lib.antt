pub mod Table
pub mod Runs
pub mod Word
pub mod Base
pub mod Seen
