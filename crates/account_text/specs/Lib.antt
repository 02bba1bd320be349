pub mod Text
pub mod Reason
pub mod Readings
pub mod Rows
pub mod Lists
pub mod Job
pub mod Short
pub mod Parts
