pub mod Text
pub mod Print
pub mod Places
pub mod Written
pub mod Back
pub mod Unique
pub mod Stands
pub mod Determined
