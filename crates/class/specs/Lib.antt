pub mod Class
pub mod Laws
pub mod Entry
pub mod Marks
