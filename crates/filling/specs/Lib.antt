-- The search for a line's end, and the lines one after the other.
pub mod Search
pub mod Room
pub mod Lines
