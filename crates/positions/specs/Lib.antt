-- Where the characters of the lines stand, by rows, and what the writing of them asks for.
pub mod Positions
pub mod Lists
pub mod Ready
pub mod Runs
pub mod Piece
pub mod Word
pub mod Walk
pub mod Line
pub mod Lines
