-- The positions of a table's lines are those of the job's.
pub mod Runs
pub mod Piece
pub mod Ready
pub mod Join
pub mod Lines
