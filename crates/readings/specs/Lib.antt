pub mod Standing
pub mod Parts
pub mod Alike
