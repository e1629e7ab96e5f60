pub mod Whole
pub mod Progress
