pub mod Whole
pub mod Answering
pub mod Progress
