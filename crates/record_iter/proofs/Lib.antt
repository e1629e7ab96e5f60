pub mod Through
pub mod Rows
pub mod Holding
pub mod ReadSoFar
