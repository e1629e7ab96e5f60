pub mod Sequences
pub mod WellFormed
pub mod Encoded
pub mod Examples
pub mod Holding
