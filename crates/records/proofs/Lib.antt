pub mod Rewriting
pub mod Searching
pub mod Checks
pub mod Writing
