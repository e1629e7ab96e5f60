pub mod Chunks
pub mod Replays
pub mod Entries
pub mod Laws
pub mod Runs
pub mod Holding
