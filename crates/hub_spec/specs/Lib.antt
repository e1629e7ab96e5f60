pub mod Line
pub mod Log
pub mod Reads
pub mod Reported
pub mod Sample
pub mod Examples
pub mod State
pub mod Holds
