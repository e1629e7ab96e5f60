pub mod Ranges
pub mod Settings
