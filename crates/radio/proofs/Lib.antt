pub mod Whole
pub mod Payload
