pub mod Laws
pub mod Scanner
pub mod Sending
pub mod State
