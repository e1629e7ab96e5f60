pub mod Whole
pub mod Seats
pub mod Heard
