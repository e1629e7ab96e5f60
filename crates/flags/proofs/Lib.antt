pub mod Bits
pub mod Holding
