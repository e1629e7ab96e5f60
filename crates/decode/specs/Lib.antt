pub mod Packet
pub mod Laws
