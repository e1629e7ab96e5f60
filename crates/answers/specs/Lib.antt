pub mod Got
pub mod Given
pub mod Packet
pub mod Laws
