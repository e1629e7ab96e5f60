pub mod Packets
pub mod Air
pub mod Lists
pub mod Scans
pub mod Laws
