pub mod Addresses
pub mod Boxes
pub mod Chains
pub mod Entries
pub mod Examples
pub mod Headers
pub mod Holding
