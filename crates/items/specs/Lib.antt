pub mod Item
pub mod Examples
pub mod Holds
