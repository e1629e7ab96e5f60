pub mod Laws
pub mod Names
pub mod Settings
pub mod Holding
