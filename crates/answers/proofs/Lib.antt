pub mod Laws
pub mod Holding
