pub mod Said
pub mod Holding
