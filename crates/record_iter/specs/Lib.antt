pub mod Iter
pub mod Laws
