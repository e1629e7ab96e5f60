pub mod Name
pub mod Laws
