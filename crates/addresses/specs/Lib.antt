pub mod Address
pub mod Examples
pub mod Filter
pub mod Header
pub mod Laws
