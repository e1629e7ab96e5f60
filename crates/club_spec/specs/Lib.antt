pub mod State
pub mod Item
pub mod Log
pub mod Laws
pub mod Making
pub mod Examples
pub mod Holds
