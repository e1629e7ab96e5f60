pub mod Items
pub mod Taking
pub mod Evenings
pub mod Making
pub mod Shown
pub mod Examples
pub mod Holding
