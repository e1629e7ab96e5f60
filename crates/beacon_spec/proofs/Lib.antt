pub mod Broadcasts
pub mod Filtering
pub mod Reports
pub mod Rows
pub mod Runs
pub mod Holding
