pub mod Search
pub mod Names
