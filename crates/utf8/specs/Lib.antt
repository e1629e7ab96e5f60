pub mod Utf8
pub mod Encoding
pub mod Examples
pub mod Holds
