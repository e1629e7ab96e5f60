pub mod Builders
pub mod Laws
pub mod Padded
pub mod Pdu
pub mod PduBuf
pub mod Refusals
pub mod Table
pub mod Holds
