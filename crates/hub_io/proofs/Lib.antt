pub mod Going
pub mod NextRead
