pub mod State
pub mod Moves
pub mod Book
pub mod History
pub mod TurnBook
pub mod Laws
pub mod Examples
pub mod Holds
