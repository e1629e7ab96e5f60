-- A book, and what its calls return. The structs of these names in book are read as these records (specs/State.antt there); a book has private fields.
--   Book        == the company, the open turn, how many seats are filled, and of each seat its address, its open move and its closed move: seat n has place n - 1
--   SeatCalled  == what seating an address returns: the seat's number, or the refusal, and the book
--   BookCalled  == what a report and a close return
--   HeardMove   == the move record that counts in a report, if there is one: its turn and its move
use Rattle.std.specs.Prelude.{Bool, List, ℕ, Result}
use Rattle.addresses.specs.declared.device_address.DeviceAddress.{DeviceAddress}
use Rattle.book_spec.specs.declared.Move.{Move}
use Rattle.octets.specs.declared.error.Error.{Error}

pub record Book : Type 0 where
  pub company : ℕ
  pub turn : ℕ
  pub filled : ℕ
  pub addresses : List DeviceAddress
  pub kept : List Move
  pub closed : List Move

pub record SeatCalled : Type 0 where
  pub seat : Result ℕ Error
  pub book : Book

pub record BookCalled : Type 0 where
  pub outcome : Result (Unit {0}) Error
  pub book : Book

pub record HeardMove : Type 0 where
  pub found : Bool
  pub turn : ℕ
  pub played : Move
