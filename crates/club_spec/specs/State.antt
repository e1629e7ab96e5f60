-- A club, and what its calls return. The structs of these names in club are read as these records (specs/State.antt there); a club has private fields.
--   Club        == the book that it keeps, and the scanner that it listens with
--   TakenItem   == what taking an item did: the club, the octets of the item, and the octets of its line
--   TakenItems  == the same of the items at the front of some octets
use Rattle.std.specs.Prelude.{ℕ}
use Rattle.beacon_spec.specs.State.{BeaconScanner}
use Rattle.book_spec.specs.State.{Book}

pub record Club : Type 0 where
  pub book : Book
  pub scanner : BeaconScanner

pub record TakenItem : Type 0 where
  pub club : Club
  pub size : ℕ
  pub written : ℕ

pub record TakenItems : Type 0 where
  pub club : Club
  pub taken : ℕ
  pub written : ℕ
