-- A hub, and what its calls return. The structs of these names in hub are read as these records (specs/State.antt there); a hub has private fields.
--   Hub         == what the hub has counted, and the scanner that it listens with
--   Logged      == what logging the items of a block did: the hub, the octets of the whole items, and the octets of the lines
--   Block       == what taking in the octets that a read brought did
use Rattle.std.specs.Prelude.{Bool, ℕ}
use Rattle.beacon_spec.specs.State.{BeaconScanner}

pub record Hub : Type 0 where
  pub items : ℕ
  pub reports : ℕ
  pub scanner : BeaconScanner

pub record Logged : Type 0 where
  pub hub : Hub
  pub taken : ℕ
  pub written : ℕ

-- the octets that are to be written; the octets that are left over, at the front of the buffer; reading stops: the last line is among what is to be written
pub record Block : Type 0 where
  pub hub : Hub
  pub written : ℕ
  pub kept : ℕ
  pub is_stopped : Bool
