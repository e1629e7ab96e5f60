-- Holds (Holding.holds): all laws of this crate, with what they assume.
use Rattle.std.specs.Prelude.{◌≡◌, List, ℕ}
use Rattle.addresses.specs.declared.filter.AddressFilter.TheVariants.{AllowAll}
use Rattle.beacon_spec.specs.State.{BeaconScanner}
use Rattle.club_spec.specs.Examples.{Examples}
use Rattle.club_spec.specs.Item.{ClubFalls}
use Rattle.club_spec.specs.Laws.{Evening, Fitted, LineSizes}
use Rattle.club_spec.specs.Making.{MakesCalls, CallsMade, LineRows, EndRows, InTurnOf, LogIs, LogOf, EveningLog, TakenIs}
use Rattle.club_spec.specs.State.{Club}

pub record Holds : Type 0 where
  -- THE LOG is that of the book's right replies: of every company, and after any items
  pub evening : (company : ℕ) (its : List (List ℕ)) → Evening company its
  -- the same in words of octets and calls alone
  pub evening_log : (company : ℕ) (s : List ℕ) → EveningLog company s
  pub club_falls : (n : ℕ) (s : List ℕ) → ClubFalls n s
  pub fitted : (k : Club) (s : List ℕ) (room : ℕ) → Fitted k s room
  pub line_sizes : (k : Club) (item : List ℕ) → LineSizes k item
  -- which calls items make, what the lines are in numbers, and what the log and what is taken are made of
  pub makes_calls : (s : BeaconScanner) (item : List ℕ) (passing : s.filter.scan ≡ AllowAll) → MakesCalls s item passing
  pub calls_made : (s : BeaconScanner) (its : List (List ℕ)) (passing : s.filter.scan ≡ AllowAll) → CallsMade s its passing
  pub line_rows : (first n turn : ℕ) → LineRows first n turn
  pub end_rows : (k : Club) (n : ℕ) → EndRows k n
  pub one_more : (k : Club) (its : List (List ℕ)) (item : List ℕ) → InTurnOf k its item
  pub log_is : (company : ℕ) (s : List ℕ) → LogIs company s
  pub log_of_law : (company : ℕ) (its : List (List ℕ)) (rest : List ℕ) → LogOf company its rest
  pub taken_is : (k : Club) (s : List ℕ) (room : ℕ) → TakenIs k s room
  pub examples : Examples
