-- The instant of a first event as document 01 has it, and the numbers of refusals. Assumes nothing.
use mathlib.Core.Bool.{false}
use mathlib.Core.Path.{◌≡◌, refl}
use Prim.Native.Nat.{ℕ, ◌+◌}
use native.Mathlib.Omega.{arith}
use lib.Dec.{eqb}
use Rattle.octets.specs.Error.{number_of}
use Rattle.octets.specs.Time.{later}
use Rattle.octets.specs.declared.error.Error.{Error}
use Rattle.octets.specs.declared.error.Error.TheVariants.{Eof, InvalidLength, InvalidValue, ShortHeader, WrongMode, EmptyMap, PayloadLength, NoSuchChannel, RecordLength, NoSuchIndex, NoName, OutOfRange, AlreadySeated, NoFreeSeat, LastTurn}
use Rattle.radio_spec.specs.SoFar.{first_of}

pub first_event : (end offset size : ℕ) → later (later end (later (later offset size) 1250)) 500 ≡ later end (offset + size + 1750)
first_event end offset size = omega arith

-- a refusal has a number
pub no_zero : (e : Error) → eqb (number_of e) 0 ≡ false
no_zero Eof = refl
no_zero InvalidLength = refl
no_zero InvalidValue = refl
no_zero ShortHeader = refl
no_zero WrongMode = refl
no_zero EmptyMap = refl
no_zero PayloadLength = refl
no_zero NoSuchChannel = refl
no_zero RecordLength = refl
no_zero NoSuchIndex = refl
no_zero NoName = refl
no_zero OutOfRange = refl
no_zero AlreadySeated = refl
no_zero NoFreeSeat = refl
no_zero LastTurn = refl

pub first_number : (e : Error) (m : ℕ) → first_of (number_of e) m ≡ number_of e
first_number Eof m = refl
first_number InvalidLength m = refl
first_number InvalidValue m = refl
first_number ShortHeader m = refl
first_number WrongMode m = refl
first_number EmptyMap m = refl
first_number PayloadLength m = refl
first_number NoSuchChannel m = refl
first_number RecordLength m = refl
first_number NoSuchIndex m = refl
first_number NoName m = refl
first_number OutOfRange m = refl
first_number AlreadySeated m = refl
first_number NoFreeSeat m = refl
first_number LastTurn m = refl
