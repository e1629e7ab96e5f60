-- The flag as numbers.
--   flag_said answer  == the number of a refusal, or 0, and whether the CRC is right
--   Examples         == worked values, proved as Said.examples
--   FlagSays         (Said.says)  each answer, over all values
--   Holds (Holding.holds): all laws of this crate
use Rattle.std.specs.Prelude.{Bool, true, false, [], ◌∷◌, map, ◌≡◌, Result, Ok, Err}
use Rattle.octets.specs.Error.{number_of}
use Rattle.octets.specs.declared.error.Error.{Error}
use Rattle.octets.specs.declared.error.Error.TheVariants.{Eof, InvalidLength, NoSuchIndex}
use Rattle.bit_stream.specs.declared.packet.FlagSaid.{FlagSaid}

abbrev pub flag_said : Result Bool Error → FlagSaid
flag_said (Ok good) = record { number = 0; good = good }
flag_said (Err e) = record { number = number_of e; good = false }

pub record Examples : Type 0 where
  pub told : map flag_said (Ok true ∷ Ok false ∷ []) ≡ record { number = 0; good = true } ∷ record { number = 0; good = false } ∷ []
  pub refused : map flag_said (Err NoSuchIndex ∷ Err InvalidLength ∷ Err Eof ∷ [])
      ≡ record { number = 10; good = false } ∷ record { number = 2; good = false } ∷ record { number = 1; good = false } ∷ []

pub record FlagSays : Type 0 where
  pub is : (good : Bool) → flag_said (Ok good) ≡ record { number = 0; good = good }
  pub is_refused : (e : Error) → flag_said (Err e) ≡ record { number = number_of e; good = false }

pub record Holds : Type 0 where
  pub says : FlagSays
  pub examples : Examples
