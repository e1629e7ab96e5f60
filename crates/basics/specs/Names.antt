-- A name's place as numbers.
--   name_said r       == the number of a refusal, or 0; whether the reply holds the name; where it begins, and its octets
--   Examples         == worked values, proved as Names.examples
use Rattle.std.specs.Prelude.{true, false, [], ◌∷◌, map, ◌≡◌, Result, Ok, Err}
use Rattle.octets.specs.Error.{number_of}
use Rattle.octets.specs.declared.error.Error.{Error}
use Rattle.octets.specs.declared.error.Error.TheVariants.{Eof, InvalidLength, NoName}
use Rattle.names_spec.specs.declared.NamePlace.{NamePlace}
use Rattle.names_spec.specs.declared.NamePlace.TheVariants.{InReply, InAdvertisement}
use Rattle.basics.specs.declared.name.NameSaid.{NameSaid}

abbrev pub name_said : Result NamePlace Error → NameSaid
name_said (Ok (InReply p)) = record { number = 0; in_reply = true; start = p.start; len = p.len }
name_said (Ok (InAdvertisement p)) = record { number = 0; in_reply = false; start = p.start; len = p.len }
name_said (Err e) = record { number = number_of e; in_reply = false; start = 0; len = 0 }

pub record Examples : Type 0 where
  pub told : map name_said (Ok (InReply (record { start = 7; len = 2 })) ∷ Ok (InAdvertisement (record { start = 9; len = 3 })) ∷ [])
      ≡ record { number = 0; in_reply = true; start = 7; len = 2 } ∷ record { number = 0; in_reply = false; start = 9; len = 3 } ∷ []
  pub refused : map name_said (Err Eof ∷ Err InvalidLength ∷ Err NoName ∷ [])
      ≡ record { number = 1; in_reply = false; start = 0; len = 0 } ∷ record { number = 2; in_reply = false; start = 0; len = 0 } ∷ record { number = 11; in_reply = false; start = 0; len = 0 } ∷ []
