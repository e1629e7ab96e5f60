-- Records as numbers: the kinds count from 1 in the order of `AdStructure`, and 0 is the end of an area.
--   area_got a, padded_got a, uuid_got at u      == the numbers of an area, of one that the hub reads, and of a UUID in a list
--   said kind complete value start len next   == these numbers, and no refusal
--   refused_said e                             == the number of the refusal e, and zeros
--   structure_said a next                      == the numbers of a record
--   parsed_said p next, read_said r             == the numbers of what was parsed, and of what was read
--   known_said s r                             == those of what was read, read on
--   flags_said x                               == the numbers of an octet of Flags
use Rattle.std.specs.Prelude.{Bool, false, List, ℕ, eqb, Result, Ok, Err, Option, Some, None}
use Rattle.octets.specs.Error.{number_of}
use Rattle.octets.specs.declared.error.Error.{Error}
use Rattle.records_spec.specs.Record.{known_read}
use Rattle.flags.specs.Flags.{named, bit_at}
use Rattle.records_spec.specs.declared.ad_structure.AdStructure.{AdStructure}
use Rattle.records_spec.specs.declared.ad_structure.AdStructure.TheVariants as ad
use Rattle.answers.specs.Got.{found, refused_as}
use Rattle.basics.specs.declared.areas.FlagsSaid.{FlagsSaid}
use Rattle.basics.specs.declared.areas.Structure.{Structure}
use Rattle.answers.specs.declared.got.Got.{Got}
use Rattle.octets.specs.declared.uuid.Uuid16.{Uuid16}

abbrev pub area_got : Result ℕ Error → Got
area_got (Ok n) = found n 0
area_got (Err e) = refused_as e

abbrev pub padded_got : Result (ℕ × ℕ) Error → Got
padded_got (Ok (n, taken)) = found n taken
padded_got (Err e) = refused_as e

abbrev pub uuid_got : ℕ → Result (Option (Uuid16 × ℕ)) Error → Got
uuid_got at (Ok (Some (u, next))) = found u.0 next
uuid_got at (Ok None) = found 0 at
uuid_got at (Err e) = refused_as e

abbrev pub said : ℕ → Bool → ℕ → ℕ → ℕ → ℕ → Structure
said kind complete value start len next =
    record { number = 0; kind = kind; complete = complete; value = value; start = start; len = len; next = next }

abbrev pub refused_said : Error → Structure
refused_said e = record { number = number_of e; kind = 0; complete = false; value = 0; start = 0; len = 0; next = 0 }

unfoldable pub structure_said : AdStructure → ℕ → Structure
structure_said (ad.Flags f) next = said 1 false (named f.bits) 0 0 next
structure_said (ad.ServiceUuids16 complete start len) next = said 2 complete 0 start len next
structure_said (ad.ServiceUuids32 complete start len) next = said 3 complete 0 start len next
structure_said (ad.ServiceUuids128 complete start len) next = said 4 complete 0 start len next
structure_said (ad.ServiceData16 uuid start len) next = said 5 false uuid start len next
structure_said (ad.CompleteLocalName start len) next = said 6 false 0 start len next
structure_said (ad.ShortenedLocalName start len) next = said 7 false 0 start len next
structure_said (ad.ManufacturerSpecificData company start len) next = said 8 false company.0 start len next
structure_said (ad.Unknown ty start len) next = said 9 false ty start len next

abbrev pub parsed_said : Result AdStructure Error → ℕ → Structure
parsed_said (Ok a) next = structure_said a next
parsed_said (Err e) next = refused_said e

abbrev pub read_said : Result (Option (AdStructure × ℕ)) Error → Structure
read_said (Ok (Some (a, next))) = structure_said a next
read_said (Ok None) = said 0 false 0 0 0 0
read_said (Err e) = refused_said e

abbrev pub known_said : List ℕ → Result (Option (AdStructure × ℕ)) Error → Structure
known_said s (Ok (Some (a, next))) = parsed_said (known_read a s) next
known_said s (Ok None) = said 0 false 0 0 0 0
known_said s (Err e) = refused_said e

abbrev pub flags_said : ℕ → FlagsSaid
flags_said x =
    record {
      bits = named (named x);
      classic = eqb (bit_at 2 (named x)) 0;
      limited = eqb (bit_at 0 (named x)) 1;
      general = eqb (bit_at 1 (named x)) 1;
      controller = eqb (bit_at 3 (named x)) 1;
      host = eqb (bit_at 4 (named x)) 1;
    }
