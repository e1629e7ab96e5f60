-- What reading finds of a record that was written at position `at` of out, its lent data lying in s.
--   moved_to start a       == a with its lent data at `start`, and Flags without the bits that have no name
--   AsItself a            == a is of a kind that reading yields: Flags, a list of 16-bit UUIDs, or type and data of a type other than 01, 02 and 03
--   OfKnownType a         == a is of a kind that reading leaves as type and data, and `read_known` reads on to
--   left_as a s start      == the type and data that reading leaves of such a record, its data at `start`
--   FoundAgain a s out at == what reading finds
--   WrittenAndReadBack    (ReadBack.written_and_read_back)  it finds this of every record that is written
--   NotAsItself           (ReadBack.not_as_itself)          type 01 without data is written, and reading it is refused
use Rattle.std.specs.Prelude.{◌≡◌, List, [], ◌∷◌, ℕ, ◌+◌, ◌<◌, ◌^◌, length, Ok, Some, Err}
use Rattle.octets.specs.declared.error.Error.TheVariants.{InvalidLength}
use Rattle.octets.specs.Bytes.{part}
use Rattle.records_spec.specs.declared.ad_structure.AdStructure.{AdStructure}
use Rattle.records_spec.specs.declared.ad_structure.AdStructure.TheVariants.{Flags, ServiceUuids16, ServiceUuids32, ServiceUuids128, ServiceData16, CompleteLocalName, ShortenedLocalName, ManufacturerSpecificData, Unknown}
use Rattle.records_spec.specs.Record.{data_read, up_to, record_at, known_read}
use Rattle.flags.specs.Flags.{named}
use Rattle.records_spec.specs.Write.{record_type, record_own, data_of, may_write, record_octets, written_after}
use Rattle.records_spec.specs.Types.{flags_type, incomplete16_type, complete16_type}

abbrev pub moved_to : ℕ → AdStructure → AdStructure
moved_to start (Flags f) = Flags (record { bits = named f.bits })
moved_to start (ServiceUuids16 complete from len) = ServiceUuids16 complete start len
moved_to start (ServiceUuids32 complete from len) = ServiceUuids32 complete start len
moved_to start (ServiceUuids128 complete from len) = ServiceUuids128 complete start len
moved_to start (ServiceData16 uuid from len) = ServiceData16 uuid start len
moved_to start (CompleteLocalName from len) = CompleteLocalName start len
moved_to start (ShortenedLocalName from len) = ShortenedLocalName start len
moved_to start (ManufacturerSpecificData company from len) = ManufacturerSpecificData company start len
moved_to start (Unknown ty from len) = Unknown ty start len

abbrev pub AsItself : AdStructure → Type 0
AsItself (Flags f) = Unit {0}
AsItself (ServiceUuids16 complete start len) = Unit {0}
AsItself (ServiceUuids32 complete start len) = ⊥
AsItself (ServiceUuids128 complete start len) = ⊥
AsItself (ServiceData16 uuid start len) = ⊥
AsItself (CompleteLocalName start len) = ⊥
AsItself (ShortenedLocalName start len) = ⊥
AsItself (ManufacturerSpecificData company start len) = ⊥
AsItself (Unknown ty start len) = (ty ≡ flags_type → ⊥) × (ty ≡ incomplete16_type → ⊥) × (ty ≡ complete16_type → ⊥)

abbrev pub OfKnownType : AdStructure → Type 0
OfKnownType (Flags f) = ⊥
OfKnownType (ServiceUuids16 complete start len) = ⊥
OfKnownType (ServiceUuids32 complete start len) = Unit {0}
OfKnownType (ServiceUuids128 complete start len) = Unit {0}
OfKnownType (ServiceData16 uuid start len) = uuid < 2 ^ 16
OfKnownType (CompleteLocalName start len) = Unit {0}
OfKnownType (ShortenedLocalName start len) = Unit {0}
OfKnownType (ManufacturerSpecificData company start len) = company.0 < 2 ^ 16
OfKnownType (Unknown ty start len) = ⊥

-- what is read of type and data that were written, the type not being that of Flags or of a list of 16-bit UUIDs
abbrev pub left_as : AdStructure → List ℕ → ℕ → AdStructure
left_as a s start = Unknown (record_type a) start (length (data_of a s))

pub record FoundAgain (a : AdStructure) (s out : List ℕ) (at : ℕ) : Type 0 where
  -- its type and data are read as those of any record; the position after it is the one that writing answered
  pub reads : record_at (written_after a s out at) at ≡ up_to (at + length (record_octets a s)) (data_read (record_type a) (data_of a s) (at + 2))
  -- its data stand after its type
  pub there : part (length (data_of a s)) (written_after a s out at) (at + 2) ≡ data_of a s
  -- it is read as itself
  pub itself : AsItself a → record_at (written_after a s out at) at ≡ Ok (Some (moved_to (at + 2) a, at + length (record_octets a s)))
  -- it is left as type and data, and read on as itself
  pub known : OfKnownType a
      → (record_at (written_after a s out at) at ≡ Ok (Some (left_as a s (at + 2), at + length (record_octets a s))))
      × (known_read (left_as a s (at + 2)) (written_after a s out at) ≡ Ok (moved_to (at + 2 + length (record_own a)) a))

abbrev pub WrittenAndReadBack : Type 0
WrittenAndReadBack = (a : AdStructure) (s out : List ℕ) (at : ℕ) → may_write a s out at ≡ Ok tt → FoundAgain a s out at

-- type and data of type 01, 02 or 03 are read as Flags or as a list, or refused: the smallest such write is of type 01 without data
pub record NotAsItself : Type 0 where
  pub writes : written_after (Unknown 0x01 0 0) [] (0 ∷ 0 ∷ []) 0 ≡ 0x01 ∷ 0x01 ∷ []
  pub refuses : record_at (0x01 ∷ 0x01 ∷ []) 0 ≡ Err InvalidLength
