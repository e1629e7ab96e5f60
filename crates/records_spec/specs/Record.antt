-- What reading one record finds (the Core, Vol 3 Part C, 11; the Supplement, Part A, 1; type octets: Assigned Numbers, 2.3).
--
--     | length n | type     | data           |
--     | 1 octet  | 1 octet  | n - 1 octets   |
--
--   record_of ty d             == the octets of the record of type ty with data d
--   flags_read d               == data d read as Flags
--   whole_uuids k d            == d is whole UUIDs of kind k
--   uuid_list k c at n         == the list of UUIDs of kind k, complete or not, that takes n octets from position `at` on
--   uuids_read k c d at        == data d, at position `at`, read as such a list
--   local_name c at n          == the name, complete or shortened, that takes n octets from position `at` on
--   name_read c d at           == data d, at position `at`, read as such a name
--   number_read d at           == data d, at position `at`, read as a number of two octets and the place of the rest
--   of_kind kind n             == the same, the rest being data of this kind
--   pair_read kind d at        == data d, at position `at`, read as a number and data of this kind
--   pair_kind service n at len == service data, or manufacturer specific data, with the number n
--   data_read ty d at          == data d of type ty, at position `at`, as `read_record` reads them
--   kind_read ty d at          == the same, read to the kind that the type names
--   up_to next p               == what was parsed as what was read: a record that ends at `next`, or the refusal
--   record_read r at           == a record's octets r, at position `at`
--   first s                   == the octets of the record that s begins with, or what there is of them
--   record_at s at             == the record at position `at` of s
--   lent_read ty s start len   == data of type ty that take `len` octets at `start` of s, read to the kind that the type names
--   known_read a s             == the record a of s, read on to the kind that its type names
use Rattle.std.specs.Prelude.{ℕ, suc, ◌+◌, ◌-◌, ◌%◌, Bool, true, false, cond, List, [], ◌∷◌, length, get_or, take, drop, ltb, eqb, Result, Ok, Option, Some, None, Err}
use Rattle.octets.specs.declared.error.Error.TheVariants.{Eof, InvalidLength, InvalidValue}
use Rattle.octets.specs.declared.uuid.UuidKind.{UuidKind}
use Rattle.octets.specs.declared.uuid.UuidKind.TheVariants.{Uuid16, Uuid32, Uuid128}
use Rattle.octets.specs.Bytes.{has, part, le}
use Rattle.utf8.specs.Utf8.{is_utf8}
use Rattle.flags.specs.Flags.{named}
use Rattle.octets.specs.Uuid.{uuid_size}
use Rattle.records_spec.specs.declared.ad_structure.AdStructure.{AdStructure}
use Rattle.records_spec.specs.declared.ad_structure.AdStructure.TheVariants as ad
use Rattle.records_spec.specs.Types.{flags_type, incomplete16_type, complete16_type, incomplete32_type, complete32_type, incomplete128_type, complete128_type, shortened_name_type, complete_name_type, service_data_type, manufacturer_type}
use Rattle.octets.specs.declared.bytes.Part.{Part}
use Rattle.octets.specs.declared.error.Error.{Error}

unfoldable pub record_of : ℕ → List ℕ → List ℕ
record_of ty d = suc (length d) ∷ ty ∷ d

-- the data of Flags is one octet
unfoldable pub flags_read : List ℕ → Result AdStructure Error
flags_read d = cond (eqb (length d) 1) (Ok (ad.Flags (record { bits = named (get_or d 0 0) }))) (Err InvalidLength)

abbrev pub whole_uuids : UuidKind → List ℕ → Bool
whole_uuids k d = eqb (length d % uuid_size k) 0

abbrev pub uuid_list : UuidKind → Bool → ℕ → ℕ → AdStructure
uuid_list Uuid16 complete start len = ad.ServiceUuids16 complete start len
uuid_list Uuid32 complete start len = ad.ServiceUuids32 complete start len
uuid_list Uuid128 complete start len = ad.ServiceUuids128 complete start len

unfoldable pub uuids_read : UuidKind → Bool → List ℕ → ℕ → Result AdStructure Error
uuids_read k complete d start = cond (whole_uuids k d) (Ok (uuid_list k complete start (length d))) (Err Eof)

abbrev pub local_name : Bool → ℕ → ℕ → AdStructure
local_name complete start len = cond complete (ad.CompleteLocalName start len) (ad.ShortenedLocalName start len)

unfoldable pub name_read : Bool → List ℕ → ℕ → Result AdStructure Error
name_read complete d start = cond (is_utf8 d) (Ok (local_name complete start (length d))) (Err InvalidValue)

-- two octets are a number, and the rest is data
unfoldable pub number_read : List ℕ → ℕ → Result (ℕ × Part) Error
number_read d start = cond (ltb (length d) 2) (Err Eof) (Ok (le (part 2 d 0), record { start = start + 2; len = length d - 2 }))

abbrev pub of_kind : (ℕ → ℕ → ℕ → AdStructure) → Result (ℕ × Part) Error → Result AdStructure Error
of_kind kind (Ok (number, rest)) = Ok (kind number rest.start rest.len)
of_kind kind (Err e) = Err e

abbrev pub pair_read : (ℕ → ℕ → ℕ → AdStructure) → List ℕ → ℕ → Result AdStructure Error
pair_read kind d start = of_kind kind (number_read d start)

-- service data, or manufacturer specific data
abbrev pub pair_kind : Bool → ℕ → ℕ → ℕ → AdStructure
pair_kind service number start len = cond service (ad.ServiceData16 number start len) (ad.ManufacturerSpecificData (record { 0 = number }) start len)

unfoldable pub data_read : ℕ → List ℕ → ℕ → Result AdStructure Error
data_read ty d start =
    cond (eqb ty flags_type) (flags_read d)
    (cond (eqb ty incomplete16_type) (uuids_read Uuid16 false d start)
    (cond (eqb ty complete16_type) (uuids_read Uuid16 true d start)
    (Ok (ad.Unknown ty start (length d)))))

unfoldable pub kind_read : ℕ → List ℕ → ℕ → Result AdStructure Error
kind_read ty d start =
    cond (eqb ty incomplete32_type) (uuids_read Uuid32 false d start)
    (cond (eqb ty complete32_type) (uuids_read Uuid32 true d start)
    (cond (eqb ty incomplete128_type) (uuids_read Uuid128 false d start)
    (cond (eqb ty complete128_type) (uuids_read Uuid128 true d start)
    (cond (eqb ty shortened_name_type) (name_read false d start)
    (cond (eqb ty complete_name_type) (name_read true d start)
    (cond (eqb ty service_data_type) (pair_read (pair_kind true) d start)
    (cond (eqb ty manufacturer_type) (pair_read (pair_kind false) d start)
    (data_read ty d start))))))))

-- a structure that ends at `next`
unfoldable pub up_to : ℕ → Result AdStructure Error → Result (Option (AdStructure × ℕ)) Error
up_to next (Ok a) = Ok (Some (a, next))
up_to next (Err e) = Err e

-- there are too few octets where the area ends within the record
unfoldable pub record_read : List ℕ → ℕ → Result (Option (AdStructure × ℕ)) Error
record_read [] at = Ok None
record_read (n ∷ body) at =
    cond (eqb n 0) (Err InvalidLength)
    (cond (ltb (length body) n) (Err Eof)
    (up_to (at + length (n ∷ body)) (data_read (get_or body 0 0) (drop 1 body) (at + 2))))

-- the octets of the record that some octets begin with, or what there is of them
unfoldable pub first : List ℕ → List ℕ
first [] = []
first (n ∷ rest) = n ∷ take n rest

unfoldable pub record_at : List ℕ → ℕ → Result (Option (AdStructure × ℕ)) Error
record_at s at = cond (ltb (length s) at) (Err Eof) (record_read (first (drop at s)) at)

-- data of type ty that take `len` octets at `start` of s
unfoldable pub lent_read : ℕ → List ℕ → ℕ → ℕ → Result AdStructure Error
lent_read ty s start len = cond (has len s start) (kind_read ty (part len s start) start) (Err Eof)

unfoldable pub known_read : AdStructure → List ℕ → Result AdStructure Error
known_read (ad.Unknown ty start len) s = lent_read ty s start len
known_read (ad.Flags f) s = Ok (ad.Flags f)
known_read (ad.ServiceUuids16 complete start len) s = Ok (ad.ServiceUuids16 complete start len)
known_read (ad.ServiceUuids32 complete start len) s = Ok (ad.ServiceUuids32 complete start len)
known_read (ad.ServiceUuids128 complete start len) s = Ok (ad.ServiceUuids128 complete start len)
known_read (ad.ServiceData16 uuid start len) s = Ok (ad.ServiceData16 uuid start len)
known_read (ad.CompleteLocalName start len) s = Ok (ad.CompleteLocalName start len)
known_read (ad.ShortenedLocalName start len) s = Ok (ad.ShortenedLocalName start len)
known_read (ad.ManufacturerSpecificData company start len) s = Ok (ad.ManufacturerSpecificData company start len)
