-- When writing a record is refused, and in which order, in document 01's words: a name that is not UTF-8 first (3); "list data that is not whole UUIDs (1)
-- and too little space (1) come before 9". Before all that, 1 where the data do not lie in the lent octets.
--   IsName a           == a is a name, complete or shortened
--   uuid_octets a       == the octets of each UUID of a list; 1 for any other kind
--   data_octets a       == how many octets of data are written: a record's own and the lent ones
--   Lends a s          == the lent data lie in s
--   lent_octets a s     == these data
--   Sound a s          == they lie in s, and are UTF-8 where a is a name, whole UUIDs where it is a list
--   NotWritten a s out at e, Put a s out at == a refused write, and one that is not
--   Ordered a s out at (Order.ordered)  each case, the first first
use Rattle.std.specs.Prelude.{◌≡◌, true, false, List, ℕ, ◌+◌, ◌%◌, ◌<◌, ◌≤◌, length, get_or, Ok, Err}
use Rattle.octets.specs.declared.error.Error.{Error}
use Rattle.octets.specs.declared.error.Error.TheVariants.{Eof, InvalidValue, RecordLength}
use Rattle.octets.specs.Bytes.{part}
use Rattle.utf8.specs.Utf8.{is_utf8}
use Rattle.records_spec.specs.declared.ad_structure.AdStructure.{AdStructure}
use Rattle.records_spec.specs.declared.ad_structure.AdStructure.TheVariants.{Flags, ServiceUuids16, ServiceUuids32, ServiceUuids128, ServiceData16, CompleteLocalName, ShortenedLocalName, ManufacturerSpecificData, Unknown}
use Rattle.records_spec.specs.Layout.{Layout, LaidOut}
use Rattle.records_spec.specs.Write.{record_start, record_len, written_to, written_after}

abbrev pub IsName : AdStructure → Type 0
IsName (Flags f) = ⊥
IsName (ServiceUuids16 complete start len) = ⊥
IsName (ServiceUuids32 complete start len) = ⊥
IsName (ServiceUuids128 complete start len) = ⊥
IsName (ServiceData16 uuid start len) = ⊥
IsName (CompleteLocalName start len) = Unit {0}
IsName (ShortenedLocalName start len) = Unit {0}
IsName (ManufacturerSpecificData company start len) = ⊥
IsName (Unknown ty start len) = ⊥

abbrev pub uuid_octets : AdStructure → ℕ
uuid_octets (Flags f) = 1
uuid_octets (ServiceUuids16 complete start len) = 2
uuid_octets (ServiceUuids32 complete start len) = 4
uuid_octets (ServiceUuids128 complete start len) = 16
uuid_octets (ServiceData16 uuid start len) = 1
uuid_octets (CompleteLocalName start len) = 1
uuid_octets (ShortenedLocalName start len) = 1
uuid_octets (ManufacturerSpecificData company start len) = 1
uuid_octets (Unknown ty start len) = 1

abbrev pub data_octets : AdStructure → ℕ
data_octets (Flags f) = 1
data_octets (ServiceUuids16 complete start len) = len
data_octets (ServiceUuids32 complete start len) = len
data_octets (ServiceUuids128 complete start len) = len
data_octets (ServiceData16 uuid start len) = 2 + len
data_octets (CompleteLocalName start len) = len
data_octets (ShortenedLocalName start len) = len
data_octets (ManufacturerSpecificData company start len) = 2 + len
data_octets (Unknown ty start len) = len

abbrev pub Lends : AdStructure → List ℕ → Type 0
Lends a s = record_start a + record_len a ≤ length s

abbrev pub lent_octets : AdStructure → List ℕ → List ℕ
lent_octets a s = part (record_len a) s (record_start a)

pub record Sound (a : AdStructure) (s : List ℕ) : Type 0 where
  pub lends : Lends a s
  pub name : IsName a → is_utf8 (lent_octets a s) ≡ true
  pub list : record_len a % uuid_octets a ≡ 0

pub record NotWritten (a : AdStructure) (s out : List ℕ) (at : ℕ) (e : Error) : Type 0 where
  pub answers : written_to a s out at ≡ Err e
  pub kept : written_after a s out at ≡ out

-- length and type are an octet each; the record stands there octet by octet, and all octets before and after it are kept
pub record Put (a : AdStructure) (s out : List ℕ) (at : ℕ) : Type 0 where
  pub answers : written_to a s out at ≡ Ok (record { at = at + 2 + data_octets a })
  pub as_long : length (written_after a s out at) ≡ length out
  pub octets : {ty start len : ℕ} {own : List ℕ} → Layout a ty own start len → LaidOut ty own start len s at (written_after a s out at)
  pub before : (i : ℕ) → i < at → get_or (written_after a s out at) i 0 ≡ get_or out i 0
  pub behind : (i : ℕ) → at + 2 + data_octets a ≤ i → get_or (written_after a s out at) i 0 ≡ get_or out i 0

pub record Ordered (a : AdStructure) (s out : List ℕ) (at : ℕ) : Type 0 where
  -- the lent data lie where the record says
  pub places : {ty start len : ℕ} {own : List ℕ} → Layout a ty own start len → (record_start a ≡ start) × (record_len a ≡ len)
  pub not_lent : (Lends a s → ⊥) → NotWritten a s out at Eof
  -- whatever the space and the length
  pub bad_name : Lends a s → IsName a → is_utf8 (lent_octets a s) ≡ false → NotWritten a s out at InvalidValue
  pub bad_list : Lends a s → (record_len a % uuid_octets a ≡ 0 → ⊥) → NotWritten a s out at Eof
  -- whatever the length
  pub no_space : Sound a s → length out < at + 2 + data_octets a → NotWritten a s out at Eof
  -- the length octet counts the type too
  pub too_long : Sound a s → at + 2 + data_octets a ≤ length out → 255 < 1 + data_octets a → NotWritten a s out at RecordLength
  pub written : Sound a s → at + 2 + data_octets a ≤ length out → 1 + data_octets a ≤ 255 → Put a s out at
