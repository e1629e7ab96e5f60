-- What writing one record answers, and what the octets then hold (type octets: Assigned Numbers, 2.3; refusals and their order: document 01).
--   list_type k complete                == the type octet of a list of UUIDs of kind k
--   units_check n d, list_check k d, name_check d, no_check d == what lent data must be: whole units of n octets, whole UUIDs of kind k, UTF-8, anything
--   Shape                              == a row of the table of kinds: the type octet, octets of its own, where the lent part lies, and what that must be
--   shape type own start len check     == the row of these
--   shape_of a                          == the row of the record a
--   record_type a, record_own a, record_start a, record_len a, record_check a d == what that row says
--   Outline                            == what the code writes by: the type octet, a number of its own, where the lent part lies, and what that must be
--   lent_outline ty start len check    == the outline of a record that has no octets of its own
--   own_in o                            == the octets of its own that an outline writes
--   IsOutline a o                      == the outline o holds what the row of a says
--   data_of a s                         == the data, whose lent part lies in s
--   space_in n size at                  == whether a record with n octets of data may be written at position `at` of `size` octets
--   space_for d out at                  == whether a record with data d may be written at position `at` of out
--   and_then o later                    == the refusal o, or `later` where o is none
--   may_write a s out at                == whether the record a may be written, whose lent part lies in s
--   checked_to o xs at, checked_after o xs out at == what a write of xs that passed its checks, or did not, answers and leaves
--   lent_to o d out at, lent_after o d out at == what writing by the outline o, with the lent part d, answers and leaves
--   record_octets a s                   == the octets of the record a, whose lent part lies in s
--   written_to a s out at, written_after a s out at == what writing it answers and leaves
use Rattle.std.specs.Prelude.{◌≡◌, ℕ, ◌+◌, ◌%◌, Bool, cond, List, [], ◌∷◌, ◌++◌, length, take, ltb, leb, eqb, Result, Ok, Err}
use Rattle.octets.specs.declared.error.Error.TheVariants.{Eof, InvalidValue, RecordLength}
use Rattle.octets.specs.declared.uuid.UuidKind.{UuidKind}
use Rattle.octets.specs.declared.uuid.UuidKind.TheVariants.{Uuid16, Uuid32, Uuid128}
use Rattle.octets.specs.Bytes.{has, part, le_bytes, written}
use Rattle.utf8.specs.Utf8.{is_utf8}
use Rattle.records_spec.specs.declared.ad_structure.AdStructure.{AdStructure}
use Rattle.records_spec.specs.declared.ad_structure.AdStructure.TheVariants.{Flags, ServiceUuids16, ServiceUuids32, ServiceUuids128, ServiceData16, CompleteLocalName, ShortenedLocalName, ManufacturerSpecificData, Unknown}
use Rattle.records_spec.specs.Record.{record_of, whole_uuids}
use Rattle.flags.specs.Flags.{named}
use Rattle.records_spec.specs.Types.{flags_type, incomplete16_type, complete16_type, incomplete32_type, complete32_type, incomplete128_type, complete128_type, shortened_name_type, complete_name_type, service_data_type, manufacturer_type}
use Rattle.octets.specs.declared.error.Error.{Error}
use Rattle.octets.specs.declared.bytes.ByteWriter.{ByteWriter}

abbrev pub list_type : UuidKind → Bool → ℕ
list_type Uuid16 complete = cond complete complete16_type incomplete16_type
list_type Uuid32 complete = cond complete complete32_type incomplete32_type
list_type Uuid128 complete = cond complete complete128_type incomplete128_type

abbrev pub units_check : ℕ → List ℕ → Result (Unit {0}) Error
units_check n d = cond (eqb (length d % n) 0) (Ok tt) (Err Eof)

abbrev pub list_check : UuidKind → List ℕ → Result (Unit {0}) Error
list_check k d = cond (whole_uuids k d) (Ok tt) (Err Eof)

abbrev pub name_check : List ℕ → Result (Unit {0}) Error
name_check d = cond (is_utf8 d) (Ok tt) (Err InvalidValue)

abbrev pub no_check : List ℕ → Result (Unit {0}) Error
no_check d = Ok tt

-- type octet; octets of its own, before the lent part; where that lies; what it must be
pub record Shape : Type 0 where
  pub type : ℕ
  pub own : List ℕ
  pub start : ℕ
  pub len : ℕ
  pub check : List ℕ → Result (Unit {0}) Error

abbrev pub shape : ℕ → List ℕ → ℕ → ℕ → (List ℕ → Result (Unit {0}) Error) → Shape
shape type own start len check = record { type = type; own = own; start = start; len = len; check = check }

abbrev pub shape_of : AdStructure → Shape
shape_of (Flags f) = shape flags_type (named f.bits ∷ []) 0 0 no_check
shape_of (ServiceUuids16 complete start len) = shape (list_type Uuid16 complete) [] start len (list_check Uuid16)
shape_of (ServiceUuids32 complete start len) = shape (list_type Uuid32 complete) [] start len (list_check Uuid32)
shape_of (ServiceUuids128 complete start len) = shape (list_type Uuid128 complete) [] start len (list_check Uuid128)
shape_of (ServiceData16 uuid start len) = shape service_data_type (le_bytes 2 uuid) start len no_check
shape_of (CompleteLocalName start len) = shape complete_name_type [] start len name_check
shape_of (ShortenedLocalName start len) = shape shortened_name_type [] start len name_check
shape_of (ManufacturerSpecificData company start len) = shape manufacturer_type (le_bytes 2 company.0) start len no_check
shape_of (Unknown ty start len) = shape ty [] start len no_check

abbrev pub record_type : AdStructure → ℕ
record_type a = (shape_of a).type

abbrev pub record_own : AdStructure → List ℕ
record_own a = (shape_of a).own

abbrev pub record_start : AdStructure → ℕ
record_start a = (shape_of a).start

abbrev pub record_len : AdStructure → ℕ
record_len a = (shape_of a).len

abbrev pub record_check : AdStructure → List ℕ → Result (Unit {0}) Error
record_check a d = (shape_of a).check d

-- What is written of a record: the type octet; what the record holds itself, least significant octet first, and how many octets of that are written; where its
-- lent data lie, and what these must be. The `Outline` of records is read as this.
pub record Outline : Type 0 where
  pub ty : ℕ
  pub own : ℕ
  pub held : ℕ
  pub start : ℕ
  pub len : ℕ
  pub check : List ℕ → Result (Unit {0}) Error

-- the outline of a record that has no octets of its own
abbrev pub lent_outline : ℕ → ℕ → ℕ → (List ℕ → Result (Unit {0}) Error) → Outline
lent_outline ty start len check = record { ty = ty; own = 0; held = 0; start = start; len = len; check = check }

-- the octets of its own that an outline writes
abbrev pub own_in : Outline → List ℕ
own_in o = take o.held (le_bytes 2 o.own)

-- an outline says what the row says
pub record IsOutline (a : AdStructure) (o : Outline) : Type 0 where
  pub type : o.ty ≡ record_type a
  pub own : own_in o ≡ record_own a
  pub many : o.held ≡ length (record_own a)
  pub start : o.start ≡ record_start a
  pub len : o.len ≡ record_len a
  pub check : (d : List ℕ) → o.check d ≡ record_check a d

unfoldable pub data_of : AdStructure → List ℕ → List ℕ
data_of a s = record_own a ++ part (record_len a) s (record_start a)

-- n octets of data at position `at` of `size` octets: length and type take two octets more; the length octet counts the type too
abbrev pub space_in : ℕ → ℕ → ℕ → Result (Unit {0}) Error
space_in n size at = cond (leb (at + (n + 2)) size) (cond (ltb 255 (n + 1)) (Err RecordLength) (Ok tt)) (Err Eof)

abbrev pub space_for : List ℕ → List ℕ → ℕ → Result (Unit {0}) Error
space_for d out at = space_in (length d) (length out) at

abbrev pub and_then : Result (Unit {0}) Error → Result (Unit {0}) Error → Result (Unit {0}) Error
and_then (Ok tt) later = later
and_then (Err e) later = Err e

unfoldable pub may_write : AdStructure → List ℕ → List ℕ → ℕ → Result (Unit {0}) Error
may_write a s out at =
    cond (has (record_len a) s (record_start a)) (and_then (record_check a (part (record_len a) s (record_start a))) (space_for (data_of a s) out at)) (Err Eof)

-- what a write of xs that passed its checks, or did not, answers and leaves
abbrev pub checked_to : Result (Unit {0}) Error → List ℕ → ℕ → Result ByteWriter Error
checked_to (Ok tt) xs at = Ok (record { at = at + length xs })
checked_to (Err e) xs at = Err e

abbrev pub checked_after : Result (Unit {0}) Error → List ℕ → List ℕ → ℕ → List ℕ
checked_after (Ok tt) xs out at = written xs out at
checked_after (Err e) xs out at = out

-- of a record with this outline, whose lent part is d
unfoldable pub lent_to : Outline → List ℕ → List ℕ → ℕ → Result ByteWriter Error
lent_to o d out at = checked_to (and_then (o.check d) (space_for (own_in o ++ d) out at)) (record_of o.ty (own_in o ++ d)) at

unfoldable pub lent_after : Outline → List ℕ → List ℕ → ℕ → List ℕ
lent_after o d out at = checked_after (and_then (o.check d) (space_for (own_in o ++ d) out at)) (record_of o.ty (own_in o ++ d)) out at

-- of a record
unfoldable pub record_octets : AdStructure → List ℕ → List ℕ
record_octets a s = record_of (record_type a) (data_of a s)

unfoldable pub written_to : AdStructure → List ℕ → List ℕ → ℕ → Result ByteWriter Error
written_to a s out at = checked_to (may_write a s out at) (record_octets a s) at

unfoldable pub written_after : AdStructure → List ℕ → List ℕ → ℕ → List ℕ
written_after a s out at = checked_after (may_write a s out at) (record_octets a s) out at
