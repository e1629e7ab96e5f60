-- Worked values, with where each comes from: the codes of Assigned Numbers 2.3 and of rubble's `Flags`; records of every kind, written and read; and rows in
-- which two reasons to refuse hold at once, on both sides of each limit (document 01, ad_structure.rs and "Refused calls").
--   refused_with w                == the number that a write is refused with, or 0
--   put_in n a s, refused_in n a s == a record a that is written at the front of n zeros, and what writing it there is refused with
--   outlined own held            == an outline of `held` octets of its own
--   read_known_from s r            == what was read of s, read on to the kind that its type names
--   read_known s                  == the record that s begins with, read on to the kind that its type names
--   flags_octets                  == octets of Flags: rubble's constants, those of a start and of a beacon, all bits with a name, and those without
--   RecordCodes                  (Examples.codes)     the queries of these octets, and the type octets
--   fifteen, sixteen             == one octet less than a 128-bit UUID, and one
--   Examples                     (Examples.examples)  the other values
use Rattle.std.specs.Prelude.{◌≡◌, true, false, List, [], ◌∷◌, ◌++◌, map, ℕ, replicate, Result, Ok, Err, Option, Some, None}
use Rattle.octets.specs.Error.{number_of}
use Rattle.octets.specs.declared.error.Error.TheVariants.{Eof, InvalidLength, InvalidValue}
use Rattle.records_spec.specs.declared.ad_structure.AdStructure.{AdStructure}
use Rattle.records_spec.specs.declared.ad_structure.AdStructure.TheVariants.{Flags, ServiceUuids16, ServiceUuids32, ServiceUuids128, ServiceData16, CompleteLocalName, ShortenedLocalName, ManufacturerSpecificData, Unknown}
use Rattle.records_spec.specs.Write.{Outline, units_check, name_check, no_check, own_in, written_to, written_after}
use Rattle.records_spec.specs.Types.{flags_type, incomplete16_type, complete16_type, incomplete32_type, complete32_type, incomplete128_type, complete128_type, shortened_name_type, complete_name_type, service_data_type, manufacturer_type}
use Rattle.flags.specs.Flags.{limited_discoverable, general_discoverable, supports_classic, both_by_controller, both_by_host, discoverable_flags, broadcast_flags, named}
use Rattle.records_spec.specs.Record.{record_at, known_read}
use Rattle.records_spec.specs.Uuids.{uuid16_at}
use Rattle.records_spec.specs.Area.{records, reads, read_area, rewritten_to, rewritten_after}
use Rattle.octets.specs.declared.bytes.ByteWriter.{ByteWriter}
use Rattle.octets.specs.declared.error.Error.{Error}

abbrev pub refused_with : Result ByteWriter Error → ℕ
refused_with (Ok next) = 0
refused_with (Err e) = number_of e

-- a record a that is written at the front of n zeros
abbrev pub put_in : ℕ → AdStructure → List ℕ → List ℕ
put_in n a s = written_after a s (replicate n 0x00) 0

-- what writing it there is refused with
abbrev pub refused_in : ℕ → AdStructure → List ℕ → ℕ
refused_in n a s = refused_with (written_to a s (replicate n 0x00) 0)

-- an outline of `held` octets of its own
abbrev pub outlined : ℕ → ℕ → Outline
outlined own held = record { ty = 0x16; own = own; held = held; start = 0; len = 0; check = no_check }

abbrev pub read_known_from : List ℕ → Result (Option (AdStructure × ℕ)) Error → Result AdStructure Error
read_known_from s (Ok (Some (a, next))) = known_read a s
read_known_from s (Ok None) = Err Eof
read_known_from s (Err e) = Err e

abbrev pub read_known : List ℕ → Result AdStructure Error
read_known s = read_known_from s (record_at s 0)

-- rubble's constants of Flags, one after the other; the octets of a start and of a beacon; all of them, and the three bits without a name
abbrev pub flags_octets : List ℕ
flags_octets = 0b00000001 ∷ 0b00000010 ∷ 0b00000100 ∷ 0b00001000 ∷ 0b00010000 ∷ 0x06 ∷ 0x04 ∷ 0x1F ∷ 0xE0 ∷ []

pub record RecordCodes : Type 0 where
  -- the queries of each of them
  pub limited : map limited_discoverable flags_octets ≡ true ∷ false ∷ false ∷ false ∷ false ∷ false ∷ false ∷ true ∷ false ∷ []
  pub general : map general_discoverable flags_octets ≡ false ∷ true ∷ false ∷ false ∷ false ∷ true ∷ false ∷ true ∷ false ∷ []
  pub classic : map supports_classic flags_octets ≡ true ∷ true ∷ false ∷ true ∷ true ∷ false ∷ false ∷ false ∷ true ∷ []
  pub controller : map both_by_controller flags_octets ≡ false ∷ false ∷ false ∷ true ∷ false ∷ false ∷ false ∷ true ∷ false ∷ []
  pub host : map both_by_host flags_octets ≡ false ∷ false ∷ false ∷ false ∷ true ∷ false ∷ false ∷ true ∷ false ∷ []
  -- the bits that have a name
  pub kept : map named flags_octets ≡ 0x01 ∷ 0x02 ∷ 0x04 ∷ 0x08 ∷ 0x10 ∷ 0x06 ∷ 0x04 ∷ 0x1F ∷ 0x00 ∷ []
  -- general discoverable and no BR/EDR; no BR/EDR
  pub start : discoverable_flags ≡ 0x06
  pub beacon : broadcast_flags ≡ 0x04
  -- Assigned Numbers, 2.3
  pub types : flags_type ∷ incomplete16_type ∷ complete16_type ∷ incomplete32_type ∷ complete32_type ∷ incomplete128_type ∷ complete128_type ∷ shortened_name_type ∷ complete_name_type ∷ service_data_type ∷ manufacturer_type ∷ []
      ≡ 0x01 ∷ 0x02 ∷ 0x03 ∷ 0x04 ∷ 0x05 ∷ 0x06 ∷ 0x07 ∷ 0x08 ∷ 0x09 ∷ 0x16 ∷ 0xFF ∷ []

-- one octet less than a 128-bit UUID, and one
abbrev pub fifteen : List ℕ
fifteen = 0xFB ∷ 0x34 ∷ 0x9B ∷ 0x5F ∷ 0x80 ∷ 0x00 ∷ 0x00 ∷ 0x80 ∷ 0x00 ∷ 0x10 ∷ 0x00 ∷ 0x00 ∷ 0x0F ∷ 0x18 ∷ 0x00 ∷ []

abbrev pub sixteen : List ℕ
sixteen = fifteen ++ 0x00 ∷ []

pub record Examples : Type 0 where
  -- every kind, written
  pub flags : put_in 4 (Flags (record { bits = 0x86 })) [] ≡ 0x02 ∷ 0x01 ∷ 0x06 ∷ 0x00 ∷ []
  pub incomplete16 : put_in 4 (ServiceUuids16 false 1 2) (0xAA ∷ 0x0F ∷ 0x18 ∷ 0xAA ∷ []) ≡ 0x03 ∷ 0x02 ∷ 0x0F ∷ 0x18 ∷ []
  pub complete16 : put_in 4 (ServiceUuids16 true 0 2) (0x0F ∷ 0x18 ∷ []) ≡ 0x03 ∷ 0x03 ∷ 0x0F ∷ 0x18 ∷ []
  pub incomplete32 : put_in 6 (ServiceUuids32 false 0 4) (0x0F ∷ 0x18 ∷ 0x00 ∷ 0x00 ∷ []) ≡ 0x05 ∷ 0x04 ∷ 0x0F ∷ 0x18 ∷ 0x00 ∷ 0x00 ∷ []
  pub complete32 : put_in 6 (ServiceUuids32 true 0 4) (0x0F ∷ 0x18 ∷ 0x00 ∷ 0x00 ∷ []) ≡ 0x05 ∷ 0x05 ∷ 0x0F ∷ 0x18 ∷ 0x00 ∷ 0x00 ∷ []
  pub incomplete128 : put_in 18 (ServiceUuids128 false 0 16) sixteen ≡ 0x11 ∷ 0x06 ∷ sixteen
  pub complete128 : put_in 18 (ServiceUuids128 true 0 16) sixteen ≡ 0x11 ∷ 0x07 ∷ sixteen
  pub shortened : put_in 4 (ShortenedLocalName 0 2) (0x48 ∷ 0x69 ∷ []) ≡ 0x03 ∷ 0x08 ∷ 0x48 ∷ 0x69 ∷ []
  pub complete : put_in 4 (CompleteLocalName 0 2) (0x48 ∷ 0x69 ∷ []) ≡ 0x03 ∷ 0x09 ∷ 0x48 ∷ 0x69 ∷ []
  pub service : put_in 5 (ServiceData16 0x180F 0 1) (0x64 ∷ []) ≡ 0x04 ∷ 0x16 ∷ 0x0F ∷ 0x18 ∷ 0x64 ∷ []
  pub company : put_in 5 (ManufacturerSpecificData (record { 0 = 0x004C }) 0 1) (0x02 ∷ []) ≡ 0x04 ∷ 0xFF ∷ 0x4C ∷ 0x00 ∷ 0x02 ∷ []
  pub other : put_in 3 (Unknown 0x0A 0 1) (0x04 ∷ []) ≡ 0x02 ∷ 0x0A ∷ 0x04 ∷ []
  -- every kind, read
  pub flags_read_law : record_at (0x02 ∷ 0x01 ∷ 0xFF ∷ []) 0 ≡ Ok (Some (Flags (record { bits = 0x1F }), 3))
  pub incomplete16_read : record_at (0x03 ∷ 0x02 ∷ 0x0F ∷ 0x18 ∷ []) 0 ≡ Ok (Some (ServiceUuids16 false 2 2, 4))
  pub complete16_read : record_at (0x03 ∷ 0x03 ∷ 0x0F ∷ 0x18 ∷ []) 0 ≡ Ok (Some (ServiceUuids16 true 2 2, 4))
  pub left : record_at (0x02 ∷ 0x0A ∷ 0x04 ∷ []) 0 ≡ Ok (Some (Unknown 0x0A 2 1, 3))
  pub name_left : record_at (0x02 ∷ 0x09 ∷ 0xFF ∷ []) 0 ≡ Ok (Some (Unknown 0x09 2 1, 3))
  pub incomplete32_read : read_known (0x05 ∷ 0x04 ∷ 0x0F ∷ 0x18 ∷ 0x00 ∷ 0x00 ∷ []) ≡ Ok (ServiceUuids32 false 2 4)
  pub complete32_read : read_known (0x05 ∷ 0x05 ∷ 0x0F ∷ 0x18 ∷ 0x00 ∷ 0x00 ∷ []) ≡ Ok (ServiceUuids32 true 2 4)
  pub incomplete128_read : read_known (0x11 ∷ 0x06 ∷ sixteen) ≡ Ok (ServiceUuids128 false 2 16)
  pub complete128_read : read_known (0x11 ∷ 0x07 ∷ sixteen) ≡ Ok (ServiceUuids128 true 2 16)
  pub shortened_read : read_known (0x03 ∷ 0x08 ∷ 0x48 ∷ 0x69 ∷ []) ≡ Ok (ShortenedLocalName 2 2)
  pub complete_read : read_known (0x03 ∷ 0x09 ∷ 0x48 ∷ 0x69 ∷ []) ≡ Ok (CompleteLocalName 2 2)
  pub service_read : read_known (0x03 ∷ 0x16 ∷ 0x0F ∷ 0x18 ∷ []) ≡ Ok (ServiceData16 0x180F 4 0)
  pub company_read : read_known (0x04 ∷ 0xFF ∷ 0x4C ∷ 0x00 ∷ 0x02 ∷ []) ≡ Ok (ManufacturerSpecificData (record { 0 = 0x004C }) 4 1)
  pub other_read : read_known (0x02 ∷ 0x0A ∷ 0x04 ∷ []) ≡ Ok (Unknown 0x0A 2 1)
  -- the types beside those that have a kind
  pub type_00 : read_known (0x02 ∷ 0x00 ∷ 0x0A ∷ []) ≡ Ok (Unknown 0x00 2 1)
  pub type_15 : read_known (0x02 ∷ 0x15 ∷ 0x0A ∷ []) ≡ Ok (Unknown 0x15 2 1)
  pub type_17 : read_known (0x02 ∷ 0x17 ∷ 0x0A ∷ []) ≡ Ok (Unknown 0x17 2 1)
  pub type_fe : read_known (0x02 ∷ 0xFE ∷ 0x0A ∷ []) ≡ Ok (Unknown 0xFE 2 1)
  -- reading on refuses a name with 3, a number of one octet and a broken list with 1, and data that are not lent with 1
  pub bad_shortened : read_known (0x02 ∷ 0x08 ∷ 0xFF ∷ []) ≡ Err InvalidValue
  pub bad_complete : read_known (0x02 ∷ 0x09 ∷ 0xFF ∷ []) ≡ Err InvalidValue
  pub short_service : read_known (0x02 ∷ 0x16 ∷ 0x0F ∷ []) ≡ Err Eof
  pub short_company : read_known (0x02 ∷ 0xFF ∷ 0x4C ∷ []) ≡ Err Eof
  pub three_of_32 : read_known (0x04 ∷ 0x04 ∷ 0x0F ∷ 0x18 ∷ 0x00 ∷ []) ≡ Err Eof
  pub six_of_32 : read_known (0x07 ∷ 0x05 ∷ 0x0F ∷ 0x18 ∷ 0x00 ∷ 0x00 ∷ 0x0A ∷ 0x18 ∷ []) ≡ Err Eof
  pub fifteen_of_128 : read_known (0x10 ∷ 0x06 ∷ fifteen) ≡ Err Eof
  pub seventeen_of_128 : read_known (0x12 ∷ 0x07 ∷ sixteen ++ 0x00 ∷ []) ≡ Err Eof
  -- type and data of type 01, 02 or 03, which reading does not leave but a caller can make, are read as Flags or a list
  pub flags_on : known_read (Unknown 0x01 0 1) (0x86 ∷ []) ≡ Ok (Flags (record { bits = 0x06 }))
  pub two_flags_on : known_read (Unknown 0x01 0 2) (0x06 ∷ 0x06 ∷ []) ≡ Err InvalidLength
  pub incomplete16_on : known_read (Unknown 0x02 0 2) (0x0F ∷ 0x18 ∷ []) ≡ Ok (ServiceUuids16 false 0 2)
  pub complete16_on : known_read (Unknown 0x03 0 2) (0x0F ∷ 0x18 ∷ []) ≡ Ok (ServiceUuids16 true 0 2)
  pub three_of_16 : known_read (Unknown 0x03 0 3) (0x0F ∷ 0x18 ∷ 0x0A ∷ []) ≡ Err Eof
  pub not_lent_on : known_read (Unknown 0x09 1 2) (0x48 ∷ 0x69 ∷ []) ≡ Err Eof
  pub lent_on : known_read (Unknown 0x09 1 1) (0x48 ∷ 0x69 ∷ []) ≡ Ok (CompleteLocalName 1 1)
  -- at the end nothing is left; a position past it is refused
  pub at_the_end : record_at (0x01 ∷ 0x03 ∷ []) 2 ≡ Ok None
  pub past_the_end : record_at (0x01 ∷ 0x03 ∷ []) 3 ≡ Err Eof
  -- the UUIDs of a list
  pub uuid : uuid16_at (0x0F ∷ 0x18 ∷ 0x0A ∷ 0x18 ∷ []) 2 ≡ Ok (Some (record { 0 = 0x180A }, 4))
  pub uuids_end : uuid16_at (0x0F ∷ 0x18 ∷ []) 2 ≡ Ok None
  pub uuid_cut : uuid16_at (0x0F ∷ 0x18 ∷ 0x0A ∷ []) 2 ≡ Err Eof
  pub uuid_past : uuid16_at (0x0F ∷ 0x18 ∷ []) 3 ≡ Err Eof
  -- writing: data that are not lent 1, before a name 3
  pub not_lent_name : refused_in 9 (CompleteLocalName 1 2) (0xFF ∷ 0xFF ∷ []) ≡ 1
  -- a name 3, before space 1 and length 9
  pub name_no_space : refused_in 9 (CompleteLocalName 0 255) (replicate 255 0xFF) ≡ 3
  pub name_long : refused_in 300 (ShortenedLocalName 0 255) (replicate 255 0xFF) ≡ 3
  -- half a UUID 1, before length 9
  pub list16_no_space : refused_in 4 (ServiceUuids16 true 0 3) (0x0F ∷ 0x18 ∷ 0x0A ∷ []) ≡ 1
  pub list16_long : refused_in 300 (ServiceUuids16 true 0 255) (replicate 255 0x18) ≡ 1
  pub list32_long : refused_in 300 (ServiceUuids32 true 0 258) (replicate 258 0x18) ≡ 1
  pub list128_long : refused_in 300 (ServiceUuids128 true 0 264) (replicate 264 0x18) ≡ 1
  -- space 1, before length 9; a list and a name that pass too
  pub long_no_space : refused_in 256 (Unknown 0x0A 0 255) (replicate 255 0x04) ≡ 1
  pub long : refused_in 257 (Unknown 0x0A 0 255) (replicate 255 0x04) ≡ 9
  pub list_long : refused_in 258 (ServiceUuids16 true 0 256) (replicate 256 0x18) ≡ 9
  pub list_long_no_space : refused_in 257 (ServiceUuids16 true 0 256) (replicate 256 0x18) ≡ 1
  pub good_name_long : refused_in 257 (CompleteLocalName 0 255) (replicate 255 0x48) ≡ 9
  pub good_name_no_space : refused_in 256 (CompleteLocalName 0 255) (replicate 255 0x48) ≡ 1
  pub longest : written_to (Unknown 0x0A 0 254) (replicate 254 0x04) (replicate 256 0x00) 0 ≡ Ok (record { at = 256 })
  pub longest_no_space : refused_in 255 (Unknown 0x0A 0 254) (replicate 254 0x04) ≡ 1
  -- a company number is data too
  pub company_long : refused_in 300 (ManufacturerSpecificData (record { 0 = 0x004C }) 0 253) (replicate 253 0x04) ≡ 9
  pub company_longest : refused_in 300 (ManufacturerSpecificData (record { 0 = 0x004C }) 0 252) (replicate 252 0x04) ≡ 0
  -- the code's outline: its own octets, and its check of the lent ones
  pub own_two : own_in (outlined 0x180F 2) ≡ 0x0F ∷ 0x18 ∷ []
  pub own_one : own_in (outlined 0x06 1) ≡ 0x06 ∷ []
  pub own_none : own_in (outlined 0x180F 0) ≡ []
  pub own_most : own_in (outlined 0x180F 3) ≡ 0x0F ∷ 0x18 ∷ []
  pub name_fine : name_check (0x48 ∷ []) ≡ Ok tt
  pub name_bad : name_check (0xFF ∷ []) ≡ Err InvalidValue
  pub units_fine : units_check 2 (0xFF ∷ 0xFF ∷ []) ≡ Ok tt
  pub units_bad : units_check 2 (0xFF ∷ []) ≡ Err Eof
  -- at a position
  pub at_two : written_after (Unknown 0x0A 0 1) (0x04 ∷ []) (0xA0 ∷ 0xA1 ∷ 0xA2 ∷ 0xA3 ∷ 0xA4 ∷ 0xA5 ∷ []) 2 ≡ 0xA0 ∷ 0xA1 ∷ 0x02 ∷ 0x0A ∷ 0x04 ∷ 0xA5 ∷ []
  pub at_two_ends : written_to (Unknown 0x0A 0 1) (0x04 ∷ []) (replicate 6 0x00) 2 ≡ Ok (record { at = 5 })
  pub at_four : refused_with (written_to (Unknown 0x0A 0 1) (0x04 ∷ []) (replicate 6 0x00) 4) ≡ 1
  pub past_out : refused_with (written_to (Unknown 0x0A 0 1) (0x04 ∷ []) (replicate 6 0x00) 7) ≡ 1
  -- areas: document 01's rows read as areas, and rewritten to a buffer that is longer
  pub flags_area_law : read_area (0x02 ∷ 0x01 ∷ 0x86 ∷ []) ≡ Ok 1
  pub list_area : read_area (0x01 ∷ 0x03 ∷ []) ≡ Ok 1
  pub each_read : reads (records (0x02 ∷ 0x01 ∷ 0x86 ∷ 0x01 ∷ 0x03 ∷ [])) 0 ≡ (Ok (Some (Flags (record { bits = 0x06 }), 3))) ∷ (Ok (Some (ServiceUuids16 true 5 0, 5))) ∷ []
  pub no_area : read_area [] ≡ Ok 0
  pub cut_short : read_area (0x02 ∷ 0x01 ∷ 0x86 ∷ 0x02 ∷ 0x0A ∷ []) ≡ Err Eof
  pub two_flags : read_area (0x03 ∷ 0x01 ∷ 0x06 ∷ 0x06 ∷ []) ≡ Err InvalidLength
  pub rewritten_area : rewritten_after (0x02 ∷ 0x01 ∷ 0x86 ∷ 0x02 ∷ 0x0A ∷ 0x86 ∷ []) (replicate 7 0xAA) ≡ 0x02 ∷ 0x01 ∷ 0x06 ∷ 0x02 ∷ 0x0A ∷ 0x86 ∷ 0xAA ∷ []
  pub rewritten_ends : rewritten_to (0x02 ∷ 0x01 ∷ 0x86 ∷ 0x02 ∷ 0x0A ∷ 0x86 ∷ []) (replicate 6 0xAA) ≡ Ok (record { at = 6 })
  pub no_room : refused_with (rewritten_to (0x02 ∷ 0x01 ∷ 0x86 ∷ []) (0xAA ∷ 0xAA ∷ [])) ≡ 1
  pub no_room_kept : rewritten_after (0x02 ∷ 0x01 ∷ 0x86 ∷ []) (0xAA ∷ 0xAA ∷ []) ≡ 0xAA ∷ 0xAA ∷ []
  -- a bad area 2, before too little room 1
  pub bad_no_room : refused_with (rewritten_to (0x00 ∷ 0x00 ∷ []) (0xAA ∷ [])) ≡ 2
