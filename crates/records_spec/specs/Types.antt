-- The type octets of records that are read or written here (Assigned Numbers, 2.3, "Common Data Types").
--   flags_type                           == Flags
--   incomplete16_type, complete16_type    == lists of service class UUIDs of 16 bits
--   incomplete32_type, complete32_type    == such lists of 32 bits
--   incomplete128_type, complete128_type  == such lists of 128 bits
--   shortened_name_type, complete_name_type == local names
--   service_data_type                     == service data with a 16-bit UUID
--   manufacturer_type                    == manufacturer specific data
use Rattle.std.specs.Prelude.{ℕ}

abbrev pub flags_type : ℕ
flags_type = 0x01

-- lists of service class UUIDs
abbrev pub incomplete16_type : ℕ
incomplete16_type = 0x02

abbrev pub complete16_type : ℕ
complete16_type = 0x03

abbrev pub incomplete32_type : ℕ
incomplete32_type = 0x04

abbrev pub complete32_type : ℕ
complete32_type = 0x05

abbrev pub incomplete128_type : ℕ
incomplete128_type = 0x06

abbrev pub complete128_type : ℕ
complete128_type = 0x07

abbrev pub shortened_name_type : ℕ
shortened_name_type = 0x08

abbrev pub complete_name_type : ℕ
complete_name_type = 0x09

-- service data with a 16-bit UUID
abbrev pub service_data_type : ℕ
service_data_type = 0x16

abbrev pub manufacturer_type : ℕ
manufacturer_type = 0xFF
