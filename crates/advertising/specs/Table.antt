-- Document 01, "Packets beside each limit": the starred rows as one table, in the paper's order.
--   Row                == what a row says: a type, a random or public sender and a number of records; a number of records alone; or a refusal
--   row_of d           == that of what a decoder answers
--   packet h0 h1 p     == that of the two octets of a header and a payload
--   area_read a        == that of what reading an area found
--   area_row s          == that of the octets of an area
--   Table              (Table.table)  the rows, proved by computation
use Rattle.std.specs.Prelude.{◌≡◌, ℕ, Bool, true, false, List, [], ◌∷◌, Result, Ok, Err, Some}
use Rattle.octets.specs.Bytes.{le}
use Rattle.octets.specs.Error.{number_of}
use Rattle.channels.specs.Hop.{event_channel, uses}
use Rattle.records_spec.specs.Area.{read_area, rewritten_after}
use Rattle.records_spec.specs.Record.{record_at}
use Rattle.records_spec.specs.declared.ad_structure.AdStructure.TheVariants.{Flags, ServiceUuids16}
use Rattle.addresses.specs.Address.{is_random}
use Rattle.addresses.specs.Header.{header_of, type_code}
use Rattle.advertising.specs.Pdu.{decode_of}
use Rattle.advertising.specs.declared.pdu.Pdu.{Pdu}
use Rattle.advertising.specs.Laws.{nine}
use Rattle.channels.specs.Laws.{row_map}
use Rattle.octets.specs.declared.error.Error.{Error}

-- what a header and a payload, or an area, are read as: a type with a random or public sender and a number of records, a number of records, or a refusal
pub data Row : Type 0 where
  pdu : (type : ℕ) (random : Bool) (records : ℕ) → Row
  records : ℕ → Row
  refused : ℕ → Row

abbrev pub row_of : Result Pdu Error → Row
row_of (Ok p) = pdu (type_code p.ty) (is_random p.sender.kind) p.adv_data.count
row_of (Err e) = refused (number_of e)

-- the two octets of a header, and a payload
abbrev pub packet : ℕ → ℕ → List ℕ → Row
packet h0 h1 p = row_of (decode_of (header_of (le (h0 ∷ h1 ∷ []))) p)

abbrev pub area_read : Result ℕ Error → Row
area_read (Ok n) = records n
area_read (Err e) = refused (number_of e)

abbrev pub area_row : List ℕ → Row
area_row s = area_read (read_area s)

pub record Table : Type 0 where
  -- 42 09, nine octets: type 2, random sender, one record
  pub row_1 : packet 0x42 0x09 nine ≡ pdu 2 true 1
  -- 42 08, same nine octets: 2
  pub row_2 : packet 0x42 0x08 nine ≡ refused 2
  -- 07 06, six octets: 3
  pub row_3 : (a b c d e f : ℕ) → packet 0x07 0x06 (a ∷ b ∷ c ∷ d ∷ e ∷ f ∷ []) ≡ refused 3
  -- 07 05, six octets: 2
  pub row_4 : (a b c d e f : ℕ) → packet 0x07 0x05 (a ∷ b ∷ c ∷ d ∷ e ∷ f ∷ []) ≡ refused 2
  -- 00 05, five octets: 1
  pub row_5 : (a b c d e : ℕ) → packet 0x00 0x05 (a ∷ b ∷ c ∷ d ∷ e ∷ []) ≡ refused 1
  -- 00 06, six octets: no records
  pub row_6 : (a b c d e f : ℕ) → packet 0x00 0x06 (a ∷ b ∷ c ∷ d ∷ e ∷ f ∷ []) ≡ pdu 0 false 0
  -- records 02 01 86: Flags 06; rewritten 02 01 06
  pub row_7 : record_at (0x02 ∷ 0x01 ∷ 0x86 ∷ []) 0 ≡ Ok (Some (Flags (record { bits = 0x06 }), 3))
  pub row_7_rewritten : rewritten_after (0x02 ∷ 0x01 ∷ 0x86 ∷ []) (0 ∷ 0 ∷ 0 ∷ []) ≡ 0x02 ∷ 0x01 ∷ 0x06 ∷ []
  -- 01 03: empty complete list
  pub row_8 : record_at (0x01 ∷ 0x03 ∷ []) 0 ≡ Ok (Some (ServiceUuids16 true 2 0, 2))
  -- 02 03 0A: 1
  pub row_9 : area_row (0x02 ∷ 0x03 ∷ 0x0A ∷ []) ≡ refused 1
  -- 00: 2
  pub row_10 : area_row (0x00 ∷ []) ≡ refused 2
  -- map 0A 00 00 00 00, hop 5: channels 3, then 1; in 37 events channel 1 has 20, channel 3 has 17
  pub row_11 : event_channel row_map 5 0 ∷ event_channel row_map 5 1 ∷ [] ≡ 3 ∷ 1 ∷ []
  pub row_11_counts : uses row_map 5 0 1 ∷ uses row_map 5 0 3 ∷ [] ≡ 20 ∷ 17 ∷ []
