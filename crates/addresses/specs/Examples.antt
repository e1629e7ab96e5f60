-- Worked values of addresses, filters and headers, each with where it comes from.
--   six            == six octets of an address
--   entry_of kind   == an entry of a whitelist, of this kind, with these octets
--   other          == an entry of another address
--   random, public == the addresses of the six octets, of either kind
--   Examples       (Examples.examples)  the values
use Rattle.std.specs.Prelude.{true, false, List, [], ◌∷◌, ◌++◌, ◌≡◌, ℕ, Ok, Err}
use Rattle.octets.specs.Error.{number_of}
use Rattle.octets.specs.declared.error.Error.TheVariants.{Eof, InvalidValue, ShortHeader, PayloadLength}
use Rattle.addresses.specs.Address.{kind_number, kind_of, is_random, address_of, same_address}
use Rattle.addresses.specs.Filter.{matches_of, adv_filter_of, may_scan, may_connect}
use Rattle.addresses.specs.Header.{header_of, new_header, header_octets, type_of, tx_add, rx_add, length_of, set_tx_add, set_rx_add, parsed, header_at, length_set}
use Rattle.addresses.specs.declared.device_address.AddressKind.TheVariants.{Public, Random}
use Rattle.addresses.specs.declared.device_address.DeviceAddress.{DeviceAddress}
use Rattle.addresses.specs.declared.filter.AddressFilter.TheVariants.{AllowAll, Whitelist}
use Rattle.addresses.specs.declared.header.PduType.TheVariants.{AdvInd, AdvNonconnInd, ConnectReq, Unknown}

-- six octets, an entry of a whitelist with them, and another
abbrev pub six : List ℕ
six = 1 ∷ 2 ∷ 3 ∷ 4 ∷ 5 ∷ 0xC6 ∷ []

abbrev pub entry_of : ℕ → List ℕ
entry_of kind = kind ∷ six

abbrev pub other : List ℕ
other = 0 ∷ 1 ∷ 2 ∷ 3 ∷ 4 ∷ 5 ∷ 0xC7 ∷ []

abbrev pub random : DeviceAddress
random = address_of six Random

abbrev pub public : DeviceAddress
public = address_of six Public

pub record Examples : Type 0 where
  -- document 01's table: the numbers of the four refusals
  pub number_1 : number_of Eof ≡ 1
  pub number_3 : number_of InvalidValue ≡ 3
  pub number_4 : number_of ShortHeader ≡ 4
  pub number_7 : number_of PayloadLength ≡ 7
  -- document 01: kind 0 public, 1 random
  pub kind_public : kind_number Public ≡ 0
  pub kind_random : kind_number Random ≡ 1
  pub of_random : kind_of true ≡ Random
  pub of_public : kind_of false ≡ Public
  pub is_random_law : is_random random.kind ≡ true
  pub is_public : is_random public.kind ≡ false
  pub octets : random.bytes ≡ six
  -- "Equality includes the kind", and all six octets
  pub same : same_address random random ≡ true
  pub other_kind : same_address random public ≡ false
  pub other_last : same_address (address_of (1 ∷ 2 ∷ 3 ∷ 4 ∷ 5 ∷ 0xC7 ∷ []) Random) random ≡ false
  pub other_first : same_address (address_of (0 ∷ 2 ∷ 3 ∷ 4 ∷ 5 ∷ 0xC6 ∷ []) Random) random ≡ false
  -- "A whitelist matches if some entry is equal; an empty one never does"
  pub listed : matches_of Whitelist (entry_of 1) random ≡ Ok true
  pub listed_public : matches_of Whitelist (entry_of 0) public ≡ Ok true
  pub listed_second : matches_of Whitelist (other ++ entry_of 1) random ≡ Ok true
  pub listed_second_public : matches_of Whitelist (other ++ entry_of 0) public ≡ Ok true
  pub listed_first : matches_of Whitelist (entry_of 1 ++ other) random ≡ Ok true
  pub other_listed : matches_of Whitelist (entry_of 0 ++ other) random ≡ Ok false
  pub none_listed : matches_of Whitelist [] random ≡ Ok false
  -- 3: a list of 6 or 8 octets; a kind above 1, also after the entry that matches
  pub list_of_6 : matches_of Whitelist six random ≡ Err InvalidValue
  pub list_of_8 : matches_of Whitelist (entry_of 1 ++ 1 ∷ []) random ≡ Err InvalidValue
  pub kind_2 : matches_of Whitelist (entry_of 2) random ≡ Err InvalidValue
  pub kind_2_behind : matches_of Whitelist (entry_of 1 ++ entry_of 2) random ≡ Err InvalidValue
  pub all_pass : matches_of AllowAll (entry_of 2) random ≡ Ok true
  -- rubble's `AdvFilter::new(scan, connect)`
  pub all_scan : may_scan (adv_filter_of AllowAll Whitelist) [] random ≡ Ok true
  pub none_connect : may_connect (adv_filter_of AllowAll Whitelist) [] random ≡ Ok false
  pub none_scan : may_scan (adv_filter_of Whitelist AllowAll) [] random ≡ Ok false
  pub all_connect : may_connect (adv_filter_of Whitelist AllowAll) [] random ≡ Ok true
  -- a header of 0, 1, 2 and 3 octets: 4 for `parse`, 1 for `from_bytes`, which goes on after it
  pub parse_0 : parsed [] ≡ Err ShortHeader
  pub parse_1 : parsed (0x42 ∷ []) ≡ Err ShortHeader
  pub parse_2 : parsed (0x42 ∷ 0x09 ∷ []) ≡ Ok (header_of 0x0942)
  pub parse_3 : parsed (0x42 ∷ 0x09 ∷ 0x01 ∷ []) ≡ Ok (header_of 0x0942)
  pub from_0 : header_at [] 0 ≡ Err Eof
  pub from_1 : header_at (0x42 ∷ []) 0 ≡ Err Eof
  pub from_2 : header_at (0x42 ∷ 0x09 ∷ []) 0 ≡ Ok (header_of 0x0942, record { at = 2 })
  pub from_2_at_1 : header_at (0x42 ∷ 0x09 ∷ []) 1 ≡ Err Eof
  pub from_3_at_1 : header_at (0xFF ∷ 0x42 ∷ 0x09 ∷ []) 1 ≡ Ok (header_of 0x0942, record { at = 3 })
  pub sent : header_octets (header_of 0x0942) ≡ 0x42 ∷ 0x09 ∷ []
  -- document 01's row: 42 09 is type 2, a random sender, length 9
  pub row_type : type_of (header_of 0x0942) ≡ AdvNonconnInd
  pub row_tx : tx_add (header_of 0x0942) ≡ true
  pub row_rx : rx_add (header_of 0x0942) ≡ false
  pub row_length : length_of (header_of 0x0942) ≡ 9
  -- bits 3 and 4, 13 and 14: on both sides of the type's end and of the length's
  pub bit_3 : type_of (header_of 0x0008) ≡ Unknown 8
  pub bit_4 : type_of (header_of 0x0010) ≡ AdvInd
  pub bit_5 : tx_add (header_of 0x0020) ≡ false
  pub bit_7 : rx_add (header_of 0x0080) ≡ true
  pub bits_6_7 : tx_add (header_of 0x00C0) ≡ true
  pub bit_8 : length_of (header_of 0x0180) ≡ 1
  pub bit_13 : length_of (header_of 0x2000) ≡ 32
  pub bit_14 : length_of (header_of 0x4000) ≡ 0
  -- each setter, with all other bits 0 and with all of them 1
  pub tx_on : set_tx_add true (header_of 0) ≡ header_of 0x0040
  pub tx_off : set_tx_add false (header_of 0xFFFF) ≡ header_of 0xFFBF
  pub rx_on : set_rx_add true (header_of 0) ≡ header_of 0x0080
  pub rx_off : set_rx_add false (header_of 0xFFFF) ≡ header_of 0xFF7F
  -- 7 outside 6 to 37
  pub length_5 : length_set 5 (header_of 0x0942) ≡ Err PayloadLength
  pub length_6 : length_set 6 (header_of 0xFFFF) ≡ Ok (header_of 0xC6FF)
  pub length_37 : length_set 37 (header_of 0x0942) ≡ Ok (header_of 0x2542)
  pub length_38 : length_set 38 (header_of 0x0942) ≡ Err PayloadLength
  pub new_5 : new_header ConnectReq ≡ header_of 0x0005
