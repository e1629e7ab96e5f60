-- What each builder builds, by numbers and octets (document 01, advertising.rs).
--   Builds code flags most build a s == what a builder makes of the address a and the records s
--   Builders a s                     (Builders.builders)  the builders, each by its type's code
--   Directed a b                     (Builders.directed)  the builder of two addresses
--   Writing b out                    (Builders.writing)   the payload copied to a buffer
--   an_address, another               == a random address, and a public one
--   long k                           == a record of k octets
--   as_sent b, sent_by r              == the two octets of a PDU's header, and its payload; those of what a builder answers
--   end_of offset size                == the end of the transmit window, by WinOffset and WinSize in µs
--   Examples                         (Builders.examples)  worked values
use Rattle.std.specs.Prelude.{◌≡◌, ℕ, ◌+◌, ◌-◌, ◌*◌, ◌<◌, ◌≤◌, true, false, List, [], ◌∷◌, ◌++◌, map, length, replicate, Result, Ok, Err, IsOk, IfOk}
use Rattle.addresses.specs.Address.{kind_number, address_of}
use Rattle.addresses.specs.Header.{pdu_type}
use Rattle.addresses.specs.declared.device_address.AddressKind.TheVariants.{Public, Random}
use Rattle.addresses.specs.declared.device_address.DeviceAddress.{DeviceAddress}
use Rattle.addresses.specs.declared.header.PduType.TheVariants.{Unknown}
use Rattle.octets.specs.Bytes.{le_bytes, at_front}
use Rattle.octets.specs.declared.error.Error.{Error}
use Rattle.octets.specs.declared.error.Error.TheVariants.{Eof}
use Rattle.records_spec.specs.Area.{read_area, rewritten}
use Rattle.advertising.specs.Laws.{nine, read_of, row, counted}
use Rattle.advertising.specs.Pdu.{no_request, window_end, has_receiver, data_in}
use Rattle.advertising.specs.Refusals.{number_in}
use Rattle.advertising.specs.PduBuf.{empty_buf, connectable_pdu, nonconnectable_pdu, scannable_pdu, beacon_pdu, discoverable_pdu, scan_response_pdu, built_directed, payload_of, payload_to, payload_after}
use Rattle.advertising.specs.declared.pdu_buf.PduBuf.{PduBuf}

-- A builder of type `code` that puts the octets `flags` before the records and takes `most` octets of these, given the address a and the records s.
pub record Builds (code : ℕ) (flags : List ℕ) (most : ℕ) (build : DeviceAddress → List ℕ → Result PduBuf Error) (a : DeviceAddress) (s : List ℕ) : Type 0 where
  pub accepted : (n : ℕ) → read_area s ≡ Ok n → length s ≤ most → IsOk (build a s)
  -- the 16 bits of its header: the type, TxAdd the kind of the address, no RxAdd, the length, and no reserved bit
  pub header : (n : ℕ) → read_area s ≡ Ok n → length s ≤ most
      → IfOk (build a s) (λ b. b.header.0 ≡ code + 64 * kind_number a.kind + 256 * (6 + (length flags + length s)))
  -- the address, the octets before the records, the records with undefined Flags bits cleared, and zeros up to 37 octets
  pub octets : (n : ℕ) → read_area s ≡ Ok n → length s ≤ most
      → IfOk (build a s) (λ b. b.payload_buf ≡ ((a.bytes ++ flags) ++ rewritten s) ++ replicate (most - length s) 0)
  -- a bad area is refused as its first bad record is, and a good one that does not fit with 1
  pub bad_area : (e : Error) → read_area s ≡ Err e → build a s ≡ Err e
  pub too_long : (n : ℕ) → read_area s ≡ Ok n → most < length s → number_in (build a s) ≡ 1

-- "Built PDUs hold at most 31 record octets; `discoverable` puts `02 01 06` first, leaving 28."
pub record Builders (a : DeviceAddress) (s : List ℕ) : Type 0 where
  pub connectable : Builds 0 [] 31 connectable_pdu a s
  pub nonconnectable : Builds 2 [] 31 nonconnectable_pdu a s
  pub scannable : Builds 6 [] 31 scannable_pdu a s
  pub beacon : Builds 2 [] 31 beacon_pdu a s
  pub discoverable : Builds 0 (0x02 ∷ 0x01 ∷ 0x06 ∷ []) 28 discoverable_pdu a s
  pub scan_response_law : Builds 4 [] 31 scan_response_pdu a s

-- The builder of two addresses: type 1, TxAdd the kind of the first address and RxAdd that of the second; 12 octets, and zeros.
pub record Directed (a b : DeviceAddress) : Type 0 where
  pub header : (built_directed a b).header.0 ≡ 1 + 64 * kind_number a.kind + 128 * kind_number b.kind + 256 * 12
  pub octets : (built_directed a b).payload_buf ≡ (a.bytes ++ b.bytes) ++ replicate 25 0

-- "a transmit buffer shorter than the payload is 1"; else the payload stands at its front, and the octets after them are kept.
pub record Writing (b : PduBuf) (out : List ℕ) : Type 0 where
  pub fits : length (payload_of b) ≤ length out → payload_to b out ≡ Ok (record { at = length (payload_of b) })
  pub octets : length (payload_of b) ≤ length out → payload_after b out ≡ at_front (payload_of b) out
  pub short : length out < length (payload_of b) → payload_to b out ≡ Err Eof
  pub kept : length out < length (payload_of b) → payload_after b out ≡ out

-- a random address, a public one, and a record of k octets
abbrev pub an_address : DeviceAddress
an_address = address_of (0x01 ∷ 0x02 ∷ 0x03 ∷ 0x04 ∷ 0x05 ∷ 0xC6 ∷ []) Random

abbrev pub another : DeviceAddress
another = address_of (0x11 ∷ 0x12 ∷ 0x13 ∷ 0x14 ∷ 0x15 ∷ 0x16 ∷ []) Public

abbrev pub long : ℕ → List ℕ
long k = (k - 1) ∷ 0xFF ∷ replicate (k - 2) 0

-- the two octets of a header, and the payload
abbrev pub as_sent : PduBuf → List ℕ
as_sent b = le_bytes 2 b.header.0 ++ payload_of b

abbrev pub sent_by : Result PduBuf Error → Result (List ℕ) Error
sent_by (Ok b) = Ok (as_sent b)
sent_by (Err e) = Err e

-- the transmit window's end, of a WinOffset and a WinSize in µs
abbrev pub end_of : ℕ → ℕ → ℕ
end_of offset size = window_end (record {
  access_address = 0;
  crc_init = 0;
  win_size = size;
  win_offset = offset;
  interval = 0;
  latency = 0;
  timeout = 0;
  chm = no_request.chm;
  hop = 0;
  sca = no_request.sca;
})

pub record Examples : Type 0 where
  -- each builder's octets, of a random address and the record 02 0A 08
  pub connectable : sent_by (connectable_pdu an_address (0x02 ∷ 0x0A ∷ 0x08 ∷ [])) ≡ Ok (0x40 ∷ 0x09 ∷ 0x01 ∷ 0x02 ∷ 0x03 ∷ 0x04 ∷ 0x05 ∷ 0xC6 ∷ 0x02 ∷ 0x0A ∷ 0x08 ∷ [])
  pub nonconnectable : sent_by (nonconnectable_pdu an_address (0x02 ∷ 0x0A ∷ 0x08 ∷ [])) ≡ Ok (0x42 ∷ 0x09 ∷ 0x01 ∷ 0x02 ∷ 0x03 ∷ 0x04 ∷ 0x05 ∷ 0xC6 ∷ 0x02 ∷ 0x0A ∷ 0x08 ∷ [])
  pub scannable : sent_by (scannable_pdu an_address (0x02 ∷ 0x0A ∷ 0x08 ∷ [])) ≡ Ok (0x46 ∷ 0x09 ∷ 0x01 ∷ 0x02 ∷ 0x03 ∷ 0x04 ∷ 0x05 ∷ 0xC6 ∷ 0x02 ∷ 0x0A ∷ 0x08 ∷ [])
  pub beacon : sent_by (beacon_pdu an_address (0x02 ∷ 0x0A ∷ 0x08 ∷ [])) ≡ Ok (0x42 ∷ 0x09 ∷ 0x01 ∷ 0x02 ∷ 0x03 ∷ 0x04 ∷ 0x05 ∷ 0xC6 ∷ 0x02 ∷ 0x0A ∷ 0x08 ∷ [])
  pub discoverable : sent_by (discoverable_pdu an_address (0x02 ∷ 0x0A ∷ 0x08 ∷ []))
      ≡ Ok (0x40 ∷ 0x0C ∷ 0x01 ∷ 0x02 ∷ 0x03 ∷ 0x04 ∷ 0x05 ∷ 0xC6 ∷ 0x02 ∷ 0x01 ∷ 0x06 ∷ 0x02 ∷ 0x0A ∷ 0x08 ∷ [])
  pub scan_response_law : sent_by (scan_response_pdu another (0x02 ∷ 0x0A ∷ 0x08 ∷ [])) ≡ Ok (0x04 ∷ 0x09 ∷ 0x11 ∷ 0x12 ∷ 0x13 ∷ 0x14 ∷ 0x15 ∷ 0x16 ∷ 0x02 ∷ 0x0A ∷ 0x08 ∷ [])
  pub directed : as_sent (built_directed an_address another)
      ≡ 0x41 ∷ 0x0C ∷ 0x01 ∷ 0x02 ∷ 0x03 ∷ 0x04 ∷ 0x05 ∷ 0xC6 ∷ 0x11 ∷ 0x12 ∷ 0x13 ∷ 0x14 ∷ 0x15 ∷ 0x16 ∷ []
  pub directed_back : as_sent (built_directed another an_address)
      ≡ 0x81 ∷ 0x0C ∷ 0x11 ∷ 0x12 ∷ 0x13 ∷ 0x14 ∷ 0x15 ∷ 0x16 ∷ 0x01 ∷ 0x02 ∷ 0x03 ∷ 0x04 ∷ 0x05 ∷ 0xC6 ∷ []
  -- "31 / 32 record octets built: accepted / 1", and 28 / 29 after Flags
  pub most_31 : map (λ (k : ℕ). number_in (connectable_pdu an_address (long k))) (31 ∷ 32 ∷ []) ≡ 0 ∷ 1 ∷ []
  pub most_28 : map (λ (k : ℕ). number_in (discoverable_pdu an_address (long k))) (28 ∷ 29 ∷ []) ≡ 0 ∷ 1 ∷ []
  -- a PDU that was not built: zeros, without payload
  pub empty : (empty_buf.header.0 ≡ 0) × (empty_buf.payload_buf ≡ replicate 37 0) × (payload_of empty_buf ≡ [])
  -- types 1, 3 and 5 have a second address, the others and 7 have none
  pub second_address : map (λ (n : ℕ). has_receiver (pdu_type n)) (0 ∷ 1 ∷ 2 ∷ 3 ∷ 4 ∷ 5 ∷ 6 ∷ 7 ∷ []) ≡ false ∷ true ∷ false ∷ true ∷ false ∷ true ∷ false ∷ false ∷ []
  pub none_without_a_name : (n : ℕ) → has_receiver (Unknown n) ≡ false
  -- the records of nine octets, no part of nine octets, and none
  pub parts : data_in (record { start = 6; len = 3; count = 1 }) nine ≡ 0x02 ∷ 0x01 ∷ 0x06 ∷ []
  pub no_part : data_in (record { start = 6; len = 4; count = 1 }) nine ≡ []
  -- transmitWindowDelay is 1,250 µs after a CONNECT_IND (the Core, Vol 6 Part B, 4.5.3); the sum is modulo 2^32
  pub window_end_law : read_of (λ d. window_end d.lldata) (row 0x85 0x22 counted) ≡ Ok (6745000 + 23750 + 1250)
  pub window_modulo : end_of 4294966045 0 ∷ end_of 4294966046 0 ∷ end_of 4294967295 2 ∷ end_of 2 4294967295 ∷ [] ≡ 4294967295 ∷ 0 ∷ 1251 ∷ 1251 ∷ []
