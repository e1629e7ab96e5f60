-- The header of an advertising channel PDU (the Core, Vol 6 Part B, 2.3; document 01, advertising.rs), least significant bit first.
--
--     | PDU type | reserved | TxAdd   | RxAdd   | length   | reserved  |
--     | bits 0-3 | bits 4-5 | bit 6   | bit 7   | bits 8-13| bits 14-15|
--
--   header_of n                                == the header of the 16 bits n
--   type_code ty, pdu_type n                    == the code of a type (the Core's table of PDU types), and the type of a code
--   new_header ty                              == the header of a type alone
--   is_beacon ty, allows_adv_data ty             == the type is that of a beacon; it is one with records
--   header_bits b w h                          == the w bits of a header from bit b on
--   set_bits b w v h                           == the header with v in their place
--   type_of h, tx_add h, rx_add h, length_of h    == what the header says: its type, TxAdd, RxAdd and length
--   set_tx_add v h, set_rx_add v h, set_length n h == the header with another TxAdd, RxAdd or length, and nothing else changed
--   parsed s                                  == what `parse` answers
--   header_read r                              == the header that was read as a number of two octets
--   header_at s at                             == what `from_bytes` answers
--   header_octets h                            == the two octets of a header
--   length_set n h                             == what `set_payload_length` answers
use Rattle.std.specs.Prelude.{Bool, true, false, cond, ◌||◌, List, ℕ, ◌+◌, ◌-◌, ◌*◌, ◌/◌, ◌%◌, ◌^◌, eqb, ltb, length, Result, Ok, Err}
use Rattle.octets.specs.Bytes.{part, le, le_bytes, u16_read}
use Rattle.octets.specs.declared.error.Error.TheVariants.{ShortHeader, PayloadLength}
use Rattle.addresses.specs.declared.header.Header.{Header}
use Rattle.addresses.specs.declared.header.PduType.{PduType}
use Rattle.addresses.specs.declared.header.PduType.TheVariants.{AdvInd, AdvDirectInd, AdvNonconnInd, AdvScanInd, ScanReq, ScanRsp, ConnectReq, Unknown}
use Rattle.octets.specs.declared.bytes.ByteReader.{ByteReader}
use Rattle.octets.specs.declared.error.Error.{Error}

abbrev pub header_of : ℕ → Header
header_of n = record { 0 = n }

abbrev pub type_code : PduType → ℕ
type_code AdvInd = 0b0000
type_code AdvDirectInd = 0b0001
type_code AdvNonconnInd = 0b0010
type_code ScanReq = 0b0011
type_code ScanRsp = 0b0100
type_code ConnectReq = 0b0101
type_code AdvScanInd = 0b0110
type_code (Unknown n) = n

unfoldable pub pdu_type : ℕ → PduType
pdu_type n =
    cond (eqb n 0b0000) AdvInd
    (cond (eqb n 0b0001) AdvDirectInd
    (cond (eqb n 0b0010) AdvNonconnInd
    (cond (eqb n 0b0011) ScanReq
    (cond (eqb n 0b0100) ScanRsp
    (cond (eqb n 0b0101) ConnectReq
    (cond (eqb n 0b0110) AdvScanInd
    (Unknown n)))))))

-- the code of a type, and nothing else
abbrev pub new_header : PduType → Header
new_header ty = header_of (type_code ty)

abbrev pub is_beacon : PduType → Bool
is_beacon AdvNonconnInd = true
is_beacon AdvInd = false
is_beacon AdvDirectInd = false
is_beacon AdvScanInd = false
is_beacon ScanReq = false
is_beacon ScanRsp = false
is_beacon ConnectReq = false
is_beacon (Unknown n) = false

-- the types whose figure has AdvData or ScanRspData (2.3.1, 2.3.2.2)
abbrev pub allows_adv_data : PduType → Bool
allows_adv_data AdvInd = true
allows_adv_data AdvNonconnInd = true
allows_adv_data AdvScanInd = true
allows_adv_data ScanRsp = true
allows_adv_data AdvDirectInd = false
allows_adv_data ScanReq = false
allows_adv_data ConnectReq = false
allows_adv_data (Unknown n) = false

abbrev pub header_bits : ℕ → ℕ → Header → ℕ
header_bits b w h = h.0 / 2 ^ b % 2 ^ w

abbrev pub set_bits : ℕ → ℕ → ℕ → Header → Header
set_bits b w v h = header_of (h.0 - 2 ^ b * header_bits b w h + 2 ^ b * v)

abbrev pub type_of : Header → PduType
type_of h = pdu_type (header_bits 0 4 h)

abbrev pub tx_add : Header → Bool
tx_add h = eqb (header_bits 6 1 h) 1

abbrev pub rx_add : Header → Bool
rx_add h = eqb (header_bits 7 1 h) 1

abbrev pub length_of : Header → ℕ
length_of h = header_bits 8 6 h

abbrev pub set_tx_add : Bool → Header → Header
set_tx_add v h = set_bits 6 1 (cond v 1 0) h

abbrev pub set_rx_add : Bool → Header → Header
set_rx_add v h = set_bits 7 1 (cond v 1 0) h

abbrev pub set_length : ℕ → Header → Header
set_length n h = set_bits 8 6 n h

abbrev pub parsed : List ℕ → Result Header Error
parsed s = cond (ltb (length s) 2) (Err ShortHeader) (Ok (header_of (le (part 2 s 0))))

abbrev pub header_read : Result (ℕ × ByteReader) Error → Result (Header × ByteReader) Error
header_read (Ok (n, next)) = Ok (header_of n, next)
header_read (Err e) = Err e

abbrev pub header_at : List ℕ → ℕ → Result (Header × ByteReader) Error
header_at s at = header_read (u16_read s at)

abbrev pub header_octets : Header → List ℕ
header_octets h = le_bytes 2 h.0

abbrev pub length_set : ℕ → Header → Result Header Error
length_set n h = cond (ltb n 6 || ltb 37 n) (Err PayloadLength) (Ok (set_length n h))
