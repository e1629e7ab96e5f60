-- What the builders of PDUs build (layouts: specs/Pdu.antt; sizes and refusals: document 01, advertising.rs).
--   to37 xs                             == 37 octets: xs and zeros
--   header_for ty tx rx n                == the header of a PDU of type ty with a payload of n octets
--   buf_of ty tx rx xs                   == the PDU of type ty with the payload xs
--   empty_buf                            == a PDU of zeros, without payload
--   after_reading ty tx front s a        == what is built of `front` and the records of s, by what reading these found
--   with_records ty tx front s           == the PDU whose payload is `front` and the records of s, read and written again
--   built_of ty a flags s                == the PDU of the address a, the record `flags` if there is one, and the records of s
--   flags_record                         == the record of Flags that stands before the others in a discoverable PDU
--   connectable_pdu, nonconnectable_pdu, scannable_pdu, beacon_pdu, discoverable_pdu, scan_response_pdu a s == what each builder builds
--   built_directed a b                   == the PDU of two addresses
--   payload_of b                         == the payload of a PDU
--   payload_to b out, payload_after b out == what copying it to the front of `out` answers, and what `out` then holds
use Rattle.std.specs.Prelude.{ℕ, ◌-◌, Bool, false, cond, List, [], ◌∷◌, ◌++◌, length, take, replicate, nat_lt, Result, Ok, Err}
use Rattle.octets.specs.Bytes.{write_to, out_after}
use Rattle.octets.specs.declared.error.Error.{Error}
use Rattle.octets.specs.declared.error.Error.TheVariants.{Eof}
use Rattle.records_spec.specs.Area.{read_area, rewritten}
use Rattle.addresses.specs.Address.{is_random}
use Rattle.addresses.specs.Header.{header_of, type_code, length_of, set_tx_add, set_rx_add, set_length}
use Rattle.addresses.specs.declared.device_address.DeviceAddress.{DeviceAddress}
use Rattle.addresses.specs.declared.header.Header.{Header}
use Rattle.addresses.specs.declared.header.PduType.{PduType}
use Rattle.addresses.specs.declared.header.PduType.TheVariants.{AdvInd, AdvDirectInd, AdvNonconnInd, AdvScanInd, ScanRsp}
use Rattle.advertising.specs.declared.pdu_buf.PduBuf.{PduBuf}
use Rattle.octets.specs.declared.bytes.ByteWriter.{ByteWriter}

abbrev pub to37 : List ℕ → List ℕ
to37 xs = xs ++ replicate (37 - length xs) 0

abbrev pub header_for : PduType → Bool → Bool → ℕ → Header
header_for ty tx rx n = set_rx_add rx (set_tx_add tx (set_length n (header_of (type_code ty))))

unfoldable pub buf_of : PduType → Bool → Bool → List ℕ → PduBuf
buf_of ty tx rx xs = record { header = header_for ty tx rx (length xs); payload_buf = to37 xs }

abbrev pub empty_buf : PduBuf
empty_buf = record { header = header_of 0; payload_buf = to37 [] }

-- a payload holds at most 37 octets
unfoldable pub after_reading : PduType → Bool → List ℕ → List ℕ → Result ℕ Error → Result PduBuf Error
after_reading ty tx front s (Ok n) =
    cond (nat_lt (37 - length front) (length s)) (Err Eof) (Ok (buf_of ty tx false (front ++ rewritten s)))
after_reading ty tx front s (Err e) = Err e

unfoldable pub with_records : PduType → Bool → List ℕ → List ℕ → Result PduBuf Error
with_records ty tx front s = after_reading ty tx front s (read_area s)

abbrev pub built_of : PduType → DeviceAddress → List ℕ → List ℕ → Result PduBuf Error
built_of ty a flags s = with_records ty (is_random a.kind) (a.bytes ++ flags) s

-- general discoverable mode, BR/EDR not supported (the Supplement, Part A, 1.3)
abbrev pub flags_record : List ℕ
flags_record = 0x02 ∷ 0x01 ∷ 0x06 ∷ []

-- the builders' types (document 01: 0 ADV_IND, 2 ADV_NONCONN_IND, 4 SCAN_RSP, 6 ADV_SCAN_IND)
abbrev pub connectable_pdu : DeviceAddress → List ℕ → Result PduBuf Error
connectable_pdu a s = built_of AdvInd a [] s

abbrev pub nonconnectable_pdu : DeviceAddress → List ℕ → Result PduBuf Error
nonconnectable_pdu a s = built_of AdvNonconnInd a [] s

abbrev pub scannable_pdu : DeviceAddress → List ℕ → Result PduBuf Error
scannable_pdu a s = built_of AdvScanInd a [] s

abbrev pub beacon_pdu : DeviceAddress → List ℕ → Result PduBuf Error
beacon_pdu a s = nonconnectable_pdu a s

abbrev pub discoverable_pdu : DeviceAddress → List ℕ → Result PduBuf Error
discoverable_pdu a s = built_of AdvInd a flags_record s

abbrev pub scan_response_pdu : DeviceAddress → List ℕ → Result PduBuf Error
scan_response_pdu a s = built_of ScanRsp a [] s

abbrev pub built_directed : DeviceAddress → DeviceAddress → PduBuf
built_directed a b = buf_of AdvDirectInd (is_random a.kind) (is_random b.kind) (a.bytes ++ b.bytes)

abbrev pub payload_of : PduBuf → List ℕ
payload_of b = take (length_of b.header) b.payload_buf

abbrev pub payload_to : PduBuf → List ℕ → Result ByteWriter Error
payload_to b out = write_to (length (payload_of b)) out 0

abbrev pub payload_after : PduBuf → List ℕ → List ℕ
payload_after b out = out_after (payload_of b) out 0
