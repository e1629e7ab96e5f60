-- Headers and built PDUs as numbers.
--   header_said made                  == what a header says
--   set_got made                      == the 16 bits of a header that was made, or the refusal
--   head_set h tx rx n                == a header with TxAdd, RxAdd and length set
--   parsed_set made tx rx n           == the same of a header that was made, or not
--   built_as which a s                == the PDU of a builder with records
--   frame_of number pdu, built_frame b == the numbers of a PDU, and those of one that was built, or zeros
use Rattle.std.specs.Prelude.{Bool, false, cond, List, [], ℕ, eqb, Result, Ok, Err}
use Rattle.octets.specs.Error.{number_of}
use Rattle.addresses.specs.Header.{type_code, is_beacon, allows_adv_data, type_of, tx_add, rx_add, length_of, set_tx_add, set_rx_add, length_set}
use Rattle.addresses.specs.declared.device_address.DeviceAddress.{DeviceAddress}
use Rattle.addresses.specs.declared.header.Header.{Header}
use Rattle.addresses.specs.declared.header.PduType.TheVariants.{AdvInd, AdvNonconnInd, AdvScanInd, ScanRsp}
use Rattle.advertising.specs.PduBuf.{built_of, flags_record, empty_buf}
use Rattle.advertising.specs.declared.pdu_buf.PduBuf.{PduBuf}
use Rattle.answers.specs.Got.{found, refused_as}
use Rattle.answers.specs.declared.got.Got.{Got}
use Rattle.exports.specs.declared.packets.Frame.{Frame}
use Rattle.exports.specs.declared.packets.Head.{Head}
use Rattle.octets.specs.declared.error.Error.{Error}

abbrev pub header_said : Result Header Error → Head
header_said (Ok h) =
    record {
      number = 0;
      raw = h.0;
      ty = type_code (type_of h);
      tx_add = tx_add h;
      rx_add = rx_add h;
      length = length_of h;
      is_beacon = is_beacon (type_of h);
      allows_adv_data = allows_adv_data (type_of h);
    }
header_said (Err e) =
    record { number = number_of e; raw = 0; ty = 0; tx_add = false; rx_add = false; length = 0; is_beacon = false; allows_adv_data = false }

abbrev pub set_got : Result Header Error → Got
set_got (Ok h) = found h.0 0
set_got (Err e) = refused_as e

abbrev pub head_set : Header → Bool → Bool → ℕ → Got
head_set h tx rx n = set_got (length_set n (set_rx_add rx (set_tx_add tx h)))

abbrev pub parsed_set : Result Header Error → Bool → Bool → ℕ → Got
parsed_set (Ok h) tx rx n = head_set h tx rx n
parsed_set (Err e) tx rx n = refused_as e

unfoldable pub built_as : ℕ → DeviceAddress → List ℕ → Result PduBuf Error
built_as which a s =
    cond (eqb which 0) (built_of AdvInd a [] s)
    (cond (eqb which 1) (built_of AdvInd a flags_record s)
    (cond (eqb which 2) (built_of AdvNonconnInd a [] s)
    (cond (eqb which 3) (built_of AdvNonconnInd a [] s)
    (cond (eqb which 4) (built_of ScanRsp a [] s)
    (built_of AdvScanInd a [] s)))))

abbrev pub frame_of : ℕ → PduBuf → Frame
frame_of number pdu = record { number = number; header = pdu.header.0; payload = pdu.payload_buf }

abbrev pub built_frame : Result PduBuf Error → Frame
built_frame (Ok pdu) = frame_of 0 pdu
built_frame (Err e) = frame_of (number_of e) empty_buf
