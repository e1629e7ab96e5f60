-- What a header and a payload decode to (layouts: the Core, Vol 6 Part B, 2.3.1 to 2.3.3; accepted inputs and refusals: document 01).
--
--     0 ADV_IND, 2 ADV_NONCONN_IND, 6 ADV_SCAN_IND        | AdvA 6  | AdvData 0-31     |
--     4 SCAN_RSP                                          | AdvA 6  | ScanRspData 0-31 |
--     1 ADV_DIRECT_IND                                    | AdvA 6  | TargetA 6        |
--     3 SCAN_REQ                                          | ScanA 6 | AdvA 6           |
--     5 CONNECT_IND                                       | InitA 6 | AdvA 6           | LLData 22 |
--     LLData      | AA 4 | CRCInit 3 | WinSize 1 | WinOffset 2 | Interval 2 | Latency 2 | Timeout 2 | ChM 5 | Hop 5 bits, SCA 3 bits |
--
-- TxAdd is the kind of the first address and RxAdd that of the second. Numbers stand least significant octet first.
--   field_at widths k p                   == field k of a payload, where its figure has these widths in octets
--   undirected_figure, directed_figure     == the widths of the figures with records and with two addresses
--   ll_data_figure, connect_figure          == the widths of LLData, and of a connect request
--   accuracy_of n                         == the sleep clock accuracy of a code (2.3.3.1)
--   ll_data_of o                           == what the 22 octets of LLData say
--   ll_data_in p, request_of p              == these octets of a connect request, after its two addresses, and what they say
--   window_end d                          == the end of the transmit window, from the end of a request with these data
--   no_request, no_address, no_data         == zeros for LLData, for an address, and for the place of records
--   sender_of h p, receiver_of h p         == the first and the second address
--   has_receiver ty                       == a type with a second address
--   data_in d p, data_place d p            == the part of a payload where records lie, and where that part lies
--   pdu_as ty s r d l                     == a PDU, with all that it says
--   decoded_as ty s r d l                 == that PDU as an answer
--   with_area ty h p a                    == the answer for a type with records, by what reading these found
--   Reading                              == a way to read an area of records
--   undirected, directed, connect_request == the answer by type, once the length agrees
--   by_type reading ty h p                == the one of these that the type takes, or the refusal of a type without a name
--   decode_by reading h p                 == the answer for a header and a payload, where records are read by `reading`
--   decode_of h p, well_formed h p         == the same where they are read strictly; it is no refusal
--   decoded_at found s                    == the same for a header that was found in s, or not, and what follows it
--   has_area h p                          == there are records to read: the type has them, the length agrees and there is an address (for two inner contracts)
--   as_hub s                              == an area as the hub reads it, the octets taken left out
--   heard_of h p                          == the answer where records are read as the hub does: zeros may follow them (document 02, Note 3)
--   octets_taken d p                      == how many octets the records take of the part d of a payload
--   counted p d                           == the answer d, and how many octets of the payload p its records took
--   padded_of h p                         == what is heard, and how many octets its records took
use Rattle.std.specs.Prelude.{ℕ, ◌-◌, ◌*◌, ◌/◌, ◌%◌, Bool, true, false, cond, ◌&&◌, List, [], ◌∷◌, ◌++◌, length, take, drop, ◌==◌, nat_le, nat_lt, slice_index, Result, Ok, Err, is_ok}
use Rattle.std.specs.Borrow.{Bor}
use Rattle.octets.specs.Lists.{total}
use Rattle.channels.specs.Map.{from_raw}
use Rattle.octets.specs.Bytes.{part, part_or, part_place, le}
use Rattle.octets.specs.Time.{later}
use Rattle.octets.specs.declared.error.Error.{Error}
use Rattle.octets.specs.declared.error.Error.TheVariants.{Eof, InvalidLength, InvalidValue}
use Rattle.records_spec.specs.Area.{read_area}
use Rattle.records_spec.specs.HubReading.{unpadded, read_padded, area_in}
use Rattle.addresses.specs.Address.{kind_of, address_of}
use Rattle.addresses.specs.Header.{type_of, tx_add, rx_add, length_of, allows_adv_data}
use Rattle.addresses.specs.declared.device_address.AddressKind.TheVariants.{Public}
use Rattle.addresses.specs.declared.device_address.DeviceAddress.{DeviceAddress}
use Rattle.addresses.specs.declared.header.Header.{Header}
use Rattle.addresses.specs.declared.header.PduType.{PduType}
use Rattle.addresses.specs.declared.header.PduType.TheVariants.{AdvInd, AdvDirectInd, AdvNonconnInd, AdvScanInd, ScanReq, ScanRsp, ConnectReq, Unknown}
use Rattle.advertising.specs.declared.pdu.AdvData.{AdvData}
use Rattle.advertising.specs.declared.pdu.ConnectRequestData.{ConnectRequestData}
use Rattle.advertising.specs.declared.pdu.Pdu.{Pdu}
use Rattle.advertising.specs.declared.pdu.SleepClockAccuracy.{SleepClockAccuracy}
use Rattle.advertising.specs.declared.pdu.SleepClockAccuracy.TheVariants.{Ppm251To500, Ppm151To250, Ppm101To150, Ppm76To100, Ppm51To75, Ppm31To50, Ppm21To30, Ppm0To20}
use Rattle.octets.specs.declared.bytes.ByteReader.{ByteReader}

abbrev pub field_at : List ℕ → ℕ → List ℕ → List ℕ
field_at widths k p = part (slice_index widths k) p (total (take k widths))

-- the figures' widths: of a payload with records, with two addresses, of LLData, and of a connect request, which is two addresses and LLData
abbrev pub undirected_figure : List ℕ
undirected_figure = 6 ∷ []

abbrev pub directed_figure : List ℕ
directed_figure = 6 ∷ 6 ∷ []

abbrev pub ll_data_figure : List ℕ
ll_data_figure = 4 ∷ 3 ∷ 1 ∷ 2 ∷ 2 ∷ 2 ∷ 2 ∷ 5 ∷ 1 ∷ []

abbrev pub connect_figure : List ℕ
connect_figure = directed_figure ++ ll_data_figure

abbrev pub accuracy_of : ℕ → SleepClockAccuracy
accuracy_of n =
    cond (n == 0) Ppm251To500
    (cond (n == 1) Ppm151To250
    (cond (n == 2) Ppm101To150
    (cond (n == 3) Ppm76To100
    (cond (n == 4) Ppm51To75
    (cond (n == 5) Ppm31To50
    (cond (n == 6) Ppm21To30
    Ppm0To20))))))

-- window fields and interval count 1,250 µs, the timeout 10,000 µs
unfoldable pub ll_data_of : List ℕ → ConnectRequestData
ll_data_of o =
    record {
      access_address = le (field_at ll_data_figure 0 o);
      crc_init = le (field_at ll_data_figure 1 o);
      win_size = le (field_at ll_data_figure 2 o) * 1250;
      win_offset = le (field_at ll_data_figure 3 o) * 1250;
      interval = le (field_at ll_data_figure 4 o) * 1250;
      latency = le (field_at ll_data_figure 5 o);
      timeout = le (field_at ll_data_figure 6 o) * 10000;
      chm = from_raw (field_at ll_data_figure 7 o);
      hop = le (field_at ll_data_figure 8 o) % 32;
      sca = accuracy_of (le (field_at ll_data_figure 8 o) / 32);
    }

abbrev pub ll_data_in : List ℕ → List ℕ
ll_data_in p = drop (total directed_figure) p

abbrev pub request_of : List ℕ → ConnectRequestData
request_of p = ll_data_of (ll_data_in p)

-- transmitWindowDelay is 1,250 µs
abbrev pub window_end : ConnectRequestData → ℕ
window_end d = later (later d.win_offset d.win_size) 1250

abbrev pub no_request : ConnectRequestData
no_request =
    record {
      access_address = 0;
      crc_init = 0;
      win_size = 0;
      win_offset = 0;
      interval = 0;
      latency = 0;
      timeout = 0;
      chm = from_raw (0 ∷ 0 ∷ 0 ∷ 0 ∷ 0 ∷ []);
      hop = 0;
      sca = Ppm251To500;
    }

abbrev pub no_address : DeviceAddress
no_address = address_of (0 ∷ 0 ∷ 0 ∷ 0 ∷ 0 ∷ 0 ∷ []) Public

abbrev pub no_data : AdvData
no_data = record { start = 0; len = 0; count = 0 }

abbrev pub sender_of : Header → List ℕ → DeviceAddress
sender_of h p = address_of (field_at directed_figure 0 p) (kind_of (tx_add h))

abbrev pub receiver_of : Header → List ℕ → DeviceAddress
receiver_of h p = address_of (field_at directed_figure 1 p) (kind_of (rx_add h))

abbrev pub has_receiver : PduType → Bool
has_receiver AdvDirectInd = true
has_receiver ScanReq = true
has_receiver ConnectReq = true
has_receiver AdvInd = false
has_receiver AdvNonconnInd = false
has_receiver AdvScanInd = false
has_receiver ScanRsp = false
has_receiver (Unknown n) = false

abbrev pub data_in : AdvData → List ℕ → List ℕ
data_in d p = part_or d.len p d.start

abbrev pub data_place : AdvData → Bor (List ℕ) → ℕ × ℕ
data_place d p = part_place d.len p d.start

abbrev pub pdu_as : PduType → DeviceAddress → DeviceAddress → AdvData → ConnectRequestData → Pdu
pdu_as ty sender receiver records lldata = record { ty = ty; sender = sender; receiver = receiver; adv_data = records; lldata = lldata }

abbrev pub decoded_as : PduType → DeviceAddress → DeviceAddress → AdvData → ConnectRequestData → Result Pdu Error
decoded_as ty sender receiver records lldata = Ok (pdu_as ty sender receiver records lldata)

-- by what reading the record area after the address found
unfoldable pub with_area : PduType → Header → List ℕ → Result ℕ Error → Result Pdu Error
with_area ty h p (Ok n) =
    decoded_as ty (sender_of h p) no_address (record { start = 6; len = length p - 6; count = n }) no_request
with_area ty h p (Err e) = Err e

-- how an area of records is read
abbrev pub Reading : Type 0
Reading = List ℕ → Result ℕ Error

unfoldable pub undirected : Reading → PduType → Header → List ℕ → Result Pdu Error
undirected reading ty h p = cond (nat_lt (length p) (total undirected_figure)) (Err Eof) (with_area ty h p (reading (drop (total undirected_figure) p)))

unfoldable pub directed : PduType → Header → List ℕ → Result Pdu Error
directed ty h p =
    cond (nat_lt (length p) (total directed_figure)) (Err Eof)
    (decoded_as ty (sender_of h p) (receiver_of h p) no_data no_request)

unfoldable pub connect_request : Header → List ℕ → Result Pdu Error
connect_request h p =
    cond (nat_lt (length p) (total connect_figure)) (Err Eof)
    (decoded_as ConnectReq (sender_of h p) (receiver_of h p) no_data (request_of p))

unfoldable pub by_type : Reading → PduType → Header → List ℕ → Result Pdu Error
by_type reading AdvInd h p = undirected reading AdvInd h p
by_type reading AdvDirectInd h p = directed AdvDirectInd h p
by_type reading AdvNonconnInd h p = undirected reading AdvNonconnInd h p
by_type reading AdvScanInd h p = undirected reading AdvScanInd h p
by_type reading ScanReq h p = directed ScanReq h p
by_type reading ScanRsp h p = undirected reading ScanRsp h p
by_type reading ConnectReq h p = connect_request h p
by_type reading (Unknown n) h p = Err InvalidValue

unfoldable pub decode_by : Reading → Header → List ℕ → Result Pdu Error
decode_by reading h p = cond (length_of h == length p) (by_type reading (type_of h) h p) (Err InvalidLength)

abbrev pub decode_of : Header → List ℕ → Result Pdu Error
decode_of h p = decode_by read_area h p

-- "well-formed if its header and payload decode without refusal"
abbrev pub well_formed : Header → List ℕ → Bool
well_formed h p = is_ok (decode_of h p)

abbrev pub decoded_at : Result (Header × ByteReader) Error → List ℕ → Result Pdu Error
decoded_at (Ok (h, next)) s = decode_of h (drop next.at s)
decoded_at (Err e) s = Err e

-- header and payload have records to read
abbrev pub has_area : Header → List ℕ → Bool
has_area h p = allows_adv_data (type_of h) && (length_of h == length p && nat_le (total undirected_figure) (length p))

abbrev pub as_hub : Reading
as_hub s = area_in (read_padded s)

abbrev pub heard_of : Header → List ℕ → Result Pdu Error
heard_of h p = decode_by as_hub h p

abbrev pub octets_taken : AdvData → List ℕ → ℕ
octets_taken d p = length (unpadded (data_in d p))

abbrev pub counted : List ℕ → Result Pdu Error → Result (Pdu × ℕ) Error
counted p (Ok d) = Ok (d, octets_taken d.adv_data p)
counted p (Err e) = Err e

abbrev pub padded_of : Header → List ℕ → Result (Pdu × ℕ) Error
padded_of h p = counted p (heard_of h p)
