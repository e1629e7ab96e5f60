-- What the list alone says of a call, and of the calls so far (document 01, "The list of demand 3"): nothing here asks the device.
--   is_connect_request ty          == the type is that of a connect request
--   for_board own h p             == "for this board if it has type 1, 3 or 5 and its second address equals the device's own"
--   requested is own crc_good h p == a CRC-good, well-formed packet to the address `own`, of a type that `is` says
--   asks_to_connect, asks_to_scan own crc_good h p == such a connect request, such a scan request
--   map_in p, hop_in p             == the map and the hop of a connect request
--   in_ranges_in p                 == its settings are within the Core's ranges
--   connects own c               == the call hands over such a connect request, which marks n ≥ 1 channels and is within the ranges
--   asks_to_scan_with n own c       == the call hands over such a scan request, and a transmit buffer of n octets or more
--   SoFar                        == what the list says of the calls so far; at_first: before any
--   when, first_of, area_number    == numbers of refusals: where a condition holds, the first of two, that of an area
--   start_number, scan_data_number  == the number that refuses a start, and scan data, 0 where none does
--   reply_size s                  == how many octets the payload of the reply with the scan data s has
--   refused_by own l c            == the number of the row of the table that refuses a call; 0 where none does
--   then_call own l c             == what the list says after the call; then_calls: after calls
--   mode_after, scan_data_after     == the mode and the scan data that a list gives at its end
use Rattle.std.specs.Prelude.{Bool, true, false, cond, not, ◌&&◌, ◌||◌, List, [], ◌∷◌, ℕ, zero, suc, ◌+◌, ◌%◌, eqb, leb, ltb, length, Result, Ok, Err}
use Rattle.octets.specs.Bytes.{le}
use Rattle.octets.specs.Error.{number_of}
use Rattle.channels.specs.Map.{marks}
use Rattle.channels.specs.Phy.{first_channel, cycled}
use Rattle.channels.specs.declared.phy.AdvertisingChannel.{AdvertisingChannel}
use Rattle.records_spec.specs.Area.{read_area}
use Rattle.addresses.specs.declared.device_address.DeviceAddress.{DeviceAddress}
use Rattle.addresses.specs.declared.header.Header.{Header}
use Rattle.addresses.specs.declared.header.PduType.{PduType}
use Rattle.addresses.specs.declared.header.PduType.TheVariants.{AdvInd, AdvDirectInd, AdvNonconnInd, AdvScanInd, ScanReq, ScanRsp, ConnectReq, Unknown}
use Rattle.advertising.specs.Pdu.{field_at, ll_data_figure, ll_data_in, request_of, decode_of, well_formed}
use Rattle.settings.specs.Settings.{is_within, settings_in}
use Rattle.radio_spec.specs.Calls.{is_advertising, is_connected, is_scan_request, addressed_to, asks}
use Rattle.radio_spec.specs.declared.link.Mode.{Mode}
use Rattle.radio_spec.specs.declared.link.Mode.TheVariants.{Standby, Advertising, Connected}
use Rattle.radio_spec.specs.Call.{Call, start, tick, packet, event, stop, set_scan_data}
use Rattle.octets.specs.declared.error.Error.{Error}

abbrev pub is_connect_request : PduType → Bool
is_connect_request ConnectReq = true
is_connect_request AdvInd = false
is_connect_request AdvDirectInd = false
is_connect_request AdvNonconnInd = false
is_connect_request AdvScanInd = false
is_connect_request ScanReq = false
is_connect_request ScanRsp = false
is_connect_request (Unknown n) = false

abbrev pub for_board : DeviceAddress → Header → List ℕ → Bool
for_board own h p = addressed_to own (decode_of h p)

unfoldable pub requested : (PduType → Bool) → DeviceAddress → Bool → Header → List ℕ → Bool
requested is own crc_good h p = crc_good && (well_formed h p && asks is own (decode_of h p))

abbrev pub asks_to_connect : DeviceAddress → Bool → Header → List ℕ → Bool
asks_to_connect own crc_good h p = requested is_connect_request own crc_good h p

abbrev pub asks_to_scan : DeviceAddress → Bool → Header → List ℕ → Bool
asks_to_scan own crc_good h p = requested is_scan_request own crc_good h p

-- ChM, and the low 5 bits of the octet of Hop and SCA
abbrev pub map_in : List ℕ → List ℕ
map_in p = field_at ll_data_figure 7 (ll_data_in p)

abbrev pub hop_in : List ℕ → ℕ
hop_in p = le (field_at ll_data_figure 8 (ll_data_in p)) % 32

abbrev pub in_ranges_in : List ℕ → Bool
in_ranges_in p = is_within (settings_in (request_of p))

unfoldable pub connects : DeviceAddress → Call → Bool
connects own (start time interval records tx) = false
connects own (tick tx) = false
connects own (packet end header payload crc_good tx) = asks_to_connect own crc_good header payload && (ltb 0 (marks (map_in payload)) && in_ranges_in payload)
connects own event = false
connects own stop = false
connects own (set_scan_data records) = false

unfoldable pub asks_to_scan_with : ℕ → DeviceAddress → Call → Bool
asks_to_scan_with n own (start time interval records tx) = false
asks_to_scan_with n own (tick tx) = false
asks_to_scan_with n own (packet end header payload crc_good tx) = asks_to_scan own crc_good header payload && leb n (length tx)
asks_to_scan_with n own event = false
asks_to_scan_with n own stop = false
asks_to_scan_with n own (set_scan_data records) = false

-- the mode; how many octets the payload has that the last accepted start set up; the channel of the last accepted tick, a start's own included, and the first
-- channel before it; and the scan data of the last accepted call that set them, none before it
pub record SoFar : Type 0 where
  pub mode : Mode
  pub payload : ℕ
  pub channel : AdvertisingChannel
  pub scan_data : List ℕ

abbrev pub at_first : SoFar
at_first = record { mode = Standby; payload = 0; channel = first_channel; scan_data = [] }

-- n where a condition holds, and the first of two numbers that is not 0
abbrev pub when : Bool → ℕ → ℕ
when b n = cond b n 0

abbrev pub first_of : ℕ → ℕ → ℕ
first_of zero m = m
first_of (suc n) m = suc n

abbrev pub area_number : Result ℕ Error → ℕ
area_number (Ok n) = 0
area_number (Err e) = number_of e

-- bad records; more than 28 octets; a payload of 9 octets and the records' that the transmit buffer has no room for
unfoldable pub start_number : List ℕ → List ℕ → ℕ
start_number records tx = first_of (area_number (read_area records)) (when (ltb 28 (length records) || ltb (length tx) (9 + length records)) 1)

-- bad records; more than 31 octets
unfoldable pub scan_data_number : List ℕ → ℕ
scan_data_number records = first_of (area_number (read_area records)) (when (ltb 31 (length records)) 1)

-- how many octets the payload of the reply has
abbrev pub reply_size : List ℕ → ℕ
reply_size scan_data = 6 + length scan_data

unfoldable pub refused_by : DeviceAddress → SoFar → Call → ℕ
refused_by own l (start time interval records tx) = start_number records tx
refused_by own l (tick tx) = first_of (when (not (is_advertising l.mode)) 5) (when (ltb (length tx) l.payload) 1)
refused_by own l (packet end header payload crc_good tx) =
    first_of (when (not (is_advertising l.mode)) 5)
    (first_of (when (asks_to_scan own crc_good header payload && ltb (length tx) (reply_size l.scan_data)) 1)
    (first_of (when (asks_to_connect own crc_good header payload && eqb (marks (map_in payload)) 0) 6)
    (when (asks_to_connect own crc_good header payload && not (in_ranges_in payload)) 12)))
refused_by own l event = when (not (is_connected l.mode)) 5
refused_by own l stop = 0
refused_by own l (set_scan_data records) = scan_data_number records

-- advertising after an accepted start, connected after a connect request while advertising, standby after a stop; each accepted tick goes on to the next
-- channel, a start's own from the first; only scan data that are accepted take the place of others
unfoldable pub then_call : DeviceAddress → SoFar → Call → SoFar
then_call own l (start time interval records tx) =
    cond (eqb (start_number records tx) 0) (record { mode = Advertising; payload = 9 + length records; channel = cycled first_channel; scan_data = l.scan_data }) l
then_call own l (tick tx) =
    cond (eqb (refused_by own l (tick tx)) 0) (record { mode = l.mode; payload = l.payload; channel = cycled l.channel; scan_data = l.scan_data }) l
then_call own l (packet end header payload crc_good tx) =
    cond (is_advertising l.mode && connects own (packet end header payload crc_good tx))
    (record { mode = Connected; payload = l.payload; channel = l.channel; scan_data = l.scan_data }) l
then_call own l event = l
then_call own l stop = record { mode = Standby; payload = l.payload; channel = l.channel; scan_data = l.scan_data }
then_call own l (set_scan_data records) =
    cond (eqb (scan_data_number records) 0) (record { mode = l.mode; payload = l.payload; channel = l.channel; scan_data = records }) l

abbrev pub then_calls : DeviceAddress → SoFar → List Call → SoFar
then_calls own l [] = l
then_calls own l (c ∷ cs) = then_calls own (then_call own l c) cs

unfoldable pub mode_after : DeviceAddress → List Call → Mode
mode_after own calls = (then_calls own at_first calls).mode

unfoldable pub scan_data_after : DeviceAddress → List Call → List ℕ
scan_data_after own calls = (then_calls own at_first calls).scan_data
