-- What a scanner answers (document 01, beacon.rs, "AddressFilter" and "Refused calls"). It decodes as the hub reads (document 02, Note 3).
--   scanner_of f                 == a scanner with the filter f, before it is configured; open_scanner: one without a filter
--   listening s t               == the scanner s, which listens on its channel from time t on for its interval
--   configured s t interval     == what `configure` answers
--   timer_updated s t            == what `timer_update` answers
--   is_list_for f list            == the filter f has its list, or needs none
--   passes f list a             == the filter f passes the address a; is_pass m: an answer of a filter that says so
--   is_type2 h                   == a header of type 2
--   sighting_of d taken          == what is told of a beacon's PDU, and of the octets that its records took; sighting_in x: of what was decoded
--   sighted h p crcOk            == what is told of a packet by all checks save the filter
--   let_through f list x         == what the filter f, with its list, leaves of that
--   scanned s h p crcOk list    == what `process_adv_packet` answers
--   report_number r              == document 01's number of a report, 0 where it is no refusal; is_report r: a beacon is reported
use Rattle.std.specs.Prelude.{Bool, true, false, cond, ◌&&◌, List, ℕ, eqb, Option, Some, None, Result, Ok, Err}
use Rattle.std.specs.Bool.{then_some}
use Rattle.octets.specs.Error.{number_of}
use Rattle.octets.specs.Time.{later}
use Rattle.octets.specs.declared.error.Error.{Error}
use Rattle.octets.specs.declared.error.Error.TheVariants.{InvalidValue}
use Rattle.octets.specs.declared.time.Instant.{Instant}
use Rattle.channels.specs.Phy.{first_channel, cycled}
use Rattle.addresses.specs.Filter.{is_list, matches_of}
use Rattle.addresses.specs.Header.{header_bits}
use Rattle.addresses.specs.declared.device_address.DeviceAddress.{DeviceAddress}
use Rattle.addresses.specs.declared.filter.AddressFilter.{AddressFilter}
use Rattle.addresses.specs.declared.filter.AddressFilter.TheVariants.{AllowAll, Whitelist}
use Rattle.addresses.specs.declared.header.Header.{Header}
use Rattle.advertising.specs.Pdu.{padded_of}
use Rattle.advertising.specs.declared.pdu.Pdu.{Pdu}
use Rattle.beacon_spec.specs.State.{BeaconScanner, Report, Scanned, Updated}
use Rattle.beacon_spec.specs.declared.beacon.Sighting.{Sighting}

abbrev pub scanner_of : AddressFilter → BeaconScanner
scanner_of f = record { filter = record { scan = f }; interval = 0; channel = first_channel }

-- "accept all"
abbrev pub open_scanner : BeaconScanner
open_scanner = scanner_of AllowAll

-- the next instant is counted from the given time, modulo 2^32
abbrev pub listening : BeaconScanner → Instant → Updated
listening s t = record { scanner = s; cmd = record { channel = s.channel; next_update = record { 0 = later t.0 s.interval } } }

-- "Scanning starts on 37, without the device's first cycle."
abbrev pub configured : BeaconScanner → Instant → ℕ → Updated
configured s t interval = listening (record { filter = s.filter; interval = interval; channel = first_channel }) t

-- the channel is cycled, the interval stays
abbrev pub timer_updated : BeaconScanner → Instant → Updated
timer_updated s t = listening (record { filter = s.filter; interval = s.interval; channel = cycled s.channel }) t

-- document 01, "AddressFilter": "accept all, or a lent list"
abbrev pub is_list_for : AddressFilter → List ℕ → Bool
is_list_for AllowAll list = true
is_list_for Whitelist list = is_list list

abbrev pub is_pass : Result Bool Error → Bool
is_pass (Ok b) = b
is_pass (Err e) = false

abbrev pub passes : AddressFilter → List ℕ → DeviceAddress → Bool
passes f list a = is_pass (matches_of f list a)

abbrev pub is_type2 : Header → Bool
is_type2 h = eqb (header_bits 0 4 h) 2

-- the sender, the whole record area and the octets taken
abbrev pub sighting_of : Pdu → ℕ → Sighting
sighting_of d taken = record { sender = d.sender; adv_data = d.adv_data; taken = taken }

abbrev pub sighting_in : Result (Pdu × ℕ) Error → Option Sighting
sighting_in (Ok (d, taken)) = Some (sighting_of d taken)
sighting_in (Err e) = None

-- "Checks of the scanner: CRC, type 2, decoding, filter."
unfoldable pub sighted : Header → List ℕ → Bool → Option Sighting
sighted h p crcOk = cond (crcOk && is_type2 h) (sighting_in (padded_of h p)) None

abbrev pub let_through : AddressFilter → List ℕ → Option Sighting → Option Sighting
let_through f list (Some x) = then_some (passes f list x.sender) x
let_through f list None = None

-- "All passing, the sender and record area are reported; else nothing is."; the filter list comes first, and is refused 3 whatever the packet
unfoldable pub scanned : BeaconScanner → Header → List ℕ → Bool → List ℕ → Scanned
scanned s h p crcOk list =
    record {
      report = cond (is_list_for s.filter.scan list) (Ok (let_through s.filter.scan list (sighted h p crcOk))) (Err InvalidValue);
      channel = s.channel;
    }

abbrev pub report_number : Report → ℕ
report_number (Ok x) = 0
report_number (Err e) = number_of e

abbrev pub is_report : Report → Bool
is_report (Ok (Some x)) = true
is_report (Ok None) = false
is_report (Err e) = false
