-- The laws of beacons and their scanner, each with the theorem of proofs/ that proves it.
--   Lets f list a                        == the filter f lets the address a pass: it accepts all, or some entry of its list is equal
--   ScannerChecks f h p crcOk list       == a packet passes document 01's checks: CRC, type 2, decoding, filter
--   Reports s h p crcOk list             (Reports.reports)          which packets are reported, and what of them
--   Located s h p crcOk list             (Reports.located)          where a reported beacon's records lie
--   BadList s h p crcOk list             (Reports.bad_list)         which filter lists are refused
--   Unfiltered h p crcOk list            (Reports.without_filter)   what a scanner without a filter reports
--   ReportSays r                         (Reports.report_says)      the number of any report, and whether it is one
--   NewScanner f                         (Runs.new_scanner)         a scanner with any filter, before it is configured
--   run s interval times k               == what call k of a run answers: call 0 configures the scanner, the others are timer updates
--   Scanning s interval times k          (Runs.scanning)            the channels and instants of a run of calls
--   Sends b tx                           (Broadcasts.sends)         what is transmitted and written
--   NoBeacon a s                         (Broadcasts.no_beacon)     which records make no beacon
--   Broadcasting a s n                   (Broadcasts.broadcasting)  what is heard of a beacon that was made
--   Sendable a s                         (Broadcasts.sendable)      what can be sent whatever the records
--   BeaconRow                            (Rows.row)                 document 01's row
--   row_sighting                         == what is told of that row
--   list_answer list                      == what a scanner with a filter answers to that row, with this list
--   sender_entry, public_entry, kind2_entry == entries of a list: the row's sender, it as a public address, and one of kind 2
--   Examples                             (Rows.examples)            worked values
--   Holds                                (Holding.holds)            all of these, with what they assume
use Rattle.std.specs.Prelude.{Bool, true, false, cond, List, [], ◌∷◌, ◌++◌, map, ◌≡◌, ℕ, zero, suc, ◌+◌, ◌-◌, ◌*◌, ◌/◌, ◌%◌, ◌^◌, ◌≤◌, ◌<◌, eqb, length, get_or, take, drop, replicate, Some, None, Ok, Err, IsOk}
use Rattle.std.specs.Borrow.{Bor}
use Rattle.octets.specs.Bytes.{le, at_front}
use Rattle.octets.specs.Error.{number_of}
use Rattle.octets.specs.Time.{later}
use Rattle.octets.specs.declared.error.Error.{Error}
use Rattle.octets.specs.declared.error.Error.TheVariants.{Eof, InvalidValue}
use Rattle.octets.specs.declared.time.Instant.{Instant}
use Rattle.channels.specs.Count.{count}
use Rattle.channels.specs.Laws.{cycles}
use Rattle.channels.specs.Phy.{index_of, first_channel}
use Rattle.channels.specs.declared.phy.AdvertisingChannel.{AdvertisingChannel}
use Rattle.channels.specs.declared.phy.AdvertisingChannel.TheVariants.{Channel37, Channel38, Channel39}
use Rattle.records_spec.specs.Area.{read_area, rewritten}
use Rattle.records_spec.specs.HubReading.{read_padded}
use Rattle.addresses.specs.Address.{kind_of, is_random, address_of}
use Rattle.addresses.specs.Filter.{is_list}
use Rattle.addresses.specs.Header.{header_of, header_bits, tx_add, length_of}
use Rattle.addresses.specs.Laws.{ListEntry}
use Rattle.addresses.specs.declared.device_address.AddressKind.TheVariants.{Random}
use Rattle.addresses.specs.declared.device_address.DeviceAddress.{DeviceAddress}
use Rattle.addresses.specs.declared.filter.AddressFilter.{AddressFilter}
use Rattle.addresses.specs.declared.filter.AddressFilter.TheVariants.{AllowAll, Whitelist}
use Rattle.addresses.specs.declared.header.Header.{Header}
use Rattle.addresses.specs.declared.header.PduType.TheVariants.{AdvNonconnInd}
use Rattle.advertising.specs.Laws.{nine}
use Rattle.advertising.specs.Pdu.{no_request, no_address, data_in, data_place, decoded_as, decode_of, heard_of, octets_taken, padded_of}
use Rattle.advertising.specs.Refusals.{number_in}
use Rattle.advertising.specs.PduBuf.{header_for, payload_of, payload_after}
use Rattle.advertising.specs.declared.pdu.AdvData.{AdvData}
use Rattle.advertising.specs.declared.pdu.Pdu.{Pdu}
use Rattle.beacon_spec.specs.Scanner.{scanner_of, open_scanner, configured, timer_updated, is_list_for, sighting_in, sighted, scanned, report_number, is_report}
use Rattle.beacon_spec.specs.Sending.{bare_beacon, beacon_of, to_send, broadcast_of}
use Rattle.beacon_spec.specs.State.{Beacon, Refusal, BeaconScanner, Report, Updated}
use Rattle.beacon_spec.specs.declared.beacon.Sighting.{Sighting}

-- A filter lets an address pass: it accepts all, or some entry of its list is equal.
pub data Lets : AddressFilter → List ℕ → DeviceAddress → Type 0 where
  all : {list : List ℕ} {a : DeviceAddress} → Lets AllowAll list a
  listed : {list : List ℕ} {a : DeviceAddress} → is_list list ≡ true → ListEntry list a → Lets Whitelist list a

-- Document 01's checks of the scanner: CRC, type 2, decoding, filter. Decoding is the hub's: zeros may follow the records (document 02, Note 3).
pub record ScannerChecks (f : AddressFilter) (h : Header) (p : List ℕ) (crcOk : Bool) (list : List ℕ) : Type 0 where
  pub crc : crcOk ≡ true
  pub type_2 : header_bits 0 4 h ≡ 2
  pub pdu : Pdu
  pub decoding : heard_of h p ≡ Ok pdu
  pub filter : Lets f list pdu.sender

-- All passing, the sender and record area are reported; else nothing is. A filter list comes first.
pub record Reports (s : BeaconScanner) (h : Header) (p : List ℕ) (crcOk : Bool) (list : List ℕ) : Type 0 where
  pub sound : (x : Sighting) → (scanned s h p crcOk list).report ≡ Ok (Some x) → ScannerChecks s.filter.scan h p crcOk list
  pub complete : (c : ScannerChecks s.filter.scan h p crcOk list)
      → scanned s h p crcOk list
      ≡ record { report = Ok (Some (record { sender = c.pdu.sender; adv_data = c.pdu.adv_data; taken = octets_taken c.pdu.adv_data p })); channel = s.channel }
  pub nothing : is_list_for s.filter.scan list ≡ true → (ScannerChecks s.filter.scan h p crcOk list → ⊥)
      → scanned s h p crcOk list ≡ record { report = Ok None; channel = s.channel }
  pub refused : is_list_for s.filter.scan list ≡ false → scanned s h p crcOk list ≡ record { report = Err InvalidValue; channel = s.channel }
  -- so a bad list is 3, whatever the packet, and nothing else is refused
  pub number : report_number (scanned s h p crcOk list).report ≡ cond (is_list_for s.filter.scan list) 0 3
  -- the sender is the first six octets, its kind TxAdd; the record area is all that follows, with the number of its records and the octets that they took
  pub sender : (x : Sighting) → (scanned s h p crcOk list).report ≡ Ok (Some x) → x.sender ≡ address_of (take 6 p) (kind_of (tx_add h))
  pub records : (x : Sighting) → (scanned s h p crcOk list).report ≡ Ok (Some x) → data_in x.adv_data p ≡ drop 6 p
  pub number_of_records : (x : Sighting) → (scanned s h p crcOk list).report ≡ Ok (Some x) → read_padded (drop 6 p) ≡ Ok (x.adv_data.count, x.taken)
  -- by the octets alone: CRC-good, of type 2, counted by its header, and after an address an area that the hub reads
  pub heard : (n taken : ℕ) → crcOk ≡ true → header_bits 0 4 h ≡ 2 → length_of h ≡ length p → 6 ≤ length p → read_padded (drop 6 p) ≡ Ok (n, taken)
      → Lets s.filter.scan list (address_of (take 6 p) (kind_of (tx_add h)))
      → scanned s h p crcOk list
      ≡ record {
        report = Ok (Some (record {
          sender = address_of (take 6 p) (kind_of (tx_add h));
          adv_data = record { start = 6; len = length p - 6; count = n };
          taken = taken;
        }));
        channel = s.channel;
      }

-- The record area of a reported beacon is the part of its payload after the address, in its own place.
pub record Located (s : BeaconScanner) (h : Header) (p : Bor (List ℕ)) (crcOk : Bool) (list : List ℕ) : Type 0 where
  pub place : (x : Sighting) → (scanned s h p.now crcOk list).report ≡ Ok (Some x) → data_place x.adv_data p ≡ (p.ref_ptr.0, p.ref_ptr.1 + 6)

-- "filter list not a multiple of 7, or kind above 1": 3, whatever the packet; no other list is refused, and none where there is no filter.
pub record BadList (s : BeaconScanner) (h : Header) (p : List ℕ) (crcOk : Bool) (list : List ℕ) : Type 0 where
  pub size : s.filter.scan ≡ Whitelist → (length list % 7 ≡ 0 → ⊥) → report_number (scanned s h p crcOk list).report ≡ 3
  pub kind : s.filter.scan ≡ Whitelist → (i : ℕ) → i < length list / 7 → 1 < get_or list (7 * i) 0 → report_number (scanned s h p crcOk list).report ≡ 3
  pub good : length list % 7 ≡ 0 → ((i : ℕ) → i < length list / 7 → get_or list (7 * i) 0 ≤ 1) → report_number (scanned s h p crcOk list).report ≡ 0
  pub unasked : s.filter.scan ≡ AllowAll → report_number (scanned s h p crcOk list).report ≡ 0

-- A scanner without a filter: "All senders pass", whatever list is lent.
pub record Unfiltered (h : Header) (p : List ℕ) (crcOk : Bool) (list : List ℕ) : Type 0 where
  pub all_pass : (d : Pdu) → header_bits 0 4 h ≡ 2 → heard_of h p ≡ Ok d → is_report (scanned open_scanner h p true list).report ≡ true
  -- what all checks save the filter find is what any scanner finds that accepts all
  pub checked : (s : BeaconScanner) → s.filter.scan ≡ AllowAll → (scanned s h p crcOk list).report ≡ Ok (sighted h p crcOk)
  -- and of a CRC-good packet of type 2 it is what its decoding says
  pub decoded : header_bits 0 4 h ≡ 2 → sighted h p true ≡ sighting_in (padded_of h p)

-- what call k of a run answers: call 0 configures the scanner, the others are timer updates, each at its time
unfoldable pub run : BeaconScanner → ℕ → (ℕ → Instant) → ℕ → Updated
run s interval times zero = configured s (times 0) interval
run s interval times (suc k) = timer_updated (run s interval times k).scanner (times (suc k))

-- A beacon is reported, or there is a refusal with its number, or neither.
pub record ReportSays (r : Report) : Type 0 where
  pub reported : is_report r ≡ true → (x : Sighting) × (r ≡ Ok (Some x))
  pub reported_if : (x : Sighting) → r ≡ Ok (Some x) → is_report r ≡ true
  pub refused : (e : Error) → r ≡ Err e → report_number r ≡ number_of e
  pub accepted : ((e : Error) → r ≡ Err e → ⊥) → report_number r ≡ 0

-- "The first advertising channel is 37 for every user of the code": a new scanner listens there, whatever its filter. It has no interval before it is configured, so
-- that an update then names the next channel and the very instant that it was given.
pub record NewScanner (f : AddressFilter) : Type 0 where
  pub filter : (scanner_of f).filter.scan ≡ f
  pub packet : (h : Header) (p : List ℕ) (crcOk : Bool) (list : List ℕ) → (scanned (scanner_of f) h p crcOk list).channel ≡ Channel37
  pub channel : (t : Instant) → (timer_updated (scanner_of f) t).cmd.channel ≡ Channel38
  pub instant : (t : ℕ) → t < 2 ^ 32 → (timer_updated (scanner_of f) (record { 0 = t })).cmd.next_update.0 ≡ t

-- Scanning starts on 37 and follows the cycle; each call's next instant is its own time and the interval.
pub record Scanning (s : BeaconScanner) (interval : ℕ) (times : ℕ → Instant) (k : ℕ) : Type 0 where
  pub listens : (run s interval times k).cmd.channel ≡ cycles k first_channel
  pub until : (run s interval times k).cmd.next_update.0 ≡ later (times k).0 interval
  pub filter : (run s interval times k).scanner.filter ≡ s.filter
  -- a packet in between keeps listening there
  pub packet : (h : Header) (p : List ℕ) (crcOk : Bool) (list : List ℕ) → (scanned (run s interval times k).scanner h p crcOk list).channel ≡ cycles k first_channel
  -- any three successive calls use each channel once
  pub once_each : (d : AdvertisingChannel) → count (λ j. eqb (index_of (run s interval times (k + j)).cmd.channel) (index_of d)) 3 ≡ 1

-- Sending writes the payload once, at the front, and transmits the header on 37, 38 and 39 in turn; a buffer too short for it is 1, and keeps its octets.
pub record Sends (b : Beacon) (tx : List ℕ) : Type 0 where
  pub sent : length (payload_of b.pdu) ≤ length tx
      → broadcast_of b tx ≡ Ok (b.pdu.header, Channel37 ∷ Channel38 ∷ Channel39 ∷ [])
  pub octets : length (payload_of b.pdu) ≤ length tx → payload_after b.pdu tx ≡ at_front (payload_of b.pdu) tx
  pub short : length tx < length (payload_of b.pdu) → number_in (broadcast_of b tx) ≡ 1
  pub kept : length tx < length (payload_of b.pdu) → payload_after b.pdu tx ≡ tx

-- A bad area makes no beacon, refused as its first bad record is; and a good one of more than 31 octets is 1.
pub record NoBeacon (a : DeviceAddress) (s : List ℕ) : Type 0 where
  pub bad_area : (e : Error) → read_area s ≡ Err e → beacon_of a s ≡ Err (record { error = e; bare = bare_beacon a })
  pub too_long : (n : ℕ) → length a.bytes ≡ 6 → read_area s ≡ Ok n → 31 < length s → beacon_of a s ≡ Err (record { error = Eof; bare = bare_beacon a })

-- A beacon of the address a and n records that fit: what it sends decodes, and a scanner that lets the address pass reports it.
pub record Broadcasting (a : DeviceAddress) (s : List ℕ) (n : ℕ) : Type 0 where
  pub beacon : Beacon
  pub made : beacon_of a s ≡ Ok beacon
  -- type 2, TxAdd the address's kind, no RxAdd and no reserved bit
  pub header : beacon.pdu.header ≡ header_for AdvNonconnInd (is_random a.kind) false (6 + length s)
  pub place : AdvData
  pub decoded : decode_of beacon.pdu.header (payload_of beacon.pdu) ≡ decoded_as AdvNonconnInd a no_address place no_request
  pub number_of_records : place.count ≡ n
  -- the records are those given, with undefined Flags bits cleared
  pub records : data_in place (payload_of beacon.pdu) ≡ rewritten s
  pub size : length (payload_of beacon.pdu) ≡ 6 + length s
  pub heard : (scanner : BeaconScanner) (list : List ℕ) → Lets scanner.filter.scan list a
      → scanned scanner beacon.pdu.header (payload_of beacon.pdu) true list
      ≡ record { report = Ok (Some (record { sender = a; adv_data = place; taken = length s })); channel = scanner.channel }

-- "Sending a beacon writes one type 2 PDU's payload": whatever the records, after a refusal too, what can be sent has type 2 and the address as its sender.
pub record Sendable (a : DeviceAddress) (s : List ℕ) : Type 0 where
  -- without records there is always one
  pub bare : length a.bytes ≡ 6 → IsOk (beacon_of a [])
  -- after a refusal it is that one
  pub refused : (r : Refusal) → beacon_of a s ≡ Err r → r.bare ≡ to_send (beacon_of a [])
  pub type_2 : length a.bytes ≡ 6 → header_bits 0 4 (to_send (beacon_of a s)).pdu.header ≡ 2
  pub sender : length a.bytes ≡ 6
      → address_of (take 6 (payload_of (to_send (beacon_of a s)).pdu)) (kind_of (tx_add (to_send (beacon_of a s)).pdu.header)) ≡ a

-- what is told of document 01's row 42 09: a random sender and one record
abbrev pub row_sighting : Sighting
row_sighting = record { sender = address_of (0x01 ∷ 0x02 ∷ 0x03 ∷ 0x04 ∷ 0x05 ∷ 0xC6 ∷ []) Random; adv_data = record { start = 6; len = 3; count = 1 }; taken = 3 }

-- That row, `nine` being its nine octets: CRC-good, it is reported with a random sender and one record.
pub record BeaconRow : Type 0 where
  pub row_42_09 : (list : List ℕ)
      → scanned (scanner_of AllowAll) (header_of (le (0x42 ∷ 0x09 ∷ []))) nine true list
      ≡ record { report = Ok (Some row_sighting); channel = Channel37 }
  pub records : data_in (record { start = 6; len = 3; count = 1 }) nine ≡ 0x02 ∷ 0x01 ∷ 0x06 ∷ []

-- what a scanner with a filter answers to the row 42 09, with this list
abbrev pub list_answer : List ℕ → Report
list_answer list = (scanned (scanner_of Whitelist) (header_of 0x0942) nine true list).report

-- entries of a list: the row's sender, it as a public address, and one of kind 2
abbrev pub sender_entry : List ℕ
sender_entry = 0x01 ∷ 0x01 ∷ 0x02 ∷ 0x03 ∷ 0x04 ∷ 0x05 ∷ 0xC6 ∷ []

abbrev pub public_entry : List ℕ
public_entry = 0x00 ∷ 0x01 ∷ 0x02 ∷ 0x03 ∷ 0x04 ∷ 0x05 ∷ 0xC6 ∷ []

abbrev pub kind2_entry : List ℕ
kind2_entry = 0x02 ∷ 0x01 ∷ 0x02 ∷ 0x03 ∷ 0x04 ∷ 0x05 ∷ 0xC6 ∷ []

pub record Examples : Type 0 where
  -- no entry, the sender's, another kind's, and the sender's after that
  pub lists : map list_answer ([] ∷ sender_entry ∷ public_entry ∷ (public_entry ++ sender_entry) ∷ []) ≡ Ok None ∷ Ok (Some row_sighting) ∷ Ok None ∷ Ok (Some row_sighting) ∷ []
  -- six octets, eight, a kind of 2, and one after the entry that matches
  pub bad_lists : map (λ (list : List ℕ). report_number (list_answer list)) (take 6 sender_entry ∷ (sender_entry ++ (0x00 ∷ [])) ∷ kind2_entry ∷ (sender_entry ++ kind2_entry) ∷ []) ≡ 3 ∷ 3 ∷ 3 ∷ 3 ∷ []
  -- a bad CRC, type 0, a header that counts 8 octets, and none of these
  pub crc : (scanned open_scanner (header_of 0x0942) nine false []).report ≡ Ok None
  pub type_0 : (scanned open_scanner (header_of 0x0940) nine true []).report ≡ Ok None
  pub decoding : (scanned open_scanner (header_of 0x0842) nine true []).report ≡ Ok None
  pub all_pass : (scanned open_scanner (header_of 0x0942) nine true []).report ≡ Ok (Some row_sighting)
  -- zeros after the record: reported with the whole area, one record and the octets that it took; an octet among them that is not zero: nothing
  pub zeros : (list : List ℕ) → scanned open_scanner (header_of 0x2542) (nine ++ replicate 28 0) true list
      ≡ record {
        report = Ok (Some (record { sender = row_sighting.sender; adv_data = record { start = 6; len = 31; count = 1 }; taken = 3 }));
        channel = Channel37;
      }
  pub another : (scanned open_scanner (header_of 0x2542) (nine ++ (replicate 27 0 ++ (0x01 ∷ []))) true []).report ≡ Ok None
  pub numbers : map report_number (Ok (Some row_sighting) ∷ Ok None ∷ Err InvalidValue ∷ []) ≡ 0 ∷ 0 ∷ 3 ∷ []
  pub reported : map is_report (Ok (Some row_sighting) ∷ Ok None ∷ Err InvalidValue ∷ []) ≡ true ∷ false ∷ false ∷ []
  -- the first calls of a run, and an update before it; instants are counted modulo 2^32, here from 2^32 - 500 on
  pub channels : map (λ (k : ℕ). index_of (run open_scanner 1000 (λ j. record { 0 = 0 }) k).cmd.channel) (0 ∷ 1 ∷ 2 ∷ 3 ∷ []) ≡ 37 ∷ 38 ∷ 39 ∷ 37 ∷ []
  pub unconfigured : (timer_updated open_scanner (record { 0 = 77 })).cmd ≡ record { channel = Channel38; next_update = record { 0 = 77 } }
  -- the same with a filter list: a new scanner, a run from it, and an update before that
  pub with_list : map (λ (f : AddressFilter). index_of (scanned (scanner_of f) (header_of 0x0942) nine true sender_entry).channel) (AllowAll ∷ Whitelist ∷ []) ≡ 37 ∷ 37 ∷ []
  pub list_channels : map (λ (k : ℕ). index_of (run (scanner_of Whitelist) 1000 (λ j. record { 0 = 0 }) k).cmd.channel) (0 ∷ 1 ∷ 2 ∷ 3 ∷ []) ≡ 37 ∷ 38 ∷ 39 ∷ 37 ∷ []
  pub list_unconfigured : (timer_updated (scanner_of Whitelist) (record { 0 = 77 })).cmd ≡ record { channel = Channel38; next_update = record { 0 = 77 } }
  pub instants : map (λ (k : ℕ). (run open_scanner 1000 (λ j. record { 0 = 4294966796 + 100 * j }) k).cmd.next_update.0) (0 ∷ 1 ∷ []) ≡ 500 ∷ 600 ∷ []

-- All of these, with what they assume. An address has six octets: every `DeviceAddress` of the code has.
pub record Holds : Type 0 where
  pub reports : (s : BeaconScanner) (h : Header) (p : List ℕ) (crcOk : Bool) (list : List ℕ) → Reports s h p crcOk list
  pub located : (s : BeaconScanner) (h : Header) (p : Bor (List ℕ)) (crcOk : Bool) (list : List ℕ) → Located s h p crcOk list
  pub bad_list : (s : BeaconScanner) (h : Header) (p : List ℕ) (crcOk : Bool) (list : List ℕ) → BadList s h p crcOk list
  pub without_filter : (h : Header) (p : List ℕ) (crcOk : Bool) (list : List ℕ) → Unfiltered h p crcOk list
  pub report_says : (r : Report) → ReportSays r
  pub new_scanner : (f : AddressFilter) → NewScanner f
  pub scanning : (s : BeaconScanner) (interval : ℕ) (times : ℕ → Instant) (k : ℕ) → Scanning s interval times k
  pub sends : (b : Beacon) (tx : List ℕ) → Sends b tx
  pub no_beacon : (a : DeviceAddress) (s : List ℕ) → NoBeacon a s
  pub broadcasting : (a : DeviceAddress) (s : List ℕ) (n : ℕ) → length a.bytes ≡ 6 → read_area s ≡ Ok n → length s ≤ 31 → Broadcasting a s n
  pub sendable : (a : DeviceAddress) (s : List ℕ) → Sendable a s
  pub row : BeaconRow
  pub examples : Examples
