-- The laws of the device, each with the theorem of proofs/ that proves it. Every list of calls: Demand3 (Demand.demand_3), which is in specs/Demand;
-- worked lists are in specs/Examples.
--   ForBoard own h p                    == by its octets: a well-formed packet of type 1, 3 or 5 whose second address is `own`
--   Requests own h p crc_good            == by its octets: a CRC-good connect request to `own` that begins a connection
--   Scans own h p crc_good               == by its octets: a CRC-good scan request to `own`
--   Words own h p                       (Words.words)             what the words of demand 3 mean
--   Modes m                             (Words.modes)             which mode advertises, and which is connected
--   lent_by c                            == the octets of a call's lent buffers, as they were lent
--   CallRefused d c e                   (Words.refusing)          a refused call changes nothing
--   in_runs ok c                         == what the call c is to a run of ticks, of events and of packets, where it is accepted or not
--   ListWords                           (Words.list_words)        the words of the list over all calls: buffers as lent, a payload transmitted, and the runs
--   CallsByContracts d                  (Words.calls_by_contracts) what a call of the list gives, in the words of the contracts of `radio`
--   Transmits d tx                      (Words.transmits)         what an accepted start and tick write
--   ReplyDecodes own s n                (Replies.reply_decodes)   a reply by the Core: its header field by field, and what it is read as
--   Bare own                            (Replies.bare)            a fresh device's reply has no scan data
--   BadStart d time interval records tx (Words.bad_start)         a start with a bad area
--   SetsScanData d                      (Replies.sets_scan_data)  which scan data are set, what that changes, and that no other call changes the reply
--   HearsPacket d end h p crc_good tx    (Words.hears_packet)      what a packet call answers and writes
--   Holds                               (Holding.holds)           all of these, with what they assume: demand 3, specs/Answering and specs/Examples too
use Rattle.std.specs.Prelude.{Bool, true, false, List, [], ◌∷◌, ◌++◌, ◌⊎◌, ◌≡◌, ℕ, ◌+◌, ◌*◌, ◌%◌, ◌≤◌, ◌<◌, ◌^◌, length, drop, Ok, Err}
use Rattle.octets.specs.Bytes.{part, le, at_front}
use Rattle.octets.specs.Time.{later}
use Rattle.octets.specs.declared.error.Error.{Error}
use Rattle.octets.specs.declared.error.Error.TheVariants.{Eof, InvalidLength, WrongMode, EmptyMap, OutOfRange}
use Rattle.octets.specs.declared.time.Instant.{Instant}
use Rattle.channels.specs.Hop.{event_channel}
use Rattle.channels.specs.Map.{marks}
use Rattle.records_spec.specs.Area.{read_area, rewritten}
use Rattle.records_spec.specs.HubReads.{ZeroLength}
use Rattle.addresses.specs.Address.{is_random, kind_of, address_of}
use Rattle.addresses.specs.Header.{header_bits, tx_add, rx_add, length_of}
use Rattle.addresses.specs.declared.device_address.DeviceAddress.{DeviceAddress}
use Rattle.addresses.specs.declared.header.Header.{Header}
use Rattle.addresses.specs.declared.header.PduType.TheVariants.{ScanRsp}
use Rattle.advertising.specs.Pdu.{request_of, decode_of, well_formed}
use Rattle.advertising.specs.declared.pdu.Pdu.{Pdu}
use Rattle.advertising.specs.PduBuf.{flags_record, payload_of}
use Rattle.settings.specs.Settings.{Within, settings_in}
use Rattle.radio_spec.specs.Answering.{StartSends, TickSends, EventHops, ModeMoves}
use Rattle.radio_spec.specs.Examples.{Example, TitleExample, Limits, Long}
use Rattle.radio_spec.specs.Calls.{is_advertising, is_connected, instant, fresh, start_of, start_after, tick_of, tick_after, packet_of, packet_after, scan_data_of, event_of, stop_of}
use Rattle.radio_spec.specs.Demand.{number_in, transmitted, reply_header, reply_octets, ReplyOf, Demand3}
use Rattle.radio_spec.specs.Call.{Call, start, tick, packet, event, stop, set_scan_data, call_of, octets_of}
use Rattle.radio_spec.specs.SoFar.{for_board, asks_to_scan, map_in, hop_in, connects, reply_size}
use Rattle.radio_spec.specs.Trace.{Entry, accepted, InRun, ends, inside, outside, gather, tick_run, event_run, hear_run, Strikable}
use Rattle.radio_spec.specs.declared.link.Answer.TheVariants.{Listen, Respond, FirstEvent, ScanDataSet}
use Rattle.radio_spec.specs.State.{State}
use Rattle.radio_spec.specs.declared.link.Mode.{Mode}
use Rattle.radio_spec.specs.declared.link.Mode.TheVariants.{Standby, Advertising, Connected}

-- a well-formed packet of type 1, 3 or 5 whose second address, the octets 6 to 11 with RxAdd's kind, is `own`, octets and kind
pub record ForBoard (own : DeviceAddress) (h : Header) (p : List ℕ) : Type 0 where
  pub good : well_formed h p ≡ true
  pub type : (header_bits 0 4 h ≡ 1) ⊎ ((header_bits 0 4 h ≡ 3) ⊎ (header_bits 0 4 h ≡ 5))
  pub second : address_of (part 6 p 6) (kind_of (rx_add h)) ≡ own

-- a CRC-good, well-formed packet of type 5 whose second address is `own`, which marks a channel in octets 28 to 32, and whose settings, by octets in `Settles`, are in range
pub record Requests (own : DeviceAddress) (h : Header) (p : List ℕ) (crc_good : Bool) : Type 0 where
  pub crc : crc_good ≡ true
  pub good : well_formed h p ≡ true
  pub type : header_bits 0 4 h ≡ 5
  pub second : address_of (part 6 p 6) (kind_of (rx_add h)) ≡ own
  pub some : 1 ≤ marks (part 5 p 28)
  pub ranges : Within (settings_in (request_of p))

-- a CRC-good, well-formed packet of type 3 whose second address is `own`
pub record Scans (own : DeviceAddress) (h : Header) (p : List ℕ) (crc_good : Bool) : Type 0 where
  pub crc : crc_good ≡ true
  pub good : well_formed h p ≡ true
  pub type : header_bits 0 4 h ≡ 3
  pub second : address_of (part 6 p 6) (kind_of (rx_add h)) ≡ own

-- What the words of demand 3 mean: a fresh device is in standby, made with its own address; a packet is well-formed exactly if its header and payload
-- decode without refusal, and for this board, a scan request to it, or a request that begins a connection, exactly if it is as above; its map and its hop
-- are these octets.
pub record Words (own : DeviceAddress) (h : Header) (p : List ℕ) : Type 0 where
  pub standby : (fresh own).mode ≡ Standby
  pub address : (fresh own).dev_addr ≡ own
  pub well_formed_law : well_formed h p ≡ true → (pdu : Pdu) × (decode_of h p ≡ Ok pdu)
  pub well_formed_if : (pdu : Pdu) → decode_of h p ≡ Ok pdu → well_formed h p ≡ true
  pub for_board_law : for_board own h p ≡ true → ForBoard own h p
  pub for_board_if : ForBoard own h p → for_board own h p ≡ true
  pub scan_request_law : (crc_good : Bool) → asks_to_scan own crc_good h p ≡ true → Scans own h p crc_good
  pub scan_request_if : (crc_good : Bool) → Scans own h p crc_good → asks_to_scan own crc_good h p ≡ true
  pub request : (end : Instant) (crc_good : Bool) (tx : List ℕ) → connects own (packet end h p crc_good tx) ≡ true → Requests own h p crc_good
  pub request_if : (end : Instant) (crc_good : Bool) (tx : List ℕ) → Requests own h p crc_good → connects own (packet end h p crc_good tx) ≡ true
  pub map : map_in p ≡ part 5 p 28
  pub hop : hop_in p ≡ le (part 1 p 33) % 32

-- A device advertises in the mode of that name, and is connected in the mode of that name, and in no other.
pub record Modes (m : Mode) : Type 0 where
  pub advertising : is_advertising m ≡ true → m ≡ Advertising
  pub advertising_if : m ≡ Advertising → is_advertising m ≡ true
  pub connected : is_connected m ≡ true → m ≡ Connected
  pub connected_if : m ≡ Connected → is_connected m ≡ true

-- the octets of a call's lent buffers, as they were lent
abbrev pub lent_by : Call → List (List ℕ)
lent_by (start time interval records tx) = records ∷ tx ∷ []
lent_by (tick tx) = tx ∷ []
lent_by (packet end header payload crc_good tx) = payload ∷ tx ∷ []
lent_by event = []
lent_by stop = []
lent_by (set_scan_data records) = records ∷ []

-- A refused call, of any device, leaves the device and every buffer as they were.
pub record CallRefused (d : State) (c : Call) (e : Error) : Type 0 where
  pub state : (call_of d c).answer ≡ Err e → (call_of d c).state ≡ d
  pub buffers : (call_of d c).answer ≡ Err e → octets_of d c ≡ lent_by c

abbrev pub in_runs : Bool → Call → List InRun
in_runs ok c = tick_run ok c ∷ event_run ok c ∷ hear_run ok c ∷ []

-- a contract of `radio` equates what a function answers, and what it leaves in a buffer, with the right-hand side
pub record CallsByContracts (d : State) : Type 0 where
  pub starts : (time : Instant) (interval : ℕ) (records tx : List ℕ) → call_of d (start time interval records tx) ≡ start_of d time interval records tx
  pub start_leaves : (time : Instant) (interval : ℕ) (records tx : List ℕ) → octets_of d (start time interval records tx) ≡ records ∷ start_after d records tx ∷ []
  pub ticks : (tx : List ℕ) → call_of d (tick tx) ≡ tick_of d tx
  pub tick_leaves : (tx : List ℕ) → octets_of d (tick tx) ≡ tick_after d tx ∷ []
  pub hears : (end : Instant) (h : Header) (p : List ℕ) (crc_good : Bool) (tx : List ℕ) → call_of d (packet end h p crc_good tx) ≡ packet_of d end h p crc_good tx
  pub packet_leaves : (end : Instant) (h : Header) (p : List ℕ) (crc_good : Bool) (tx : List ℕ) → octets_of d (packet end h p crc_good tx) ≡ p ∷ packet_after d h p crc_good tx ∷ []
  pub events : (call_of d event ≡ event_of d) × (octets_of d event ≡ [])
  pub stops : (call_of d stop ≡ stop_of d) × (octets_of d stop ≡ [])
  pub sets : (records : List ℕ) → (call_of d (set_scan_data records) ≡ scan_data_of d records) × (octets_of d (set_scan_data records) ≡ records ∷ [])

-- The words that speak of the list alone, for any arguments. The columns of the runs: of ticks, "from one accepted start to the next"; of events, "until a stop or an accepted
-- start"; of packets, up to the next accepted start or tick.
pub record ListWords : Type 0 where
  pub start_lent : (time : Instant) (interval : ℕ) (records tx : List ℕ) → lent_by (start time interval records tx) ≡ records ∷ tx ∷ []
  pub tick_lent : (tx : List ℕ) → lent_by (tick tx) ≡ tx ∷ []
  pub packet_lent : (end : Instant) (h : Header) (p : List ℕ) (crc_good : Bool) (tx : List ℕ) → lent_by (packet end h p crc_good tx) ≡ p ∷ tx ∷ []
  pub set_lent : (records : List ℕ) → lent_by (set_scan_data records) ≡ records ∷ []
  pub start_transmits : (xs : List ℕ) (time : Instant) (interval : ℕ) (records tx : List ℕ)
      → transmitted xs (start time interval records tx) ≡ records ∷ (xs ++ drop (length xs) tx) ∷ []
  pub tick_transmits : (xs tx : List ℕ) → transmitted xs (tick tx) ≡ (xs ++ drop (length xs) tx) ∷ []
  pub packet_transmits : (xs : List ℕ) (end : Instant) (h : Header) (p : List ℕ) (crc_good : Bool) (tx : List ℕ)
      → transmitted xs (packet end h p crc_good tx) ≡ p ∷ (xs ++ drop (length xs) tx) ∷ []
  pub a_start : (time : Instant) (interval : ℕ) (records tx : List ℕ) → in_runs true (start time interval records tx) ≡ ends ∷ ends ∷ ends ∷ []
  pub a_tick : (tx : List ℕ) → in_runs true (tick tx) ≡ inside ∷ outside ∷ ends ∷ []
  pub a_packet : (ok : Bool) (end : Instant) (h : Header) (p : List ℕ) (crc_good : Bool) (tx : List ℕ) → in_runs ok (packet end h p crc_good tx) ≡ outside ∷ outside ∷ inside ∷ []
  pub an_event : in_runs true event ≡ outside ∷ inside ∷ outside ∷ []
  pub a_stop : (ok : Bool) → in_runs ok stop ≡ outside ∷ ends ∷ outside ∷ []
  pub a_set : (ok : Bool) (records : List ℕ) → in_runs ok (set_scan_data records) ≡ outside ∷ outside ∷ outside ∷ []
  pub refused_start : (time : Instant) (interval : ℕ) (records tx : List ℕ) → in_runs false (start time interval records tx) ≡ outside ∷ outside ∷ outside ∷ []
  pub refused_tick : (tx : List ℕ) → in_runs false (tick tx) ≡ outside ∷ outside ∷ outside ∷ []
  pub refused_event : in_runs false event ≡ outside ∷ outside ∷ outside ∷ []
  -- a run ends at its first end, and holds what is inside, in order
  pub none_left : (role : Bool → Call → InRun) → gather role [] ≡ []
  pub at_end : (role : Bool → Call → InRun) (e : Entry) (later : List Entry) → role (accepted e) e.call ≡ ends → gather role (e ∷ later) ≡ []
  pub at_one : (role : Bool → Call → InRun) (e : Entry) (later : List Entry) → role (accepted e) e.call ≡ inside → gather role (e ∷ later) ≡ e ∷ gather role later
  pub passed : (role : Bool → Call → InRun) (e : Entry) (later : List Entry) → role (accepted e) e.call ≡ outside → gather role (e ∷ later) ≡ gather role later

-- An accepted tick writes the payload at the front of the transmit buffer and keeps the octets after it. An accepted start's payload is the own address,
-- Flags and the records, whose undefined Flags bits are cleared.
pub record Transmits (d : State) (tx : List ℕ) : Type 0 where
  pub ticking : number_in (call_of d (tick tx)).answer ≡ 0
      → octets_of d (tick tx) ≡ at_front (payload_of d.adv.pdu) tx ∷ []
  pub starting : length d.dev_addr.bytes ≡ 6 → (time : Instant) (interval : ℕ) (records : List ℕ) → number_in (call_of d (start time interval records tx)).answer ≡ 0
      → let payload : List ℕ = (d.dev_addr.bytes ++ flags_record) ++ rewritten records in
      octets_of d (start time interval records tx) ≡ records ∷ at_front payload tx ∷ []

-- What is answered and written is, by the Core, a SCAN_RSP of the address `own`, kind included, with the records of s, of which there are n.
pub record ReplyDecodes (own : DeviceAddress) (s : List ℕ) (n : ℕ) : Type 0 where
  -- the header, field by field: type 4, TxAdd the kind, no RxAdd, the length, no reserved bit; and it is of 16 bits
  pub type_4 : header_bits 0 4 (reply_header own s) ≡ 4
  pub tx_add_law : tx_add (reply_header own s) ≡ is_random own.kind
  pub rx_add_law : rx_add (reply_header own s) ≡ false
  pub counted : length_of (reply_header own s) ≡ 6 + length s
  pub reserved : (header_bits 4 2 (reply_header own s) ≡ 0) × (header_bits 14 2 (reply_header own s) ≡ 0)
  pub of_16_bits : (reply_header own s).0 < 2 ^ 16
  pub pdu : Pdu
  pub decoded : decode_of (reply_header own s) (reply_octets own s) ≡ Ok pdu
  pub type : pdu.ty ≡ ScanRsp
  pub sender : pdu.sender ≡ own
  pub count : pdu.adv_data.count ≡ n

-- "A fresh device", of an address of six octets, has the reply without scan data.
abbrev pub Bare : DeviceAddress → Type 0
Bare own = ReplyOf own [] (fresh own).scan_response

-- A start, in any mode, with a bad area is refused as its first bad record is, before its size and the transmit buffer are looked at; zeros after the records are 2.
pub record BadStart (d : State) (time : Instant) (interval : ℕ) (records tx : List ℕ) : Type 0 where
  pub bad_area : (e : Error) → read_area records ≡ Err e → call_of d (start time interval records tx) ≡ record { answer = Err e; state = d }
  pub zeros : ZeroLength records → call_of d (start time interval records tx) ≡ record { answer = Err InvalidLength; state = d }

-- Scan data are set, in any mode, where they are an accepted area of at most 31 octets, and refused otherwise, a bad area as its first bad record is. The
-- reply is then theirs, and nothing else changes; no other call changes the reply.
pub record SetsScanData (d : State) : Type 0 where
  pub accepted : length d.dev_addr.bytes ≡ 6 → (s : List ℕ) (n : ℕ) → read_area s ≡ Ok n → length s ≤ 31 → (call_of d (set_scan_data s)).answer ≡ Ok ScanDataSet
  pub bad_area : (s : List ℕ) (e : Error) → read_area s ≡ Err e → (call_of d (set_scan_data s)).answer ≡ Err e
  pub too_long : length d.dev_addr.bytes ≡ 6 → (s : List ℕ) (n : ℕ) → read_area s ≡ Ok n → 31 < length s → (call_of d (set_scan_data s)).answer ≡ Err Eof
  pub reply : length d.dev_addr.bytes ≡ 6 → (s : List ℕ) → number_in (call_of d (set_scan_data s)).answer ≡ 0
      → ReplyOf d.dev_addr s (call_of d (set_scan_data s)).state.scan_response
  pub alone : (s : List ℕ)
      → (call_of d (set_scan_data s)).state
      ≡ record { mode = d.mode; dev_addr = d.dev_addr; scan_response = (call_of d (set_scan_data s)).state.scan_response; adv = d.adv; conn = d.conn }
  pub starting : (time : Instant) (interval : ℕ) (records tx : List ℕ) → (call_of d (start time interval records tx)).state.scan_response ≡ d.scan_response
  pub ticking : (tx : List ℕ) → (call_of d (tick tx)).state.scan_response ≡ d.scan_response
  pub hearing : (end : Instant) (h : Header) (p : List ℕ) (crc_good : Bool) (tx : List ℕ) → (call_of d (packet end h p crc_good tx)).state.scan_response ≡ d.scan_response
  pub hopping : (call_of d event).state.scan_response ≡ d.scan_response
  pub stopping : (call_of d stop).state.scan_response ≡ d.scan_response

-- What a packet is answered. A device that does not advertise refuses it with 5. To one that does, bad, malformed or foreign ones, and type 1 sent to us, keep
-- listening; a scan request to us gets the reply with the scan data s, whichever the device has, and where the transmit buffer has no room for it is 1;
-- a connect request to us gives event 0, at packet end + window offset + window size + 1,750 µs, with access address and CRC start, by the request's own
-- octets, where it marks no channel is 6, and where it marks one and has a setting outside its range is 12. Only a scan request to us changes the transmit
-- buffer.
pub record HearsPacket (d : State) (end : Instant) (h : Header) (p : List ℕ) (crc_good : Bool) (tx : List ℕ) : Type 0 where
  pub off : is_advertising d.mode ≡ false → packet_of d end h p crc_good tx ≡ record { answer = Err WrongMode; state = d }
  pub bad : d.mode ≡ Advertising → Strikable d.dev_addr (packet end h p crc_good tx)
      → packet_of d end h p crc_good tx ≡ record { answer = Ok (Listen d.adv.channel); state = d }
  pub other : d.mode ≡ Advertising → crc_good ≡ true → ForBoard d.dev_addr h p → header_bits 0 4 h ≡ 1
      → packet_of d end h p crc_good tx ≡ record { answer = Ok (Listen d.adv.channel); state = d }
  pub scan : (s : List ℕ) → length d.dev_addr.bytes ≡ 6 → ReplyOf d.dev_addr s d.scan_response → d.mode ≡ Advertising → Scans d.dev_addr h p crc_good
      → reply_size s ≤ length tx
      → (packet_of d end h p crc_good tx ≡ record { answer = Ok (Respond (reply_header d.dev_addr s) d.adv.channel); state = d })
      × (packet_after d h p crc_good tx ≡ reply_octets d.dev_addr s ++ drop (reply_size s) tx)
  pub no_room : (s : List ℕ) → length d.dev_addr.bytes ≡ 6 → ReplyOf d.dev_addr s d.scan_response → d.mode ≡ Advertising → Scans d.dev_addr h p crc_good
      → length tx < reply_size s → packet_of d end h p crc_good tx ≡ record { answer = Err Eof; state = d }
  pub request : d.mode ≡ Advertising → Requests d.dev_addr h p crc_good
      → (packet_of d end h p crc_good tx).answer
      ≡ Ok (FirstEvent (record { index = event_channel (part 5 p 28) (le (part 1 p 33) % 32) 0 })
      (instant (later end.0 (le (part 2 p 20) * 1250 + le (part 1 p 19) * 1250 + 1750))) (le (part 4 p 12)) (le (part 3 p 16)))
  pub empty : d.mode ≡ Advertising → crc_good ≡ true → ForBoard d.dev_addr h p → header_bits 0 4 h ≡ 5 → marks (part 5 p 28) ≡ 0
      → packet_of d end h p crc_good tx ≡ record { answer = Err EmptyMap; state = d }
  pub outside : d.mode ≡ Advertising → crc_good ≡ true → ForBoard d.dev_addr h p → header_bits 0 4 h ≡ 5 → 1 ≤ marks (part 5 p 28) → (Within (settings_in (request_of p)) → ⊥)
      → packet_of d end h p crc_good tx ≡ record { answer = Err OutOfRange; state = d }
  pub unwritten : (Scans d.dev_addr h p crc_good → ⊥) → packet_after d h p crc_good tx ≡ tx

-- All of these, with what they assume. An address has six octets: every `DeviceAddress` of the code has.
pub record Holds : Type 0 where
  pub demand_3 : (own : DeviceAddress) → length own.bytes ≡ 6 → (calls : List Call) → Demand3 own calls
  pub words : (own : DeviceAddress) (h : Header) (p : List ℕ) → Words own h p
  pub modes : (m : Mode) → Modes m
  pub refusing : (d : State) (c : Call) (e : Error) → CallRefused d c e
  pub list_words : ListWords
  pub calls_by_contracts : (d : State) → CallsByContracts d
  pub transmits : (d : State) (tx : List ℕ) → Transmits d tx
  pub reply_decodes : (own : DeviceAddress) (s : List ℕ) (n : ℕ) → length own.bytes ≡ 6 → read_area s ≡ Ok n → length s ≤ 31 → ReplyDecodes own s n
  pub bare : (own : DeviceAddress) → length own.bytes ≡ 6 → Bare own
  pub bad_start : (d : State) (tx : List ℕ) (time : Instant) (interval : ℕ) (records : List ℕ) → BadStart d time interval records tx
  pub sets_scan_data : (d : State) → SetsScanData d
  pub hears_packet : (d : State) (end : Instant) (h : Header) (p : List ℕ) (crc_good : Bool) (tx : List ℕ) → HearsPacket d end h p crc_good tx
  pub start_sends : (d : State) (time : Instant) (interval : ℕ) (records tx : List ℕ) (n : ℕ) → StartSends d time interval records tx n
  pub tick_sends : (d : State) (tx : List ℕ) → TickSends d tx
  pub event_hops : (d : State) → EventHops d
  pub mode_moves : (d : State) (c : Call) → ModeMoves d c
  pub example : Example
  pub title_example : TitleExample
  pub limits : Limits
  pub long : Long
