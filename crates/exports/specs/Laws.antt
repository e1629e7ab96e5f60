-- What becomes of each number and each octet, written out over all values: no number is dropped, cut or put in the place of another.
--   Heads h tx rx n                    (Laws.heads)          what a header says, and a header that was set, or not
--   BuiltSays a s                      (Laws.builds)         which PDU each builder makes, and its numbers
--   SentSays b tx                      (Laws.sends)          what is transmitted of a beacon
--   listener filtered t interval c     == a scanner that listens on a channel
--   Updates filtered t interval        (Laws.updates)        a scanner after each number of timer updates
--   silent number channel              == a number and a channel, and no report
--   HeardSays s h p list crcOk         (Laws.hears)          what a scanner says of a packet, with its next instant; of a packet without a header
--   drawn .. s kind                    == the octets of a call or an entry, with s after the header
--   Drawn .. s kind                    (Laws.drawn_is)       what these octets say, field by field
--   Calls .. s tx                      (Laws.calls)          the call that they make, by its kind
--   Entries .. s list x                (Laws.entries)        what they make of a scanner, by their kind
--   Short tx list x                    (Laws.short)          octets that a call or an entry lacks are 0, and a header that it lacks is 0
--   Buffers d out                      (Laws.buffers)        the transmit buffer after a call
--   LentBuffers c s                    (Laws.lends)          the buffer that a call is lent; the other is kept
--   CallByCall own calls more a b n    (Runs.call_by_call)   a list of calls, one after the other, from a fresh device on
--   EntryByEntry s entries more n      (Runs.entry_by_entry) the same of a scanner
--   CalledSays adv conn                (Laws.says)           the numbers of each answer
--   Holds (Holding.holds): all of these, with what they assume
use Rattle.std.specs.Prelude.{Bool, true, false, List, [], ◌∷◌, ◌++◌, ◌≡◌, ℕ, ◌+◌, ◌*◌, ◌≤◌, ◌<◌, eqb, length, get_or, take, replicate, Ok, Err, Some, None}
use Rattle.octets.specs.Bytes.{le}
use Rattle.octets.specs.Error.{number_of}
use Rattle.octets.specs.Time.{later}
use Rattle.octets.specs.declared.error.Error.{Error}
use Rattle.octets.specs.declared.time.Instant.{Instant}
use Rattle.channels.specs.Phy.{index_of}
use Rattle.channels.specs.declared.phy.AdvertisingChannel.{AdvertisingChannel}
use Rattle.channels.specs.declared.phy.AdvertisingChannel.TheVariants.{Channel37, Channel38, Channel39}
use Rattle.channels.specs.declared.phy.DataChannel.{DataChannel}
use Rattle.addresses.specs.Address.{is_random}
use Rattle.addresses.specs.Header.{header_of, type_code, is_beacon, allows_adv_data, type_of, tx_add, rx_add, length_of, set_tx_add, set_rx_add, length_set}
use Rattle.addresses.specs.declared.device_address.DeviceAddress.{DeviceAddress}
use Rattle.addresses.specs.declared.header.Header.{Header}
use Rattle.addresses.specs.declared.header.PduType.TheVariants.{AdvInd, AdvNonconnInd, AdvScanInd, ScanRsp}
use Rattle.advertising.specs.PduBuf.{built_of, flags_record, payload_after}
use Rattle.advertising.specs.declared.pdu_buf.PduBuf.{PduBuf}
use Rattle.beacon_spec.specs.Scanner.{configured, timer_updated, scanned, is_list_for, report_number, is_report}
use Rattle.beacon_spec.specs.Sending.{broadcast_of}
use Rattle.beacon_spec.specs.State.{Beacon, Refusal, BeaconScanner, Scanned, Updated}
use Rattle.beacon_spec.specs.declared.beacon.Sighting.{Sighting}
use Rattle.radio_spec.specs.Call.{start, tick, packet, event, stop, set_scan_data, call_of}
use Rattle.radio_spec.specs.Calls.{fresh, instant, is_advertising, is_connected, start_after, tick_after, packet_after}
use Rattle.radio_spec.specs.State.{State, Step}
use Rattle.radio_spec.specs.declared.link.Answer.TheVariants as answer
use Rattle.answers.specs.Given.{filter_for}
use Rattle.exports.specs.Air.{broadcast_sent, beacon_sent, beacon_after, scanner_with, updated_got, sighting_of, heard_said, heard_from}
use Rattle.exports.specs.Lists.{time_in, interval_in, call_header, octets_in, call_in, buffer_after, Board, uses_second, called_by, step_of, ran_all, answer_said, called_said}
use Rattle.exports.specs.Packets.{header_said, set_got, head_set, parsed_set, built_as, frame_of, built_frame}
use Rattle.exports.specs.Scans.{with_next, listen_said, hear_said, entry_after, entries_after, entry_said}
use Rattle.exports.specs.declared.air.Heard.{Heard}

pub record Heads (h : Header) (tx rx : Bool) (n : ℕ) : Type 0 where
  pub says : header_said (Ok h) ≡ record {
    number = 0;
    raw = h.0;
    ty = type_code (type_of h);
    tx_add = tx_add h;
    rx_add = rx_add h;
    length = length_of h;
    is_beacon = is_beacon (type_of h);
    allows_adv_data = allows_adv_data (type_of h);
  }
  pub says_none : (e : Error) → header_said (Err e) ≡ record { number = number_of e; raw = 0; ty = 0; tx_add = false; rx_add = false; length = 0; is_beacon = false; allows_adv_data = false }
  pub got : set_got (Ok h) ≡ record { number = 0; first = h.0; second = 0 }
  pub not_got : (e : Error) → set_got (Err e) ≡ record { number = number_of e; first = 0; second = 0 }
  pub set_is : head_set h tx rx n ≡ set_got (length_set n (set_rx_add rx (set_tx_add tx h)))
  pub parsed_set_law : parsed_set (Ok h) tx rx n ≡ head_set h tx rx n
  pub not_parsed : (e : Error) → parsed_set (Err e) tx rx n ≡ record { number = number_of e; first = 0; second = 0 }

pub record BuiltSays (a : DeviceAddress) (s : List ℕ) : Type 0 where
  pub which_0 : built_as 0 a s ≡ built_of AdvInd a [] s
  pub which_1 : built_as 1 a s ≡ built_of AdvInd a flags_record s
  pub which_2 : built_as 2 a s ≡ built_of AdvNonconnInd a [] s
  pub which_3 : built_as 3 a s ≡ built_of AdvNonconnInd a [] s
  pub which_4 : built_as 4 a s ≡ built_of ScanRsp a [] s
  pub above_4 : (which : ℕ) → 4 < which → built_as which a s ≡ built_of AdvScanInd a [] s
  pub frame_is : (number : ℕ) (pdu : PduBuf) → frame_of number pdu ≡ record { number = number; header = pdu.header.0; payload = pdu.payload_buf }
  pub built_is : (pdu : PduBuf) → built_frame (Ok pdu) ≡ record { number = 0; header = pdu.header.0; payload = pdu.payload_buf }
  pub not_built : (e : Error) → built_frame (Err e) ≡ record { number = number_of e; header = 0; payload = replicate 37 0 }

pub record SentSays (b : Beacon) (tx : List ℕ) : Type 0 where
  pub transmits : (h : Header) (x y z : AdvertisingChannel) → broadcast_sent (Ok (h, x ∷ y ∷ z ∷ []))
      ≡ record { number = 0; header = h.0; first = index_of x; second = index_of y; third = index_of z }
  pub not_sent_law : (e : Error) → broadcast_sent (Err e) ≡ record { number = number_of e; header = 0; first = 0; second = 0; third = 0 }
  pub sends : beacon_sent (Ok b) tx ≡ broadcast_sent (broadcast_of b tx)
  pub writes : beacon_after (Ok b) tx ≡ payload_after b.pdu tx
  pub not_made : (r : Refusal) → beacon_sent (Err r) tx ≡ record { number = number_of r.error; header = 0; first = 0; second = 0; third = 0 }
  pub keeps : (r : Refusal) → beacon_after (Err r) tx ≡ tx

-- a scanner with a filter or without that listens on a channel, from an instant on for an interval
abbrev pub listener : Bool → ℕ → ℕ → AdvertisingChannel → Updated
listener filtered t interval c =
    record {
      scanner = record { filter = record { scan = filter_for filtered }; interval = interval; channel = c };
      cmd = record { channel = c; next_update = record { 0 = later t interval } };
    }

-- 37 at first, then 38 and 39, then 37 again, where it stays
pub record Updates (filtered : Bool) (t interval : ℕ) : Type 0 where
  pub none_yet : scanner_with filtered t interval 0 ≡ listener filtered t interval Channel37
  pub once : scanner_with filtered t interval 1 ≡ listener filtered t interval Channel38
  pub twice : scanner_with filtered t interval 2 ≡ listener filtered t interval Channel39
  pub more : (n : ℕ) → 2 < n → scanner_with filtered t interval n ≡ listener filtered t interval Channel37
  pub got : (u : Updated) → updated_got u ≡ record { number = 0; first = index_of u.cmd.channel; second = u.cmd.next_update.0 }

-- zeros for what would be reported
abbrev pub silent : ℕ → ℕ → Heard
silent number channel =
    record { number = number; reported = false; random = false; sender = 0 ∷ 0 ∷ 0 ∷ 0 ∷ 0 ∷ 0 ∷ []; start = 0; len = 0; count = 0; taken = 0; channel = channel }

-- without a header, a bad list is 3 all the same, and otherwise the header's refusal is told
pub record HeardSays (s : BeaconScanner) (h : Header) (p list : List ℕ) (crcOk : Bool) : Type 0 where
  -- of a report its number and whether it is one, and the beacon that it has
  pub says : (x : Scanned) → heard_said x ≡ record {
    number = report_number x.report;
    reported = is_report x.report;
    random = is_random (sighting_of x.report).sender.kind;
    sender = (sighting_of x.report).sender.bytes;
    start = (sighting_of x.report).adv_data.start;
    len = (sighting_of x.report).adv_data.len;
    count = (sighting_of x.report).adv_data.count;
    taken = (sighting_of x.report).taken;
    channel = index_of x.channel;
  }
  pub reports : (x : Sighting) (c : AdvertisingChannel) → heard_said (record { report = Ok (Some x); channel = c }) ≡ record {
    number = 0;
    reported = true;
    random = is_random x.sender.kind;
    sender = x.sender.bytes;
    start = x.adv_data.start;
    len = x.adv_data.len;
    count = x.adv_data.count;
    taken = x.taken;
    channel = index_of c;
  }
  pub nothing : (c : AdvertisingChannel) → heard_said (record { report = Ok None; channel = c }) ≡ silent 0 (index_of c)
  pub refuses : (e : Error) (c : AdvertisingChannel) → heard_said (record { report = Err e; channel = c }) ≡ silent (number_of e) (index_of c)
  pub hears : heard_from s (Ok h) p crcOk list ≡ heard_said (scanned s h p crcOk list)
  pub no_header : (e : Error) → is_list_for s.filter.scan list ≡ true → heard_from s (Err e) p crcOk list ≡ silent (number_of e) 0
  pub bad_list : (e : Error) → is_list_for s.filter.scan list ≡ false → heard_from s (Err e) p crcOk list ≡ silent 3 (index_of s.channel)
  pub next_is : (x : Heard) (next : ℕ) → with_next x next ≡ record {
    number = x.number;
    reported = x.reported;
    random = x.random;
    sender = x.sender;
    start = x.start;
    len = x.len;
    count = x.count;
    taken = x.taken;
    channel = x.channel;
    next = next;
  }
  pub listens : (u : Updated) → listen_said u ≡ with_next (silent 0 (index_of u.cmd.channel)) u.cmd.next_update.0
  pub heard : (x : Scanned) → hear_said x ≡ with_next (heard_said x) 0

-- | 0 kind | 1 CRC good | 2 buffer | 3 length n | 4 time 4 | 8 interval 4 | 12 header 2 | 14 records or payload, n of 258 |
module _ (crc buffer n t₀ t₁ t₂ t₃ i₀ i₁ i₂ i₃ h₀ h₁ : ℕ) (s : List ℕ) where
  abbrev pub drawn : ℕ → List ℕ
  drawn kind = kind ∷ crc ∷ buffer ∷ n ∷ t₀ ∷ t₁ ∷ t₂ ∷ t₃ ∷ i₀ ∷ i₁ ∷ i₂ ∷ i₃ ∷ h₀ ∷ h₁ ∷ s

  pub record Drawn (kind : ℕ) : Type 0 where
    pub time_is : time_in (drawn kind) ≡ le (t₀ ∷ t₁ ∷ t₂ ∷ t₃ ∷ [])
    pub interval_is : interval_in (drawn kind) ≡ le (i₀ ∷ i₁ ∷ i₂ ∷ i₃ ∷ [])
    pub header_is : call_header (drawn kind) ≡ header_of (le (h₀ ∷ h₁ ∷ []))
    pub octets_are : n ≤ length s → octets_in (drawn kind) ≡ take n s
    pub octets_cut : length s < n → octets_in (drawn kind) ≡ []
    pub buffer_1 : buffer ≡ 1 → uses_second (drawn kind) ≡ true
    pub buffer_other : (buffer ≡ 1 → ⊥) → uses_second (drawn kind) ≡ false

  pub record Calls (tx : List ℕ) : Type 0 where
    pub kind_0 : call_in (drawn 0) tx ≡ start (instant (time_in (drawn 0))) (interval_in (drawn 0)) (octets_in (drawn 0)) tx
    pub kind_1 : call_in (drawn 1) tx ≡ tick tx
    pub kind_2 : call_in (drawn 2) tx ≡ packet (instant (time_in (drawn 2))) (call_header (drawn 2)) (octets_in (drawn 2)) (eqb crc 1) tx
    pub kind_3 : call_in (drawn 3) tx ≡ event
    pub kind_4 : call_in (drawn 4) tx ≡ stop
    pub kind_5 : call_in (drawn 5) tx ≡ set_scan_data (octets_in (drawn 5))
    pub above_5 : (kind : ℕ) → 5 < kind → call_in (drawn kind) tx ≡ stop

  pub record Entries (list : List ℕ) (x : BeaconScanner) : Type 0 where
    pub kind_0 : entry_said (drawn 0) list x ≡ listen_said (configured x (record { 0 = time_in (drawn 0) }) (interval_in (drawn 0)))
    pub kind_1 : entry_said (drawn 1) list x ≡ listen_said (timer_updated x (record { 0 = time_in (drawn 1) }))
    pub above_1 : (kind : ℕ) → 1 < kind → entry_said (drawn kind) list x ≡ hear_said (scanned x (call_header (drawn kind)) (octets_in (drawn kind)) (eqb crc 1) list)
    pub after_0 : entry_after (drawn 0) x ≡ (configured x (record { 0 = time_in (drawn 0) }) (interval_in (drawn 0))).scanner
    pub after_1 : entry_after (drawn 1) x ≡ (timer_updated x (record { 0 = time_in (drawn 1) })).scanner
    pub after_packet : (kind : ℕ) → 1 < kind → entry_after (drawn kind) x ≡ x

pub record Short (tx list : List ℕ) (x : BeaconScanner) : Type 0 where
  -- so that zeros after the octets that there are change nothing
  pub zeros_time : (c : List ℕ) (k : ℕ) → time_in (c ++ replicate k 0) ≡ time_in c
  pub zeros_interval : (c : List ℕ) (k : ℕ) → interval_in (c ++ replicate k 0) ≡ interval_in c
  pub zeros_buffer : (c : List ℕ) (k : ℕ) → uses_second (c ++ replicate k 0) ≡ uses_second c
  pub no_time : time_in [] ≡ 0
  pub no_interval : interval_in [] ≡ 0
  pub no_header : (c : List ℕ) → length c < 14 → call_header c ≡ header_of 0
  pub no_octets : (c : List ℕ) → length c < 14 + get_or c 3 0 → octets_in c ≡ []
  pub no_buffer : uses_second [] ≡ false
  pub no_call : call_in [] tx ≡ start (instant 0) 0 [] tx
  pub kind_alone : (call_in (1 ∷ []) tx ≡ tick tx) × ((call_in (3 ∷ []) tx ≡ event) × ((call_in (4 ∷ []) tx ≡ stop) × (call_in (5 ∷ []) tx ≡ set_scan_data [])))
  pub no_packet : call_in (2 ∷ []) tx ≡ packet (instant 0) (header_of 0) [] false tx
  pub no_entry : entry_said [] list x ≡ listen_said (configured x (record { 0 = 0 }) 0)
  pub after_none : entry_after [] x ≡ (configured x (record { 0 = 0 }) 0).scanner
  pub update_alone : entry_said (1 ∷ []) list x ≡ listen_said (timer_updated x (record { 0 = 0 }))
  pub nothing_heard : entry_said (2 ∷ []) list x ≡ hear_said (scanned x (header_of 0) [] false list)

pub record Buffers (d : State) (out : List ℕ) : Type 0 where
  pub after_start : (t : Instant) (i : ℕ) (records tx : List ℕ) → buffer_after d (start t i records tx) out ≡ start_after d records tx
  pub after_tick : (tx : List ℕ) → buffer_after d (tick tx) out ≡ tick_after d tx
  pub after_packet : (end : Instant) (h : Header) (p : List ℕ) (crc_good : Bool) (tx : List ℕ) → buffer_after d (packet end h p crc_good tx) out ≡ packet_after d h p crc_good tx
  pub after_event : buffer_after d event out ≡ out
  pub after_stop : buffer_after d stop out ≡ out
  pub after_set : (records : List ℕ) → buffer_after d (set_scan_data records) out ≡ out

pub record LentBuffers (c : List ℕ) (s : Board) : Type 0 where
  pub second_lent : uses_second c ≡ true → called_by c s ≡ call_of s.device (call_in c s.second)
  pub second_written : uses_second c ≡ true → step_of c s ≡ record { device = (called_by c s).state; first = s.first; second = buffer_after s.device (call_in c s.second) s.second }
  pub first_lent : uses_second c ≡ false → called_by c s ≡ call_of s.device (call_in c s.first)
  pub first_written : uses_second c ≡ false → step_of c s ≡ record { device = (called_by c s).state; first = buffer_after s.device (call_in c s.first) s.first; second = s.second }

-- 272 octets each; octets after the last whole 272 are not looked at
pub record CallByCall (own : DeviceAddress) (calls more a b : List ℕ) (n : ℕ) : Type 0 where
  pub none_yet : ran_all own [] a b ≡ record { device = fresh own; first = a; second = b }
  pub one_more : length calls ≡ 272 * n → length more ≡ 272 → ran_all own (calls ++ more) a b ≡ step_of more (ran_all own calls a b)
  pub cut_off : length calls ≡ 272 * n → length more < 272 → ran_all own (calls ++ more) a b ≡ ran_all own calls a b

pub record EntryByEntry (s : BeaconScanner) (entries more : List ℕ) (n : ℕ) : Type 0 where
  pub none_yet : entries_after s [] ≡ s
  pub one_more : length entries ≡ 272 * n → length more ≡ 272 → entries_after s (entries ++ more) ≡ entry_after more (entries_after s entries)
  pub cut_off : length entries ≡ 272 * n → length more < 272 → entries_after s (entries ++ more) ≡ entries_after s entries

-- kinds 0 to 7 in the order of `Answer`
pub record CalledSays (adv conn : Bool) : Type 0 where
  pub refused : (e : Error) → answer_said (Err e) adv conn ≡ record { number = number_of e; kind = 0; advertising = adv; connected = conn; channel = 0; header = 0; at = 0; access_address = 0; crc_init = 0 }
  pub sent : (h : Header) (c : AdvertisingChannel) (t : Instant) → answer_said (Ok (answer.Sent h c t)) adv conn ≡ record { number = 0; kind = 1; advertising = adv; connected = conn; channel = index_of c; header = h.0; at = t.0; access_address = 0; crc_init = 0 }
  pub listen : (c : AdvertisingChannel) → answer_said (Ok (answer.Listen c)) adv conn ≡ record { number = 0; kind = 2; advertising = adv; connected = conn; channel = index_of c; header = 0; at = 0; access_address = 0; crc_init = 0 }
  pub respond : (h : Header) (c : AdvertisingChannel) → answer_said (Ok (answer.Respond h c)) adv conn ≡ record { number = 0; kind = 3; advertising = adv; connected = conn; channel = index_of c; header = h.0; at = 0; access_address = 0; crc_init = 0 }
  pub first_event : (c : DataChannel) (t : Instant) (access crc : ℕ) → answer_said (Ok (answer.FirstEvent c t access crc)) adv conn ≡ record { number = 0; kind = 4; advertising = adv; connected = conn; channel = c.index; header = 0; at = t.0; access_address = access; crc_init = crc }
  pub next_event : (c : DataChannel) → answer_said (Ok (answer.NextEvent c)) adv conn ≡ record { number = 0; kind = 5; advertising = adv; connected = conn; channel = c.index; header = 0; at = 0; access_address = 0; crc_init = 0 }
  pub stopped : answer_said (Ok answer.Stopped) adv conn ≡ record { number = 0; kind = 6; advertising = adv; connected = conn; channel = 0; header = 0; at = 0; access_address = 0; crc_init = 0 }
  pub scan_data_set : answer_said (Ok answer.ScanDataSet) adv conn ≡ record { number = 0; kind = 7; advertising = adv; connected = conn; channel = 0; header = 0; at = 0; access_address = 0; crc_init = 0 }
  pub mode_after_law : (c : Step) → called_said c ≡ answer_said c.answer (is_advertising c.state.mode) (is_connected c.state.mode)

pub record Holds : Type 0 where
  pub heads : (h : Header) (tx rx : Bool) (n : ℕ) → Heads h tx rx n
  pub builds : (a : DeviceAddress) (s : List ℕ) → BuiltSays a s
  pub sends : (b : Beacon) (tx : List ℕ) → SentSays b tx
  pub updates : (filtered : Bool) (t interval : ℕ) → Updates filtered t interval
  pub hears : (s : BeaconScanner) (h : Header) (p list : List ℕ) (crcOk : Bool) → HeardSays s h p list crcOk
  pub drawn_is : (crc buffer n t₀ t₁ t₂ t₃ i₀ i₁ i₂ i₃ h₀ h₁ : ℕ) (s : List ℕ) (kind : ℕ) → Drawn crc buffer n t₀ t₁ t₂ t₃ i₀ i₁ i₂ i₃ h₀ h₁ s kind
  pub calls : (crc buffer n t₀ t₁ t₂ t₃ i₀ i₁ i₂ i₃ h₀ h₁ : ℕ) (s : List ℕ) (tx : List ℕ) → Calls crc buffer n t₀ t₁ t₂ t₃ i₀ i₁ i₂ i₃ h₀ h₁ s tx
  pub entries : (crc buffer n t₀ t₁ t₂ t₃ i₀ i₁ i₂ i₃ h₀ h₁ : ℕ) (s : List ℕ) (list : List ℕ) (x : BeaconScanner) → Entries crc buffer n t₀ t₁ t₂ t₃ i₀ i₁ i₂ i₃ h₀ h₁ s list x
  pub short : (tx list : List ℕ) (x : BeaconScanner) → Short tx list x
  pub buffers : (d : State) (out : List ℕ) → Buffers d out
  pub lends : (c : List ℕ) (s : Board) → LentBuffers c s
  pub says : (adv conn : Bool) → CalledSays adv conn
  pub call_by_call : (own : DeviceAddress) (calls more a b : List ℕ) (n : ℕ) → CallByCall own calls more a b n
  pub entry_by_entry : (s : BeaconScanner) (entries more : List ℕ) (n : ℕ) → EntryByEntry s entries more n
