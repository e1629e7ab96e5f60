-- Demand 3: what holds of every list of calls from a fresh device in standby. `demand_3` of proofs/Demand.antt proves it of every own address of six
-- octets and every list; `Words` of specs/Laws.antt says what its words mean, `SetsScanData` and `HearsPacket` there and `Limits` of specs/Examples.antt
-- which calls the table refuses; `Call` is in specs/Call.antt, `Entry` and `trace` in specs/Trace.antt. A call of a `Device` of radio is such a call: its
-- contract there equates what it returns, read as a step, with what `call_of` says of the state (`start_of`, `tick_of` ..).
--
--     an Entry of the trace  | mode, channel, scan_data, number, call      | result, octets                                        |
--                            | what the list says: the mode before, the   | what the call of the device returned, and what stands |
--                            | channel of the last tick, the scan data,   | in its lent buffers afterwards                        |
--                            | the table's refusal or 0, and the call     |                                                       |
--
-- `AtEach P (trace ..)` says P of each entry with the entries after it; `gather role after` is those of them that belong to a run (of accepted ticks, of
-- accepted events, of packets), up to its end. Words of the crates below have their laws there: `marked`, `marks`, `channel_at`, `event_channel` and `cycles`
-- in channels, `later` and `le` in octets, `rewritten` in records_spec, `header_for` in advertising.
--   number_in a                == the number that an answer refuses with; 0 where it refuses nothing
--   is_first_event a, is_reply a == the answer is a connection's first event, a reply to a scan request
--   Each P k es               == P holds of each entry and its place, counted from k
--   transmitted xs c          == the lent buffers of the call c with the payload xs transmitted
--   Tick, Ticks               == one tick of what a start set up, and all of them
--   Events p es               == the events of the connection whose request has the payload p
--   reply_header, reply_octets  == the header and the payload of a reply; ReplyOf: a PDU that has both
--   replied_to own e           == the list says that this call is a scan request to an advertising board, with room for the reply
--   Reply                     == what such a call answers and writes
--   mode_then own m ok c       == the mode after a call c, m being the mode before it, and ok whether the table accepts it
--   ModesFrom own m last es   == m is the mode before the entries es, each call leads from one mode to the next, and `last` is the mode after them
--   RefusedAt, TicksFrom, ListeningFrom, RepliesAt, BeginsAt, EventsFrom, StopsAt, SetsAt   == what holds at an entry, with the entries after it
--   Demand3 own calls         (Demand.demand_3)   the whole of demand 3
use Rattle.std.specs.Prelude.{Bool, true, false, cond, not, ◌&&◌, List, [], ◌∷◌, ◌++◌, ◌≡◌, ℕ, suc, ◌+◌, ◌*◌, ◌%◌, ◌≤◌, ◌<◌, eqb, length, Result, Ok, Err}
use Rattle.octets.specs.Bytes.{at_front}
use Rattle.octets.specs.Error.{number_of}
use Rattle.octets.specs.Time.{later}
use Rattle.octets.specs.declared.time.Instant.{Instant}
use Rattle.channels.specs.Count.{count}
use Rattle.channels.specs.Hop.{event_channel}
use Rattle.channels.specs.Laws.{cycles}
use Rattle.channels.specs.Map.{marked, marks, channel_at}
use Rattle.channels.specs.Phy.{index_of, first_channel}
use Rattle.channels.specs.declared.phy.AdvertisingChannel.{AdvertisingChannel}
use Rattle.records_spec.specs.Area.{rewritten}
use Rattle.addresses.specs.Address.{kind_number, is_random}
use Rattle.addresses.specs.Header.{header_of}
use Rattle.addresses.specs.declared.device_address.DeviceAddress.{DeviceAddress}
use Rattle.addresses.specs.declared.header.Header.{Header}
use Rattle.addresses.specs.declared.header.PduType.TheVariants.{AdvInd}
use Rattle.advertising.specs.PduBuf.{header_for, flags_record, payload_of}
use Rattle.advertising.specs.declared.pdu_buf.PduBuf.{PduBuf}
use Rattle.radio_spec.specs.Calls.{instant, is_advertising}
use Rattle.radio_spec.specs.Call.{Call, start, tick, packet, event, stop, set_scan_data}
use Rattle.radio_spec.specs.SoFar.{map_in, hop_in, connects, asks_to_scan_with, reply_size, mode_after, scan_data_after}
use Rattle.radio_spec.specs.Trace.{Entry, accepted, trace, state_after, AtEach, tick_on, event_on, channels_by, gather, tick_run, event_run, hear_run, ListensOn, times, Choice, remaining}
use Rattle.radio_spec.specs.declared.link.Answer.{Answer}
use Rattle.radio_spec.specs.declared.link.Mode.{Mode}
use Rattle.radio_spec.specs.declared.link.Mode.TheVariants.{Standby, Advertising, Connected}
use Rattle.radio_spec.specs.declared.link.Answer.TheVariants.{Sent, Listen, Respond, FirstEvent, NextEvent, Stopped, ScanDataSet}
use Rattle.octets.specs.declared.error.Error.{Error}

-- the number that an answer refuses with; 0 where it refuses nothing
abbrev pub number_in : Result Answer Error → ℕ
number_in (Err e) = number_of e
number_in (Ok answer) = 0

abbrev pub is_first_event : Result Answer Error → Bool
is_first_event (Err e) = false
is_first_event (Ok (Sent header channel next)) = false
is_first_event (Ok (Listen channel)) = false
is_first_event (Ok (Respond header channel)) = false
is_first_event (Ok (FirstEvent channel at access crc)) = true
is_first_event (Ok (NextEvent channel)) = false
is_first_event (Ok Stopped) = false
is_first_event (Ok ScanDataSet) = false

abbrev pub is_reply : Result Answer Error → Bool
is_reply (Ok (Respond header channel)) = true
is_reply (Err e) = false
is_reply (Ok (Sent header channel next)) = false
is_reply (Ok (Listen channel)) = false
is_reply (Ok (FirstEvent channel at access crc)) = false
is_reply (Ok (NextEvent channel)) = false
is_reply (Ok Stopped) = false
is_reply (Ok ScanDataSet) = false

-- P holds of each entry with its place, counted from k
abbrev pub Each : (ℕ → Entry → Type 0) → ℕ → List Entry → Type 0
Each P k [] = Unit {0}
Each P k (e ∷ es) = P k e × Each P (suc k) es

-- a call's lent buffers with a payload written at the front of the transmit buffer, and its other octets kept; only a start, a tick and a packet have one
abbrev pub transmitted : List ℕ → Call → List (List ℕ)
transmitted payload (start time interval records tx) = records ∷ at_front payload tx ∷ []
transmitted payload (tick tx) = at_front payload tx ∷ []
transmitted payload (packet end header p crc_good tx) = p ∷ at_front payload tx ∷ []
transmitted payload event = []
transmitted payload stop = []
transmitted payload (set_scan_data records) = records ∷ []

-- Tick k of what a start set up, counted from 0, the start's own: it answers the header of an ADV_IND of the own kind and of the payload's length, the
-- channel after k + 1 cycles from the first, and the start's time and k + 1 intervals; it writes the own address (6 octets), Flags (3) and the records.
pub record Tick (own : DeviceAddress) (time : Instant) (interval : ℕ) (records : List ℕ) (k : ℕ) (e : Entry) : Type 0 where
  pub answer : e.result.answer
      ≡ Ok (Sent (header_for AdvInd (is_random own.kind) false (9 + length records)) (cycles (suc k) first_channel) (instant (later time.0 (suc k * interval))))
  pub octets : e.octets ≡ transmitted ((own.bytes ++ flags_record) ++ rewritten records) e.call

-- the accepted ticks of a start: any three successive ones use each channel once
pub record Ticks (own : DeviceAddress) (time : Instant) (interval : ℕ) (records : List ℕ) (entries : List Entry) : Type 0 where
  pub each : Each (Tick own time interval records) 0 entries
  pub each_once : (k : ℕ) → k + 3 ≤ length entries → (c : AdvertisingChannel) → times (index_of c) k 3 (channels_by tick_on entries) ≡ 1

-- the events of a connection, for the payload p of its request
pub record Events (p : List ℕ) (entries : List Entry) : Type 0 where
  -- each channel is the one that the hop gives for the request's hop and map
  pub by_hop : Each (λ k e. event_on e.result.answer ≡ event_channel (map_in p) (hop_in p) k) 0 entries
  -- any 37 consecutive ones, from event k on, use the marked channel at place i 1 + u times
  pub each_share : (k : ℕ) → k + 37 ≤ length entries → (i : ℕ)
      → let n : ℕ = marks (map_in p) in
      let u : ℕ = count (λ c. not (marked (map_in p) c) && eqb (c % n) i) 37 in
      i < n → times (channel_at (map_in p) i) k 37 (channels_by event_on entries) ≡ 1 + u

-- SCAN_RSP (the Core, Vol 6 Part B, 2.3 and 2.3.2.2) of the address `own`, TxAdd its kind, with the scan data s, whose undefined Flags bits are cleared:
--
--     | type 4, TxAdd bit 6, length bits 8-13 | AdvA     | ScanRspData |
--     | header, 2 octets                      | 6 octets | 0 to 31     |
abbrev pub reply_header : DeviceAddress → List ℕ → Header
reply_header own s = header_of (4 + 64 * kind_number own.kind + 256 * reply_size s)

abbrev pub reply_octets : DeviceAddress → List ℕ → List ℕ
reply_octets own s = own.bytes ++ rewritten s

-- the PDU is the reply of the address `own` with the scan data s
pub record ReplyOf (own : DeviceAddress) (s : List ℕ) (b : PduBuf) : Type 0 where
  pub header : b.header ≡ reply_header own s
  pub payload : payload_of b ≡ reply_octets own s

abbrev pub replied_to : DeviceAddress → Entry → Bool
replied_to own e = is_advertising e.mode && asks_to_scan_with (reply_size e.scan_data) own e.call

-- the reply of the scan data that the list says, on the channel of the last accepted tick
pub record Reply (own : DeviceAddress) (e : Entry) : Type 0 where
  pub answer : e.result.answer ≡ Ok (Respond (reply_header own e.scan_data) e.channel)
  pub octets : e.octets ≡ transmitted (reply_octets own e.scan_data) e.call

-- a call is refused with the number of the table, and exactly where the table refuses it
abbrev pub RefusedAt : Entry → List Entry → Type 0
RefusedAt e after = number_in e.result.answer ≡ e.number

-- from an accepted start to the next, the start's own tick included
abbrev pub TicksFrom : DeviceAddress → Entry → List Entry → Type 0
TicksFrom own e after =
    (time : Instant) (interval : ℕ) (records tx : List ℕ) → e.call ≡ start time interval records tx → accepted e ≡ true
    → Ticks own time interval records (e ∷ gather tick_run after)

-- from a start or tick that sent on channel c to the next: a packet call that listens on a channel does so on c
abbrev pub ListeningFrom : Entry → List Entry → Type 0
ListeningFrom e after =
    (header : Header) (c : AdvertisingChannel) (next : Instant) → e.result.answer ≡ Ok (Sent header c next)
    → Each (λ k heard. (d : AdvertisingChannel) → ListensOn d heard.result.answer → d ≡ c) 0 (gather hear_run after)

-- a reply is given exactly where `replied_to` says; elsewhere a packet call leaves its transmit buffer as it was lent
pub record RepliesAt (own : DeviceAddress) (e : Entry) (after : List Entry) : Type 0 where
  pub exactly : is_reply e.result.answer ≡ replied_to own e
  pub reply : replied_to own e ≡ true → Reply own e
  pub elsewhere : replied_to own e ≡ false
      → (end : Instant) (header : Header) (payload : List ℕ) (crc_good : Bool) (tx : List ℕ) → e.call ≡ packet end header payload crc_good tx
      → e.octets ≡ payload ∷ tx ∷ []

-- a first event is given exactly where an advertising board is handed a connect request as `connects` says, and by that call
abbrev pub BeginsAt : DeviceAddress → Entry → List Entry → Type 0
BeginsAt own e after = is_first_event e.result.answer ≡ (is_advertising e.mode && connects own e.call)

-- from a first event to a stop or an accepted start
abbrev pub EventsFrom : Entry → List Entry → Type 0
EventsFrom e after =
    (end : Instant) (header : Header) (payload : List ℕ) (crc_good : Bool) (tx : List ℕ) → e.call ≡ packet end header payload crc_good tx
    → is_first_event e.result.answer ≡ true
    → Events payload (e ∷ gather event_run after)

abbrev pub StopsAt : Entry → List Entry → Type 0
StopsAt e after = e.call ≡ stop → e.result.answer ≡ Ok Stopped

-- scan data that the table does not refuse are set
abbrev pub SetsAt : Entry → List Entry → Type 0
SetsAt e after = (records : List ℕ) → e.call ≡ set_scan_data records → accepted e ≡ true → e.result.answer ≡ Ok ScanDataSet

-- "The mode is read from the list: standby at first, advertising after an accepted start, connected after a request as demand 3 names it, standby after a stop."
-- No other call changes it: by the mode before a call, the call, and whether it was accepted, whatever came earlier.
abbrev pub mode_then : DeviceAddress → Mode → Bool → Call → Mode
mode_then own m ok (start time interval records tx) = cond ok Advertising m
mode_then own m ok (packet end header payload crc_good tx) = cond (is_advertising m && connects own (packet end header payload crc_good tx)) Connected m
mode_then own m ok stop = Standby
mode_then own m ok (tick tx) = m
mode_then own m ok event = m
mode_then own m ok (set_scan_data records) = m

abbrev pub ModesFrom : DeviceAddress → Mode → Mode → List Entry → Type 0
ModesFrom own m last [] = m ≡ last
ModesFrom own m last (e ∷ es) = (e.mode ≡ m) × ModesFrom own (mode_then own m (accepted e) e.call) last es

pub record Demand3 (own : DeviceAddress) (calls : List Call) : Type 0 where
  -- "Every call .. refuses only as document 01 says"; "A start, tick or event call is accepted if no row of the table refuses it."
  pub refusals : AtEach RefusedAt (trace own calls)
  -- "From one accepted start to the next, any three successive accepted ticks, the start's own included, use 37, 38 and 39 once each."
  pub ticks : AtEach (TicksFrom own) (trace own calls)
  -- "bad, malformed or foreign packets, and other types sent to us, keep listening", as a scan request's reply does: on the channel of the last accepted tick
  pub listening : AtEach ListeningFrom (trace own calls)
  -- document 02, Note 1: "On a good scan request to us the reply payload is now written to a lent transmit buffer", of the scan data that "outlive start and
  -- stop"
  pub replies : AtEach (RepliesAt own) (trace own calls)
  -- "A new call sets record octets for the reply": where the table, which asks no mode of it, does not refuse them
  pub sets : AtEach SetsAt (trace own calls)
  -- "A connection begins exactly when an advertising board is handed a CRC-good, well-formed connect request to its own address, kind included, marking
  -- n ≥ 1 channels; that request's call gives its first event." Note 6: "exactly on a request that demand 3 names and that is within these ranges"
  pub begins : AtEach (BeginsAt own) (trace own calls)
  -- "any 37 consecutive events of it use the marked channel at place i (from 0) exactly 1 + u times, u counting unmarked channels with index mod n = i."
  -- Note 6: "The channel counts then need no condition on hop."
  pub events : AtEach EventsFrom (trace own calls)
  -- "Stop is accepted in every mode and leads to standby."
  pub stops : AtEach StopsAt (trace own calls)
  -- "The mode is read from the list": the device's is the same
  pub mode : (state_after own calls).mode ≡ mode_after own calls
  -- and so it is at each call, and of the device after the last
  pub modes : ModesFrom own Standby (state_after own calls).mode (trace own calls)
  -- Note 1: "the device's state carries the built reply", that of the scan data which the list gives
  pub carries : ReplyOf own (scan_data_after own calls) (state_after own calls).scan_response
  -- "Striking out any of the list's CRC-bad or malformed packets, or of those not for this board, leaves every other call's result and octets,
  pub others_same : (ch : Choice own calls) → trace own (remaining ch calls) ≡ remaining ch (trace own calls)
  -- and the device at the end, the same."
  pub end_same : (ch : Choice own calls) → state_after own (remaining ch calls) ≡ state_after own calls
