-- The trace of a list of calls: each with what the list says of it and what it gave; runs of ticks, events and packets in it, and packets struck out of it
-- (document 01, "The list of demand 3").
--   Entry                     == a call in its list; entry: made of what the list says and what the device gives
--   accepted e                == the table refuses it not
--   trace own calls           == the calls from a fresh device; trace_from: from a state
--   state_after own calls      == the state at the end; state_from: from a state
--   AtEach P entries          == P holds at each entry, with the entries that follow it
--   tick_on a, event_on a       == the channel of a tick's answer, and of an event's; channels_by: those of entries
--   InRun                     == what an entry is to a run: its end, inside it, or outside
--   gather run entries        == the entries of a run of ticks, of events or of packets (tick_run, event_run, hear_run); gathered: one more entry
--   ListensOn c a             == the answer a keeps listening on channel c, or replies there
--   times c k n channels      == how many of the n channels from place k on are c
--   Strikable, Choice         == packets that may be struck out, and any choice of them
--   remaining ch xs           == what remains of a list where the chosen are struck out
use Rattle.std.specs.Prelude.{Bool, false, cond, List, [], ◌∷◌, map, ◌≡◌, ℕ, ◌+◌, eqb, get_or, Result, Ok, Err}
use Rattle.octets.specs.declared.time.Instant.{Instant}
use Rattle.channels.specs.Count.{count}
use Rattle.channels.specs.Phy.{index_of}
use Rattle.channels.specs.declared.phy.AdvertisingChannel.{AdvertisingChannel}
use Rattle.addresses.specs.declared.device_address.DeviceAddress.{DeviceAddress}
use Rattle.addresses.specs.declared.header.Header.{Header}
use Rattle.advertising.specs.Pdu.{well_formed}
use Rattle.radio_spec.specs.Calls.{fresh}
use Rattle.radio_spec.specs.declared.link.Answer.{Answer}
use Rattle.radio_spec.specs.declared.link.Answer.TheVariants.{Sent, Listen, Respond, FirstEvent, NextEvent, Stopped, ScanDataSet}
use Rattle.radio_spec.specs.State.{State, Step}
use Rattle.radio_spec.specs.declared.link.Mode.{Mode}
use Rattle.radio_spec.specs.Call.{Call, start, tick, packet, event, stop, set_scan_data, call_of, octets_of}
use Rattle.radio_spec.specs.SoFar.{for_board, SoFar, at_first, refused_by, then_call}
use Rattle.octets.specs.declared.error.Error.{Error}

-- a call in its list: the mode, the channel, the scan data and the number of the table, as the list says, then the call, all that it returned, and its
-- octets afterwards
pub record Entry : Type 0 where
  pub mode : Mode
  pub channel : AdvertisingChannel
  pub scan_data : List ℕ
  pub number : ℕ
  pub call : Call
  pub result : Step
  pub octets : List (List ℕ)

abbrev pub entry : DeviceAddress → SoFar → State → Call → Entry
entry own l d c =
    record { mode = l.mode; channel = l.channel; scan_data = l.scan_data; number = refused_by own l c; call = c; result = call_of d c; octets = octets_of d c }

abbrev pub accepted : Entry → Bool
accepted e = eqb e.number 0

-- "Each call gets the device that the one before returned"
abbrev pub trace_from : DeviceAddress → SoFar → State → List Call → List Entry
trace_from own l d [] = []
trace_from own l d (c ∷ cs) = entry own l d c ∷ trace_from own (then_call own l c) (call_of d c).state cs

unfoldable pub trace : DeviceAddress → List Call → List Entry
trace own calls = trace_from own at_first (fresh own) calls

abbrev pub state_from : State → List Call → State
state_from d [] = d
state_from d (c ∷ cs) = state_from (call_of d c).state cs

unfoldable pub state_after : DeviceAddress → List Call → State
state_after own calls = state_from (fresh own) calls

-- P holds at each entry, with the entries that follow it
pub data AtEach (P : Entry → List Entry → Type 0) : List Entry → Type 0 where
  none : AtEach P []
  here : {e : Entry} {later : List Entry} → P e later → AtEach P later → AtEach P (e ∷ later)

-- Channels used

-- the channel of a tick's answer, and that of an event's; 40, which is no channel, for any other answer
abbrev pub tick_on : Result Answer Error → ℕ
tick_on (Ok (Sent header channel next)) = index_of channel
tick_on (Err e) = 40
tick_on (Ok (Listen channel)) = 40
tick_on (Ok (Respond header channel)) = 40
tick_on (Ok (FirstEvent channel at access crc)) = 40
tick_on (Ok (NextEvent channel)) = 40
tick_on (Ok Stopped) = 40
tick_on (Ok ScanDataSet) = 40

abbrev pub event_on : Result Answer Error → ℕ
event_on (Ok (FirstEvent channel at access crc)) = channel.index
event_on (Ok (NextEvent channel)) = channel.index
event_on (Err e) = 40
event_on (Ok (Sent header channel next)) = 40
event_on (Ok (Listen channel)) = 40
event_on (Ok (Respond header channel)) = 40
event_on (Ok Stopped) = 40
event_on (Ok ScanDataSet) = 40

abbrev pub channels_by : (Result Answer Error → ℕ) → List Entry → List ℕ
channels_by channel entries = map (λ (e : Entry). channel e.result.answer) entries

-- what an entry is to a run of ticks, of events or of packets: its end, one of the run, or neither
pub data InRun : Type 0 where
  ends : InRun
  inside : InRun
  outside : InRun

abbrev pub gathered : InRun → Entry → List Entry → List Entry
gathered ends e rest = []
gathered inside e rest = e ∷ rest
gathered outside e rest = rest

abbrev pub gather : (Bool → Call → InRun) → List Entry → List Entry
gather role [] = []
gather role (e ∷ later) = gathered (role (accepted e) e.call) e (gather role later)

-- the accepted ticks up to the next accepted start
unfoldable pub tick_run : Bool → Call → InRun
tick_run ok (start time interval records tx) = cond ok ends outside
tick_run ok (tick tx) = cond ok inside outside
tick_run ok (packet end header payload crc_good tx) = outside
tick_run ok event = outside
tick_run ok stop = outside
tick_run ok (set_scan_data records) = outside

-- the accepted events up to a stop or an accepted start
unfoldable pub event_run : Bool → Call → InRun
event_run ok (start time interval records tx) = cond ok ends outside
event_run ok (tick tx) = outside
event_run ok (packet end header payload crc_good tx) = outside
event_run ok event = cond ok inside outside
event_run ok stop = ends
event_run ok (set_scan_data records) = outside

-- the packets up to the next accepted start or tick
unfoldable pub hear_run : Bool → Call → InRun
hear_run ok (start time interval records tx) = cond ok ends outside
hear_run ok (tick tx) = cond ok ends outside
hear_run ok (packet end header payload crc_good tx) = inside
hear_run ok event = outside
hear_run ok stop = outside
hear_run ok (set_scan_data records) = outside

pub data ListensOn (c : AdvertisingChannel) : Result Answer Error → Type 0 where
  keeps : ListensOn c (Ok (Listen c))
  replies : {header : Header} → ListensOn c (Ok (Respond header c))

abbrev pub times : ℕ → ℕ → ℕ → List ℕ → ℕ
times c k n channels = count (λ j. eqb (get_or channels (k + j) 0) c) n

-- Striking out

pub data Strikable (own : DeviceAddress) : Call → Type 0 where
  crc_bad : {end : Instant} {header : Header} {payload tx : List ℕ} → Strikable own (packet end header payload false tx)
  malformed : {end : Instant} {header : Header} {payload tx : List ℕ} {crc_good : Bool} → well_formed header payload ≡ false → Strikable own (packet end header payload crc_good tx)
  foreign : {end : Instant} {header : Header} {payload tx : List ℕ} {crc_good : Bool} → for_board own header payload ≡ false → Strikable own (packet end header payload crc_good tx)

-- any choice of strikable packets of a list
pub data Choice (own : DeviceAddress) : List Call → Type 0 where
  none : Choice own []
  keep : {c : Call} {cs : List Call} → Choice own cs → Choice own (c ∷ cs)
  strike : {c : Call} {cs : List Call} → Strikable own c → Choice own cs → Choice own (c ∷ cs)

-- what remains of a list, one element for each call, where the chosen are struck out
abbrev pub remaining : {A : Type 0} {own : DeviceAddress} {cs : List Call} → Choice own cs → List A → List A
remaining none xs = xs
remaining (keep ch) [] = []
remaining (keep ch) (x ∷ xs) = x ∷ remaining ch xs
remaining (strike s ch) [] = []
remaining (strike s ch) (x ∷ xs) = remaining ch xs
