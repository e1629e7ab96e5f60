-- A call of a device with all its arguments, and what it gives (document 01, "The list of demand 3").
--   Call                      == a call, the octets of its lent buffers included
--   call_of d c                == what it answers, with the state after it
--   octets_of d c              == the octets of its lent buffers afterwards
use Rattle.std.specs.Prelude.{Bool, List, [], ◌∷◌, ℕ}
use Rattle.octets.specs.declared.time.Instant.{Instant}
use Rattle.addresses.specs.declared.header.Header.{Header}
use Rattle.radio_spec.specs.Calls.{start_of, start_after, tick_of, tick_after, packet_of, packet_after, scan_data_of, event_of, stop_of}
use Rattle.radio_spec.specs.State.{State, Step}

-- a call with all its arguments but the device, the octets of its lent buffers included
pub data Call : Type 0 where
  start : (time : Instant) (interval : ℕ) (records tx : List ℕ) → Call
  tick : (tx : List ℕ) → Call
  packet : (end : Instant) (header : Header) (payload : List ℕ) (crc_good : Bool) (tx : List ℕ) → Call
  event : Call
  stop : Call
  set_scan_data : (records : List ℕ) → Call

-- What the calls give

abbrev pub call_of : State → Call → Step
call_of d (start time interval records tx) = start_of d time interval records tx
call_of d (tick tx) = tick_of d tx
call_of d (packet end header payload crc_good tx) = packet_of d end header payload crc_good tx
call_of d event = event_of d
call_of d stop = stop_of d
call_of d (set_scan_data records) = scan_data_of d records

abbrev pub octets_of : State → Call → List (List ℕ)
octets_of d (start time interval records tx) = records ∷ start_after d records tx ∷ []
octets_of d (tick tx) = tick_after d tx ∷ []
octets_of d (packet end header payload crc_good tx) = payload ∷ packet_after d header payload crc_good tx ∷ []
octets_of d event = []
octets_of d stop = []
octets_of d (set_scan_data records) = records ∷ []
