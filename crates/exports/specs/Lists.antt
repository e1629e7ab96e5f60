-- Lists of calls given as octets, 272 for each call (drawn in src/lists.rt), on a fresh device with two transmit buffers.
--   header_or made                       == the header that was made, or one of zeros
--   number_in at c                       == the number of the four octets from a place on
--   time_in c, interval_in c, call_header c, octets_in c == what the octets c of a call have: its time, interval and header, and its records or payload
--   call_in c tx                         == the call of 272 octets, lent a transmit buffer
--   buffer_after d c tx                  == the transmit buffer after a call
--   Board, board_of d a b                == the state of a device and its two transmit buffers
--   uses_second c                        == the call of octets c is lent the second buffer
--   called_by c s, step_of c s            == what the call of octets c answers, and the state after it
--   ran s calls n                       == the state after the first n calls
--   ran_all own calls a b                == the state after all calls on a fresh device
--   saying number kind ..               == the numbers of an answer
--   answer_said a adv conn, called_said c == an answer as numbers, with the mode
use Rattle.std.specs.Prelude.{Bool, cond, List, [], ◌∷◌, ℕ, zero, suc, ◌+◌, ◌*◌, ◌/◌, eqb, length, get_or, Result, Ok, Err}
use Rattle.octets.specs.Bytes.{part_or, le}
use Rattle.octets.specs.Error.{number_of}
use Rattle.channels.specs.Phy.{index_of}
use Rattle.addresses.specs.Header.{header_of, parsed}
use Rattle.addresses.specs.declared.device_address.DeviceAddress.{DeviceAddress}
use Rattle.addresses.specs.declared.header.Header.{Header}
use Rattle.radio_spec.specs.Calls.{fresh, instant, is_advertising, is_connected, start_after, tick_after, packet_after}
use Rattle.radio_spec.specs.Call.{Call, start, tick, packet, event, stop, set_scan_data, call_of}
use Rattle.radio_spec.specs.declared.link.Answer.{Answer}
use Rattle.radio_spec.specs.declared.link.Answer.TheVariants as answer
use Rattle.radio_spec.specs.State.{State, Step}
use Rattle.exports.specs.declared.lists.Said.{Said}
use Rattle.octets.specs.declared.error.Error.{Error}

abbrev pub header_or : Result Header Error → Header
header_or (Ok h) = h
header_or (Err e) = header_of 0

abbrev pub number_in : ℕ → List ℕ → ℕ
number_in at c = le (get_or c at 0 ∷ get_or c (at + 1) 0 ∷ get_or c (at + 2) 0 ∷ get_or c (at + 3) 0 ∷ [])

abbrev pub time_in : List ℕ → ℕ
time_in c = number_in 4 c

abbrev pub interval_in : List ℕ → ℕ
interval_in c = number_in 8 c

abbrev pub call_header : List ℕ → Header
call_header c = header_or (parsed (part_or 2 c 12))

abbrev pub octets_in : List ℕ → List ℕ
octets_in c = part_or (get_or c 3 0) c 14

unfoldable pub call_in : List ℕ → List ℕ → Call
call_in c tx =
    cond (eqb (get_or c 0 0) 0) (start (instant (time_in c)) (interval_in c) (octets_in c) tx)
    (cond (eqb (get_or c 0 0) 1) (tick tx)
    (cond (eqb (get_or c 0 0) 2) (packet (instant (time_in c)) (call_header c) (octets_in c) (eqb (get_or c 1 0) 1) tx)
    (cond (eqb (get_or c 0 0) 3) event
    (cond (eqb (get_or c 0 0) 5) (set_scan_data (octets_in c)) stop))))

abbrev pub buffer_after : State → Call → List ℕ → List ℕ
buffer_after d (start time interval records tx) out = start_after d records tx
buffer_after d (tick tx) out = tick_after d tx
buffer_after d (packet end header payload crc_good tx) out = packet_after d header payload crc_good tx
buffer_after d event out = out
buffer_after d stop out = out
buffer_after d (set_scan_data records) out = out

pub record Board : Type 0 where
  pub device : State
  pub first : List ℕ
  pub second : List ℕ

abbrev pub board_of : State → List ℕ → List ℕ → Board
board_of d a b = record { device = d; first = a; second = b }

-- octet 2 of a call says which buffer
abbrev pub uses_second : List ℕ → Bool
uses_second c = eqb (get_or c 2 0) 1

unfoldable pub called_by : List ℕ → Board → Step
called_by c s = call_of s.device (call_in c (cond (uses_second c) s.second s.first))

unfoldable pub step_of : List ℕ → Board → Board
step_of c s =
    record {
      device = (called_by c s).state;
      first = cond (uses_second c) s.first (buffer_after s.device (call_in c s.first) s.first);
      second = cond (uses_second c) (buffer_after s.device (call_in c s.second) s.second) s.second;
    }

unfoldable pub ran : Board → List ℕ → ℕ → Board
ran s calls zero = s
ran s calls (suc i) = step_of (part_or 272 calls (272 * i)) (ran s calls i)

unfoldable pub ran_all : DeviceAddress → List ℕ → List ℕ → List ℕ → Board
ran_all own calls a b = ran (board_of (fresh own) a b) calls (length calls / 272)

abbrev pub saying : ℕ → ℕ → Bool → Bool → ℕ → ℕ → ℕ → ℕ → ℕ → Said
saying number kind advertising connected channel header at access crc =
    record {
      number = number;
      kind = kind;
      advertising = advertising;
      connected = connected;
      channel = channel;
      header = header;
      at = at;
      access_address = access;
      crc_init = crc;
    }

abbrev pub answer_said : Result Answer Error → Bool → Bool → Said
answer_said (Err e) a b = saying (number_of e) 0 a b 0 0 0 0 0
answer_said (Ok (answer.Sent header channel next)) a b = saying 0 1 a b (index_of channel) header.0 next.0 0 0
answer_said (Ok (answer.Listen channel)) a b = saying 0 2 a b (index_of channel) 0 0 0 0
answer_said (Ok (answer.Respond header channel)) a b = saying 0 3 a b (index_of channel) header.0 0 0 0
answer_said (Ok (answer.FirstEvent channel at access crc)) a b = saying 0 4 a b channel.index 0 at.0 access crc
answer_said (Ok (answer.NextEvent channel)) a b = saying 0 5 a b channel.index 0 0 0 0
answer_said (Ok answer.Stopped) a b = saying 0 6 a b 0 0 0 0 0
answer_said (Ok answer.ScanDataSet) a b = saying 0 7 a b 0 0 0 0 0

abbrev pub called_said : Step → Said
called_said c = answer_said c.answer (is_advertising c.state.mode) (is_connected c.state.mode)
