-- What a start, a tick and an event answer, of any device, by the octets that are lent alone, and the mode after any call: specs/Laws has the same of packets (`HearsPacket`)
-- and of scan data (`SetsScanData`).
--   StartSends d time interval records tx n (Answering.start_sends)  an accepted area of at most 28 octets is sent, however much is lent; else 1
--   TickSends d tx                          (Answering.tick_sends)   a tick is sent on the next channel; 5 before 1, and neither without its condition
--   EventHops d                             (Answering.event_hops)   an event is answered exactly while connected
--   mode_by m a                              == the mode after a call that was answered a, in the mode m
--   ModeMoves d c                           (Answering.mode_moves)   that is the mode of any device after any call
use Rattle.std.specs.Prelude.{false, List, ◌≡◌, ℕ, ◌+◌, ◌%◌, ◌≤◌, ◌<◌, length, Ok, Result, Err}
use Rattle.octets.specs.Time.{later}
use Rattle.octets.specs.declared.error.Error.TheVariants.{Eof, WrongMode}
use Rattle.octets.specs.declared.time.Instant.{Instant}
use Rattle.channels.specs.Phy.{cycled}
use Rattle.channels.specs.declared.phy.AdvertisingChannel.TheVariants.{Channel38}
use Rattle.records_spec.specs.Area.{read_area}
use Rattle.addresses.specs.Address.{is_random}
use Rattle.addresses.specs.declared.header.PduType.TheVariants.{AdvInd}
use Rattle.advertising.specs.PduBuf.{header_for, payload_of}
use Rattle.radio_spec.specs.Calls.{is_advertising, is_connected, instant}
use Rattle.radio_spec.specs.Demand.{number_in}
use Rattle.radio_spec.specs.Call.{Call, start, tick, event, call_of}
use Rattle.radio_spec.specs.declared.link.Answer.{Answer}
use Rattle.radio_spec.specs.declared.link.Answer.TheVariants.{Sent, Listen, Respond, FirstEvent, NextEvent, Stopped, ScanDataSet}
use Rattle.radio_spec.specs.State.{State}
use Rattle.radio_spec.specs.declared.link.Mode.{Mode}
use Rattle.radio_spec.specs.declared.link.Mode.TheVariants.{Standby, Advertising, Connected}
use Rattle.octets.specs.declared.error.Error.{Error}

-- "Start works in any mode": an accepted area of at most 28 octets is sent where there is room for 9 octets and its own, however much more is lent; a longer one,
-- and too little room, are 1. A bad area is `BadStart`.
pub record StartSends (d : State) (time : Instant) (interval : ℕ) (records tx : List ℕ) (n : ℕ) : Type 0 where
  pub accepted : length d.dev_addr.bytes ≡ 6 → read_area records ≡ Ok n → length records ≤ 28 → 9 + length records ≤ length tx
      → (call_of d (start time interval records tx)).answer
      ≡ Ok (Sent (header_for AdvInd (is_random d.dev_addr.kind) false (9 + length records)) Channel38 (instant (later time.0 interval)))
  pub too_long : length d.dev_addr.bytes ≡ 6 → read_area records ≡ Ok n → 28 < length records
      → call_of d (start time interval records tx) ≡ record { answer = Err Eof; state = d }
  pub no_room : length d.dev_addr.bytes ≡ 6 → read_area records ≡ Ok n → length records ≤ 28 → length tx < 9 + length records
      → call_of d (start time interval records tx) ≡ record { answer = Err Eof; state = d }

-- 5 before 1, and neither without its condition
pub record TickSends (d : State) (tx : List ℕ) : Type 0 where
  pub off : is_advertising d.mode ≡ false → call_of d (tick tx) ≡ record { answer = Err WrongMode; state = d }
  pub sends : d.mode ≡ Advertising → length (payload_of d.adv.pdu) ≤ length tx
      → (call_of d (tick tx)).answer ≡ Ok (Sent d.adv.pdu.header (cycled d.adv.channel) (instant (later d.adv.next_adv.0 d.adv.interval)))
  -- what is kept for the next tick: the instant and the channel move on, and nothing else
  pub moves_on : d.mode ≡ Advertising → length (payload_of d.adv.pdu) ≤ length tx
      → (call_of d (tick tx)).state
      ≡ record {
        mode = Advertising;
        dev_addr = d.dev_addr;
        scan_response = d.scan_response;
        adv = record {
          next_adv = instant (later d.adv.next_adv.0 d.adv.interval);
          interval = d.adv.interval;
          pdu = d.adv.pdu;
          channel = cycled d.adv.channel;
        };
        conn = d.conn;
      }
  pub no_room : d.mode ≡ Advertising → length tx < length (payload_of d.adv.pdu) → call_of d (tick tx) ≡ record { answer = Err Eof; state = d }

pub record EventHops (d : State) : Type 0 where
  pub off : is_connected d.mode ≡ false → call_of d event ≡ record { answer = Err WrongMode; state = d }
  pub given : d.mode ≡ Connected → d.conn.unmapped_channel ≤ 36 → 0 < d.conn.channel_map.num_used_channels → number_in (call_of d event).answer ≡ 0
  -- what is kept for the next event: the hop, of five bits, is added modulo 37, and nothing else moves
  pub moves_on : d.mode ≡ Connected → d.conn.unmapped_channel ≤ 36 → 0 < d.conn.channel_map.num_used_channels
      → (call_of d event).state
      ≡ record {
        mode = Connected;
        dev_addr = d.dev_addr;
        scan_response = d.scan_response;
        adv = d.adv;
        conn = record { channel_map = d.conn.channel_map; hop = d.conn.hop; unmapped_channel = (d.conn.unmapped_channel + d.conn.hop % 32) % 37 };
      }

-- "Stop .. leads to standby. Only a stop or an accepted start ends a connection, and only a stop or a connection ends advertising.": the mode of any device after any
-- call, by what the call answered
abbrev pub mode_by : Mode → Result Answer Error → Mode
mode_by m (Ok Stopped) = Standby
mode_by m (Ok (Sent header channel next)) = Advertising
mode_by m (Ok (FirstEvent channel at access crc)) = Connected
mode_by m (Err e) = m
mode_by m (Ok (Listen channel)) = m
mode_by m (Ok (Respond header channel)) = m
mode_by m (Ok (NextEvent channel)) = m
mode_by m (Ok ScanDataSet) = m

abbrev pub ModeMoves : State → Call → Type 0
ModeMoves d c = (call_of d c).state.mode ≡ mode_by d.mode (call_of d c).answer
