-- What each call answers, the state of the device after it, and what it leaves in the transmit buffer (document 01, "link/mod.rs, connection.rs" and
-- "Refused calls").
--   is_advertising m, is_connected m == the mode is that of an advertising device, of a connected one
--   instant t                      == the instant t
--   fresh own                      == a device in standby with its own address
--   refusal d e                    == the refusal e, nothing changed
--   advanced a                     == the advertisement a after a tick: the next channel, the next instant
--   advertised d a                 == an accepted tick of a
--   sent d a w                     == a tick of a whose payload was written to the transmit buffer, or not
--   tick_of d tx, tick_after d tx    == what a tick answers, and the transmit buffer after it
--   beginning t i pdu              == the advertisement that a start sets up
--   discoverable d records         == the PDU that a start builds, or its refusal
--   started d t i tx built         == a start whose PDU was built, or not; started_after tx built: the transmit buffer after it
--   start_of d t i records tx       == what a start answers; start_after d records tx: the transmit buffer after it
--   is_for own pdu                  == the PDU has a second address, and that is `own`, kind included
--   listens d                      == the device keeps listening
--   responds d w                   == a scan request whose reply was written to the transmit buffer, or not
--   replied_if scan_request d tx     == the transmit buffer with the reply's payload at its front, where the packet was a scan request and there is room
--   first_event_at end l             == the instant of the first event after a request with the data l that ended at `end`
--   connected_at d end l s u c      == a connection with the settings s, whose first event has the unmapped channel u and the channel c
--   begun d end l s                == the connection that a request asks for, with the settings s, at its first event
--   settled d end l taken          == the same with the settings that were taken, or their refusal
--   connects_to d end l             == that of the settings which the request has
--   is_scan_request ty               == the type is that of a scan request
--   addressed d end l tx ty        == a packet of type ty that is for this device
--   addressed_to own decoded        == a packet, as it decodes, is for the device with the address own
--   asks is own decoded             == and it has a type that `is` says
--   pdu_heard d end tx decoded      == a CRC-good packet, as it decodes
--   packet_of d end h p crc tx      == what a packet answers; packet_after d h p crc tx: the transmit buffer after it
--   replies_with d pdu              == the device with another reply; set_to d built: where the builder took the data
--   scan_data_of d records           == what setting scan data answers
--   hopped_to d hop                 == an event where the hop found a channel, or its refusal
--   hops d                         == the next event of the connection
--   event_of d, stop_of d            == what an event and a stop answer
use Rattle.std.specs.Prelude.{Bool, true, false, cond, ◌&&◌, List, [], ◌∷◌, ℕ, ◌+◌, Result, Ok, Err}
use Rattle.std.specs.Result.{result_unwrap_or}
use Rattle.octets.specs.Time.{later}
use Rattle.octets.specs.declared.error.Error.{Error}
use Rattle.octets.specs.declared.error.Error.TheVariants.{WrongMode}
use Rattle.octets.specs.declared.time.Instant.{Instant}
use Rattle.channels.specs.Hop.{mapped, next, hopped}
use Rattle.channels.specs.Map.{from_raw}
use Rattle.channels.specs.Phy.{first_channel, cycled}
use Rattle.channels.specs.declared.connection.Hop.{Hop}
use Rattle.channels.specs.declared.phy.DataChannel.{DataChannel}
use Rattle.addresses.specs.Address.{same_address}
use Rattle.addresses.specs.declared.device_address.DeviceAddress.{DeviceAddress}
use Rattle.addresses.specs.declared.header.Header.{Header}
use Rattle.addresses.specs.declared.header.PduType.{PduType}
use Rattle.addresses.specs.declared.header.PduType.TheVariants.{AdvInd, AdvDirectInd, AdvNonconnInd, AdvScanInd, ScanReq, ScanRsp, ConnectReq, Unknown}
use Rattle.advertising.specs.Pdu.{has_receiver, decode_of}
use Rattle.advertising.specs.PduBuf.{empty_buf, built_of, flags_record, scan_response_pdu, payload_to, payload_after}
use Rattle.settings.specs.Settings.{taken_of}
use Rattle.advertising.specs.declared.pdu.ConnectRequestData.{ConnectRequestData}
use Rattle.advertising.specs.declared.pdu.Pdu.{Pdu}
use Rattle.advertising.specs.declared.pdu_buf.PduBuf.{PduBuf}
use Rattle.settings.specs.Settings.{Settings}
use Rattle.radio_spec.specs.State.{Advertisement, State, Step, in_mode, with_adv, with_conn, with_reply}
use Rattle.radio_spec.specs.declared.link.Answer.TheVariants.{Sent, Listen, Respond, FirstEvent, NextEvent, Stopped, ScanDataSet}
use Rattle.radio_spec.specs.declared.link.Mode.{Mode}
use Rattle.radio_spec.specs.declared.link.Mode.TheVariants.{Standby, Advertising, Connected}
use Rattle.octets.specs.declared.bytes.ByteWriter.{ByteWriter}

abbrev pub is_advertising : Mode → Bool
is_advertising Standby = false
is_advertising Advertising = true
is_advertising Connected = false

abbrev pub is_connected : Mode → Bool
is_connected Standby = false
is_connected Advertising = false
is_connected Connected = true

-- the instant t
abbrev pub instant : ℕ → Instant
instant t = record { 0 = t }

-- "A fresh device is in standby, made with its own address"; its reply to a scan request has no scan data
abbrev pub fresh : DeviceAddress → State
fresh own =
    record {
      mode = Standby;
      dev_addr = own;
      scan_response = result_unwrap_or (scan_response_pdu own []) empty_buf;
      adv = record { next_adv = instant 0; interval = 0; pdu = empty_buf; channel = first_channel };
      conn = record { channel_map = from_raw (0 ∷ 0 ∷ 0 ∷ 0 ∷ 0 ∷ []); hop = 0; unmapped_channel = 0 };
    }

abbrev pub refusal : State → Error → Step
refusal d e = record { answer = Err e; state = d }

-- Advertising

-- "A tick cycles the channel, then .. moves the next instant on by the interval"
abbrev pub advanced : Advertisement → Advertisement
advanced a = record { next_adv = instant (later a.next_adv.0 a.interval); interval = a.interval; pdu = a.pdu; channel = cycled a.channel }

abbrev pub advertised : State → Advertisement → Step
advertised d a = record { answer = Ok (Sent a.pdu.header (advanced a).channel (advanced a).next_adv); state = with_adv (advanced a) (in_mode Advertising d) }

abbrev pub sent : State → Advertisement → Result ByteWriter Error → Step
sent d a (Ok next) = advertised d a
sent d a (Err e) = refusal d e

unfoldable pub tick_of : State → List ℕ → Step
tick_of d tx = cond (is_advertising d.mode) (sent d d.adv (payload_to d.adv.pdu tx)) (refusal d WrongMode)

unfoldable pub tick_after : State → List ℕ → List ℕ
tick_after d tx = cond (is_advertising d.mode) (payload_after d.adv.pdu tx) tx

abbrev pub beginning : Instant → ℕ → PduBuf → Advertisement
beginning time interval pdu = record { next_adv = time; interval = interval; pdu = pdu; channel = first_channel }

-- "Start works in any mode, builds a discoverable PDU and makes the first tick"
abbrev pub discoverable : State → List ℕ → Result PduBuf Error
discoverable d records = built_of AdvInd d.dev_addr flags_record records

abbrev pub started : State → Instant → ℕ → List ℕ → Result PduBuf Error → Step
started d time interval tx (Ok pdu) = sent d (beginning time interval pdu) (payload_to pdu tx)
started d time interval tx (Err e) = refusal d e

abbrev pub started_after : List ℕ → Result PduBuf Error → List ℕ
started_after tx (Ok pdu) = payload_after pdu tx
started_after tx (Err e) = tx

unfoldable pub start_of : State → Instant → ℕ → List ℕ → List ℕ → Step
start_of d time interval records tx = started d time interval tx (discoverable d records)

unfoldable pub start_after : State → List ℕ → List ℕ → List ℕ
start_after d records tx = started_after tx (discoverable d records)

-- Packets

-- "for this board if it has type 1, 3 or 5 and its second address equals the device's own"
unfoldable pub is_for : DeviceAddress → Pdu → Bool
is_for own pdu = has_receiver pdu.ty && same_address pdu.receiver own

abbrev pub listens : State → Step
listens d = record { answer = Ok (Listen d.adv.channel); state = d }

-- document 02, Note 1: "On a good scan request to us the reply payload is now written to a lent transmit buffer; one too short returns 1."
abbrev pub responds : State → Result ByteWriter Error → Step
responds d (Ok next) = record { answer = Ok (Respond d.scan_response.header d.adv.channel); state = d }
responds d (Err e) = refusal d e

abbrev pub replied_if : Bool → State → List ℕ → List ℕ
replied_if scan_request d tx = cond scan_request (payload_after d.scan_response tx) tx

-- "the first event at packet end + window offset + window size + 1,750 µs"
abbrev pub first_event_at : Instant → ConnectRequestData → Instant
first_event_at end l = instant (later end.0 (l.win_offset + l.win_size + 1750))

abbrev pub connected_at : State → Instant → ConnectRequestData → Settings → ℕ → DataChannel → Step
connected_at d end l s unmapped channel =
    record {
      answer = Ok (FirstEvent channel (first_event_at end l) l.access_address l.crc_init);
      state = with_conn (record { channel_map = s.chm; hop = s.hop; unmapped_channel = unmapped }) (in_mode Connected d);
    }

-- "Each event adds hop modulo 37, starting at 0 before the first"
abbrev pub begun : State → Instant → ConnectRequestData → Settings → Step
begun d end l s = connected_at d end l s (next 0 s.hop) (record { index = mapped s.chm.raw s.chm.num_used_channels (next 0 s.hop) })

abbrev pub settled : State → Instant → ConnectRequestData → Result Settings Error → Step
settled d end l (Ok s) = begun d end l s
settled d end l (Err e) = refusal d e

-- document 02, Note 6: "taking the settings out of it is what refuses"
unfoldable pub connects_to : State → Instant → ConnectRequestData → Step
connects_to d end l = settled d end l (taken_of l)

abbrev pub is_scan_request : PduType → Bool
is_scan_request ScanReq = true
is_scan_request AdvInd = false
is_scan_request AdvDirectInd = false
is_scan_request AdvNonconnInd = false
is_scan_request AdvScanInd = false
is_scan_request ScanRsp = false
is_scan_request ConnectReq = false
is_scan_request (Unknown n) = false

-- "other types sent to us, keep listening"
unfoldable pub addressed : State → Instant → ConnectRequestData → List ℕ → PduType → Step
addressed d end l tx ScanReq = responds d (payload_to d.scan_response tx)
addressed d end l tx ConnectReq = connects_to d end l
addressed d end l tx AdvDirectInd = listens d
addressed d end l tx AdvInd = listens d
addressed d end l tx AdvNonconnInd = listens d
addressed d end l tx AdvScanInd = listens d
addressed d end l tx ScanRsp = listens d
addressed d end l tx (Unknown n) = listens d

-- a packet as it decodes is for the device with the address own, and has a type that `is` says: a malformed one is for none
abbrev pub addressed_to : DeviceAddress → Result Pdu Error → Bool
addressed_to own (Ok pdu) = is_for own pdu
addressed_to own (Err e) = false

abbrev pub asks : (PduType → Bool) → DeviceAddress → Result Pdu Error → Bool
asks is own (Ok pdu) = is_for own pdu && is pdu.ty
asks is own (Err e) = false

-- "bad, malformed or foreign packets .. keep listening"
abbrev pub pdu_heard : State → Instant → List ℕ → Result Pdu Error → Step
pdu_heard d end tx (Ok pdu) = cond (is_for d.dev_addr pdu) (addressed d end pdu.lldata tx pdu.ty) (listens d)
pdu_heard d end tx (Err e) = listens d

unfoldable pub packet_of : State → Instant → Header → List ℕ → Bool → List ℕ → Step
packet_of d end header payload crc_good tx =
    cond (is_advertising d.mode) (cond crc_good (pdu_heard d end tx (decode_of header payload)) (listens d)) (refusal d WrongMode)

-- only a good scan request to an advertising device writes
unfoldable pub packet_after : State → Header → List ℕ → Bool → List ℕ → List ℕ
packet_after d header payload crc_good tx =
    replied_if (is_advertising d.mode && (crc_good && asks is_scan_request d.dev_addr (decode_of header payload))) d tx

-- Scan data

-- Note 1: "A new call sets record octets for the reply, in any mode"
abbrev pub replies_with : State → PduBuf → Step
replies_with d pdu = record { answer = Ok ScanDataSet; state = with_reply pdu d }

abbrev pub set_to : State → Result PduBuf Error → Step
set_to d (Ok pdu) = replies_with d pdu
set_to d (Err e) = refusal d e

abbrev pub scan_data_of : State → List ℕ → Step
scan_data_of d records = set_to d (scan_response_pdu d.dev_addr records)

-- Events, and the stop

abbrev pub hopped_to : State → Result Hop Error → Step
hopped_to d (Ok hop) =
    record { answer = Ok (NextEvent hop.channel); state = with_conn (record { channel_map = d.conn.channel_map; hop = d.conn.hop; unmapped_channel = hop.unmapped }) d }
hopped_to d (Err e) = refusal d e

unfoldable pub hops : State → Step
hops d = hopped_to d (hopped d.conn.channel_map d.conn.unmapped_channel d.conn.hop)

unfoldable pub event_of : State → Step
event_of d = cond (is_connected d.mode) (hops d) (refusal d WrongMode)

-- "Stop is accepted in every mode and leads to standby"
abbrev pub stop_of : State → Step
stop_of d = record { answer = Ok Stopped; state = in_mode Standby d }
