-- The state of a device, and what a call gives: its answer, and the state after it. A `Device` of radio, whose fields are private, is read as a state there
-- (`state` of its specs/State.antt), and what its calls return as steps.
--   Advertisement       == what a start sets up
--   Connection          == what the events of a connection need
--   State               == a device
--   Step                == what a call gives
--   in_mode m d, with_adv a d, with_conn c d, with_reply pdu d == the state d in another mode, with another advertisement, connection or reply, and nothing else changed
use Rattle.std.specs.Prelude.{ℕ, Result}
use Rattle.octets.specs.declared.time.Instant.{Instant}
use Rattle.channels.specs.declared.channel_map.ChannelMap.{ChannelMap}
use Rattle.channels.specs.declared.phy.AdvertisingChannel.{AdvertisingChannel}
use Rattle.addresses.specs.declared.device_address.DeviceAddress.{DeviceAddress}
use Rattle.advertising.specs.declared.pdu_buf.PduBuf.{PduBuf}
use Rattle.radio_spec.specs.declared.link.Answer.{Answer}
use Rattle.radio_spec.specs.declared.link.Mode.{Mode}
use Rattle.octets.specs.declared.error.Error.{Error}

-- when the next tick is due, the µs from one tick to the next, what every tick sends, and the channel of the last one
pub record Advertisement : Type 0 where
  pub next_adv : Instant
  pub interval : ℕ
  pub pdu : PduBuf
  pub channel : AdvertisingChannel

-- the hop is added to the unmapped channel from event to event; this is the unmapped channel of the last event that was given
pub record Connection : Type 0 where
  pub channel_map : ChannelMap
  pub hop : ℕ
  pub unmapped_channel : ℕ

-- `adv` and `conn` have a meaning in their own mode only; the reply to a scan request has one in every mode
pub record State : Type 0 where
  pub mode : Mode
  pub dev_addr : DeviceAddress
  pub scan_response : PduBuf
  pub adv : Advertisement
  pub conn : Connection

abbrev pub in_mode : Mode → State → State
in_mode m d = record { mode = m; dev_addr = d.dev_addr; scan_response = d.scan_response; adv = d.adv; conn = d.conn }

abbrev pub with_adv : Advertisement → State → State
with_adv a d = record { mode = d.mode; dev_addr = d.dev_addr; scan_response = d.scan_response; adv = a; conn = d.conn }

abbrev pub with_conn : Connection → State → State
with_conn c d = record { mode = d.mode; dev_addr = d.dev_addr; scan_response = d.scan_response; adv = d.adv; conn = c }

abbrev pub with_reply : PduBuf → State → State
with_reply pdu d = record { mode = d.mode; dev_addr = d.dev_addr; scan_response = pdu; adv = d.adv; conn = d.conn }

pub record Step : Type 0 where
  pub answer : Result Answer Error
  pub state : State
