-- Reading a device as a state, and what a call returns as a step, leaves nothing out (`whole`) and changes nothing that callers see (`as_it_is`). Assumes nothing.
use mathlib.Core.Path.{refl, ap}
use Rattle.radio_spec.specs.State as spec
use Rattle.radio.specs.State.{Whole, AsItIs}
use Rattle.radio.specs.declared.link.Called.{Called}
use Rattle.radio.specs.declared.link.Device.{Device}

-- the device of a state
abbrev device_of : spec.State → Device
device_of s =
    record {
      mode = s.mode;
      dev_addr = s.dev_addr;
      scan_response = s.scan_response;
      adv = record { next_adv = s.adv.next_adv; interval = s.adv.interval; pdu = s.adv.pdu; channel = s.adv.channel };
      conn = record { channel_map = s.conn.channel_map; hop = s.conn.hop; unmapped_channel = s.conn.unmapped_channel };
    }

abbrev called_of : spec.Step → Called
called_of s = record { answer = s.answer; device = device_of s.state }

pub whole : Whole
whole = record { device = λ a b same. ap device_of same; called = λ a b same. ap called_of same }

pub as_it_is : AsItIs
as_it_is = record { answer = λ r. refl; device = λ r. refl }
