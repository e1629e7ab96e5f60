-- A device of src/link.rt read as a state of the specification, and what a call of it returns as a step: the contracts there say of each call which step it is,
-- by `start_of`, `tick_of` .. of radio_spec, whose `trace` and `Demand3` speak of states and steps.
--   advertisement, connection   == what a device keeps for its ticks and its events
--   state d                     == the state of the device d
--   step r                      == the answer of a call, and the state of the device after it
--   Whole                       == nothing is left out: what is read as the same is the same
--   AsItIs                      == what callers see is read as it is: a call's answer, and the device after it as that device's state
use Rattle.std.specs.Prelude.{◌≡◌}
use Rattle.radio_spec.specs.State as spec
use Rattle.radio.specs.declared.link.Advertisement.{Advertisement}
use Rattle.radio.specs.declared.link.Called.{Called}
use Rattle.radio.specs.declared.link.Connection.{Connection}
use Rattle.radio.specs.declared.link.Device.{Device}

abbrev pub advertisement : Advertisement → spec.Advertisement
advertisement a = record { next_adv = a.next_adv; interval = a.interval; pdu = a.pdu; channel = a.channel }

abbrev pub connection : Connection → spec.Connection
connection c = record { channel_map = c.channel_map; hop = c.hop; unmapped_channel = c.unmapped_channel }

abbrev pub state : Device → spec.State
state d =
    record {
      mode = d.mode;
      dev_addr = d.dev_addr;
      scan_response = d.scan_response;
      adv = advertisement d.adv;
      conn = connection d.conn;
    }

abbrev pub step : Called → spec.Step
step r = record { answer = r.answer; state = state r.device }

-- a device has no field that its state does not show, and a call returns nothing that its step does not show
pub record Whole : Type 0 where
  pub device : (a b : Device) → state a ≡ state b → a ≡ b
  pub called : (a b : Called) → step a ≡ step b → a ≡ b

pub record AsItIs : Type 0 where
  pub answer : (r : Called) → (step r).answer ≡ r.answer
  pub device : (r : Called) → (step r).state ≡ state r.device
