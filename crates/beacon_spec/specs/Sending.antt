-- What making and sending a beacon answers (document 01, beacon.rs): one type 2 PDU, its payload written once, its header transmitted on 37, 38 and 39.
--   bare_beacon a        == the beacon of an address without records
--   beacon_in bare p     == the beacon of a PDU that was built, or the refusal with the beacon `bare` beside it
--   beacon_of a s        == what `Beacon::new` answers
--   to_send r            == what can be sent of that answer
--   broadcast_of b tx    == what `broadcast` answers: the header, and the channels to transmit it on in turn
use Rattle.std.specs.Prelude.{cond, List, [], ℕ, length, Result, Ok, Err}
use Rattle.std.specs.Result.{result_unwrap_or}
use Rattle.octets.specs.Bytes.{has}
use Rattle.octets.specs.declared.error.Error.{Error}
use Rattle.octets.specs.declared.error.Error.TheVariants.{Eof}
use Rattle.channels.specs.Phy.{ascending}
use Rattle.channels.specs.declared.phy.AdvertisingChannel.{AdvertisingChannel}
use Rattle.addresses.specs.declared.device_address.DeviceAddress.{DeviceAddress}
use Rattle.addresses.specs.declared.header.Header.{Header}
use Rattle.advertising.specs.PduBuf.{beacon_pdu, empty_buf, payload_of}
use Rattle.advertising.specs.declared.pdu_buf.PduBuf.{PduBuf}
use Rattle.beacon_spec.specs.State.{Beacon, Refusal}

abbrev pub bare_beacon : DeviceAddress → Beacon
bare_beacon a = record { pdu = result_unwrap_or (beacon_pdu a []) empty_buf }

abbrev pub beacon_in : Beacon → Result PduBuf Error → Result Beacon Refusal
beacon_in bare (Ok p) = Ok (record { pdu = p })
beacon_in bare (Err e) = Err (record { error = e; bare = bare })

-- the beacon of an address and records; beside a refusal the one without records, so that whatever can be sent is type 2
abbrev pub beacon_of : DeviceAddress → List ℕ → Result Beacon Refusal
beacon_of a s = beacon_in (bare_beacon a) (beacon_pdu a s)

abbrev pub to_send : Result Beacon Refusal → Beacon
to_send (Ok b) = b
to_send (Err r) = r.bare

-- document 01: a transmit buffer shorter than the payload is 1
abbrev pub broadcast_of : Beacon → List ℕ → Result (Header × List AdvertisingChannel) Error
broadcast_of b tx = cond (has (length (payload_of b.pdu)) tx 0) (Ok (b.pdu.header, ascending)) (Err Eof)
