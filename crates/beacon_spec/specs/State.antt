-- A beacon, a scanner, and what their calls return. The structs of these names in beacon are read as these records (specs/State.antt there); a beacon and a scanner
-- have private fields.
--   Beacon          == what is sent of a beacon: one PDU, built once
--   Refusal         == why no beacon was made of an address and records, and the beacon of the address without records
--   BeaconScanner   == a scanner: its filter, its interval in µs, and the channel that it listens on
--   Updated         == a scanner that listens, and what the radio is to do for it
--   Report          == a beacon that was heard, or none; or the refusal of a malformed filter list
--   Scanned         == what a packet gives
use Rattle.std.specs.Prelude.{ℕ, Option, Result}
use Rattle.channels.specs.declared.phy.AdvertisingChannel.{AdvertisingChannel}
use Rattle.addresses.specs.declared.filter.ScanFilter.{ScanFilter}
use Rattle.advertising.specs.declared.pdu_buf.PduBuf.{PduBuf}
use Rattle.beacon_spec.specs.declared.beacon.Cmd.{Cmd}
use Rattle.beacon_spec.specs.declared.beacon.Sighting.{Sighting}
use Rattle.octets.specs.declared.error.Error.{Error}

pub record Beacon : Type 0 where
  pub pdu : PduBuf

pub record Refusal : Type 0 where
  pub error : Error
  pub bare : Beacon

pub record BeaconScanner : Type 0 where
  pub filter : ScanFilter
  pub interval : ℕ
  pub channel : AdvertisingChannel

pub record Updated : Type 0 where
  pub scanner : BeaconScanner
  pub cmd : Cmd

abbrev pub Report : Type 0
Report = Result (Option Sighting) Error

-- a report, and the channel to keep listening on
pub record Scanned : Type 0 where
  pub report : Report
  pub channel : AdvertisingChannel
