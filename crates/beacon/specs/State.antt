-- Beacons, scanners and what their calls return, read as records of the specification: the contracts of src/beacon.rt say of each which record it is.
--   beacon_state b, scanner_state s   == the beacon b and the scanner s, whose fields are private
--   refusal_state r                  == a refusal of `Beacon::new`, with the beacon beside it
--   made_step, update_step, scan_step  == what making a beacon, an update and a packet return
--   data_of r                       == where the record area of a reported beacon lies, no part where none is reported
--   Whole                           == nothing is left out: what is read as the same is the same
--   AsItIs                          == what callers see is read as it is: refusals with the beacon beside them, commands, reports with the place of their records, and all that stands beside them
use Rattle.std.specs.Prelude.{◌≡◌, Some, None, Result, Ok, Err}
use Rattle.octets.specs.declared.error.Error.{Error}
use Rattle.advertising.specs.Pdu.{no_data}
use Rattle.advertising.specs.declared.pdu.AdvData.{AdvData}
use Rattle.beacon_spec.specs.State as spec
use Rattle.beacon_spec.specs.declared.beacon.Sighting.{Sighting}
use Rattle.beacon.specs.declared.beacon.Beacon.{Beacon}
use Rattle.beacon.specs.declared.beacon.BeaconScanner.{BeaconScanner}
use Rattle.beacon.specs.declared.beacon.Refusal.{Refusal}
use Rattle.beacon.specs.declared.beacon.Scanned.{Scanned}
use Rattle.beacon.specs.declared.beacon.Updated.{Updated}

abbrev pub beacon_state : Beacon → spec.Beacon
beacon_state b = record { pdu = b.pdu }

abbrev pub refusal_state : Refusal → spec.Refusal
refusal_state r = record { error = r.error; bare = beacon_state r.bare }

abbrev pub made_step : Result Beacon Refusal → Result spec.Beacon spec.Refusal
made_step (Ok b) = Ok (beacon_state b)
made_step (Err r) = Err (refusal_state r)

abbrev pub scanner_state : BeaconScanner → spec.BeaconScanner
scanner_state s = record { filter = s.filter; interval = s.interval; channel = s.channel }

abbrev pub update_step : Updated → spec.Updated
update_step r = record { scanner = scanner_state r.scanner; cmd = r.cmd }

abbrev pub scan_step : Scanned → spec.Scanned
scan_step r = record { report = r.report; channel = r.channel }

abbrev pub data_of : spec.Report → AdvData
data_of (Ok (Some x)) = x.adv_data
data_of (Ok None) = no_data
data_of (Err e) = no_data

pub record Whole : Type 0 where
  pub made : (a b : Result Beacon Refusal) → made_step a ≡ made_step b → a ≡ b
  pub refusal : (a b : Refusal) → refusal_state a ≡ refusal_state b → a ≡ b
  pub beacon : (a b : Beacon) → beacon_state a ≡ beacon_state b → a ≡ b
  pub scanner : (a b : BeaconScanner) → scanner_state a ≡ scanner_state b → a ≡ b
  pub updated : (a b : Updated) → update_step a ≡ update_step b → a ≡ b
  pub scan : (a b : Scanned) → scan_step a ≡ scan_step b → a ≡ b

pub record AsItIs : Type 0 where
  pub refusal : (r : Refusal) → made_step (Err r) ≡ Err (refusal_state r)
  pub error : (r : Refusal) → (refusal_state r).error ≡ r.error
  pub bare : (r : Refusal) → (refusal_state r).bare ≡ beacon_state r.bare
  pub beacon : (b : Beacon) → made_step (Ok b) ≡ Ok (beacon_state b)
  pub cmd : (r : Updated) → (update_step r).cmd ≡ r.cmd
  pub scanner : (r : Updated) → (update_step r).scanner ≡ scanner_state r.scanner
  pub report : (r : Scanned) → (scan_step r).report ≡ r.report
  pub area : (x : Sighting) → data_of (Ok (Some x)) ≡ x.adv_data
  pub no_sighting : data_of (Ok None) ≡ no_data
  pub no_report : (e : Error) → data_of (Err e) ≡ no_data
  pub channel : (r : Scanned) → (scan_step r).channel ≡ r.channel
