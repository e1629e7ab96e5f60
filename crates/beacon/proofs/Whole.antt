-- Reading beacons, scanners and what their calls return as records leaves nothing out (`whole`) and changes nothing that callers see (`as_it_is`). Assumes nothing.
use mathlib.Core.Path.{◌≡◌, refl, sym, ap, ◌∙◌}
use Rattle.std.specs.Prelude.{Result, Ok, Err}
use Rattle.beacon_spec.specs.State as spec
use Rattle.beacon.specs.State.{made_step, Whole, AsItIs}
use Rattle.beacon.specs.declared.beacon.Beacon.{Beacon}
use Rattle.beacon.specs.declared.beacon.BeaconScanner.{BeaconScanner}
use Rattle.beacon.specs.declared.beacon.Refusal.{Refusal}
use Rattle.beacon.specs.declared.beacon.Scanned.{Scanned}
use Rattle.beacon.specs.declared.beacon.Updated.{Updated}

-- what is read as a record, from that record
abbrev beacon_of : spec.Beacon → Beacon
beacon_of b = record { pdu = b.pdu }

abbrev refusal_of : spec.Refusal → Refusal
refusal_of r = record { error = r.error; bare = beacon_of r.bare }

abbrev made_of : Result spec.Beacon spec.Refusal → Result Beacon Refusal
made_of (Ok b) = Ok (beacon_of b)
made_of (Err r) = Err (refusal_of r)

made_back : (r : Result Beacon Refusal) → made_of (made_step r) ≡ r
made_back (Ok b) = refl
made_back (Err r) = refl

abbrev scanner_of : spec.BeaconScanner → BeaconScanner
scanner_of s = record { filter = s.filter; interval = s.interval; channel = s.channel }

abbrev updated_of : spec.Updated → Updated
updated_of r = record { scanner = scanner_of r.scanner; cmd = r.cmd }

abbrev scanned_of : spec.Scanned → Scanned
scanned_of r = record { report = r.report; channel = r.channel }

pub whole : Whole
whole =
    record {
      made = λ a b same. sym (made_back a) ∙ ap made_of same ∙ made_back b;
      refusal = λ a b same. ap refusal_of same;
      beacon = λ a b same. ap beacon_of same;
      scanner = λ a b same. ap scanner_of same;
      updated = λ a b same. ap updated_of same;
      scan = λ a b same. ap scanned_of same;
    }

pub as_it_is : AsItIs
as_it_is =
    record {
      refusal = λ r. refl;
      error = λ r. refl;
      bare = λ r. refl;
      beacon = λ b. refl;
      cmd = λ r. refl;
      scanner = λ r. refl;
      report = λ r. refl;
      area = λ x. refl;
      no_sighting = refl;
      no_report = λ e. refl;
      channel = λ r. refl;
    }
