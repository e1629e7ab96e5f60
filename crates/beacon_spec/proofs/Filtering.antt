-- What a filter's answer says, and what is scanned by it. Assumes nothing.
use Rattle.std.proofs.Common.{◌≡◌, ℕ, ◌/◌, Bool, true, false, cond, eqb, List, length, refl, sym, ap, ◌∙◌}
use Rattle.std.specs.Bool.{then_some}
use Rattle.std.specs.Prelude.{Some, None, Ok, Err}
use Rattle.octets.specs.declared.error.Error.{Error}
use Rattle.octets.specs.declared.error.Error.TheVariants.{InvalidValue}
use Rattle.addresses.proofs.Boxes.{types}
use Rattle.addresses.specs.Filter.{any, entry_is, is_list, whitelisted, matches_of}
use Rattle.addresses.specs.Header.{is_beacon, pdu_type}
use Rattle.addresses.specs.declared.device_address.DeviceAddress.{DeviceAddress}
use Rattle.addresses.specs.declared.filter.AddressFilter.{AddressFilter}
use Rattle.addresses.specs.declared.filter.AddressFilter.TheVariants.{AllowAll, Whitelist}
use Rattle.addresses.specs.declared.header.Header.{Header}
use Rattle.beacon_spec.specs.Scanner.{is_list_for, is_pass, passes, sighted, scanned}
use Rattle.beacon_spec.specs.State.{BeaconScanner}
use Rattle.beacon_spec.specs.declared.beacon.Sighting.{Sighting}

-- a beacon's type is type 2
pub beacon_type : (n : ℕ) → is_beacon (pdu_type n) ≡ eqb n 2
beacon_type n = (types n).beacon

-- what a filter answers, by whether it has its list and whether it passes
pub matches_is : (f : AddressFilter) (list : List ℕ) (a : DeviceAddress)
    → matches_of f list a ≡ cond (is_list_for f list) (Ok (passes f list a)) (Err InvalidValue)
unfolding whitelisted
matches_is AllowAll list a = refl
matches_is Whitelist list a = go (is_list list)
  where
    go : (t : Bool)
        → cond t (Ok (any (entry_is list a) (length list / 7))) (Err InvalidValue)
        ≡ cond t (Ok (is_pass (cond t (Ok (any (entry_is list a) (length list / 7))) (Err InvalidValue)))) (Err InvalidValue)
    go true = refl
    go false = refl

-- an answer that is no refusal, and one that is
pub told : (l q b : Bool) → cond l (Ok q) (Err InvalidValue) ≡ Ok b → (l ≡ true) × (q ≡ b)
told true q b e = (refl, cc)
told false q b e = (cc)

pub told_refused : (l q : Bool) (e : Error) → cond l (Ok q) (Err InvalidValue) ≡ Err e → (l ≡ false) × (InvalidValue ≡ e)
told_refused true q e is = (cc)
told_refused false q e is = (refl, cc)

-- what is reported by what the filter answers for an address: that of what was heard, or any where there is none
module _ (s : BeaconScanner) (h : Header) (p : List ℕ) (crcOk : Bool) (list : List ℕ) where
  pub filter_refused : (a : DeviceAddress) (e : Error) → matches_of s.filter.scan list a ≡ Err e → (scanned s h p crcOk list).report ≡ Err e
  unfolding scanned
  filter_refused a e answer =
      let says = told_refused (is_list_for s.filter.scan list) (passes s.filter.scan list a) e (sym (matches_is s.filter.scan list a) ∙ answer) in
      rw says.0 (ap Err says.1)

  pub none_heard : (a : DeviceAddress) (b : Bool) → None ≡ sighted h p crcOk → matches_of s.filter.scan list a ≡ Ok b → (scanned s h p crcOk list).report ≡ Ok None
  unfolding scanned
  none_heard a b is answer =
      let says = told (is_list_for s.filter.scan list) (passes s.filter.scan list a) b (sym (matches_is s.filter.scan list a) ∙ answer) in
      rw (says.0, ← is)

  pub filtered : (x : Sighting) (b : Bool) → Some x ≡ sighted h p crcOk → matches_of s.filter.scan list x.sender ≡ Ok b
      → (scanned s h p crcOk list).report ≡ Ok (then_some b x)
  unfolding scanned
  filtered x b is answer =
      let says = told (is_list_for s.filter.scan list) (passes s.filter.scan list x.sender) b (sym (matches_is s.filter.scan list x.sender) ∙ answer) in
      rw (says.0, ← is, says.1)
