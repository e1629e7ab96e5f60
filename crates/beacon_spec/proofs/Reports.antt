-- A scanner reports a packet exactly if all checks pass: `reports`; what a report says: `report_says`. Assumes nothing.
use Rattle.std.proofs.Common.{◌≡◌, ℕ, ◌+◌, ◌*◌, ◌≤◌, Bool, true, false, cond, ◌&&◌, List, length, get_or, take, drop, refl, sym, ap, ◌∙◌, subst, inl, inr, arith, Bor, eq-eqb, eqb-true}
use lib.Seq.{take-length}
use Rattle.std.specs.Bool.{then_some}
use Rattle.std.specs.Prelude.{Option, Some, None, Result, Ok, Err}
use Rattle.octets.proofs.Places.{both_true, enough}
use Rattle.octets.specs.declared.error.Error.{Error}
use Rattle.octets.specs.declared.error.Error.TheVariants.{InvalidValue}
use Rattle.records_spec.specs.HubReading.{read_padded}
use Rattle.addresses.proofs.Entries.{listed}
use Rattle.addresses.specs.Address.{kind_of, address_of}
use Rattle.addresses.specs.Filter.{is_list, matches_of}
use Rattle.addresses.specs.Header.{header_bits, pdu_type, type_of, tx_add, length_of, allows_adv_data}
use Rattle.addresses.specs.declared.device_address.DeviceAddress.{DeviceAddress}
use Rattle.addresses.specs.declared.filter.AddressFilter.{AddressFilter}
use Rattle.addresses.specs.declared.filter.AddressFilter.TheVariants.{AllowAll, Whitelist}
use Rattle.addresses.specs.declared.header.Header.{Header}
use Rattle.addresses.specs.declared.header.PduType.TheVariants.{AdvNonconnInd}
use Rattle.advertising.proofs.Accepting.{accepting_heard, record_area_heard}
use Rattle.advertising.proofs.Figures.{field_is, behind, long}
use Rattle.advertising.proofs.Padded.{heard}
use Rattle.advertising.specs.Laws.{ShapedBy, with_records_law, two_addresses, with_lldata}
use Rattle.advertising.specs.Pdu.{no_address, data_in, data_place, as_hub, heard_of, octets_taken, counted}
use Rattle.advertising.specs.declared.pdu.Pdu.{Pdu}
use Rattle.beacon_spec.specs.Laws as laws
use Rattle.beacon_spec.specs.Laws.{Lets, ScannerChecks, Reports, Located, BadList, Unfiltered, ReportSays}
use Rattle.beacon_spec.specs.Scanner.{open_scanner, is_list_for, is_pass, passes, is_type2, sighting_of, sighting_in, sighted, let_through, scanned, report_number, is_report}
use Rattle.beacon_spec.specs.State.{BeaconScanner, Report, Scanned}
use Rattle.beacon_spec.specs.declared.beacon.Sighting.{Sighting}
use Rattle.beacon_spec.proofs.Filtering.{matches_is, told}

-- a filter that passes an address lets it, and the other way
lets : (f : AddressFilter) (list : List ℕ) (a : DeviceAddress) → passes f list a ≡ true → Lets f list a
lets AllowAll list a e = laws.all
lets Whitelist list a e = go (matches_of Whitelist list a) refl e
  where
    go : (m : Result Bool Error) → matches_of Whitelist list a ≡ m → is_pass m ≡ true → Lets Whitelist list a
    go (Ok true) is ok =
        laws.listed (told (is_list_for Whitelist list) (passes Whitelist list a) true (sym (matches_is Whitelist list a) ∙ is)).0 ((listed list a).sound is)
    go (Ok false) is ok = (cc)
    go (Err e) is ok = (cc)

lets_list : {f : AddressFilter} {list : List ℕ} {a : DeviceAddress} → Lets f list a → is_list_for f list ≡ true
lets_list laws.all = refl
lets_list (laws.listed is entry) = is

lets_passes : {f : AddressFilter} {list : List ℕ} {a : DeviceAddress} → Lets f list a → passes f list a ≡ true
lets_passes laws.all = refl
lets_passes {list = list} {a = a} (laws.listed is entry) = ap is_pass ((listed list a).complete is entry)

-- what a PDU says of a payload that is an address and records
pub record Says (h : Header) (p : List ℕ) (d : Pdu) : Type 0 where
  pub sender : d.sender ≡ address_of (take 6 p) (kind_of (tx_add h))
  pub records : data_in d.adv_data p ≡ drop 6 p
  pub size : length p ≡ 6 + length (drop 6 p)

-- the number of records and the octets that they took
abbrev counts_in : Result (Pdu × ℕ) Error → Result (ℕ × ℕ) Error
counts_in (Ok (d, taken)) = Ok (d.adv_data.count, taken)
counts_in (Err e) = Err e

module _ (h : Header) (p : List ℕ) where
  -- the type of a PDU is its header's
  pub same_type : (d : Pdu) → ShapedBy as_hub h p d → type_of h ≡ d.ty
  same_type d (with_records_law ty advA records n is allows fig good e) = is ∙ ap (λ (x : Pdu). x.ty) (sym e)
  same_type d (two_addresses ty first second further is which fig e) = is ∙ ap (λ (x : Pdu). x.ty) (sym e)
  same_type d (with_lldata initA advA aa crcInit winSize winOffset interval latency timeout chM hopSca further is fig e) = is ∙ ap (λ (x : Pdu). x.ty) (sym e)

  holds : (d : Pdu) → type_of h ≡ AdvNonconnInd → ShapedBy as_hub h p d → Says h p d
  holds d type_2 (with_records_law ty advA records n is allows fig good e) =
      let first : take 6 p ≡ advA = field_is fig 0 in
      let rest : drop 6 p ≡ records = behind fig in
      record {
        sender = ap (λ (x : Pdu). x.sender) e ∙ ap (λ (l : List ℕ). address_of l (kind_of (tx_add h))) (sym first);
        records = ap (λ (x : Pdu). data_in x.adv_data p) e ∙ rw (enough (length records) p 6 (omega (arith, long fig)), rest) (take-length records);
        size = rw rest (long fig);
      }
  holds d type_2 (two_addresses ty first second further is (inl which) fig e) = (cc)
  holds d type_2 (two_addresses ty first second further is (inr which) fig e) = (cc)
  holds d type_2 (with_lldata initA advA aa crcInit winSize winOffset interval latency timeout chM hopSca further is fig e) = (cc)

  pub holds_decoded : (d : Pdu) → type_of h ≡ AdvNonconnInd → heard_of h p ≡ Ok d → Says h p d
  holds_decoded d type_2 ok = holds d type_2 ((accepting_heard h p).sound d ok).1

  -- what is heard of a beacon is what the hub reads after the address
  read_heard : (d : Pdu) → type_of h ≡ AdvNonconnInd → heard_of h p ≡ Ok d → read_padded (drop 6 p) ≡ Ok (d.adv_data.count, octets_taken d.adv_data p)
  read_heard d type_2 ok = go (read_padded (drop 6 p)) refl
    where
      counts : length_of h ≡ length p
      counts = ((accepting_heard h p).sound d ok).0

      long_enough : 6 ≤ length p
      long_enough = omega (arith, (holds_decoded d type_2 ok).size)

      go : (a : Result (ℕ × ℕ) Error) → read_padded (drop 6 p) ≡ a → a ≡ Ok (d.adv_data.count, octets_taken d.adv_data p)
      go (Ok (n, taken)) is = ap counts_in (sym ((heard h p).accepted n taken (ap allows_adv_data type_2) counts long_enough is) ∙ ap (counted p) ok)
      go (Err e) is = ap counts_in (sym ((heard h p).refused e (ap allows_adv_data type_2) counts long_enough is) ∙ ap (counted p) ok)

pub type_is : (n : ℕ) → n ≡ 2 → pdu_type n ≡ AdvNonconnInd
unfolding pdu_type
type_is n e = rw e

module _ (h : Header) (p : List ℕ) (crcOk : Bool) where
  -- a packet that all checks pass, save the filter
  record Seen (x : Sighting) : Type 0 where
    crc : crcOk ≡ true
    type_2 : header_bits 0 4 h ≡ 2
    pdu : Pdu
    decoding : heard_of h p ≡ Ok pdu
    is : x ≡ sighting_of pdu (octets_taken pdu.adv_data p)

  seen : (x : Sighting) → sighted h p crcOk ≡ Some x → Seen x
  unfolding sighted
  seen x = go (crcOk && is_type2 h) refl (heard_of h p) refl
    where
      go : (b : Bool) → (crcOk && is_type2 h) ≡ b → (r : Result Pdu Error) → heard_of h p ≡ r → cond b (sighting_in (counted p r)) None ≡ Some x → Seen x
      go true e (Ok d) is same =
          let parts = both_true crcOk (is_type2 h) e in
          record { crc = parts.0; type_2 = eqb-true (header_bits 0 4 h) 2 parts.1; pdu = d; decoding = is; is = (cc) }
      go true e (Err r) is same = (cc)
      go false e r is same = (cc)

module _ (s : BeaconScanner) (h : Header) (p : List ℕ) (crcOk : Bool) (list : List ℕ) where
  abbrev f : AddressFilter
  f = s.filter.scan

  -- what a report tells, by whether there is a list, and by what was heard
  abbrev report_by : Bool → Option Sighting → Report
  report_by l t = cond l (Ok (let_through f list t)) (Err InvalidValue)

  -- a sighting that the filter passes
  record Passed (x : Sighting) : Type 0 where
    seen_law : Seen h p crcOk x
    filter : passes f list x.sender ≡ true

  checks : (x : Sighting) → Passed x → ScannerChecks f h p crcOk list
  checks x passed =
      let its = passed.seen_law in
      record {
        crc = its.crc;
        type_2 = its.type_2;
        pdu = its.pdu;
        decoding = its.decoding;
        filter = lets f list its.pdu.sender (ap (λ (y : Sighting). passes f list y.sender) (sym its.is) ∙ passed.filter);
      }

  passed_is : (x : Sighting) → (scanned s h p crcOk list).report ≡ Ok (Some x) → Passed x
  unfolding scanned
  passed_is x = go (is_list_for f list) (sighted h p crcOk) refl
    where
      whole : (b : Bool) (y : Sighting) → passes f list y.sender ≡ b → sighted h p crcOk ≡ Some y → ◌≡◌ {A = Report} (Ok (then_some b y)) (Ok (Some x)) → Passed x
      whole true y passes_law is same =
          let one : y ≡ x = cc in
          subst Passed one (record { seen_law = seen h p crcOk y is; filter = passes_law })
      whole false y passes_law is same = (cc)

      go : (l : Bool) (t : Option Sighting) → sighted h p crcOk ≡ t → report_by l t ≡ Ok (Some x) → Passed x
      go true (Some y) is same = whole (passes f list y.sender) y refl is same
      go true None is same = (cc)
      go false t is same = (cc)

  sighted_is : (c : ScannerChecks f h p crcOk list) → sighted h p crcOk ≡ Some (sighting_of c.pdu (octets_taken c.pdu.adv_data p))
  unfolding sighted
  sighted_is c = rw (c.crc, eq-eqb (header_bits 0 4 h) 2 c.type_2, c.decoding)

  pub complete : (c : ScannerChecks f h p crcOk list)
      → scanned s h p crcOk list ≡ record { report = Ok (Some (sighting_of c.pdu (octets_taken c.pdu.adv_data p))); channel = s.channel }
  unfolding scanned
  complete c = rw (lets_list c.filter, sighted_is c, lets_passes c.filter)

  nothing : is_list_for f list ≡ true → (ScannerChecks f h p crcOk list → ⊥) → scanned s h p crcOk list ≡ record { report = Ok None; channel = s.channel }
  unfolding scanned
  nothing l fails = rw l (ap (λ (t : Option Sighting). record { report = Ok t; channel = s.channel }) (go (sighted h p crcOk) refl))
    where
      none : (b : Bool) (y : Sighting) → passes f list y.sender ≡ b → sighted h p crcOk ≡ Some y → then_some b y ≡ None
      none true y passes_law is = absurd (fails (checks y (record { seen_law = seen h p crcOk y is; filter = passes_law })))
      none false y passes_law is = refl

      go : (t : Option Sighting) → sighted h p crcOk ≡ t → let_through f list t ≡ None
      go (Some y) is = none (passes f list y.sender) y refl is
      go None is = refl

  -- the tests of a list
  list_is : (l : Bool) → is_list_for f list ≡ l → report_number (scanned s h p crcOk list).report ≡ cond l 0 3
  unfolding scanned
  list_is true e = rw e
  list_is false e = rw e

  no_list : f ≡ Whitelist → (is_list list ≡ true → ⊥) → is_list_for f list ≡ false
  no_list is fails = rw is (go (is_list list) refl)
    where
      go : (t : Bool) → is_list list ≡ t → t ≡ false
      go true e = absurd (fails e)
      go false e = refl

  a_list : (g : AddressFilter) → is_list list ≡ true → is_list_for g list ≡ true
  a_list AllowAll e = refl
  a_list Whitelist e = e

  pub bad_list : BadList s h p crcOk list
  bad_list =
      record {
        size = λ is odd. list_is false (no_list is (λ e. odd ((listed list no_address).tested e).0));
        kind = λ is i inside above.
            list_is false (no_list is (λ e. let low : get_or list (7 * i) 0 ≤ 1 = ((listed list no_address).tested e).1 i inside in omega arith));
        good = λ size kinds. list_is true (a_list f ((listed list no_address).whole size kinds));
        unasked = λ is. list_is true (ap (λ (g : AddressFilter). is_list_for g list) is);
      }

  pub reports : Reports s h p crcOk list
  unfolding scanned sighted
  reports =
      record {
        sound = λ x e. checks x (passed_is x e);
        complete = complete;
        nothing = nothing;
        refused = λ l. rw l;
        number = list_is (is_list_for f list) refl;
        sender = λ x e.
            let its = (passed_is x e).seen_law in
            ap (λ (y : Sighting). y.sender) its.is ∙ (holds_decoded h p its.pdu (type_is (header_bits 0 4 h) its.type_2) its.decoding).sender;
        records = λ x e.
            let its = (passed_is x e).seen_law in
            ap (λ (y : Sighting). data_in y.adv_data p) its.is ∙ (holds_decoded h p its.pdu (type_is (header_bits 0 4 h) its.type_2) its.decoding).records;
        number_of_records = λ x e.
            let its = (passed_is x e).seen_law in
            read_heard h p its.pdu (type_is (header_bits 0 4 h) its.type_2) its.decoding ∙ ap (λ (y : Sighting). Ok (y.adv_data.count, y.taken)) (sym its.is);
        heard = λ n taken crc type counts long_enough is lets_law.
            rw (
              lets_list lets_law,
              crc,
              eq-eqb (header_bits 0 4 h) 2 type,
              (heard h p).accepted n taken (ap allows_adv_data (type_is (header_bits 0 4 h) type)) counts long_enough is,
              lets_passes lets_law,
            );
      }

module _ (h : Header) (p : List ℕ) (crcOk : Bool) (list : List ℕ) where
  -- of a filter that accepts all nothing is left to test
  open_same : (s : BeaconScanner) → s.filter.scan ≡ AllowAll → (scanned s h p crcOk list).report ≡ Ok (sighted h p crcOk)
  unfolding scanned
  open_same s is = rw is (go (sighted h p crcOk))
    where
      go : (t : Option Sighting) → ◌≡◌ {A = Report} (Ok (let_through AllowAll list t)) (Ok t)
      go (Some x) = refl
      go None = refl

  pub without_filter : Unfiltered h p crcOk list
  unfolding sighted
  without_filter =
      record {
        all_pass = λ d type ok. ap (λ (x : Scanned). is_report x.report) (complete open_scanner h p true list (record { crc = refl; type_2 = type; pdu = d; decoding = ok; filter = laws.all }));
        checked = open_same;
        decoded = λ type. rw (eq-eqb (header_bits 0 4 h) 2 type);
      }

pub located : (s : BeaconScanner) (h : Header) (p : Bor (List ℕ)) (crcOk : Bool) (list : List ℕ) → Located s h p crcOk list
located s h p crcOk list =
    record {
      place = λ x e.
          let its = (passed_is s h p.now crcOk list x e).seen_law in
          let allows : allows_adv_data (type_of h) ≡ true = ap allows_adv_data (type_is (header_bits 0 4 h) its.type_2) in
          ap (λ (y : Sighting). data_place y.adv_data p) its.is ∙ (record_area_heard h p).place its.pdu allows its.decoding;
    }

pub report_says : (r : Report) → ReportSays r
report_says r = record { reported = reported r; reported_if = λ x is. ap is_report is; refused = λ e is. ap report_number is; accepted = accepted r }
  where
    reported : (r : Report) → is_report r ≡ true → (x : Sighting) × (r ≡ Ok (Some x))
    reported (Ok (Some x)) same = (x, refl)
    reported (Ok None) same = (cc)
    reported (Err e) same = (cc)

    accepted : (r : Report) → ((e : Error) → r ≡ Err e → ⊥) → report_number r ≡ 0
    accepted (Ok x) none_refused = refl
    accepted (Err e) none_refused = absurd (none_refused e refl)
