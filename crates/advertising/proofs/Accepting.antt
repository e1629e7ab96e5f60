-- A header and a payload are accepted exactly if they have a shape of the Core: `accepting`; where the records then lie: `record_area`. Assumes nothing.
use Rattle.std.proofs.Common.{◌≡◌, ℕ, ◌+◌, ◌-◌, ◌*◌, ◌/◌, ◌%◌, ◌≤◌, Bool, true, false, cond, eqb, ltb, ◌⊎◌, List, [], ◌∷◌, ◌++◌, length, get_or, drop, sym, refl, ap, ◌∙◌, subst, inl, inr, append-nil, arith, length-drop, Bor, ltb-false, le-ltb, eq-eqb, eqb-true}
use mathlib.Core.List.{flatten}
use Rattle.addresses.specs.Address.{kind_of, address_of}
use Rattle.addresses.specs.Header.{type_of, tx_add, rx_add, length_of, allows_adv_data}
use Rattle.addresses.specs.declared.header.Header.{Header}
use Rattle.addresses.specs.declared.header.PduType.{PduType}
use Rattle.addresses.specs.declared.header.PduType.TheVariants.{AdvInd, AdvDirectInd, AdvNonconnInd, AdvScanInd, ScanReq, ScanRsp, ConnectReq, Unknown}
use Rattle.channels.specs.Map.{from_raw}
use Rattle.octets.proofs.PartOf.{part_is}
use Rattle.octets.specs.Bytes.{part, part_or, part_place, le}
use Rattle.octets.specs.declared.error.Error.{Error}
use Rattle.octets.specs.declared.error.Error.TheVariants.{Eof, InvalidLength}
use Rattle.records_spec.specs.Area.{read_area}
use Rattle.advertising.specs.Laws.{Figure, ShapedBy, with_records_law, two_addresses, with_lldata, AcceptingBy, Accepting, AcceptingHeard, RecordAreaBy, RecordArea, RecordAreaHeard, DataPart}
use Rattle.advertising.specs.Pdu.{undirected_figure, directed_figure, connect_figure, accuracy_of, request_of, no_request, no_address, no_data, sender_of, receiver_of, data_in, data_place, decoded_as, with_area, undirected, directed, connect_request, by_type, decode_by, Reading, as_hub}
use Rattle.advertising.specs.declared.pdu.AdvData.{AdvData}
use Rattle.advertising.specs.declared.pdu.Pdu.{Pdu}
use Rattle.advertising.proofs.Figures.{field_is, behind, long, cut_figure, request_is}
use Rattle.std.specs.Prelude.{Result, Ok, Err, is_err}

-- what is accepted was not refused
not_refused : {A : Type 0} (b : Bool) (e : Error) (r : Result A Error) (d : A) → cond b (Err e) r ≡ Ok d → b ≡ false
not_refused true e r d ok = absurd (let z : true ≡ false = ap is_err ok in cc)
not_refused false e r d ok = refl

passed : {A : Type 0} (b : Bool) (e : Error) (r : Result A Error) (d : A) → cond b r (Err e) ≡ Ok d → b ≡ true
passed true e r d ok = refl
passed false e r d ok = absurd (let z : true ≡ false = ap is_err ok in cc)

-- the PDU of an answer
abbrev pdu_in : (r : Pdu) → Result Pdu Error → Pdu
pdu_in other (Ok d) = d
pdu_in other (Err e) = other

-- a type with two addresses alone
abbrev is_directed : PduType → Type 0
is_directed ty = (ty ≡ AdvDirectInd) ⊎ (ty ≡ ScanReq)

-- a type with records is read as an address and records
pub arm_undirected : (reading : Reading) (ty : PduType) (h : Header) (p : List ℕ) → allows_adv_data ty ≡ true → by_type reading ty h p ≡ undirected reading ty h p
unfolding by_type
arm_undirected reading AdvInd h p e = refl
arm_undirected reading AdvNonconnInd h p e = refl
arm_undirected reading AdvScanInd h p e = refl
arm_undirected reading ScanRsp h p e = refl
arm_undirected reading AdvDirectInd h p e = (cc)
arm_undirected reading ScanReq h p e = (cc)
arm_undirected reading ConnectReq h p e = (cc)
arm_undirected reading (Unknown n) h p e = (cc)

module _ (reading : Reading) (h : Header) (p : List ℕ) where
  undirected_sound : (ty : PduType) (d : Pdu) → type_of h ≡ ty → allows_adv_data ty ≡ true → undirected reading ty h p ≡ Ok d → ShapedBy reading h p d
  unfolding undirected with_area
  undirected_sound ty d is allows ok =
      let enough = not_refused (ltb (length p) 6) Eof (with_area ty h p (reading (drop 6 p))) d ok in
      go (reading (drop 6 p)) refl (ltb-false (length p) 6 enough) (rw enough at ok)
    where
      go : (a : Result ℕ Error) → reading (drop 6 p) ≡ a → 6 ≤ length p → with_area ty h p a ≡ Ok d → ShapedBy reading h p d
      go (Ok n) e size ok =
          let rest : length p - 6 ≡ length (drop 6 p) = sym (length-drop 6 p) in
          with_records_law ty (part 6 p 0) (drop 6 p) n is allows (cut_figure undirected_figure p size) e (sym (ap (pdu_in d) ok) ∙ rw rest)
      go (Err r) e size ok = absurd (let z : true ≡ false = ap is_err ok in cc)

  directed_sound : (ty : PduType) (d : Pdu) → type_of h ≡ ty → is_directed ty → directed ty h p ≡ Ok d → ShapedBy reading h p d
  unfolding directed
  directed_sound ty d is which ok =
      let enough = not_refused (ltb (length p) 12) Eof (decoded_as ty (sender_of h p) (receiver_of h p) no_data no_request) d ok in
      two_addresses ty (part 6 p 0) (part 6 p 6) (drop 12 p) is which (cut_figure directed_figure p (ltb-false (length p) 12 enough)) (sym (ap (pdu_in d) (rw enough at ok)))

  connect_sound : (d : Pdu) → type_of h ≡ ConnectReq → connect_request h p ≡ Ok d → ShapedBy reading h p d
  unfolding connect_request
  connect_sound d is ok =
      let enough = not_refused (ltb (length p) 34) Eof (decoded_as ConnectReq (sender_of h p) (receiver_of h p) no_data (request_of p)) d ok in
      (with_lldata (part 6 p 0) (part 6 p 6) (part 4 p 12) (part 3 p 16) (part 1 p 19) (part 2 p 20) (part 2 p 22) (part 2 p 24) (part 2 p 26) (part 5 p 28) (part 1 p 33) (drop 34 p) is
      (cut_figure connect_figure p (ltb-false (length p) 34 enough))
      (sym (ap (pdu_in d) (rw enough at ok)) ∙ rw (request_is p)))

  by_type_law : (ty : PduType) (d : Pdu) → type_of h ≡ ty → by_type reading ty h p ≡ Ok d → ShapedBy reading h p d
  unfolding by_type
  by_type_law AdvInd d is ok = undirected_sound AdvInd d is refl ok
  by_type_law AdvDirectInd d is ok = directed_sound AdvDirectInd d is (inl refl) ok
  by_type_law AdvNonconnInd d is ok = undirected_sound AdvNonconnInd d is refl ok
  by_type_law AdvScanInd d is ok = undirected_sound AdvScanInd d is refl ok
  by_type_law ScanReq d is ok = directed_sound ScanReq d is (inr refl) ok
  by_type_law ScanRsp d is ok = undirected_sound ScanRsp d is refl ok
  by_type_law ConnectReq d is ok = connect_sound d is ok
  by_type_law (Unknown n) d is ok = absurd (let z : true ≡ false = ap is_err ok in cc)

  -- the arms of the types
  arm_directed : (ty : PduType) → is_directed ty → by_type reading ty h p ≡ directed ty h p
  unfolding by_type
  arm_directed ty (inl is) = rw is
  arm_directed ty (inr is) = rw is

  -- what the shapes decode to
  undirected_is : (ty : PduType) {advA records : List ℕ} {n : ℕ} → Figure undirected_figure (advA ∷ []) records p → reading records ≡ Ok n
      → undirected reading ty h p ≡ decoded_as ty (address_of advA (kind_of (tx_add h))) no_address (record { start = 6; len = length records; count = n }) no_request
  unfolding undirected with_area
  undirected_is ty {advA} {records} fig good =
      let size : length p - 6 ≡ length records = omega (arith, long fig) in
      rw (le-ltb (length p) 6 (omega (arith, long fig)), behind fig, good, size, field_is fig 0)

  directed_is : (ty : PduType) {first second further : List ℕ} → Figure directed_figure (first ∷ second ∷ []) further p
      → directed ty h p ≡ decoded_as ty (address_of first (kind_of (tx_add h))) (address_of second (kind_of (rx_add h))) no_data no_request
  unfolding directed
  directed_is ty fig = rw (le-ltb (length p) 12 (omega (arith, long fig)), field_is fig 0, field_is fig 1)

  connect_is : {initA advA aa crcInit winSize winOffset interval latency timeout chM hopSca further : List ℕ}
      → Figure connect_figure (initA ∷ advA ∷ aa ∷ crcInit ∷ winSize ∷ winOffset ∷ interval ∷ latency ∷ timeout ∷ chM ∷ hopSca ∷ []) further p
      → by_type reading ConnectReq h p
      ≡ decoded_as ConnectReq (address_of initA (kind_of (tx_add h))) (address_of advA (kind_of (rx_add h))) no_data (record {
        access_address = le aa;
        crc_init = le crcInit;
        win_size = le winSize * 1250;
        win_offset = le winOffset * 1250;
        interval = le interval * 1250;
        latency = le latency;
        timeout = le timeout * 10000;
        chm = from_raw chM;
        hop = le hopSca % 32;
        sca = accuracy_of (le hopSca / 32);
      })
  unfolding by_type connect_request
  connect_is fig =
      let at = field_is fig in
      rw (le-ltb (length p) 34 (omega (arith, long fig)), request_is p, at 0, at 1, at 2, at 3, at 4, at 5, at 6, at 7, at 8, at 9, at 10)

  complete : (d : Pdu) → length_of h ≡ length p → ShapedBy reading h p d → decode_by reading h p ≡ Ok d
  unfolding decode_by
  complete d counts (with_records_law ty advA records n is allows fig good e) =
      rw (eq-eqb (length_of h) (length p) counts, is) (arm_undirected reading ty h p allows ∙ undirected_is ty fig good ∙ ap Ok (sym e))
  complete d counts (two_addresses ty first second further is which fig e) =
      rw (eq-eqb (length_of h) (length p) counts, is) (arm_directed ty which ∙ directed_is ty fig ∙ ap Ok (sym e))
  complete d counts (with_lldata initA advA aa crcInit winSize winOffset interval latency timeout chM hopSca further is fig e) =
      rw (eq-eqb (length_of h) (length p) counts, is) (connect_is fig ∙ ap Ok (sym e))

accepting_by : (reading : Reading) (h : Header) (p : List ℕ) → AcceptingBy reading (decode_by reading) h p
unfolding decode_by
accepting_by reading h p =
    record {
      sound = λ d ok.
          let same = passed (eqb (length_of h) (length p)) InvalidLength (by_type reading (type_of h) h p) d ok in
          (eqb-true (length_of h) (length p) same, by_type_law reading h p (type_of h) d refl (rw same at ok));
      complete = complete reading h p;
    }

pub accepting : (h : Header) (p : List ℕ) → Accepting h p
accepting h p = accepting_by read_area h p

pub accepting_heard : (h : Header) (p : List ℕ) → AcceptingHeard h p
accepting_heard h p = accepting_by as_hub h p

module _ (reading : Reading) (h : Header) (p : Bor (List ℕ)) where
  -- the records of a payload, and their place
  record Lies (d : AdvData) : Type 0 where
    octets : data_in d p.now ≡ drop 6 p.now
    place : data_place d p ≡ (p.ref_ptr.0, p.ref_ptr.1 + 6)

  lies : (d : Pdu) → allows_adv_data (type_of h) ≡ true → ShapedBy reading h p.now d → Lies d.adv_data
  unfolding flatten
  lies d allows (with_records_law ty advA records n is allowed fig good e) =
      let size : length advA ≡ 6 = ap (λ (l : List ℕ). get_or l 0 0) fig.sizes in
      let tiles : p.now ≡ advA ++ (records ++ []) = fig.tiles ∙ rw (append-nil advA, append-nil records) in
      let part = (part_is p).there advA records [] tiles in
      let at : AdvData = record { start = 6; len = length records; count = n } in
      subst Lies (ap (λ (x : Pdu). x.adv_data) (sym e)) (record {
        octets = ap (λ (k : ℕ). part_or (length records) p.now k) (sym size) ∙ part.0 ∙ sym (behind fig);
        place = ap (λ (k : ℕ). part_place (length records) p k) (sym size) ∙ part.1 ∙ ap (λ (k : ℕ). (p.ref_ptr.0, p.ref_ptr.1 + k)) size;
      })
  lies d allows (two_addresses ty first second further is (inl which) fig e) =
      let none : allows_adv_data AdvDirectInd ≡ true = ap allows_adv_data (sym (is ∙ which)) ∙ allows in
      let z : ◌≡◌ {A = ℕ} 0 1 = cc in
      absurd (omega arith)
  lies d allows (two_addresses ty first second further is (inr which) fig e) =
      let none : allows_adv_data ScanReq ≡ true = ap allows_adv_data (sym (is ∙ which)) ∙ allows in
      let z : ◌≡◌ {A = ℕ} 0 1 = cc in
      absurd (omega arith)
  lies d allows (with_lldata initA advA aa crcInit winSize winOffset interval latency timeout chM hopSca further is fig e) =
      let none : allows_adv_data ConnectReq ≡ true = ap allows_adv_data (sym is) ∙ allows in
      let z : ◌≡◌ {A = ℕ} 0 1 = cc in
      absurd (omega arith)

  record_area_by : RecordAreaBy (decode_by reading) h p
  record_area_by =
      record {
        octets = λ d allows ok. (lies d allows ((accepting_by reading h p.now).sound d ok).1).octets;
        place = λ d allows ok. (lies d allows ((accepting_by reading h p.now).sound d ok).1).place;
      }

pub record_area : (h : Header) (p : Bor (List ℕ)) → RecordArea h p
record_area h p = record_area_by read_area h p

pub record_area_heard : (h : Header) (p : Bor (List ℕ)) → RecordAreaHeard h p
record_area_heard h p = record_area_by as_hub h p

pub data_part : (d : AdvData) (p : Bor (List ℕ)) → DataPart d p
data_part d p =
    record {
      there = λ before xs rest is starts long.
          let told = (part_is p).there before xs rest is in
          (rw (starts, long) told.0, rw (starts, long) told.1);
      fewer = λ few. (part_is p).fewer d.len d.start few;
    }
