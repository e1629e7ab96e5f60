-- What the hub's decoder finds: `heard`; where it answers as the general one does: `alike`; worked values: `rows`. Assumes nothing.
use Rattle.std.proofs.Common.{◌≡◌, ℕ, ◌-◌, ◌≤◌, Bool, true, false, cond, ◌&&◌, eqb, ltb, leb, List, [], length, drop, sym, refl, ap, ◌∙◌, arith, length-drop, length-take-le, take_all, le-ltb, lt-ltb, eq-eqb, ne_eqb, le-leb, leb-false, leb-true}
use mathlib.Core.List.{flatten}
use borrow.Author.Tests.{lt-leb}
use Rattle.octets.proofs.Places.{both_true, enough}
use Rattle.octets.specs.declared.error.Error.{Error}
use Rattle.octets.specs.declared.error.Error.TheVariants.{Eof, InvalidLength, InvalidValue}
use Rattle.records_spec.proofs.HubReads.{differs, without_size, before, took}
use Rattle.records_spec.specs.Area.{cut, reads, with_first, area_of, read_area}
use Rattle.records_spec.specs.HubReading.{before_zero, unpadded, is_zeros, ended_by, read_padded, area_in}
use Rattle.records_spec.specs.Record.{flags_read, data_read, up_to, record_read, first}
use Rattle.flags.specs.Flags.{named}
use Rattle.addresses.specs.Header.{pdu_type, type_of, length_of, allows_adv_data}
use Rattle.addresses.specs.declared.header.Header.{Header}
use Rattle.addresses.specs.declared.header.PduType.{PduType}
use Rattle.addresses.specs.declared.header.PduType.TheVariants.{AdvInd, AdvDirectInd, AdvNonconnInd, AdvScanInd, ScanReq, ScanRsp, ConnectReq, Unknown}
use Rattle.advertising.proofs.Accepting.{arm_undirected}
use Rattle.advertising.specs.Padded.{uncounted, Heard, Alike, DecodedRows}
use Rattle.advertising.specs.Pdu.{Reading, sender_of, no_address, no_request, no_data, data_in, pdu_as, with_area, undirected, directed, connect_request, by_type, decode_by, decode_of, has_area, as_hub, heard_of, octets_taken, counted, padded_of}
use Rattle.advertising.specs.declared.pdu.AdvData.{AdvData}
use Rattle.advertising.specs.declared.pdu.Pdu.{Pdu}
use Rattle.std.specs.Prelude.{Result, Ok, Err, is_err}

-- no records take no octets
none_taken : (p : List ℕ) → octets_taken no_data p ≡ 0
unfolding unpadded before_zero cut flatten
none_taken p = rw (enough 0 p 0 (omega arith))

module _ (h : Header) (p : List ℕ) where
  -- the area after the address is all that a reading decides
  same_area : (r t : Reading) → r (drop 6 p) ≡ t (drop 6 p) → decode_by r h p ≡ decode_by t h p
  unfolding decode_by by_type undirected
  same_area r t e = ap (λ (d : Result Pdu Error). cond (eqb (length_of h) (length p)) d (Err InvalidLength)) (go (type_of h))
    where
      go : (ty : PduType) → by_type r ty h p ≡ by_type t ty h p
      go AdvInd = rw e
      go AdvNonconnInd = rw e
      go AdvScanInd = rw e
      go ScanRsp = rw e
      go AdvDirectInd = refl
      go ScanReq = refl
      go ConnectReq = refl
      go (Unknown n) = refl

  -- header and payload with records to read
  module _ (there : has_area h p ≡ true) where
    allows : allows_adv_data (type_of h) ≡ true
    allows = (both_true (allows_adv_data (type_of h)) (eqb (length_of h) (length p) && leb 6 (length p)) there).0

    tests : (eqb (length_of h) (length p) ≡ true) × (leb 6 (length p) ≡ true)
    tests = both_true (eqb (length_of h) (length p)) (leb 6 (length p)) (both_true (allows_adv_data (type_of h)) (eqb (length_of h) (length p) && leb 6 (length p)) there).1

    pub long : 6 ≤ length p
    long = leb-true 6 (length p) tests.1

    pub read_by : (reading : Reading) → decode_by reading h p ≡ with_area (type_of h) h p (reading (drop 6 p))
    unfolding decode_by undirected
    read_by reading = rw tests.0 (arm_undirected reading (type_of h) h p allows ∙ rw (le-ltb (length p) 6 long))

    pub hears : (n taken : ℕ) → read_padded (drop 6 p) ≡ Ok (n, taken)
        → padded_of h p ≡ Ok (pdu_as (type_of h) (sender_of h p) no_address (record { start = 6; len = length p - 6; count = n }) no_request, taken)
    unfolding area_in with_area
    hears n taken is =
        let d : heard_of h p ≡ with_area (type_of h) h p (Ok n) = read_by as_hub ∙ ap (λ (a : Result (ℕ × ℕ) Error). with_area (type_of h) h p (area_in a)) is in
        let whole : data_in (record { start = 6; len = length p - 6; count = n }) p ≡ drop 6 p =
        rw (enough (length p - 6) p 6 (omega (arith, long))) (take_all (length p - 6) (drop 6 p) (rw length-drop (omega arith))) in
        let size : length (unpadded (drop 6 p)) ≡ taken = ap length (before (drop 6 p) n taken is) ∙ length-take-le taken (drop 6 p) (took (drop 6 p) n taken is []).inside in
        rw (d, whole, size)

    pub hears_not : (e : Error) → read_padded (drop 6 p) ≡ Err e → padded_of h p ≡ Err e
    unfolding area_in with_area
    hears_not e is =
        let d : heard_of h p ≡ Err e = read_by as_hub ∙ ap (λ (a : Result (ℕ × ℕ) Error). with_area (type_of h) h p (area_in a)) is in
        rw d

  -- without records to read, no reading is asked, and none take octets
  record Bare (d f : Result Pdu Error) : Type 0 where
    same : d ≡ f
    none : counted p d ≡ uncounted d

  bare : has_area h p ≡ false → Bare (heard_of h p) (decode_of h p)
  unfolding decode_by by_type undirected directed connect_request
  bare none = go (eqb (length_of h) (length p)) (type_of h) none
    where
      refused : (e : Error) → Bare (Err e) (Err e)
      refused e = record { same = refl; none = refl }

      short : (ty : PduType) → leb 6 (length p) ≡ false → Bare (undirected as_hub ty h p) (undirected read_area ty h p)
      short ty few = rw (lt-ltb (length p) 6 (leb-false 6 (length p) few)) (refused Eof)

      either : (b : Bool) (d : Pdu) → d.adv_data ≡ no_data → Bare (cond b (Err Eof) (Ok d)) (cond b (Err Eof) (Ok d))
      either true d is = refused Eof
      either false d is = record { same = refl; none = ap (λ (k : ℕ). Ok (d, k)) (ap (λ (x : AdvData). octets_taken x p) is ∙ none_taken p) }

      go : (counts : Bool) (ty : PduType) → (allows_adv_data ty && (counts && leb 6 (length p))) ≡ false
          → Bare (cond counts (by_type as_hub ty h p) (Err InvalidLength)) (cond counts (by_type read_area ty h p) (Err InvalidLength))
      go false ty none = refused InvalidLength
      go true AdvInd none = short AdvInd none
      go true AdvNonconnInd none = short AdvNonconnInd none
      go true AdvScanInd none = short AdvScanInd none
      go true ScanRsp none = short ScanRsp none
      go true AdvDirectInd none = either (ltb (length p) 12) _ refl
      go true ScanReq none = either (ltb (length p) 12) _ refl
      go true ConnectReq none = either (ltb (length p) 34) _ refl
      go true (Unknown n) none = refused InvalidValue

  pub heard_bare : has_area h p ≡ false → padded_of h p ≡ uncounted (decode_of h p)
  heard_bare none = (bare none).none ∙ ap uncounted (bare none).same

  has_area_law : allows_adv_data (type_of h) ≡ true → length_of h ≡ length p → 6 ≤ length p → has_area h p ≡ true
  has_area_law allows counts long = rw (allows, eq-eqb (length_of h) (length p) counts, le-leb 6 (length p) long)

  -- without an area, what the general decoder refuses
  refused_bare : {e : Error} → has_area h p ≡ false → decode_of h p ≡ Err e → padded_of h p ≡ Err e
  refused_bare none is = heard_bare none ∙ ap uncounted is

  both_false : (a b : Bool) → b ≡ false → (a && b) ≡ false
  both_false true b e = e
  both_false false b e = refl

  pub heard : Heard h p
  unfolding decode_by undirected
  heard =
      record {
        accepted = λ n taken allows counts long is. hears (has_area_law allows counts long) n taken is;
        refused = λ e allows counts long is. hears_not (has_area_law allows counts long) e is;
        short = λ allows counts few.
            refused_bare (both_false (allows_adv_data (type_of h)) _ (both_false (eqb (length_of h) (length p)) _ (lt-leb 6 (length p) few)))
            (rw (eq-eqb (length_of h) (length p) counts) (arm_undirected read_area (type_of h) h p allows ∙ rw (lt-ltb (length p) 6 few)));
        other_length = λ differ.
            let no : eqb (length_of h) (length p) ≡ false = ne_eqb (length_of h) (length p) differ in
            refused_bare (both_false (allows_adv_data (type_of h)) _ (ap (λ (b : Bool). b && leb 6 (length p)) no)) (rw no);
        other_type = λ none. heard_bare (ap (λ (b : Bool). b && (eqb (length_of h) (length p) && leb 6 (length p))) none);
      }

  pub alike : Alike h p
  unfolding area_in with_area
  alike =
      record {
        agree = λ none. same_area as_hub read_area (ap area_in ((differs d).agree none) ∙ without_size (read_area d) (length d));
        strict = λ allows counts long z. read_by (has_area_law allows counts long) read_area ∙ ap (with_area (type_of h) h p) ((differs d).strict z);
        accepts = λ pdu ok. accepts pdu (has_area h p) refl (read_area d) refl ok ∙ ok;
        refuses = λ e is. sym (refuses e (has_area h p) refl (read_padded d) refl is) ∙ is;
      }
    where
      d : List ℕ
      d = drop 6 p

      accepts : (pdu : Pdu) (b : Bool) → has_area h p ≡ b → (a : Result ℕ Error) → read_area d ≡ a → decode_of h p ≡ Ok pdu → heard_of h p ≡ decode_of h p
      accepts pdu false none a is ok = (bare none).same
      accepts pdu true there (Ok n) is ok = same_area as_hub read_area (ap area_in ((differs (drop 6 p)).accepts n is) ∙ sym is)
      accepts pdu true there (Err e) is ok = absurd (let z : true ≡ false = ap is_err (sym (read_by there read_area ∙ ap (with_area (type_of h) h p) is) ∙ ok) in cc)

      refuses : (e : Error) (b : Bool) → has_area h p ≡ b → (a : Result (ℕ × ℕ) Error) → read_padded d ≡ a → heard_of h p ≡ Err e → heard_of h p ≡ decode_of h p
      refuses e false none a is refusal = (bare none).same
      refuses e true there (Ok (n, taken)) is refusal =
          absurd (let z : false ≡ true = ap is_err (sym (read_by there as_hub ∙ ap (λ (a : Result (ℕ × ℕ) Error). with_area (type_of h) h p (area_in a)) is) ∙ refusal) in cc)
      refuses e true there (Err k) is refusal = same_area as_hub read_area (ap area_in is ∙ sym ((differs (drop 6 p)).refuses k is))

pub rows : DecodedRows
unfolding decode_by by_type undirected directed with_area pdu_type read_padded ended_by is_zeros unpadded before_zero area_in flatten read_area area_of reads with_first cut first record_read data_read flags_read up_to named
rows = record { strict = refl; heard = refl; types = refl; short = refl; another = refl }
