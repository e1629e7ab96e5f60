-- What is read of a PDU that was built: `building`. Assumes nothing.
use Rattle.std.proofs.Common.{◌≡◌, ℕ, suc, ◌+◌, ◌-◌, ◌<◌, ◌≤◌, Bool, true, false, cond, eqb, ltb, List, [], ◌∷◌, ◌++◌, length, get_or, take, set, refl, ap, ◌∙◌, subst, inl, ⊎_elim, append_assoc, append-nil, add-one, arith, length-append, take_at, le-ltb, lt-ltb}
use mathlib.Core.List.{flatten}
use lib.Seq.{take-length}
use Rattle.addresses.proofs.Boxes.{bit_small, own_bits}
use Rattle.addresses.specs.Address.{kind_of, is_random, address_of}
use Rattle.addresses.specs.Header.{header_of, type_code, pdu_type, allows_adv_data, type_of, tx_add, rx_add, length_of, set_tx_add, set_length}
use Rattle.addresses.specs.Laws.{boxes}
use Rattle.addresses.specs.declared.device_address.AddressKind.{AddressKind}
use Rattle.addresses.specs.declared.device_address.AddressKind.TheVariants.{Public, Random}
use Rattle.addresses.specs.declared.device_address.DeviceAddress.{DeviceAddress}
use Rattle.addresses.specs.declared.header.Header.{Header}
use Rattle.addresses.specs.declared.header.PduType.{PduType}
use Rattle.addresses.specs.declared.header.PduType.TheVariants.{AdvInd, AdvDirectInd, AdvNonconnInd, AdvScanInd, ScanReq, ScanRsp, ConnectReq, Unknown}
use Rattle.octets.proofs.Places.{enough}
use Rattle.octets.specs.declared.error.Error.{Error}
use Rattle.octets.specs.declared.error.Error.TheVariants.{Eof}
use Rattle.records_spec.proofs.Accepted.{decided}
use Rattle.records_spec.proofs.RoundTrip.{round_trip}
use Rattle.records_spec.specs.Accepted.{Tiling, Verdict}
use Rattle.records_spec.specs.Area.{read_area, rewritten}
use Rattle.advertising.specs.Laws.{Figure, with_records_law, two_addresses, ReadsBack, Building}
use Rattle.advertising.specs.Pdu.{undirected_figure, no_request, no_address, no_data, pdu_as, decoded_as, decode_of}
use Rattle.advertising.specs.PduBuf.{to37, header_for, buf_of, after_reading, with_records, built_of, built_directed, flags_record, payload_of}
use Rattle.advertising.specs.declared.pdu.AdvData.{AdvData}
use Rattle.advertising.specs.declared.pdu_buf.PduBuf.{PduBuf}
use Rattle.advertising.proofs.Accepting.{accepting}
use Rattle.advertising.proofs.Buffers.{room}
use Rattle.advertising.proofs.Figures.{behind}
use Rattle.std.specs.Prelude.{Result, Ok, Err}

-- what a header says
record Says (h : Header) (ty : PduType) (tx rx : Bool) (n : ℕ) : Type 0 where
  type : type_of h ≡ ty
  sender : tx_add h ≡ tx
  receiver : rx_add h ≡ rx
  len : length_of h ≡ n

bit_back : (v : Bool) → eqb (cond v 1 0) 1 ≡ v
bit_back true = refl
bit_back false = refl

-- a code of four bits, whose type it is
record Coded (ty : PduType) : Type 0 where
  small : type_code ty < 16
  back : pdu_type (type_code ty) ≡ ty

says : (ty : PduType) (tx rx : Bool) (n : ℕ) → Coded ty → n < 64 → Says (header_for ty tx rx n) ty tx rx n
says ty tx rx n code fits =
    let counted : Header = set_length n (header_of (type_code ty)) in
    let small : counted.0 < 16384 = omega (arith, code.small) in
    let one = bit_small tx in
    let filled : boxes (header_for ty tx rx n) ≡ set (set (set (boxes (header_of (type_code ty))) 4 n) 2 (cond tx 1 0)) 3 (cond rx 1 0) =
    (own_bits (set_tx_add tx counted) (omega arith)).rx rx
    ∙ ap (λ (l : List ℕ). set l 3 (cond rx 1 0))
    ((own_bits counted (omega arith)).tx tx ∙ ap (λ (l : List ℕ). set l 2 (cond tx 1 0)) ((own_bits (header_of (type_code ty)) (omega (arith, code.small))).len n fits)) in
    let box : (k : ℕ) → get_or (boxes (header_for ty tx rx n)) k 0 ≡ get_or (set (set (set (boxes (header_of (type_code ty))) 4 n) 2 (cond tx 1 0)) 3 (cond rx 1 0)) k 0 =
    λ k. ap (λ (l : List ℕ). get_or l k 0) filled in
    record {
      type = ap pdu_type (box 0 ∙ omega (arith, code.small)) ∙ code.back;
      sender = ap (λ (k : ℕ). eqb k 1) (box 2) ∙ bit_back tx;
      receiver = ap (λ (k : ℕ). eqb k 1) (box 3) ∙ bit_back rx;
      len = box 4;
    }

coded : (ty : PduType) → allows_adv_data ty ≡ true → Coded ty
unfolding pdu_type
coded AdvInd e = record { small = omega arith; back = refl }
coded AdvNonconnInd e = record { small = omega arith; back = refl }
coded AdvScanInd e = record { small = omega arith; back = refl }
coded ScanRsp e = record { small = omega arith; back = refl }
coded AdvDirectInd e = let z : ◌≡◌ {A = ℕ} 0 1 = cc in absurd (omega arith)
coded ScanReq e = let z : ◌≡◌ {A = ℕ} 0 1 = cc in absurd (omega arith)
coded ConnectReq e = let z : ◌≡◌ {A = ℕ} 0 1 = cc in absurd (omega arith)
coded (Unknown n) e = let z : ◌≡◌ {A = ℕ} 0 1 = cc in absurd (omega arith)

kind_back : (k : AddressKind) → kind_of (is_random k) ≡ k
kind_back Public = refl
kind_back Random = refl

-- the payload of a PDU that was built, where its header counts it
payload_back : (ty : PduType) (tx rx : Bool) (xs : List ℕ) → Coded ty → length xs ≤ 37 → payload_of (buf_of ty tx rx xs) ≡ xs
unfolding buf_of
payload_back ty tx rx xs code fits =
    let counts : length_of (header_for ty tx rx (length xs)) ≡ length xs = (says ty tx rx (length xs) code (omega arith)).len in
    ap (λ (n : ℕ). take n (to37 xs)) counts ∙ take_at xs (room xs) (length xs) refl

-- what a test of a size picks
too_small : (n m : ℕ) (x y : Result PduBuf Error) → n < m → cond (ltb n m) x y ≡ x
too_small n m x y h = rw (lt-ltb n m h)

pub enough_space : (n m : ℕ) (x y : Result PduBuf Error) → m ≤ n → cond (ltb n m) x y ≡ y
enough_space n m x y h = rw (le-ltb n m h)

-- an address, and records of which n are read
back : (ty : PduType) (a : DeviceAddress) (flags s : List ℕ) (n m : ℕ) → allows_adv_data ty ≡ true → length a.bytes ≡ 6
    → length flags + length s ≤ 31 → read_area s ≡ Ok n → read_area (flags ++ rewritten s) ≡ Ok m → ReadsBack ty a flags s m
unfolding buf_of with_records after_reading flatten
back ty a flags s n m allows six fits good again =
    let tx : Bool = is_random a.kind in
    let records : List ℕ = flags ++ rewritten s in
    let xs : List ℕ = (a.bytes ++ flags) ++ rewritten s in
    let as_long : length (rewritten s) ≡ length s = (round_trip s).as_long in
    let size : length records ≡ length flags + length s = simp length-append (omega arith) in
    let whole : length xs ≡ 6 + length records = simp length-append (omega arith) in
    let front : length (a.bytes ++ flags) ≡ 6 + length flags = simp length-append (omega arith) in
    let code : Coded ty = coded ty allows in
    let head = says ty tx false (length xs) code (omega arith) in
    let payload : payload_of (buf_of ty tx false xs) ≡ xs = payload_back ty tx false xs code (omega arith) in
    let place : AdvData = record { start = 6; len = length records; count = m } in
    let fig : Figure undirected_figure (a.bytes ∷ []) records xs =
    record { sizes = ap (λ (k : ℕ). k ∷ []) six; tiles = rw (append-nil a.bytes) (append_assoc a.bytes flags (rewritten s)) } in
    let sender : a ≡ address_of a.bytes (kind_of (tx_add (buf_of ty tx false xs).header)) =
    rw (head.sender, kind_back a.kind) in
    record {
      pdu = buf_of ty tx false xs;
      built = rw good (enough_space (37 - length (a.bytes ++ flags)) (length s) (Err Eof) (Ok (buf_of ty tx false xs)) (omega arith));
      header = let long : length xs ≡ 6 + (length flags + length s) = omega arith in ap (header_for ty tx false) long;
      payload = payload;
      place = place;
      reads =
          rw payload
          ((accepting (buf_of ty tx false xs).header xs).complete (pdu_as ty a no_address place no_request) head.len
          (with_records_law ty a.bytes records m head.type allows fig again (ap (λ (x : DeviceAddress). pdu_as ty x no_address place no_request) sender)));
      count = refl;
      records = rw (payload, enough (length records) xs 6 (omega arith), behind fig) (take-length records);
    }

-- Flags before the records of an area
with_flags : (t : List ℕ) (n : ℕ) → read_area t ≡ Ok n → read_area (flags_record ++ t) ≡ Ok (n + 1)
unfolding flatten
with_flags t n good =
    let tiles : Tiling t n = subst (Verdict t) good (decided t).verdict in
    (decided (flags_record ++ t)).accepted (record {
      pieces = flags_record ∷ tiles.pieces;
      tile = ap (λ (l : List ℕ). flags_record ++ l) tiles.tile;
      good = (record { whole = refl; some = omega arith; flags = λ e. refl; list = λ e. ⊎_elim (λ x. absurd (omega arith)) (λ x. absurd (omega arith)) e }, tiles.good);
      count = rw add-one (ap suc tiles.count);
    })

directed_back : (a b : DeviceAddress) → length a.bytes ≡ 6 → length b.bytes ≡ 6
    → decode_of (built_directed a b).header (payload_of (built_directed a b)) ≡ decoded_as AdvDirectInd a b no_data no_request
unfolding buf_of pdu_type flatten
directed_back a b six six' =
    let xs : List ℕ = a.bytes ++ b.bytes in
    let whole : length xs ≡ 12 = simp length-append (omega arith) in
    let code : Coded AdvDirectInd = record { small = omega arith; back = refl } in
    let head = says AdvDirectInd (is_random a.kind) (is_random b.kind) (length xs) code (omega arith) in
    let h : Header = (built_directed a b).header in
    let sender : a ≡ address_of a.bytes (kind_of (tx_add h)) = rw (head.sender, kind_back a.kind) in
    let receiver : b ≡ address_of b.bytes (kind_of (rx_add h)) = rw (head.receiver, kind_back b.kind) in
    rw (payload_back AdvDirectInd (is_random a.kind) (is_random b.kind) xs code (omega arith))
    ((accepting h xs).complete (pdu_as AdvDirectInd a b no_data no_request) head.len
    (two_addresses AdvDirectInd a.bytes b.bytes [] head.type (inl refl)
    (record { sizes = rw (six, six'); tiles = rw (append-nil b.bytes, append-nil xs) })
    (λ i. pdu_as AdvDirectInd (sender i) (receiver i) no_data no_request)))

refused_area : (ty : PduType) (a : DeviceAddress) (flags s : List ℕ) (e : Error) → read_area s ≡ Err e → built_of ty a flags s ≡ Err e
unfolding with_records after_reading
refused_area ty a flags s e bad = rw bad

refused_size : (ty : PduType) (a : DeviceAddress) (flags s : List ℕ) (n : ℕ) → read_area s ≡ Ok n → length (a.bytes ++ flags) ≤ 37
    → 37 < length (a.bytes ++ flags) + length s → built_of ty a flags s ≡ Err Eof
unfolding with_records after_reading
refused_size ty a flags s n good front long = rw good (too_small (37 - length (a.bytes ++ flags)) (length s) (Err Eof) _ (omega arith))

pub building : Building
building =
    record {
      adv = λ ty a s n allows six good fits. back ty a [] s n n allows six (omega arith) good ((round_trip s).area_again ∙ good);
      discoverable = λ a s n six good fits.
          back AdvInd a flags_record s n (n + 1) refl six (omega arith) good (with_flags (rewritten s) n ((round_trip s).area_again ∙ good));
      directed = directed_back;
      bad_area = refused_area;
      too_long = refused_size;
    }
