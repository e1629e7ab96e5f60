-- What is known of a decoded packet by its type alone, and of requests. Assumes nothing.
use mathlib.Core.Bool.{Bool, true, false, cond, ◌&&◌, false≢true}
use mathlib.Core.List.{List}
use mathlib.Core.Path.{◌≡◌, refl, sym, ap, ◌∙◌}
use Prim.Native.Nat.{ℕ}
use lib.Dec.{eqb, ltb}
use lib.ListN.{length, drop}
use Rattle.octets.specs.declared.error.Error.{Error}
use Rattle.octets.specs.declared.error.Error.TheVariants.{Eof, InvalidLength, InvalidValue, WrongMode}
use Rattle.octets.specs.declared.time.Instant.{Instant}
use Rattle.records_spec.specs.Area.{read_area}
use Rattle.addresses.specs.Header.{type_of, length_of}
use Rattle.addresses.specs.declared.header.Header.{Header}
use Rattle.addresses.specs.declared.header.PduType.{PduType}
use Rattle.addresses.specs.declared.header.PduType.TheVariants.{AdvInd, AdvDirectInd, AdvNonconnInd, AdvScanInd, ScanReq, ScanRsp, ConnectReq, Unknown}
use Rattle.advertising.specs.Pdu.{request_of, sender_of, receiver_of, has_receiver, no_address, no_data, no_request, decoded_as, with_area, undirected, directed, connect_request, by_type, decode_by, decode_of, well_formed}
use Rattle.advertising.specs.declared.pdu.Pdu.{Pdu}
use Rattle.addresses.specs.declared.device_address.DeviceAddress.{DeviceAddress}
use Rattle.radio_spec.specs.Calls.{is_advertising, is_for, is_scan_request, refusal, listens, addressed, addressed_to, asks, pdu_heard, packet_of, packet_after, replied_if}
use Rattle.radio_spec.specs.SoFar.{is_connect_request, for_board, requested}
use Rattle.radio_spec.specs.State.{State, Step}
use Rattle.std.specs.Prelude.{Result, Ok, Err, is_ok}

-- the PDU that a packet decodes to; of one that is refused, a PDU without a second address
abbrev pub pdu_or : Result Pdu Error → Pdu
pdu_or (Ok pdu) = pdu
pdu_or (Err e) = record { ty = Unknown 15; sender = no_address; receiver = no_address; adv_data = no_data; lldata = no_request }

abbrev pub pdu_in : Header → List ℕ → Pdu
pdu_in h p = pdu_or (decode_of h p)

pub to_as : (own : DeviceAddress) (r : Result Pdu Error) → addressed_to own r ≡ is_for own (pdu_or r)
unfolding is_for
to_as own (Ok pdu) = refl
to_as own (Err e) = refl

asks_split : (is : PduType → Bool) (own : DeviceAddress) (r : Result Pdu Error) → asks is own r ≡ (addressed_to own r && is (pdu_or r).ty)
asks_split is own (Ok pdu) = refl
asks_split is own (Err e) = refl

heard_as : (d : State) (end : Instant) (tx : List ℕ) (r : Result Pdu Error)
    → pdu_heard d end tx r ≡ cond (addressed_to d.dev_addr r) (addressed d end (pdu_or r).lldata tx (pdu_or r).ty) (listens d)
heard_as d end tx (Ok pdu) = refl
heard_as d end tx (Err e) = refl

-- what a packet answers, and what it leaves in the transmit buffer, by the PDU that it decodes to
pub packet_as : (d : State) (end : Instant) (h : Header) (p : List ℕ) (crc_good : Bool) (tx : List ℕ)
    → packet_of d end h p crc_good tx
    ≡ cond (is_advertising d.mode) (cond crc_good (cond (for_board d.dev_addr h p) (addressed d end (pdu_in h p).lldata tx (pdu_in h p).ty) (listens d)) (listens d)) (refusal d WrongMode)
unfolding packet_of
packet_as d end h p crc_good tx = ap (λ (s : Step). cond (is_advertising d.mode) (cond crc_good s (listens d)) (refusal d WrongMode)) (heard_as d end tx (decode_of h p))

pub after_as : (d : State) (h : Header) (p : List ℕ) (crc_good : Bool) (tx : List ℕ)
    → packet_after d h p crc_good tx ≡ replied_if (is_advertising d.mode && (crc_good && (for_board d.dev_addr h p && is_scan_request (pdu_in h p).ty))) d tx
unfolding packet_after
after_as d h p crc_good tx = ap (λ (b : Bool). replied_if (is_advertising d.mode && (crc_good && b)) d tx) (asks_split is_scan_request d.dev_addr (decode_of h p))

-- a packet with a second address was not refused; one that was not refused has the header's type and, where that has one, the second address of its
-- payload; and a connect request holds the data of its payload
pub record Known (h : Header) (p : List ℕ) (d : Result Pdu Error) : Type 0 where
  pub good : has_receiver (pdu_or d).ty ≡ true → is_ok d ≡ true
  pub type : is_ok d ≡ true → (pdu_or d).ty ≡ type_of h
  pub second : is_ok d ≡ true → has_receiver (pdu_or d).ty ≡ true → (pdu_or d).receiver ≡ receiver_of h p
  pub request : is_connect_request (pdu_or d).ty ≡ true → (pdu_or d).lldata ≡ request_of p

pub known : (h : Header) (p : List ℕ) → Known h p (decode_of h p)
unfolding decode_by by_type undirected directed connect_request with_area
known h p = at (eqb (length_of h) (length p)) (type_of h) refl
  where
    refused : (e : Error) → Known h p (Err e)
    refused e =
        record { good = λ r. absurd (false≢true r); type = λ a. absurd (false≢true a); second = λ a r. absurd (false≢true a); request = λ c. absurd (false≢true c) }

    records : (ty : PduType) → type_of h ≡ ty → has_receiver ty ≡ false → is_connect_request ty ≡ false → (short : Bool) (a : Result ℕ Error)
        → Known h p (cond short (Err Eof) (with_area ty h p a))
    records ty is r c true a = refused Eof
    records ty is r c false (Ok n) =
        record { good = λ e. refl; type = λ a. sym is; second = λ a e. absurd (false≢true (sym r ∙ e)); request = λ e. absurd (false≢true (sym c ∙ e)) }
    records ty is r c false (Err e) = refused e

    two : (ty : PduType) → type_of h ≡ ty → is_connect_request ty ≡ false → (short : Bool)
        → Known h p (cond short (Err Eof) (decoded_as ty (sender_of h p) (receiver_of h p) no_data no_request))
    two ty is c true = refused Eof
    two ty is c false = record { good = λ e. refl; type = λ a. sym is; second = λ a r. refl; request = λ e. absurd (false≢true (sym c ∙ e)) }

    scan_request : type_of h ≡ ConnectReq → (short : Bool)
        → Known h p (cond short (Err Eof) (decoded_as ConnectReq (sender_of h p) (receiver_of h p) no_data (request_of p)))
    scan_request is true = refused Eof
    scan_request is false = record { good = λ e. refl; type = λ a. sym is; second = λ a r. refl; request = λ e. refl }

    at : (counts : Bool) (ty : PduType) → type_of h ≡ ty → Known h p (cond counts (by_type read_area ty h p) (Err InvalidLength))
    at false ty is = refused InvalidLength
    at true AdvInd is = records AdvInd is refl refl (ltb (length p) 6) (read_area (drop 6 p))
    at true AdvNonconnInd is = records AdvNonconnInd is refl refl (ltb (length p) 6) (read_area (drop 6 p))
    at true AdvScanInd is = records AdvScanInd is refl refl (ltb (length p) 6) (read_area (drop 6 p))
    at true ScanRsp is = records ScanRsp is refl refl (ltb (length p) 6) (read_area (drop 6 p))
    at true AdvDirectInd is = two AdvDirectInd is refl (ltb (length p) 12)
    at true ScanReq is = two ScanReq is refl (ltb (length p) 12)
    at true ConnectReq is = scan_request is (ltb (length p) 34)
    at true (Unknown n) is = refused InvalidValue

module _ (own : DeviceAddress) (h : Header) (p : List ℕ) where
  -- a malformed packet is for nobody
  pub not_for : well_formed h p ≡ false → for_board own h p ≡ false
  unfolding is_for
  not_for bad = to_as own (decode_of h p) ∙ go (has_receiver (pdu_in h p).ty) refl
    where
      go : (b : Bool) → has_receiver (pdu_in h p).ty ≡ b → is_for own (pdu_in h p) ≡ false
      go false e = rw e
      go true e = absurd (false≢true (sym bad ∙ (known h p).good e))

  -- so a packet for this board is well-formed
  pub requested_is : (is : PduType → Bool) (crc_good : Bool) → requested is own crc_good h p ≡ (crc_good && (for_board own h p && is (pdu_in h p).ty))
  unfolding requested
  requested_is is crc_good = ap (λ (b : Bool). crc_good && (well_formed h p && b)) (asks_split is own (decode_of h p)) ∙ go (well_formed h p) refl
    where
      go : (good : Bool) → well_formed h p ≡ good
          → (crc_good && (well_formed h p && (for_board own h p && is (pdu_in h p).ty))) ≡ (crc_good && (for_board own h p && is (pdu_in h p).ty))
      go true e = rw e
      go false e = rw (e, not_for e)
