-- What is sent of a beacon, and heard of it: `sends`, `no_beacon`, `broadcasting`, `sendable`. Assumes nothing.
use mathlib.Core.Bool.{Bool, true, false}
use mathlib.Core.List.{List, [], ◌++◌, append-nil}
use mathlib.Core.Path.{◌≡◌, refl, sym, ap, subst, ◌∙◌}
use Prim.Native.Nat.{ℕ, ◌+◌, ◌≤◌}
use native.Mathlib.Nat.{zero-add}
use native.Mathlib.Omega.{arith}
use lib.Dec.{ltb}
use lib.ListN.{length, take, length-append}
use lib.Seq.{take-length}
use borrow.Author.Tests.{ltb-true, ltb-false}
use Rattle.octets.proofs.Places.{enough, too_few}
use Rattle.octets.specs.declared.error.Error.{Error}
use Rattle.records_spec.proofs.HubReads.{differs, before}
use Rattle.records_spec.proofs.RoundTrip.{round_trip}
use Rattle.records_spec.specs.Area.{cut, reads, area_of, read_area, rewritten}
use Rattle.records_spec.specs.HubReading.{unpadded, read_padded}
use Rattle.addresses.proofs.Boxes.{codes}
use Rattle.addresses.specs.Address.{kind_of, is_random, address_of}
use Rattle.addresses.specs.Header.{type_code, type_of, tx_add, header_bits}
use Rattle.addresses.specs.declared.device_address.DeviceAddress.{DeviceAddress}
use Rattle.addresses.specs.declared.header.Header.{Header}
use Rattle.addresses.specs.declared.header.PduType.TheVariants.{AdvNonconnInd}
use Rattle.advertising.proofs.Accepting.{accepting_heard}
use Rattle.advertising.proofs.Building.{building}
use Rattle.advertising.proofs.Padded.{alike}
use Rattle.advertising.specs.Laws.{ReadsBack}
use Rattle.advertising.specs.Pdu.{no_request, no_address, pdu_as, decoded_as, decode_of, heard_of, octets_taken}
use Rattle.advertising.specs.PduBuf.{header_for, beacon_pdu, empty_buf, payload_of}
use Rattle.advertising.specs.declared.pdu.AdvData.{AdvData}
use Rattle.advertising.specs.declared.pdu_buf.PduBuf.{PduBuf}
use Rattle.beacon_spec.specs.Laws.{Sends, NoBeacon, Broadcasting, Sendable}
use Rattle.beacon_spec.specs.Sending.{bare_beacon, beacon_in, beacon_of, to_send}
use Rattle.beacon_spec.specs.State.{Beacon, Refusal}
use Rattle.beacon_spec.proofs.Reports.{Says, same_type, holds_decoded, complete}
use Rattle.std.specs.Prelude.{Some, Result, Ok, Err, is_ok}
use Rattle.std.specs.Result.{result_unwrap_or}

pub sends : (b : Beacon) (tx : List ℕ) → Sends b tx
sends b tx =
    let n : ℕ = length (payload_of b.pdu) in
    record {
      sent = λ fits. rw (enough n tx 0 (omega arith));
      octets = λ fits. rw (enough n tx 0 (omega arith), zero-add n);
      short = λ few. rw (too_few n tx 0 (omega arith));
      kept = λ few. rw (too_few n tx 0 (omega arith));
    }

pub no_beacon : (a : DeviceAddress) (s : List ℕ) → NoBeacon a s
no_beacon a s =
    record {
      bad_area = λ e bad. ap (beacon_in (bare_beacon a)) (building.bad_area AdvNonconnInd a [] s e bad);
      too_long = λ n six good much.
          let size : length (a.bytes ++ []) ≡ 6 = rw (append-nil a.bytes) six in
          ap (beacon_in (bare_beacon a)) (building.too_long AdvNonconnInd a [] s n good (omega arith) (omega arith));
    }

-- a type that has its name has its code
code_of : (h : Header) → type_of h ≡ AdvNonconnInd → header_bits 0 4 h ≡ 2
code_of h is = sym (codes.back (header_bits 0 4 h)) ∙ ap type_code is

-- the PDU of a beacon, which both decoders read alike
module _ (h : Header) (p : List ℕ) (a : DeviceAddress) (place : AdvData) (reads : decode_of h p ≡ decoded_as AdvNonconnInd a no_address place no_request) where
  heard_is : heard_of h p ≡ decoded_as AdvNonconnInd a no_address place no_request
  heard_is = (alike h p).accepts (pdu_as AdvNonconnInd a no_address place no_request) reads

  type_is_law : type_of h ≡ AdvNonconnInd
  type_is_law = same_type h p (pdu_as AdvNonconnInd a no_address place no_request) ((accepting_heard h p).sound (pdu_as AdvNonconnInd a no_address place no_request) heard_is).1

pub broadcasting : (a : DeviceAddress) (s : List ℕ) (n : ℕ) → length a.bytes ≡ 6 → read_area s ≡ Ok n → length s ≤ 31 → Broadcasting a s n
broadcasting a s n six good fits =
    let back : ReadsBack AdvNonconnInd a [] s n = building.adv AdvNonconnInd a s n refl six good fits in
    let h : Header = back.pdu.header in
    let p : List ℕ = payload_of back.pdu in
    let as_long : length (rewritten s) ≡ length s = (round_trip s).as_long in
    -- its records take the whole area
    let read : read_padded (rewritten s) ≡ (Ok (n, length (rewritten s))) = (differs (rewritten s)).accepts n ((round_trip s).area_again ∙ good) in
    let taken : octets_taken back.place p ≡ length s =
    ap (λ (l : List ℕ). length (unpadded l)) back.records ∙ ap length (before (rewritten s) n (length (rewritten s)) read ∙ take-length (rewritten s)) ∙ as_long in
    let size : length ((a.bytes ++ []) ++ rewritten s) ≡ 6 + length s = simp length-append (omega arith) in
    record {
      beacon = record { pdu = back.pdu };
      made = ap (beacon_in (bare_beacon a)) back.built;
      header = back.header ∙ ap (λ (k : ℕ). header_for AdvNonconnInd (is_random a.kind) false (6 + k)) (zero-add (length s));
      place = back.place;
      decoded = back.reads;
      number_of_records = back.count;
      records = back.records;
      size = ap length back.payload ∙ size;
      heard = λ scanner list passes.
          complete scanner h p true list
          (record {
            crc = refl;
            type_2 = code_of h (type_is_law h p a back.place back.reads);
            pdu = pdu_as AdvNonconnInd a no_address back.place no_request;
            decoding = heard_is h p a back.place back.reads;
            filter = passes;
          })
          ∙ ap (λ (k : ℕ). record { report = Ok (Some (record { sender = a; adv_data = back.place; taken = k })); channel = scanner.channel }) taken;
    }

-- what can be sent of a beacon: type 2, from the address
record Sent (a : DeviceAddress) (b : Beacon) : Type 0 where
  type_2 : header_bits 0 4 b.pdu.header ≡ 2
  sender : address_of (take 6 (payload_of b.pdu)) (kind_of (tx_add b.pdu.header)) ≡ a

no_records : read_area [] ≡ Ok 0
unfolding read_area area_of reads cut
no_records = refl

module _ (a : DeviceAddress) (six : length a.bytes ≡ 6) where
  sent : (s : List ℕ) (n : ℕ) → Broadcasting a s n → Sent a (to_send (beacon_of a s))
  sent s n made =
      let h : Header = made.beacon.pdu.header in
      let p : List ℕ = payload_of made.beacon.pdu in
      let type : type_of h ≡ AdvNonconnInd = type_is_law h p a made.place made.decoded in
      let its : Says h p (pdu_as AdvNonconnInd a no_address made.place no_request) = holds_decoded h p _ type (heard_is h p a made.place made.decoded) in
      let is : Sent a made.beacon = record { type_2 = code_of h type; sender = sym its.sender } in
      subst (Sent a) (ap to_send (sym made.made)) is

  bare_sent : Sent a (to_send (beacon_of a []))
  bare_sent = sent [] 0 (broadcasting a [] 0 six no_records (omega arith))

-- beside a refusal stands the beacon without records
beside : (bare : Beacon) (p : Result PduBuf Error) (r : Refusal) → beacon_in bare p ≡ Err r → r.bare ≡ bare
beside bare (Ok p) r is = (cc)
beside bare (Err e) r is = (cc)

-- which is what can be sent of no records
none_given : (p : Result PduBuf Error) → to_send (beacon_in (record { pdu = result_unwrap_or p empty_buf }) p) ≡ record { pdu = result_unwrap_or p empty_buf }
none_given (Ok p) = refl
none_given (Err e) = refl

module _ (a : DeviceAddress) (s : List ℕ) where
  beacon_refused : (r : Refusal) → beacon_of a s ≡ Err r → r.bare ≡ to_send (beacon_of a [])
  beacon_refused r is = beside (bare_beacon a) (beacon_pdu a s) r is ∙ sym (none_given (beacon_pdu a []))

  beacon_sends : length a.bytes ≡ 6 → Sent a (to_send (beacon_of a s))
  beacon_sends six = by_area (read_area s) refl
    where
      refused : (r : Refusal) → beacon_of a s ≡ Err r → Sent a (to_send (beacon_of a s))
      refused r is = subst (Sent a) (sym (ap to_send is ∙ beacon_refused r is)) (bare_sent a six)

      by_size : (n : ℕ) → read_area s ≡ Ok n → (t : Bool) → ltb 31 (length s) ≡ t → Sent a (to_send (beacon_of a s))
      by_size n good true much = refused _ ((no_beacon a s).too_long n six good (ltb-true 31 (length s) much))
      by_size n good false few = sent a six s n (broadcasting a s n six good (ltb-false 31 (length s) few))

      by_area : (r : Result ℕ Error) → read_area s ≡ r → Sent a (to_send (beacon_of a s))
      by_area (Err e) bad = refused _ ((no_beacon a s).bad_area e bad)
      by_area (Ok n) good = by_size n good (ltb 31 (length s)) refl

  pub sendable : Sendable a s
  sendable =
      record {
        bare = λ six. ap is_ok (broadcasting a [] 0 six no_records (omega arith)).made;
        refused = beacon_refused;
        type_2 = λ six. (beacon_sends six).type_2;
        sender = λ six. (beacon_sends six).sender;
      }
