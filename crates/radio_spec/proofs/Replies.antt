-- The reply to a scan request: `reply_decodes`, `bare`, `sets_scan_data`, and what is known of the reply that is built. Assumes nothing.
use mathlib.Core.Bool.{Bool, true, false, cond, false≢true}
use mathlib.Core.List.{List, [], ◌++◌, append-nil}
use mathlib.Core.Path.{◌≡◌, refl, sym, ap, ◌∙◌, subst}
use Prim.Native.Nat.{ℕ, ◌+◌, ◌*◌, ◌≤◌}
use native.Mathlib.Omega.{arith}
use lib.Dec.{ltb}
use lib.ListN.{length, length-append}
use borrow.Author.Tests.{eq-eqb, ltb-true, ltb-false}
use Rattle.octets.specs.Error.{number_of}
use Rattle.channels.specs.Hop.{hopped}
use Rattle.channels.specs.declared.connection.Hop.{Hop}
use Rattle.records_spec.proofs.RoundTrip.{round_trip}
use Rattle.records_spec.specs.Area.{cut, reads, area_of, read_area, rewritten}
use Rattle.addresses.proofs.Boxes.{bit_small, figures}
use Rattle.addresses.specs.Address.{kind_number, is_random}
use Rattle.addresses.specs.Header.{header_of, tx_add, rx_add, length_of}
use Rattle.addresses.specs.Laws.{figure, HeaderFigure}
use Rattle.addresses.specs.declared.device_address.AddressKind.{AddressKind}
use Rattle.addresses.specs.declared.device_address.AddressKind.TheVariants.{Public, Random}
use Rattle.addresses.specs.declared.device_address.DeviceAddress.{DeviceAddress}
use Rattle.addresses.specs.declared.header.PduType.{PduType}
use Rattle.addresses.specs.declared.header.PduType.TheVariants.{AdvInd, AdvDirectInd, AdvNonconnInd, AdvScanInd, ScanReq, ScanRsp, ConnectReq, Unknown}
use Rattle.advertising.proofs.Builders.{builders}
use Rattle.advertising.proofs.Building.{building}
use Rattle.advertising.specs.Laws.{ReadsBack}
use Rattle.advertising.specs.Pdu.{decode_of, pdu_as, no_address, no_request}
use Rattle.advertising.specs.PduBuf.{scan_response_pdu, payload_of, payload_to, empty_buf}
use Rattle.advertising.specs.declared.pdu.ConnectRequestData.{ConnectRequestData}
use Rattle.settings.specs.Settings.{taken_of}
use Rattle.settings.specs.Settings.{Settings}
use Rattle.advertising.specs.declared.pdu_buf.PduBuf.{PduBuf}
use Rattle.radio_spec.specs.Calls.{is_advertising, is_connected, refusal, sent, beginning, discoverable, started, listens, responds, settled, connects_to, addressed, set_to, scan_data_of, hopped_to, hops, start_of, tick_of, event_of}
use Rattle.radio_spec.specs.Demand.{number_in, reply_header, reply_octets, ReplyOf}
use Rattle.radio_spec.specs.Laws.{ReplyDecodes, Bare, SetsScanData}
use Rattle.radio_spec.specs.SoFar.{reply_size, for_board}
use Rattle.radio_spec.specs.State.{Advertisement, State, Step}
use Rattle.std.specs.Result.{result_unwrap_or}
use Rattle.radio_spec.proofs.Answers.{no_zero}
use Rattle.radio_spec.proofs.Packets.{pdu_in, packet_as}
use Rattle.octets.specs.declared.error.Error.TheVariants.{WrongMode}
use Rattle.octets.specs.declared.time.Instant.{Instant}
use Rattle.std.specs.Prelude.{Result, Ok, Err, IfOk}
use Rattle.octets.specs.declared.bytes.ByteWriter.{ByteWriter}
use Rattle.octets.specs.declared.error.Error.{Error}

-- how many octets a reply has
pub reply_size_law : (own : DeviceAddress) (s : List ℕ) {b : PduBuf} → length own.bytes ≡ 6 → ReplyOf own s b → length (payload_of b) ≡ reply_size s
reply_size_law own s six r = ap length r.payload ∙ simp length-append (omega (arith, six, (round_trip s).as_long))

module _ (own : DeviceAddress) (s : List ℕ) (six : length own.bytes ≡ 6) where
  -- what the builder of scan responses builds
  back_of : (n : ℕ) → read_area s ≡ Ok n → length s ≤ 31 → ReadsBack ScanRsp own [] s n
  back_of n good few = building.adv ScanRsp own s n refl six good few

  replies : (n : ℕ) (good : read_area s ≡ Ok n) (few : length s ≤ 31) → ReplyOf own s (back_of n good few).pdu
  replies n good few =
      let back : ReadsBack ScanRsp own [] s n = back_of n good few in
      let counted : IfOk (scan_response_pdu own s) (λ (b : PduBuf). b.header.0 ≡ 4 + 64 * kind_number own.kind + 256 * (6 + (0 + length s))) = (builders own s six).scan_response_law.header n good few in
      let number : back.pdu.header.0 ≡ 4 + 64 * kind_number own.kind + 256 * (6 + (0 + length s)) = rw back.built at counted in
      record {
        header = ap header_of (omega (arith, number));
        payload = back.payload ∙ ap (λ (l : List ℕ). l ++ rewritten s) (append-nil own.bytes);
      }

  pub built_reply : (n : ℕ) → read_area s ≡ Ok n → length s ≤ 31 → (pdu : PduBuf) × (scan_response_pdu own s ≡ Ok pdu) × ReplyOf own s pdu
  built_reply n good few = ((back_of n good few).pdu, (back_of n good few).built, replies n good few)

-- the header of a reply by the boxes of its figure
kind_bit : (k : AddressKind) → kind_number k ≡ cond (is_random k) 1 0
kind_bit Public = refl
kind_bit Random = refl

reply_figure : (own : DeviceAddress) (s : List ℕ) → reply_header own s ≡ figure 4 0 (is_random own.kind) false (6 + length s) 0
reply_figure own s = ap header_of (omega (arith, kind_bit own.kind))

pub reply_decodes : (own : DeviceAddress) (s : List ℕ) (n : ℕ) → length own.bytes ≡ 6 → read_area s ≡ Ok n → length s ≤ 31 → ReplyDecodes own s n
reply_decodes own s n six good few =
    let back : ReadsBack ScanRsp own [] s n = back_of own s six n good few in
    let made : ReplyOf own s back.pdu = replies own s six n good few in
    let read : decode_of (reply_header own s) (reply_octets own s) ≡ decode_of back.pdu.header (payload_of back.pdu) = sym (λ i. decode_of (made.header i) (made.payload i)) in
    let boxes : HeaderFigure 4 0 (is_random own.kind) false (6 + length s) 0 = figures 4 0 (6 + length s) 0 (is_random own.kind) false (omega arith) (omega arith) (omega arith) in
    let is = reply_figure own s in
    let small : kind_number own.kind ≤ 1 = omega (arith, kind_bit own.kind, bit_small (is_random own.kind)) in
    record {
      type_4 = omega arith;
      tx_add_law = ap tx_add is ∙ boxes.tx_add_law;
      rx_add_law = ap rx_add is ∙ boxes.rx_add_law;
      counted = ap length_of is ∙ boxes.payload_length;
      reserved = (omega arith, omega arith);
      of_16_bits = omega arith;
      pdu = pdu_as ScanRsp own no_address back.place no_request;
      decoded = read ∙ back.reads;
      type = refl;
      sender = refl;
      count = back.count;
    }

pub bare : (own : DeviceAddress) → length own.bytes ≡ 6 → Bare own
unfolding read_area area_of reads cut
bare own six = let reply = built_reply own [] six 0 refl (omega arith) in subst (ReplyOf own []) (sym (ap (λ (r : Result PduBuf Error). result_unwrap_or r empty_buf) reply.1)) reply.2

-- What other calls leave of the reply

module _ (d : State) where
  abbrev Kept : Step → Type 0
  Kept r = r.state.scan_response ≡ d.scan_response

  sent_keeps : (a : Advertisement) (w : Result ByteWriter Error) → Kept (sent d a w)
  sent_keeps a (Ok next) = refl
  sent_keeps a (Err e) = refl

  start_keeps : (time : Instant) (interval : ℕ) (tx : List ℕ) (built : Result PduBuf Error) → Kept (started d time interval tx built)
  start_keeps time interval tx (Ok pdu) = sent_keeps (beginning time interval pdu) (payload_to pdu tx)
  start_keeps time interval tx (Err e) = refl

  tick_keeps : (on : Bool) (w : Result ByteWriter Error) → Kept (cond on (sent d d.adv w) (refusal d WrongMode))
  tick_keeps true w = sent_keeps d.adv w
  tick_keeps false w = refl

  respond_keeps : (w : Result ByteWriter Error) → Kept (responds d w)
  respond_keeps (Ok next) = refl
  respond_keeps (Err e) = refl

  connect_keeps : (end : Instant) (l : ConnectRequestData) (taken : Result Settings Error) → Kept (settled d end l taken)
  connect_keeps end l (Ok s) = refl
  connect_keeps end l (Err e) = refl

  addressed_keeps : (end : Instant) (l : ConnectRequestData) (tx : List ℕ) (ty : PduType) → Kept (addressed d end l tx ty)
  unfolding addressed connects_to
  addressed_keeps end l tx ScanReq = respond_keeps (payload_to d.scan_response tx)
  addressed_keeps end l tx ConnectReq = connect_keeps end l (taken_of l)
  addressed_keeps end l tx AdvDirectInd = refl
  addressed_keeps end l tx AdvInd = refl
  addressed_keeps end l tx AdvNonconnInd = refl
  addressed_keeps end l tx AdvScanInd = refl
  addressed_keeps end l tx ScanRsp = refl
  addressed_keeps end l tx (Unknown n) = refl

  packet_keeps : (adv crc ours : Bool) (r : Step) → Kept r → Kept (cond adv (cond crc (cond ours r (listens d)) (listens d)) (refusal d WrongMode))
  packet_keeps false crc ours r k = refl
  packet_keeps true false ours r k = refl
  packet_keeps true true false r k = refl
  packet_keeps true true true r k = k

  event_keeps : (on : Bool) (h : Result Hop Error) → Kept (cond on (hopped_to d h) (refusal d WrongMode))
  event_keeps false h = refl
  event_keeps true (Ok hop) = refl
  event_keeps true (Err e) = refl

  set_alone : (built : Result PduBuf Error)
      → (set_to d built).state
      ≡ record { mode = d.mode; dev_addr = d.dev_addr; scan_response = (set_to d built).state.scan_response; adv = d.adv; conn = d.conn }
  set_alone (Ok pdu) = refl
  set_alone (Err e) = refl

  set_reply : length d.dev_addr.bytes ≡ 6 → (s : List ℕ) (a : Result ℕ Error) → read_area s ≡ a → (many : Bool) → ltb 31 (length s) ≡ many → number_in (scan_data_of d s).answer ≡ 0
      → ReplyOf d.dev_addr s (scan_data_of d s).state.scan_response
  set_reply six s (Err e) good many m is =
      let no : number_of e ≡ 0 = rw (building.bad_area ScanRsp d.dev_addr [] s e good) at is in
      absurd (false≢true (sym (no_zero e) ∙ eq-eqb (number_of e) 0 no))
  set_reply six s (Ok n) good true m is =
      let front : length (d.dev_addr.bytes ++ []) ≡ 6 = simp append-nil six in
      let no : ◌≡◌ {A = ℕ} 1 0 = rw (building.too_long ScanRsp d.dev_addr [] s n good (omega (arith, front)) (omega (arith, front, ltb-true 31 (length s) m))) at is in
      absurd (omega (arith, no))
  set_reply six s (Ok n) good false m is =
      let few : length s ≤ 31 = ltb-false 31 (length s) m in
      let reply = built_reply d.dev_addr s six n good few in
      rw reply.1 reply.2

  pub sets_scan_data : SetsScanData d
  unfolding start_of tick_of event_of hops
  sets_scan_data =
      record {
        accepted = λ six s n good few. rw (built_reply d.dev_addr s six n good few).1;
        bad_area = λ s e good. rw (building.bad_area ScanRsp d.dev_addr [] s e good);
        too_long = λ six s n good many.
            let front : length (d.dev_addr.bytes ++ []) ≡ 6 = simp append-nil six in
            rw (building.too_long ScanRsp d.dev_addr [] s n good (omega (arith, front)) (omega (arith, front, many)));
        reply = λ six s is. set_reply six s (read_area s) refl (ltb 31 (length s)) refl is;
        alone = λ s. set_alone (scan_response_pdu d.dev_addr s);
        starting = λ time interval records tx. start_keeps time interval tx (discoverable d records);
        ticking = λ tx. tick_keeps (is_advertising d.mode) (payload_to d.adv.pdu tx);
        hearing = λ end h p crc_good tx.
            ap (λ (s : Step). s.state.scan_response) (packet_as d end h p crc_good tx)
            ∙ packet_keeps (is_advertising d.mode) crc_good (for_board d.dev_addr h p) _ (addressed_keeps end (pdu_in h p).lldata tx (pdu_in h p).ty);
        hopping = event_keeps (is_connected d.mode) (hopped d.conn.channel_map d.conn.unmapped_channel d.conn.hop);
        stopping = refl;
      }
