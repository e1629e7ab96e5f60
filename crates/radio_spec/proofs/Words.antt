-- What the words of demand 3 mean, and what calls leave in buffers: `words`, `modes`, `refusing`, `transmits`, `hears_packet`. Assumes nothing.
use mathlib.Core.Bool.{Bool, true, false, cond, ◌&&◌, and-false, false≢true}
use mathlib.Core.List.{List, [], ◌∷◌, ◌++◌}
use mathlib.Core.Logic.{◌⊎◌, inl, inr, ⊎_elim}
use mathlib.Core.Path.{◌≡◌, refl, sym, ap, ◌∙◌}
use Prim.Native.Nat.{ℕ, ◌+◌, ◌*◌, ◌%◌, ◌≤◌, ◌<◌}
use native.Mathlib.Nat.{zero-add}
use native.Mathlib.Omega.{arith}
use lib.Dec.{ltb}
use lib.ListN.{length, drop, length-append}
use borrow.Author.Tests.{eq-eqb, lt-ltb, ltb-true, ltb-false}
use Rattle.octets.proofs.Places.{both_true}
use Rattle.octets.specs.Bytes.{part, le, has}
use Rattle.octets.specs.Error.{number_of}
use Rattle.octets.specs.Time.{later}
use Rattle.octets.specs.declared.error.Error.{Error}
use Rattle.octets.specs.declared.error.Error.TheVariants.{Eof, InvalidLength, EmptyMap, WrongMode, OutOfRange}
use Rattle.octets.specs.declared.time.Instant.{Instant}
use Rattle.channels.proofs.Events.{run}
use Rattle.channels.specs.Hop.{mapped, next, event_channel, unmapped_before, hopped}
use Rattle.channels.specs.Map.{marks, from_raw}
use Rattle.channels.specs.declared.connection.Hop.{Hop}
use Rattle.channels.specs.declared.phy.DataChannel.{DataChannel}
use Rattle.records_spec.proofs.HubReads.{differs}
use Rattle.records_spec.specs.Area.{read_area, rewritten}
use Rattle.addresses.proofs.Addresses.{equality}
use Rattle.addresses.proofs.Boxes.{codes}
use Rattle.addresses.specs.Address.{kind_of, address_of, same_address}
use Rattle.addresses.specs.Header.{type_code, pdu_type, type_of, header_bits, rx_add}
use Rattle.addresses.specs.declared.device_address.DeviceAddress.{DeviceAddress}
use Rattle.addresses.specs.declared.header.Header.{Header}
use Rattle.addresses.specs.declared.header.PduType.{PduType}
use Rattle.addresses.specs.declared.header.PduType.TheVariants.{AdvInd, AdvDirectInd, AdvNonconnInd, AdvScanInd, ScanReq, ScanRsp, ConnectReq, Unknown}
use Rattle.advertising.proofs.Builders.{writing}
use Rattle.advertising.proofs.Building.{building}
use Rattle.advertising.proofs.Figures.{part_after, request_is}
use Rattle.settings.proofs.Ranges.{tests, settles}
use Rattle.advertising.specs.Laws.{ReadsBack}
use Rattle.advertising.specs.Pdu.{ll_data_of, request_of, has_receiver, decode_of, well_formed}
use Rattle.advertising.specs.PduBuf.{flags_record, scan_response_pdu, payload_of, payload_to, payload_after}
use Rattle.settings.specs.Settings.{Within, settings_in, taken_of}
use Rattle.advertising.specs.declared.pdu.ConnectRequestData.{ConnectRequestData}
use Rattle.advertising.specs.declared.pdu.Pdu.{Pdu}
use Rattle.advertising.specs.declared.pdu_buf.PduBuf.{PduBuf}
use Rattle.advertising.specs.declared.pdu_buf.PduBuf.{PduBuf}
use Rattle.settings.specs.Settings.{Settings}
use Rattle.radio_spec.specs.Calls.{instant, first_event_at, is_advertising, is_connected, is_scan_request, refusal, sent, beginning, discoverable, started, started_after, is_for, listens, responds, replied_if, begun, settled, connects_to, addressed, set_to, hopped_to, hops, start_of, start_after, tick_of, tick_after, packet_of, packet_after, event_of, stop_of}
use Rattle.radio_spec.specs.Demand.{number_in, reply_header, reply_octets, ReplyOf}
use Rattle.radio_spec.specs.Laws.{ForBoard, Scans, Requests, Words, Modes, CallRefused, ListWords, CallsByContracts, Transmits, BadStart, HearsPacket}
use Rattle.radio_spec.specs.Call.{Call, start, tick, packet, event, stop, set_scan_data, call_of}
use Rattle.radio_spec.specs.SoFar.{is_connect_request, for_board, requested, asks_to_scan, map_in, hop_in, connects, reply_size}
use Rattle.radio_spec.specs.Trace.{InRun, gathered, gather, tick_run, event_run, hear_run, Strikable}
use Rattle.radio_spec.specs.State.{Advertisement, State, Step}
use Rattle.radio_spec.specs.declared.link.Answer.{Answer}
use Rattle.radio_spec.specs.declared.link.Answer.TheVariants.{Respond, FirstEvent}
use Rattle.radio_spec.specs.declared.link.Mode.{Mode}
use Rattle.radio_spec.specs.declared.link.Mode.TheVariants.{Standby, Advertising, Connected}
use Rattle.radio_spec.proofs.Packets.{pdu_in, to_as, packet_as, after_as, Known, known, requested_is}
use Rattle.radio_spec.proofs.Replies.{reply_size_law}
use Rattle.radio_spec.proofs.Answers.{no_zero}
use Rattle.radio_spec.proofs.Steps.{hop_or, hop_there}
use Rattle.radio_spec.proofs.Demand.{not_ours}
use Rattle.std.specs.Prelude.{Result, Ok, Err, is_ok}

-- the map and the hop of a connect request, by their octets
map_at : (p : List ℕ) → map_in p ≡ part 5 p 28
map_at p = part_after p 5 16

hop_at : (p : List ℕ) → hop_in p ≡ le (part 1 p 33) % 32
hop_at p = ap (λ (o : List ℕ). le o % 32) (part_after p 1 21)

-- the types with a second address, by their codes
receiver_code : (ty : PduType) → has_receiver ty ≡ true → (type_code ty ≡ 1) ⊎ ((type_code ty ≡ 3) ⊎ (type_code ty ≡ 5))
receiver_code AdvDirectInd e = inl refl
receiver_code ScanReq e = inr (inl refl)
receiver_code ConnectReq e = inr (inr refl)
receiver_code AdvInd e = absurd (false≢true e)
receiver_code AdvNonconnInd e = absurd (false≢true e)
receiver_code AdvScanInd e = absurd (false≢true e)
receiver_code ScanRsp e = absurd (false≢true e)
receiver_code (Unknown n) e = absurd (false≢true e)

code_receiver : (n : ℕ) → (n ≡ 1) ⊎ ((n ≡ 3) ⊎ (n ≡ 5)) → has_receiver (pdu_type n) ≡ true
code_receiver n is =
    ⊎_elim (λ e. ap (λ (k : ℕ). has_receiver (pdu_type k)) e ∙ ap has_receiver codes.code_1)
    (λ f. ⊎_elim (λ e. ap (λ (k : ℕ). has_receiver (pdu_type k)) e ∙ ap has_receiver codes.code_3) (λ e. ap (λ (k : ℕ). has_receiver (pdu_type k)) e ∙ ap has_receiver codes.code_5) f)
    is

-- what is not refused is there
decodes : (r : Result Pdu Error) → is_ok r ≡ true → (pdu : Pdu) × (r ≡ Ok pdu)
decodes (Ok pdu) e = (pdu, refl)
decodes (Err x) e = absurd (false≢true e)

module _ (own : DeviceAddress) (h : Header) (p : List ℕ) where
  for_board_law : for_board own h p ≡ true → ForBoard own h p
  unfolding is_for
  for_board_law e =
      let pdu : Pdu = pdu_in h p in
      let k : Known h p (decode_of h p) = known h p in
      let parts = both_true (has_receiver pdu.ty) (same_address pdu.receiver own) (sym (to_as own (decode_of h p)) ∙ e) in
      let good : well_formed h p ≡ true = k.good parts.0 in
      let type : has_receiver (type_of h) ≡ true = ap has_receiver (sym (k.type good)) ∙ parts.0 in
      record {
        good = good;
        type = rw (← codes.back (header_bits 0 4 h)) (receiver_code (type_of h) type);
        second = sym (k.second good parts.0) ∙ (equality pdu.receiver own).sound parts.1;
      }

  for_board_if : ForBoard own h p → for_board own h p ≡ true
  unfolding is_for
  for_board_if f =
      let pdu : Pdu = pdu_in h p in
      let k : Known h p (decode_of h p) = known h p in
      let has_one : has_receiver pdu.ty ≡ true = ap has_receiver (k.type f.good) ∙ code_receiver (header_bits 0 4 h) f.type in
      let same : same_address pdu.receiver own ≡ true = (equality pdu.receiver own).complete (k.second f.good has_one ∙ f.second) in
      to_as own (decode_of h p) ∙ rw (has_one, same)

  type_5 : (ty : PduType) → is_connect_request ty ≡ true → type_code ty ≡ 5
  type_5 ConnectReq e = refl
  type_5 AdvInd e = absurd (false≢true e)
  type_5 AdvDirectInd e = absurd (false≢true e)
  type_5 AdvNonconnInd e = absurd (false≢true e)
  type_5 AdvScanInd e = absurd (false≢true e)
  type_5 ScanReq e = absurd (false≢true e)
  type_5 ScanRsp e = absurd (false≢true e)
  type_5 (Unknown n) e = absurd (false≢true e)

  type_3 : (ty : PduType) → is_scan_request ty ≡ true → type_code ty ≡ 3
  type_3 ScanReq e = refl
  type_3 AdvInd e = absurd (false≢true e)
  type_3 AdvDirectInd e = absurd (false≢true e)
  type_3 AdvNonconnInd e = absurd (false≢true e)
  type_3 AdvScanInd e = absurd (false≢true e)
  type_3 ConnectReq e = absurd (false≢true e)
  type_3 ScanRsp e = absurd (false≢true e)
  type_3 (Unknown n) e = absurd (false≢true e)

  -- a request of the type n, both ways
  record Asked (n : ℕ) (crc_good : Bool) : Type 0 where
    crc : crc_good ≡ true
    good : well_formed h p ≡ true
    type : header_bits 0 4 h ≡ n
    second : address_of (part 6 p 6) (kind_of (rx_add h)) ≡ own

  scan_request : (is : PduType → Bool) (n : ℕ) → ((ty : PduType) → is ty ≡ true → type_code ty ≡ n) → (crc_good : Bool) → requested is own crc_good h p ≡ true → Asked n crc_good
  scan_request is n typed crc_good e =
      let crc = both_true crc_good _ (sym (requested_is own h p is crc_good) ∙ e) in
      let ours = both_true (for_board own h p) _ crc.1 in
      let good : well_formed h p ≡ true = (for_board_law ours.0).good in
      record {
        crc = crc.0;
        good = good;
        type = sym (codes.back (header_bits 0 4 h)) ∙ (ap type_code (sym ((known h p).type good)) ∙ typed (pdu_in h p).ty ours.1);
        second = (for_board_law ours.0).second;
      }

  asked_if : (is : PduType → Bool) (n : ℕ) (ty : PduType) → pdu_type n ≡ ty → is ty ≡ true → (n ≡ 1) ⊎ ((n ≡ 3) ⊎ (n ≡ 5)) → (crc_good : Bool) → Asked n crc_good
      → requested is own crc_good h p ≡ true
  asked_if is n ty code yes-one with_Second crc_good r =
      let ours : for_board own h p ≡ true = for_board_if (record { good = r.good; type = rw r.type with_Second; second = r.second }) in
      let typed : (pdu_in h p).ty ≡ ty = (known h p).type r.good ∙ (ap pdu_type r.type ∙ code) in
      let asks-one : is (pdu_in h p).ty ≡ true = ap is typed ∙ yes-one in
      requested_is own h p is crc_good ∙ rw (r.crc, ours, asks-one)

  scan_request_law : (crc_good : Bool) → asks_to_scan own crc_good h p ≡ true → Scans own h p crc_good
  scan_request_law crc_good e =
      let r = scan_request is_scan_request 3 type_3 crc_good e in
      record { crc = r.crc; good = r.good; type = r.type; second = r.second }

  scan_request_if : (crc_good : Bool) → Scans own h p crc_good → asks_to_scan own crc_good h p ≡ true
  scan_request_if crc_good r =
      asked_if is_scan_request 3 ScanReq codes.code_3 refl (inr (inl refl)) crc_good (record { crc = r.crc; good = r.good; type = r.type; second = r.second })

  request : (end : Instant) (crc_good : Bool) (tx : List ℕ) → connects own (packet end h p crc_good tx) ≡ true → Requests own h p crc_good
  unfolding connects
  request end crc_good tx e =
      let parts = both_true _ _ e in
      let r = scan_request is_connect_request 5 type_5 crc_good parts.0 in
      let rest = both_true _ _ parts.1 in
      record { crc = r.crc; good = r.good; type = r.type; second = r.second; some = rw (← map_at p) (ltb-true 0 (marks (map_in p)) rest.0); ranges = (tests _ _ _ _ _ _ _).0 rest.1 }

  request_if : (end : Instant) (crc_good : Bool) (tx : List ℕ) → Requests own h p crc_good → connects own (packet end h p crc_good tx) ≡ true
  unfolding connects
  request_if end crc_good tx r =
      let asks-one = asked_if is_connect_request 5 ConnectReq codes.code_5 refl (inr (inr refl)) crc_good (record { crc = r.crc; good = r.good; type = r.type; second = r.second }) in
      rw (asks-one, lt-ltb 0 (marks (map_in p)) (rw (map_at p) r.some), (tests _ _ _ _ _ _ _).1 r.ranges)

  pub words : Words own h p
  words =
      record {
        standby = refl;
        address = refl;
        well_formed_law = decodes (decode_of h p);
        well_formed_if = λ pdu e. rw e;
        for_board_law = for_board_law;
        for_board_if = for_board_if;
        scan_request_law = scan_request_law;
        scan_request_if = scan_request_if;
        request = request;
        request_if = request_if;
        map = map_at p;
        hop = hop_at p;
      }

abbrev is_refusal : Result Answer Error → Bool
is_refusal (Err e) = true
is_refusal (Ok answer) = false

-- no answer that is something else is a refusal
no_refusal : {A : Type 0} (a : Result Answer Error) {e : Error} → is_refusal a ≡ false → a ≡ Err e → A
no_refusal a not-one is = absurd (false≢true (sym not-one ∙ ap is_refusal is))

module _ (d : State) where
  module _ (a : Advertisement) (tx : List ℕ) where
    abbrev n : ℕ
    n = length (payload_of a.pdu)

    -- a tick of `a` that is refused, and one that is not
    sent_refused : (fits : Bool) {e : Error} → has n tx 0 ≡ fits → (sent d a (payload_to a.pdu tx)).answer ≡ Err e
        → ((sent d a (payload_to a.pdu tx)).state ≡ d) × (payload_after a.pdu tx ≡ tx)
    sent_refused true f is = no_refusal (sent d a (payload_to a.pdu tx)).answer (rw f) is
    sent_refused false f is = (rw f, rw f)

    sent_written : (fits : Bool) → has n tx 0 ≡ fits → number_in (sent d a (payload_to a.pdu tx)).answer ≡ 0 → payload_after a.pdu tx ≡ payload_of a.pdu ++ drop n tx
    sent_written true f is = rw (f, zero-add n)
    sent_written false f is = let no : number_in (refusal d Eof).answer ≡ 0 = rw f at is in absurd (omega (arith, no))

  start_refused : (time : Instant) (interval : ℕ) (tx : List ℕ) (built : Result PduBuf Error) {e : Error}
      → (started d time interval tx built).answer ≡ Err e
      → ((started d time interval tx built).state ≡ d) × (started_after tx built ≡ tx)
  start_refused time interval tx (Ok pdu) is = sent_refused (beginning time interval pdu) tx (has (length (payload_of pdu)) tx 0) refl is
  start_refused time interval tx (Err x) is = (refl, refl)

  tick_refused : (tx : List ℕ) (adv : Bool) {e : Error} → (cond adv (sent d d.adv (payload_to d.adv.pdu tx)) (refusal d WrongMode)).answer ≡ Err e
      → ((cond adv (sent d d.adv (payload_to d.adv.pdu tx)) (refusal d WrongMode)).state ≡ d) × (cond adv (payload_after d.adv.pdu tx) tx ≡ tx)
  tick_refused tx true is = sent_refused d.adv tx (has (length (payload_of d.adv.pdu)) tx 0) refl is
  tick_refused tx false is = (refl, refl)

  connect_refused : (end : Instant) (l : ConnectRequestData) (taken : Result Settings Error) {e : Error} → (settled d end l taken).answer ≡ Err e → (settled d end l taken).state ≡ d
  connect_refused end l (Ok s) is = no_refusal (begun d end l s).answer refl is
  connect_refused end l (Err x) is = refl

  respond_refused : (tx : List ℕ) (fits : Bool) {e : Error} → has (length (payload_of d.scan_response)) tx 0 ≡ fits → (responds d (payload_to d.scan_response tx)).answer ≡ Err e
      → ((responds d (payload_to d.scan_response tx)).state ≡ d) × (payload_after d.scan_response tx ≡ tx)
  respond_refused tx true f is = no_refusal (responds d (payload_to d.scan_response tx)).answer (rw f) is
  respond_refused tx false f is = (rw f, rw f)

  addressed_refused : (end : Instant) (l : ConnectRequestData) (tx : List ℕ) (ty : PduType) {e : Error} → (addressed d end l tx ty).answer ≡ Err e
      → ((addressed d end l tx ty).state ≡ d) × (replied_if (is_scan_request ty) d tx ≡ tx)
  unfolding addressed connects_to
  addressed_refused end l tx ConnectReq is = (connect_refused end l (taken_of l) is, refl)
  addressed_refused end l tx ScanReq is = respond_refused tx (has (length (payload_of d.scan_response)) tx 0) refl is
  addressed_refused end l tx AdvDirectInd is = (refl, refl)
  addressed_refused end l tx AdvInd is = (refl, refl)
  addressed_refused end l tx AdvNonconnInd is = (refl, refl)
  addressed_refused end l tx AdvScanInd is = (refl, refl)
  addressed_refused end l tx ScanRsp is = (refl, refl)
  addressed_refused end l tx (Unknown k) is = (refl, refl)

  packet_refused : (tx : List ℕ) (adv crc ours scan : Bool) (r : Step) {e : Error} → (r.answer ≡ Err e → (r.state ≡ d) × (replied_if scan d tx ≡ tx))
      → (cond adv (cond crc (cond ours r (listens d)) (listens d)) (refusal d WrongMode)).answer ≡ Err e
      → ((cond adv (cond crc (cond ours r (listens d)) (listens d)) (refusal d WrongMode)).state ≡ d) × (replied_if (adv && (crc && (ours && scan))) d tx ≡ tx)
  packet_refused tx false crc ours scan r h is = (refl, refl)
  packet_refused tx true false ours scan r h is = (refl, refl)
  packet_refused tx true true false scan r h is = (refl, refl)
  packet_refused tx true true true scan r h is = h is

  set_refused : (built : Result PduBuf Error) {e : Error} → (set_to d built).answer ≡ Err e → (set_to d built).state ≡ d
  set_refused (Ok pdu) is = no_refusal (set_to d (Ok pdu)).answer refl is
  set_refused (Err x) is = refl

  event_refused : (on : Bool) (h : Result Hop Error) {e : Error} → (cond on (hopped_to d h) (refusal d WrongMode)).answer ≡ Err e → (cond on (hopped_to d h) (refusal d WrongMode)).state ≡ d
  event_refused false h is = refl
  event_refused true (Err x) is = refl
  event_refused true (Ok hop) is = no_refusal (hopped_to d (Ok hop)).answer refl is

pub refusing : (d : State) (c : Call) (e : Error) → CallRefused d c e
unfolding start_of start_after tick_of tick_after event_of hops
refusing d (start time interval records tx) e =
    record {
      state = λ is. (start_refused d time interval tx (discoverable d records) is).0;
      buffers = λ is. ap (λ (l : List ℕ). records ∷ l ∷ []) (start_refused d time interval tx (discoverable d records) is).1;
    }
refusing d (tick tx) e =
    record {
      state = λ is. (tick_refused d tx (is_advertising d.mode) is).0;
      buffers = λ is. ap (λ (l : List ℕ). l ∷ []) (tick_refused d tx (is_advertising d.mode) is).1;
    }
refusing d (packet end h p crc_good tx) e =
    let pdu = pdu_in h p in
    let unchanged = packet_refused d tx (is_advertising d.mode) crc_good (for_board d.dev_addr h p) (is_scan_request pdu.ty) (addressed d end pdu.lldata tx pdu.ty) (addressed_refused d end pdu.lldata tx pdu.ty) in
    let answers = packet_as d end h p crc_good tx in
    record {
      state = λ is. ap (λ (s : Step). s.state) answers ∙ (unchanged (sym (ap (λ (s : Step). s.answer) answers) ∙ is)).0;
      buffers = λ is. ap (λ (l : List ℕ). p ∷ l ∷ []) (after_as d h p crc_good tx ∙ (unchanged (sym (ap (λ (s : Step). s.answer) answers) ∙ is)).1);
    }
refusing d event e =
    record {
      state = event_refused d (is_connected d.mode) (hopped d.conn.channel_map d.conn.unmapped_channel d.conn.hop);
      buffers = λ is. refl;
    }
refusing d stop e = record { state = λ is. no_refusal (stop_of d).answer refl is; buffers = λ is. refl }
refusing d (set_scan_data records) e =
    record { state = set_refused d (scan_response_pdu d.dev_addr records); buffers = λ is. refl }

pub modes : (m : Mode) → Modes m
modes Standby =
    record {
      advertising = λ e. absurd (false≢true e);
      advertising_if = λ e. ap is_advertising e;
      connected = λ e. absurd (false≢true e);
      connected_if = λ e. ap is_connected e;
    }
modes Advertising =
    record { advertising = λ e. refl; advertising_if = λ e. refl; connected = λ e. absurd (false≢true e); connected_if = λ e. ap is_connected e }
modes Connected =
    record { advertising = λ e. absurd (false≢true e); advertising_if = λ e. ap is_advertising e; connected = λ e. refl; connected_if = λ e. refl }

module _ (d : State) (tx : List ℕ) where
  ticked : (adv : Bool) → number_in (cond adv (sent d d.adv (payload_to d.adv.pdu tx)) (refusal d WrongMode)).answer ≡ 0
      → cond adv (payload_after d.adv.pdu tx) tx ≡ payload_of d.adv.pdu ++ drop (length (payload_of d.adv.pdu)) tx
  ticked true is = sent_written d d.adv tx (has (length (payload_of d.adv.pdu)) tx 0) refl is
  ticked false is = absurd (omega (arith, is))

  module _ (six : length d.dev_addr.bytes ≡ 6) (time : Instant) (interval : ℕ) (records : List ℕ) where
    abbrev payload : List ℕ
    payload = (d.dev_addr.bytes ++ flags_record) ++ rewritten records

    abbrev this : Call
    this = start time interval records tx

    front : length (d.dev_addr.bytes ++ flags_record) ≡ 9
    front = simp length-append (omega (arith, six))

    started_fitting : (m : ℕ) → read_area records ≡ Ok m → length records ≤ 28 → number_in (call_of d this).answer ≡ 0
        → start_after d records tx ≡ payload ++ drop (length payload) tx
    unfolding start_of start_after
    started_fitting m good few is =
        let back : ReadsBack AdvInd d.dev_addr flags_record records (m + 1) = building.discoverable d.dev_addr records m six good few in
        let a : Advertisement = beginning time interval back.pdu in
        let ok : number_in (sent d a (payload_to back.pdu tx)).answer ≡ 0 = rw back.built at is in
        let wrote = sent_written d a tx (has (length (payload_of back.pdu)) tx 0) refl ok in
        rw back.built (rw (← back.payload) wrote)

    started_writes : (a : Result ℕ Error) → read_area records ≡ a → (many : Bool) → ltb 28 (length records) ≡ many → number_in (call_of d this).answer ≡ 0
        → start_after d records tx ≡ payload ++ drop (length payload) tx
    unfolding start_of
    started_writes (Err e) good many m is =
        let no : number_of e ≡ 0 = rw (building.bad_area AdvInd d.dev_addr flags_record records e good) at is in
        absurd (false≢true (sym (no_zero e) ∙ eq-eqb (number_of e) 0 no))
    started_writes (Ok k) good true m is =
        let long : 37 < length (d.dev_addr.bytes ++ flags_record) + length records = omega (arith, front, ltb-true 28 (length records) m) in
        let no : ◌≡◌ {A = ℕ} 1 0 = rw (building.too_long AdvInd d.dev_addr flags_record records k good (omega (arith, front)) long) at is in
        absurd (omega (arith, no))
    started_writes (Ok k) good false m is = started_fitting k good (ltb-false 28 (length records) m) is

  pub bad_start : (time : Instant) (interval : ℕ) (records : List ℕ) → BadStart d time interval records tx
  unfolding start_of
  bad_start time interval records = record { bad_area = bad_area; zeros = λ z. bad_area InvalidLength ((differs records).strict z) }
    where
      bad_area : (e : Error) → read_area records ≡ Err e → call_of d (start time interval records tx) ≡ refusal d e
      bad_area e is = rw (building.bad_area AdvInd d.dev_addr flags_record records e is)

  pub transmits : Transmits d tx
  unfolding tick_of tick_after
  transmits =
      record {
        ticking = λ is. ap (λ (l : List ℕ). l ∷ []) (ticked (is_advertising d.mode) is);
        starting = λ six time interval records is.
            ap (λ (l : List ℕ). records ∷ l ∷ []) (started_writes six time interval records (read_area records) refl (ltb 28 (length records)) refl is);
      }

module _ (d : State) (end : Instant) (h : Header) (p : List ℕ) (crc_good : Bool) (tx : List ℕ) where
  abbrev own : DeviceAddress
  own = d.dev_addr

  -- a packet that is no scan request to this device writes nothing
  unwritten : (Scans own h p crc_good → ⊥) → packet_after d h p crc_good tx ≡ tx
  unwritten no-scan = after_as d h p crc_good tx ∙ go (asks_to_scan own crc_good h p) refl
    where
      go : (b : Bool) → asks_to_scan own crc_good h p ≡ b
          → replied_if (is_advertising d.mode && (crc_good && (for_board own h p && is_scan_request (pdu_in h p).ty))) d tx ≡ tx
      go true e = absurd (no-scan (scan_request_law own h p crc_good e))
      go false e = rw (← requested_is own h p is_scan_request crc_good, e) (simp and-false)

  module _ (on : d.mode ≡ Advertising) where
    unheard : (crc_good && for_board own h p) ≡ false → packet_of d end h p crc_good tx ≡ listens d
    unheard e = packet_as d end h p crc_good tx ∙ go crc_good (for_board own h p) e
      where
        go : (crc ours : Bool) → (crc && ours) ≡ false
            → cond (is_advertising d.mode) (cond crc (cond ours (addressed d end (pdu_in h p).lldata tx (pdu_in h p).ty) (listens d)) (listens d)) (refusal d WrongMode) ≡ listens d
        go false ours e = ap (λ (m : Mode). cond (is_advertising m) (listens d) (refusal d WrongMode)) on
        go true false e = ap (λ (m : Mode). cond (is_advertising m) (listens d) (refusal d WrongMode)) on
        go true true e = absurd (false≢true (sym e))

    bad : Strikable own (packet end h p crc_good tx) → packet_of d end h p crc_good tx ≡ listens d
    bad s = unheard (not_ours s)

    -- a good packet for this board, by its type
    abbrev here : Step
    here = cond (for_board own h p) (addressed d end (pdu_in h p).lldata tx (pdu_in h p).ty) (listens d)

    taken : crc_good ≡ true → ForBoard own h p → (ty : PduType) → (pdu_in h p).ty ≡ ty
        → packet_of d end h p crc_good tx ≡ addressed d end (pdu_in h p).lldata tx ty
    taken crc ours ty is =
        packet_as d end h p crc_good tx
        ∙ (ap (λ (m : Mode). cond (is_advertising m) (cond crc_good here (listens d)) (refusal d WrongMode)) on
        ∙ (ap (λ (b : Bool). cond b here (listens d)) crc
        ∙ (ap (λ (b : Bool). cond b (addressed d end (pdu_in h p).lldata tx (pdu_in h p).ty) (listens d)) (for_board_if own h p ours)
        ∙ ap (addressed d end (pdu_in h p).lldata tx) is)))

    typed : ForBoard own h p → (ty : PduType) → pdu_type (header_bits 0 4 h) ≡ ty → (pdu_in h p).ty ≡ ty
    typed ours ty is = (known h p).type ours.good ∙ is

    -- a scan request to this device, whose reply has the scan data s
    module _ (s : List ℕ) (six : length own.bytes ≡ 6) (reply : ReplyOf own s d.scan_response) (r : Scans own h p crc_good) where
      abbrev response : PduBuf
      response = d.scan_response

      size : length (payload_of response) ≡ reply_size s
      size = reply_size_law own s six reply

      responded : packet_of d end h p crc_good tx ≡ responds d (payload_to response tx)
      unfolding addressed
      responded =
          let ours : ForBoard own h p = record { good = r.good; type = inr (inl r.type); second = r.second } in
          taken r.crc ours ScanReq (typed ours ScanReq (ap pdu_type r.type ∙ codes.code_3))

      written_reply : packet_after d h p crc_good tx ≡ payload_after response tx
      written_reply =
          let asked-one : (crc_good && (for_board own h p && is_scan_request (pdu_in h p).ty)) ≡ true =
          sym (requested_is own h p is_scan_request crc_good) ∙ scan_request_if own h p crc_good r in
          after_as d h p crc_good tx ∙ rw (on, asked-one)

      scanned : reply_size s ≤ length tx
          → (packet_of d end h p crc_good tx ≡ record { answer = Ok (Respond (reply_header own s) d.adv.channel); state = d })
          × (packet_after d h p crc_good tx ≡ reply_octets own s ++ drop (reply_size s) tx)
      scanned room =
          let fits : length (payload_of response) ≤ length tx = omega (arith, size) in (
            responded ∙ (ap (responds d) ((writing response tx).fits fits) ∙ ap (λ (x : Header). record { answer = Ok (Respond x d.adv.channel); state = d }) reply.header),
            written_reply ∙ ((writing response tx).octets fits ∙ (λ i. reply.payload i ++ drop (size i) tx)),
          )

      no_room : length tx < reply_size s → packet_of d end h p crc_good tx ≡ refusal d Eof
      no_room few = responded ∙ ap (responds d) ((writing response tx).short (omega (arith, size)))

    five_bits : hop_in p % 32 ≡ hop_in p
    five_bits = omega arith

    -- the first hop of a request is event 0
    first_hop : 1 ≤ marks (map_in p) → (begun d end (request_of p) (settings_in (request_of p))).answer
        ≡ Ok (FirstEvent (record { index = event_channel (map_in p) (hop_in p) 0 }) (first_event_at end (request_of p)) (request_of p).access_address (request_of p).crc_init)
    unfolding unmapped_before ll_data_of
    first_hop some =
        let same = sym (hop_there (from_raw (map_in p)) 0 (hop_in p) (omega arith) some) ∙ run (map_in p) (hop_in p) 0 some in
        let channel : DataChannel = record { index = mapped (from_raw (map_in p)).raw (marks (map_in p)) (next 0 (hop_in p)) } in
        let is : channel ≡ record { index = event_channel (map_in p) (hop_in p % 32) 0 } = ap (λ (r : Result Hop Error). (hop_or r).channel) same in
        ap (λ (x : DataChannel). Ok (FirstEvent x (first_event_at end (request_of p)) (request_of p).access_address (request_of p).crc_init))
        (is ∙ ap (λ (x : ℕ). record { index = event_channel (map_in p) x 0 }) five_bits)

    -- a connect request to this device, whose settings are taken or not
    settling : crc_good ≡ true → ForBoard own h p → header_bits 0 4 h ≡ 5 → (t : Result Settings Error) → taken_of (request_of p) ≡ t
        → packet_of d end h p crc_good tx ≡ settled d end (request_of p) t
    unfolding addressed connects_to
    settling crc ours five t is =
        let asked-one : (pdu_in h p).ty ≡ ConnectReq = typed ours ConnectReq (ap pdu_type five ∙ codes.code_5) in
        taken crc ours ConnectReq asked-one
        ∙ (ap (λ (l : ConnectRequestData). connects_to d end l) ((known h p).request (ap is_connect_request asked-one))
        ∙ ap (settled d end (request_of p)) is)

    requested_first : Requests own h p crc_good
        → (packet_of d end h p crc_good tx).answer
        ≡ Ok (FirstEvent (record { index = event_channel (part 5 p 28) (le (part 1 p 33) % 32) 0 })
        (instant (later end.0 (le (part 2 p 20) * 1250 + le (part 1 p 19) * 1250 + 1750))) (le (part 4 p 12)) (le (part 3 p 16)))
    requested_first r =
        let ours : ForBoard own h p = record { good = r.good; type = inr (inr r.type); second = r.second } in
        ap (λ (x : Step). x.answer) (settling r.crc ours r.type _ ((settles p).complete r.ranges)) ∙ (first_hop (rw (map_at p) r.some)
        ∙ (λ i. Ok (FirstEvent (record { index = event_channel (map_at p i) (hop_at p i) 0 }) (first_event_at end (request_is p i)) (request_is p i).access_address (request_is p i).crc_init)))

    requested_empty : crc_good ≡ true → ForBoard own h p → header_bits 0 4 h ≡ 5 → marks (part 5 p 28) ≡ 0 → packet_of d end h p crc_good tx ≡ refusal d EmptyMap
    unfolding ll_data_of
    requested_empty crc ours five zero-marks = settling crc ours five _ ((settles p).empty (rw (map_at p) zero-marks))

    requested_outside : crc_good ≡ true → ForBoard own h p → header_bits 0 4 h ≡ 5 → 1 ≤ marks (part 5 p 28) → (Within (settings_in (request_of p)) → ⊥) → packet_of d end h p crc_good tx ≡ refusal d OutOfRange
    unfolding ll_data_of
    requested_outside crc ours five some out = settling crc ours five _ ((settles p).outside (rw (map_at p) some) out)

  off : is_advertising d.mode ≡ false → packet_of d end h p crc_good tx ≡ refusal d WrongMode
  unfolding packet_of
  off standing = rw standing

  pub hears_packet : HearsPacket d end h p crc_good tx
  unfolding addressed
  hears_packet =
      record {
        bad = bad;
        other = λ on crc ours is. taken on crc ours AdvDirectInd (typed on ours AdvDirectInd (ap pdu_type is ∙ codes.code_1));
        scan = λ s six reply on r. scanned on s six reply r;
        no_room = λ s six reply on r. no_room on s six reply r;
        request = requested_first;
        empty = requested_empty;
        outside = requested_outside;
        off = off;
        unwritten = unwritten;
      }

-- the words of the list

pub calls_by_contracts : (d : State) → CallsByContracts d
calls_by_contracts d =
    record {
      starts = λ time interval records tx. refl;
      start_leaves = λ time interval records tx. refl;
      ticks = λ tx. refl;
      tick_leaves = λ tx. refl;
      hears = λ end h p crc_good tx. refl;
      packet_leaves = λ end h p crc_good tx. refl;
      events = (refl, refl);
      stops = (refl, refl);
      sets = λ records. (refl, refl);
    }

pub list_words : ListWords
unfolding tick_run event_run hear_run
list_words =
    record {
      start_lent = λ time interval records tx. refl;
      tick_lent = λ tx. refl;
      packet_lent = λ end h p crc_good tx. refl;
      set_lent = λ records. refl;
      start_transmits = λ xs time interval records tx. refl;
      tick_transmits = λ xs tx. refl;
      packet_transmits = λ xs end h p crc_good tx. refl;
      a_start = λ time interval records tx. refl;
      a_tick = λ tx. refl;
      a_packet = λ ok end h p crc_good tx. refl;
      an_event = refl;
      a_stop = λ ok. refl;
      a_set = λ ok records. refl;
      refused_start = λ time interval records tx. refl;
      refused_tick = λ tx. refl;
      refused_event = refl;
      none_left = λ role. refl;
      at_end = λ role e later is. ap (λ (r : InRun). gathered r e (gather role later)) is;
      at_one = λ role e later is. ap (λ (r : InRun). gathered r e (gather role later)) is;
      passed = λ role e later is. ap (λ (r : InRun). gathered r e (gather role later)) is;
    }
