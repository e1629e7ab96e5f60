-- What a start, a tick and an event answer, and the mode after any call: `start_sends`, `tick_sends`, `event_hops`, `mode_moves`. Assumes nothing.
use mathlib.Core.Bool.{Bool, true, false, cond}
use mathlib.Core.List.{List, ◌++◌}
use mathlib.Core.Path.{◌≡◌, refl, ap, ◌∙◌, subst, sym}
use Prim.Native.Nat.{ℕ, ◌+◌, ◌≤◌, ◌<◌}
use native.Mathlib.Omega.{arith}
use lib.ListN.{length, length-append}
use Rattle.octets.specs.declared.time.Instant.{Instant}
use Rattle.records_spec.proofs.RoundTrip.{round_trip}
use Rattle.records_spec.specs.Area.{read_area}
use Rattle.addresses.specs.Address.{is_random}
use Rattle.addresses.specs.declared.header.Header.{Header}
use Rattle.addresses.specs.declared.header.PduType.{PduType}
use Rattle.addresses.specs.declared.header.PduType.TheVariants.{AdvInd, AdvDirectInd, AdvNonconnInd, AdvScanInd, ScanReq, ScanRsp, ConnectReq, Unknown}
use Rattle.advertising.proofs.Builders.{writing}
use Rattle.advertising.proofs.Building.{building}
use Rattle.advertising.specs.Laws.{ReadsBack}
use Rattle.advertising.specs.PduBuf.{header_for, flags_record, scan_response_pdu, payload_of, payload_to}
use Rattle.settings.specs.Settings.{taken_of}
use Rattle.advertising.specs.declared.pdu.ConnectRequestData.{ConnectRequestData}
use Rattle.advertising.specs.declared.pdu_buf.PduBuf.{PduBuf}
use Rattle.settings.specs.Settings.{Settings}
use Rattle.octets.specs.Time.{later}
use Rattle.octets.specs.declared.error.Error.TheVariants.{WrongMode}
use Rattle.channels.specs.Hop.{hopped}
use Rattle.channels.specs.declared.connection.Hop.{Hop}
use Rattle.channels.specs.declared.phy.AdvertisingChannel.TheVariants.{Channel38}
use Rattle.radio_spec.specs.Answering.{StartSends, TickSends, EventHops, mode_by, ModeMoves}
use Rattle.radio_spec.specs.Calls.{instant, is_advertising, is_connected, refusal, sent, beginning, discoverable, started, listens, responds, settled, connects_to, addressed, set_to, hopped_to, start_of, tick_of, event_of, hops}
use Rattle.radio_spec.specs.Call.{Call, start, tick, packet, event, stop, set_scan_data}
use Rattle.radio_spec.specs.declared.link.Answer.TheVariants.{Sent}
use Rattle.radio_spec.specs.State.{State, Step, Advertisement}
use Rattle.radio_spec.proofs.Packets.{pdu_in, packet_as}
use Rattle.radio_spec.specs.SoFar.{for_board}
use Rattle.radio_spec.proofs.Steps.{hop_there}
use Rattle.std.specs.Prelude.{Result, Ok, Err}
use Rattle.octets.specs.declared.error.Error.{Error}
use Rattle.octets.specs.declared.bytes.ByteWriter.{ByteWriter}

module _ (d : State) (time : Instant) (interval : ℕ) (records tx : List ℕ) (n : ℕ) where
  pub start_sends : StartSends d time interval records tx n
  unfolding start_of
  start_sends =
      record {
        accepted = λ six good few room.
            let b = back six good few in
            let fits : length (payload_of b.pdu) ≤ length tx = omega (arith, size six good few) in
            let nine : 6 + (3 + length records) ≡ 9 + length records = omega arith in
            let header : b.pdu.header ≡ header_for AdvInd (is_random d.dev_addr.kind) false (9 + length records) =
            b.header ∙ ap (header_for AdvInd (is_random d.dev_addr.kind) false) nine in
            rw (b.built, (writing b.pdu tx).fits fits) (ap (λ (h : Header). Ok (Sent h Channel38 (instant (later time.0 interval)))) header);
        too_long = λ six good many.
            rw (building.too_long AdvInd d.dev_addr flags_record records n good (omega (arith, front six)) (omega (arith, front six)));
        no_room = λ six good few short.
            let b = back six good few in
            let full : length tx < length (payload_of b.pdu) = omega (arith, size six good few) in
            rw (b.built, (writing b.pdu tx).short full);
      }
    where
      front : length d.dev_addr.bytes ≡ 6 → length (d.dev_addr.bytes ++ flags_record) ≡ 9
      front six = simp length-append (omega (arith, six))

      back : length d.dev_addr.bytes ≡ 6 → read_area records ≡ Ok n → length records ≤ 28 → ReadsBack AdvInd d.dev_addr flags_record records (n + 1)
      back six good few = building.discoverable d.dev_addr records n six good few

      size : (six : length d.dev_addr.bytes ≡ 6) (good : read_area records ≡ Ok n) (few : length records ≤ 28) → length (payload_of (back six good few).pdu) ≡ 9 + length records
      size six good few = ap length (back six good few).payload ∙ simp length-append (omega (arith, front six, (round_trip records).as_long))

pub tick_sends : (d : State) (tx : List ℕ) → TickSends d tx
unfolding tick_of
tick_sends d tx =
    record {
      off = λ standing. rw standing;
      sends = λ on fits. rw (on, (writing d.adv.pdu tx).fits fits);
      moves_on = λ on fits. rw (on, (writing d.adv.pdu tx).fits fits);
      no_room = λ on short. rw (on, (writing d.adv.pdu tx).short short);
    }

pub event_hops : (d : State) → EventHops d
unfolding event_of hops
event_hops d =
    record {
      off = λ standing. rw standing;
      given = λ on low some.
          let there = hop_there d.conn.channel_map d.conn.unmapped_channel d.conn.hop low some in
          rw (on, there);
      moves_on = λ on low some.
          let there = hop_there d.conn.channel_map d.conn.unmapped_channel d.conn.hop low some in
          rw (on, there);
    }

-- the mode after a call, case by case
module _ (d : State) where
  abbrev Moved : Step → Type 0
  Moved r = r.state.mode ≡ mode_by d.mode r.answer

  sent_moved : (a : Advertisement) (w : Result ByteWriter Error) → Moved (sent d a w)
  sent_moved a (Ok next) = refl
  sent_moved a (Err e) = refl

  started_moved : (time : Instant) (interval : ℕ) (tx : List ℕ) (built : Result PduBuf Error) → Moved (started d time interval tx built)
  started_moved time interval tx (Ok pdu) = sent_moved (beginning time interval pdu) (payload_to pdu tx)
  started_moved time interval tx (Err e) = refl

  tick_moved : (on : Bool) (w : Result ByteWriter Error) → Moved (cond on (sent d d.adv w) (refusal d WrongMode))
  tick_moved true w = sent_moved d.adv w
  tick_moved false w = refl

  settled_moved : (end : Instant) (l : ConnectRequestData) (taken : Result Settings Error) → Moved (settled d end l taken)
  settled_moved end l (Ok s) = refl
  settled_moved end l (Err e) = refl

  responds_moved : (w : Result ByteWriter Error) → Moved (responds d w)
  responds_moved (Ok next) = refl
  responds_moved (Err e) = refl

  addressed_moved : (end : Instant) (l : ConnectRequestData) (tx : List ℕ) (ty : PduType) → Moved (addressed d end l tx ty)
  unfolding addressed connects_to
  addressed_moved end l tx ScanReq = responds_moved (payload_to d.scan_response tx)
  addressed_moved end l tx ConnectReq = settled_moved end l (taken_of l)
  addressed_moved end l tx AdvDirectInd = refl
  addressed_moved end l tx AdvInd = refl
  addressed_moved end l tx AdvNonconnInd = refl
  addressed_moved end l tx AdvScanInd = refl
  addressed_moved end l tx ScanRsp = refl
  addressed_moved end l tx (Unknown n) = refl

  packet_moved : (adv crc ours : Bool) (r : Step) → Moved r → Moved (cond adv (cond crc (cond ours r (listens d)) (listens d)) (refusal d WrongMode))
  packet_moved false crc ours r m = refl
  packet_moved true false ours r m = refl
  packet_moved true true false r m = refl
  packet_moved true true true r m = m

  event_moved : (on : Bool) (h : Result Hop Error) → Moved (cond on (hopped_to d h) (refusal d WrongMode))
  event_moved false h = refl
  event_moved true (Ok hop) = refl
  event_moved true (Err e) = refl

  set_moved : (built : Result PduBuf Error) → Moved (set_to d built)
  set_moved (Ok pdu) = refl
  set_moved (Err e) = refl

pub mode_moves : (d : State) (c : Call) → ModeMoves d c
unfolding start_of tick_of event_of hops
mode_moves d (start time interval records tx) = started_moved d time interval tx (discoverable d records)
mode_moves d (tick tx) = tick_moved d (is_advertising d.mode) (payload_to d.adv.pdu tx)
mode_moves d (packet end h p crc_good tx) =
    let pdu = pdu_in h p in
    subst (Moved d) (sym (packet_as d end h p crc_good tx))
    (packet_moved d (is_advertising d.mode) crc_good (for_board d.dev_addr h p) (addressed d end pdu.lldata tx pdu.ty) (addressed_moved d end pdu.lldata tx pdu.ty))
mode_moves d event = event_moved d (is_connected d.mode) (hopped d.conn.channel_map d.conn.unmapped_channel d.conn.hop)
mode_moves d stop = refl
mode_moves d (set_scan_data records) = set_moved d (scan_response_pdu d.dev_addr records)
