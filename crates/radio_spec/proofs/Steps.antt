-- What a call can do to a device: each call is of one of eight kinds (`happens`). Assumes nothing.
use mathlib.Core.Bool.{Bool, true, false, cond, ◌&&◌, and-false, false≢true}
use mathlib.Core.List.{List, [], ◌∷◌, ◌++◌, append-nil}
use mathlib.Core.Path.{◌≡◌, refl, sym, ap, subst, ◌∙◌}
use Prim.Native.Nat.{ℕ, ◌+◌, ◌%◌, ◌≤◌, ◌<◌}
use native.Mathlib.Nat.{mod-lt, zero-add}
use native.Mathlib.Omega.{arith}
use lib.Dec.{eqb, ltb}
use lib.ListN.{length, drop, length-append}
use borrow.Author.Tests.{le-ltb, le-leb, lt-leb, ne_eqb, eq-eqb, ltb-true, ltb-false}
use Rattle.octets.proofs.Places.{enough, too_few}
use Rattle.octets.specs.Error.{number_of}
use Rattle.octets.specs.declared.error.Error.{Error}
use Rattle.octets.specs.declared.error.Error.TheVariants.{Eof, WrongMode, EmptyMap, OutOfRange}
use Rattle.octets.specs.declared.time.Instant.{Instant}
use Rattle.channels.specs.Hop.{mapped, next, hopped}
use Rattle.channels.specs.Map.{from_raw, marks}
use Rattle.channels.specs.declared.channel_map.ChannelMap.{ChannelMap}
use Rattle.channels.specs.declared.phy.AdvertisingChannel.{AdvertisingChannel}
use Rattle.channels.specs.declared.phy.DataChannel.{DataChannel}
use Rattle.records_spec.proofs.RoundTrip.{round_trip}
use Rattle.records_spec.specs.Area.{read_area, rewritten}
use Rattle.addresses.specs.Address.{is_random}
use Rattle.addresses.specs.declared.device_address.DeviceAddress.{DeviceAddress}
use Rattle.addresses.specs.declared.header.Header.{Header}
use Rattle.addresses.specs.declared.header.PduType.{PduType}
use Rattle.addresses.specs.declared.header.PduType.TheVariants.{AdvInd, AdvDirectInd, AdvNonconnInd, AdvScanInd, ScanReq, ScanRsp, ConnectReq, Unknown}
use Rattle.advertising.proofs.Building.{building}
use Rattle.settings.proofs.Ranges.{tests, settles}
use Rattle.advertising.specs.Laws.{ReadsBack}
use Rattle.advertising.specs.Pdu.{ll_data_of, request_of}
use Rattle.advertising.specs.PduBuf.{header_for, flags_record, payload_of, payload_to}
use Rattle.settings.specs.Settings.{Within, settings_in, taken_of, Settings}
use Rattle.advertising.specs.declared.pdu.Pdu.{Pdu}
use Rattle.advertising.specs.declared.pdu_buf.PduBuf.{PduBuf}
use Rattle.radio_spec.specs.Calls.{is_advertising, is_connected, is_scan_request, refusal, advertised, sent, beginning, listens, responds, replies_with, replied_if, connected_at, settled, hopped_to, connects_to, addressed, hops, start_of, start_after, tick_of, tick_after, packet_after, scan_data_of, event_of, stop_of}
use Rattle.radio_spec.specs.Demand.{number_in, is_first_event, is_reply, ReplyOf}
use Rattle.radio_spec.specs.Call.{Call, start, tick, packet, event, stop, set_scan_data, call_of, octets_of}
use Rattle.radio_spec.specs.SoFar.{is_connect_request, requested, asks_to_connect, asks_to_scan, map_in, hop_in, in_ranges_in, connects, asks_to_scan_with, reply_size, SoFar, start_number, scan_data_number, refused_by, then_call, for_board}
use Rattle.radio_spec.specs.Trace.{outside, tick_run, event_run, hear_run}
use Rattle.radio_spec.specs.declared.link.Answer.{Answer}
use Rattle.radio_spec.specs.declared.link.Answer.TheVariants.{Sent, Listen, Respond, FirstEvent, NextEvent, Stopped, ScanDataSet}
use Rattle.radio_spec.specs.State.{Connection, State, Step}
use Rattle.radio_spec.specs.declared.link.Mode.{Mode}
use Rattle.radio_spec.specs.declared.link.Mode.TheVariants.{Standby, Advertising, Connected}
use Rattle.radio_spec.proofs.Answers.{no_zero, first_number}
use Rattle.radio_spec.proofs.Packets.{pdu_in, packet_as, after_as, known, requested_is}
use Rattle.radio_spec.proofs.Replies.{reply_size_law, built_reply}
use Rattle.channels.specs.declared.connection.Hop.{Hop}
use Rattle.std.specs.Prelude.{Result, Ok, Err}

-- what the list says of the calls so far, as the device has it; the scan data `scan` themselves are not in the device, but their reply is
abbrev pub so_far : List ℕ → State → SoFar
so_far scan d = record { mode = d.mode; payload = length (payload_of d.adv.pdu); channel = d.adv.channel; scan_data = scan }

-- the number of the table for a call of this device
abbrev pub number : List ℕ → State → Call → ℕ
number scan d c = refused_by d.dev_addr (so_far scan d) c

-- the scan data after a call
abbrev pub scan_after : List ℕ → Call → List ℕ
scan_after scan (start time interval records tx) = scan
scan_after scan (tick tx) = scan
scan_after scan (packet end header payload crc_good tx) = scan
scan_after scan event = scan
scan_after scan stop = scan
scan_after scan (set_scan_data records) = cond (eqb (scan_data_number records) 0) records scan

-- what hopping needs: an unmapped channel, and a map that marks one
pub record Live (k : Connection) : Type 0 where
  pub low : k.unmapped_channel ≤ 36
  pub some : 0 < k.channel_map.num_used_channels

-- what holds of each device in a list
pub record Sound (scan : List ℕ) (d : State) : Type 0 where
  pub six : length d.dev_addr.bytes ≡ 6
  pub reply : ReplyOf d.dev_addr scan d.scan_response
  pub live : d.mode ≡ Connected → Live d.conn

-- the PDU that a start builds
pub record Made (own : DeviceAddress) (records : List ℕ) (pdu : PduBuf) : Type 0 where
  pub header : pdu.header ≡ header_for AdvInd (is_random own.kind) false (9 + length records)
  pub payload : payload_of pdu ≡ (own.bytes ++ flags_record) ++ rewritten records
  pub size : length (payload_of pdu) ≡ 9 + length records

abbrev is_start : Call → Bool
is_start (start time interval records tx) = true
is_start (tick tx) = false
is_start (packet end header payload crc_good tx) = false
is_start event = false
is_start stop = false
is_start (set_scan_data records) = false

abbrev pub is_stop : Call → Bool
is_stop (start time interval records tx) = false
is_stop (tick tx) = false
is_stop (packet end header payload crc_good tx) = false
is_stop event = false
is_stop stop = true
is_stop (set_scan_data records) = false

abbrev is_packet : Call → Bool
is_packet (start time interval records tx) = false
is_packet (tick tx) = false
is_packet (packet end header payload crc_good tx) = true
is_packet event = false
is_packet stop = false
is_packet (set_scan_data records) = false

abbrev pub is_set : Call → Bool
is_set (start time interval records tx) = false
is_set (tick tx) = false
is_set (packet end header payload crc_good tx) = false
is_set event = false
is_set stop = false
is_set (set_scan_data records) = true

abbrev pub is_sent : Result Answer Error → Bool
is_sent (Ok (Sent header channel next)) = true
is_sent (Err e) = false
is_sent (Ok (Listen channel)) = false
is_sent (Ok (Respond header channel)) = false
is_sent (Ok (FirstEvent channel at access crc)) = false
is_sent (Ok (NextEvent channel)) = false
is_sent (Ok Stopped) = false
is_sent (Ok ScanDataSet) = false

-- the channel that an answer listens on; c where it listens on none
abbrev pub heard_on : AdvertisingChannel → Result Answer Error → AdvertisingChannel
heard_on c (Ok (Listen channel)) = channel
heard_on c (Ok (Respond header channel)) = channel
heard_on c (Ok (Sent header channel next)) = c
heard_on c (Err e) = c
heard_on c (Ok (FirstEvent channel at access crc)) = c
heard_on c (Ok (NextEvent channel)) = c
heard_on c (Ok Stopped) = c
heard_on c (Ok ScanDataSet) = c

-- a packet call's buffers as they were lent
abbrev pub Untouched : Call → List (List ℕ) → Type 0
Untouched (start time interval records tx) octets = Unit {0}
Untouched (tick tx) octets = Unit {0}
Untouched (packet end header payload crc_good tx) octets = octets ≡ payload ∷ tx ∷ []
Untouched event octets = Unit {0}
Untouched stop octets = Unit {0}
Untouched (set_scan_data records) octets = Unit {0}

-- no reply is scan_request for that there is room for, and none is written
pub record Quiet (scan : List ℕ) (d : State) (c : Call) : Type 0 where
  pub unasked : (is_advertising d.mode && asks_to_scan_with (reply_size scan) d.dev_addr c) ≡ false
  pub untouched : Untouched c (octets_of d c)

-- a call that leaves the device as it is: no tick or event accepted, no connection begun, no reply given, and nothing listened for on another channel
pub record Stays (scan : List ℕ) (d : State) (c : Call) (answer : Result Answer Error) : Type 0 where
  pub no_tick : tick_run (eqb (number scan d c) 0) c ≡ outside
  pub no_event : event_run (eqb (number scan d c) 0) c ≡ outside
  pub no_start : (is_start c && eqb (number scan d c) 0) ≡ false
  pub no_set : (is_set c && eqb (number scan d c) 0) ≡ false
  pub reads_same : then_call d.dev_addr (so_far scan d) c ≡ so_far scan d
  pub scan_same : scan_after scan c ≡ scan
  pub no_first : is_first_event answer ≡ false
  pub no_connect : (is_advertising d.mode && connects d.dev_addr c) ≡ false
  pub refuses : number_in answer ≡ number scan d c
  pub no_send : hear_run (eqb (number scan d c) 0) c ≡ hear_run false c
  pub hears : heard_on d.adv.channel answer ≡ d.adv.channel
  pub no_stop : is_stop c ≡ false
  pub unsent : is_sent answer ≡ false
  pub no_reply : is_reply answer ≡ false
  pub quiet : Quiet scan d c

pub data Happens (scan : List ℕ) (d : State) : Call → Step → Type 0 where
  starts : (time : Instant) (interval : ℕ) (records tx : List ℕ) (pdu : PduBuf) → start_number records tx ≡ 0 → Made d.dev_addr records pdu
      → start_after d records tx ≡ payload_of pdu ++ drop (length (payload_of pdu)) tx
      → Happens scan d (start time interval records tx) (advertised d (beginning time interval pdu))
  ticks : (tx : List ℕ) → d.mode ≡ Advertising → number scan d (tick tx) ≡ 0
      → tick_after d tx ≡ payload_of d.adv.pdu ++ drop (length (payload_of d.adv.pdu)) tx
      → Happens scan d (tick tx) (advertised d d.adv)
  replies : (end : Instant) (header : Header) (payload : List ℕ) (crc_good : Bool) (tx : List ℕ) → d.mode ≡ Advertising
      → asks_to_scan_with (reply_size scan) d.dev_addr (packet end header payload crc_good tx) ≡ true
      → connects d.dev_addr (packet end header payload crc_good tx) ≡ false → number scan d (packet end header payload crc_good tx) ≡ 0
      → packet_after d header payload crc_good tx ≡ payload_of d.scan_response ++ drop (length (payload_of d.scan_response)) tx
      → Happens scan d (packet end header payload crc_good tx) (record { answer = Ok (Respond d.scan_response.header d.adv.channel); state = d })
  begins : (end : Instant) (header : Header) (payload : List ℕ) (crc_good : Bool) (tx : List ℕ) (u : ℕ) (channel : DataChannel) → d.mode ≡ Advertising
      → connects d.dev_addr (packet end header payload crc_good tx) ≡ true → number scan d (packet end header payload crc_good tx) ≡ 0
      → Within (settings_in (request_of payload)) → hopped (from_raw (map_in payload)) 0 (hop_in payload) ≡ Ok (record { unmapped = u; channel = channel }) → u ≤ 36
      → Quiet scan d (packet end header payload crc_good tx)
      → Happens scan d (packet end header payload crc_good tx) (connected_at d end (request_of payload) (settings_in (request_of payload)) u channel)
  hopping : (u : ℕ) (channel : DataChannel) → d.mode ≡ Connected → hopped d.conn.channel_map d.conn.unmapped_channel d.conn.hop ≡ Ok (record { unmapped = u; channel = channel })
      → u ≤ 36 → number scan d event ≡ 0 → Happens scan d event (hopped_to d (Ok (record { unmapped = u; channel = channel })))
  stops : Happens scan d stop (stop_of d)
  sets : (records : List ℕ) (pdu : PduBuf) → scan_data_number records ≡ 0 → ReplyOf d.dev_addr records pdu → Happens scan d (set_scan_data records) (replies_with d pdu)
  stays : (c : Call) {answer : Result Answer Error} → Stays scan d c answer → Happens scan d c (record { answer = answer; state = d })

-- the hop that is answered
abbrev pub hop_or : Result Hop Error → Hop
hop_or (Ok h) = h
hop_or (Err e) = record { unmapped = 0; channel = record { index = 0 } }

-- a hop over a map that marks a channel
pub hop_there : (map : ChannelMap) (u h : ℕ) → u ≤ 36 → 0 < map.num_used_channels
    → hopped map u h ≡ Ok (record { unmapped = next u h; channel = record { index = mapped map.raw map.num_used_channels (next u h) } })
hop_there map u h low some = rw (le-ltb 36 u low, ne_eqb map.num_used_channels 0 (omega arith))

next_low : (u h : ℕ) → next u h ≤ 36
next_low u h = let below : next u h < 37 = mod-lt (u + h % 32) (omega arith) in omega arith

-- a call that is no packet
pub plain : (scan : List ℕ) (d : State) (c : Call) → is_packet c ≡ false → Quiet scan d c
unfolding asks_to_scan_with
plain scan d (start time interval records tx) e = record { unasked = simp and-false; untouched = tt }
plain scan d (tick tx) e = record { unasked = simp and-false; untouched = tt }
plain scan d (packet end header payload crc_good tx) e = absurd (false≢true (sym e))
plain scan d event e = record { unasked = simp and-false; untouched = tt }
plain scan d stop e = record { unasked = simp and-false; untouched = tt }
plain scan d (set_scan_data records) e = record { unasked = simp and-false; untouched = tt }

module _ (scan : List ℕ) (d : State) (sound : Sound scan d) where
  -- a call that is refused
  refused : (c : Call) (e : Error) → number scan d c ≡ number_of e → (is_advertising d.mode && connects d.dev_addr c) ≡ false → is_stop c ≡ false → Quiet scan d c
      → Happens scan d c (refusal d e)
  unfolding tick_run event_run hear_run then_call refused_by
  refused (start time interval records tx) e n k s q =
      let not-0 : eqb (start_number records tx) 0 ≡ false = rw n (no_zero e) in
      stays (start time interval records tx)
      (record { no_tick = rw not-0; no_event = rw not-0; no_start = not-0; no_set = refl; reads_same = rw not-0; scan_same = refl; no_first = refl; no_connect = k; refuses = sym n; no_send = rw not-0; hears = refl; no_stop = refl; unsent = refl; no_reply = refl; quiet = q })
  refused (tick tx) e n k s q =
      let not-0 : eqb (number scan d (tick tx)) 0 ≡ false = rw n (no_zero e) in
      stays (tick tx)
      (record { no_tick = rw not-0; no_event = refl; no_start = refl; no_set = refl; reads_same = rw not-0; scan_same = refl; no_first = refl; no_connect = k; refuses = sym n; no_send = rw not-0; hears = refl; no_stop = refl; unsent = refl; no_reply = refl; quiet = q })
  refused (packet end header payload crc_good tx) e n k s q =
      stays (packet end header payload crc_good tx)
      (record { no_tick = refl; no_event = refl; no_start = refl; no_set = refl; reads_same = rw k; scan_same = refl; no_first = refl; no_connect = k; refuses = sym n; no_send = refl; hears = refl; no_stop = refl; unsent = refl; no_reply = refl; quiet = q })
  refused event e n k s q =
      let not-0 : eqb (number scan d event) 0 ≡ false = rw n (no_zero e) in
      stays event
      (record { no_tick = refl; no_event = rw not-0; no_start = refl; no_set = refl; reads_same = refl; scan_same = refl; no_first = refl; no_connect = k; refuses = sym n; no_send = refl; hears = refl; no_stop = refl; unsent = refl; no_reply = refl; quiet = q })
  refused stop e n k s q = absurd (false≢true (sym s))
  refused (set_scan_data records) e n k s q =
      let not-0 : eqb (scan_data_number records) 0 ≡ false = rw n (no_zero e) in
      stays (set_scan_data records)
      (record { no_tick = refl; no_event = refl; no_start = refl; no_set = not-0; reads_same = rw not-0; scan_same = rw not-0; no_first = refl; no_connect = k; refuses = sym n; no_send = refl; hears = refl; no_stop = refl; unsent = refl; no_reply = refl; quiet = q })

  module _ (time : Instant) (interval : ℕ) (records tx : List ℕ) where
    abbrev this-start : Call
    this-start = start time interval records tx

    no_request_law : (is_advertising d.mode && connects d.dev_addr this-start) ≡ false
    unfolding connects
    no_request_law = simp and-false

    front : length (d.dev_addr.bytes ++ flags_record) ≡ 9
    front = simp length-append (omega (arith, sound.six))

    -- records that fit
    module _ (n : ℕ) (good : read_area records ≡ Ok n) (few : length records ≤ 28) where
      back : ReadsBack AdvInd d.dev_addr flags_record records (n + 1)
      back = building.discoverable d.dev_addr records n sound.six good few

      made : Made d.dev_addr records back.pdu
      made =
          let nine : 6 + (3 + length records) ≡ 9 + length records = omega arith in
          record {
            header = back.header ∙ ap (header_for AdvInd (is_random d.dev_addr.kind) false) nine;
            payload = back.payload;
            size = ap length back.payload ∙ simp length-append (omega (arith, front, (round_trip records).as_long));
          }

      few_is : ltb 28 (length records) ≡ false
      few_is = le-ltb 28 (length records) few

      fitting : (short : Bool) → ltb (length tx) (9 + length records) ≡ short → Happens scan d this-start (start_of d time interval records tx)
      unfolding start_of start_after start_number refused_by
      fitting true e =
          rw (back.built, too_few (length (payload_of back.pdu)) tx 0 (omega (arith, made.size, ltb-true (length tx) (9 + length records) e)))
          (refused this-start Eof (rw (good, few_is, e)) no_request_law refl (plain scan d this-start refl))
      fitting false e =
          let room = enough (length (payload_of back.pdu)) tx 0 (omega (arith, made.size, ltb-false (length tx) (9 + length records) e)) in
          rw (back.built, room)
          (starts time interval records tx back.pdu (rw (good, few_is, e)) made (rw (back.built, room, zero-add)))

    start_happens : (a : Result ℕ Error) → read_area records ≡ a → (many : Bool) → ltb 28 (length records) ≡ many
        → Happens scan d this-start (start_of d time interval records tx)
    unfolding start_of start_number refused_by
    start_happens (Err e) is many m =
        rw (building.bad_area AdvInd d.dev_addr flags_record records e is)
        (refused this-start e (rw is (first_number e _)) no_request_law refl (plain scan d this-start refl))
    start_happens (Ok n) is true m =
        rw (building.too_long AdvInd d.dev_addr flags_record records n is (omega (arith, front)) (omega (arith, front, ltb-true 28 (length records) m)))
        (refused this-start Eof (rw (is, m)) no_request_law refl (plain scan d this-start refl))
    start_happens (Ok n) is false m = fitting n is (ltb-false 28 (length records) m) (ltb (length tx) (9 + length records)) refl

  tick_happens : (tx : List ℕ) (m : Mode) → d.mode ≡ m → (short : Bool) → ltb (length tx) (length (payload_of d.adv.pdu)) ≡ short
      → Happens scan d (tick tx) (cond (is_advertising m) (sent d d.adv (payload_to d.adv.pdu tx)) (refusal d WrongMode))
  unfolding refused_by connects tick_after
  tick_happens tx Advertising m true e =
      rw (too_few (length (payload_of d.adv.pdu)) tx 0 (omega (arith, ltb-true (length tx) (length (payload_of d.adv.pdu)) e)))
      (refused (tick tx) Eof (rw (m, e)) (simp and-false) refl (plain scan d (tick tx) refl))
  tick_happens tx Advertising m false e =
      let room = enough (length (payload_of d.adv.pdu)) tx 0 (omega (arith, ltb-false (length tx) (length (payload_of d.adv.pdu)) e)) in
      rw room (ticks tx m (rw (m, e)) (rw (m, room, zero-add)))
  tick_happens tx Standby m short e = refused (tick tx) WrongMode (rw m) (simp and-false) refl (plain scan d (tick tx) refl)
  tick_happens tx Connected m short e = refused (tick tx) WrongMode (rw m) (simp and-false) refl (plain scan d (tick tx) refl)

  event_happens : (m : Mode) → d.mode ≡ m → Happens scan d event (cond (is_connected m) (hops d) (refusal d WrongMode))
  unfolding hops refused_by connects
  event_happens Connected m =
      let k : Connection = d.conn in
      let live : Live k = sound.live m in
      let there = hop_there k.channel_map k.unmapped_channel k.hop live.low live.some in
      rw there (hopping _ _ m there (next_low k.unmapped_channel k.hop) (rw m))
  event_happens Standby m = refused event WrongMode (rw m) (simp and-false) refl (plain scan d event refl)
  event_happens Advertising m = refused event WrongMode (rw m) (simp and-false) refl (plain scan d event refl)

  module _ (records : List ℕ) where
    abbrev this-set : Call
    this-set = set_scan_data records

    no_connect_set : (is_advertising d.mode && connects d.dev_addr this-set) ≡ false
    unfolding connects
    no_connect_set = simp and-false

    set_happens : (a : Result ℕ Error) → read_area records ≡ a → (many : Bool) → ltb 31 (length records) ≡ many → Happens scan d this-set (scan_data_of d records)
    unfolding scan_data_number refused_by
    set_happens (Err e) is many m =
        rw (building.bad_area ScanRsp d.dev_addr [] records e is)
        (refused this-set e (rw is (first_number e _)) no_connect_set refl (plain scan d this-set refl))
    set_happens (Ok n) is true m =
        let six : length (d.dev_addr.bytes ++ []) ≡ 6 = simp append-nil sound.six in
        rw (building.too_long ScanRsp d.dev_addr [] records n is (omega (arith, six)) (omega (arith, six, ltb-true 31 (length records) m)))
        (refused this-set Eof (rw (is, m)) no_connect_set refl (plain scan d this-set refl))
    set_happens (Ok n) is false m =
        let few : length records ≤ 31 = ltb-false 31 (length records) m in
        let reply = built_reply d.dev_addr records sound.six n is few in
        rw reply.1
        (sets records reply.0 (rw (is, m)) reply.2)

  module _ (end : Instant) (header : Header) (payload : List ℕ) (crc_good : Bool) (tx : List ℕ) where
    abbrev this : Call
    this = packet end header payload crc_good tx

    abbrev own : DeviceAddress
    own = d.dev_addr

    abbrev pdu : Pdu
    pdu = pdu_in header payload

    -- the transmit buffer goes by the list's word `asks_to_scan`
    after_is : packet_after d header payload crc_good tx ≡ replied_if (is_advertising d.mode && asks_to_scan own crc_good header payload) d tx
    after_is = after_as d header payload crc_good tx ∙ ap (λ (b : Bool). replied_if (is_advertising d.mode && b) d tx) (sym (requested_is own header payload is_scan_request crc_good))

    unscanned : asks_to_scan own crc_good header payload ≡ false → Quiet scan d this
    unfolding asks_to_scan_with
    unscanned no-scan =
        record {
          unasked = rw no-scan (simp and-false);
          untouched = ap (λ (l : List ℕ). payload ∷ l ∷ []) (after_is ∙ rw no-scan (simp and-false));
        }

    -- a packet that begins no connection, gets no reply and is not refused
    unheard : (answer : Result Answer Error) → is_first_event answer ≡ false → number_in answer ≡ 0 → heard_on d.adv.channel answer ≡ d.adv.channel → is_sent answer ≡ false → is_reply answer ≡ false
        → asks_to_connect own crc_good header payload ≡ false → asks_to_scan own crc_good header payload ≡ false → d.mode ≡ Advertising
        → Happens scan d this (record { answer = answer; state = d })
    unfolding tick_run event_run hear_run then_call refused_by connects
    unheard answer f n h u r a no-scan m =
        stays this
        (record {
          no_tick = refl;
          no_event = refl;
          no_start = refl;
          no_set = refl;
          reads_same = simp (a, and-false);
          scan_same = refl;
          no_first = f;
          no_connect = simp (a, and-false);
          refuses = n ∙ rw (m, no-scan, a);
          no_send = refl;
          hears = h;
          no_stop = refl;
          unsent = u;
          no_reply = r;
          quiet = unscanned no-scan;
        })

    -- a packet of a type that `is` says is scan_request for, where it is for this board
    asking : (is : PduType → Bool) → crc_good ≡ true → for_board own header payload ≡ true → is pdu.ty ≡ true → requested is own crc_good header payload ≡ true
    asking is crc ours ty = requested_is own header payload is crc_good ∙ rw (crc, ours, ty)

    foreign_asks : (is : PduType → Bool) → for_board own header payload ≡ false → requested is own crc_good header payload ≡ false
    foreign_asks is ours = requested_is own header payload is crc_good ∙ rw ours (simp and-false)

    other_asks : (is : PduType → Bool) (ty : PduType) → pdu.ty ≡ ty → is ty ≡ false → requested is own crc_good header payload ≡ false
    other_asks is ty t no_one =
        let e : is pdu.ty ≡ false = rw t no_one in
        requested_is own header payload is crc_good ∙ simp (e, and-false)

    bad_asks : (is : PduType → Bool) → crc_good ≡ false → requested is own crc_good header payload ≡ false
    bad_asks is crc = requested_is own header payload is crc_good ∙ rw crc

    -- what taking the settings answers
    settling : (t : Result Settings Error) → t ≡ taken_of (request_of payload) → Happens scan d this (settled d end (request_of payload) t)
        → Happens scan d this (connects_to d end (request_of payload))
    unfolding connects_to
    settling t is h = subst (λ (t : Result Settings Error). Happens scan d this (settled d end (request_of payload) t)) is h

    -- a connect request, by the channels that it marks and the ranges of its settings
    begun : d.mode ≡ Advertising → asks_to_connect own crc_good header payload ≡ true → asks_to_scan own crc_good header payload ≡ false → (some : Bool) → ltb 0 (marks (map_in payload)) ≡ some
        → (within : Bool) → in_ranges_in payload ≡ within → Happens scan d this (connects_to d end (request_of payload))
    unfolding connects refused_by ll_data_of
    begun m a no-scan true s true w =
        let n : 0 < marks (map_in payload) = ltb-true 0 (marks (map_in payload)) s in
        let ranges : Within (settings_in (request_of payload)) = (tests _ _ _ _ _ _ _).0 w in
        let there = hop_there (from_raw (map_in payload)) 0 (hop_in payload) (omega arith) n in
        settling _ (sym ((settles payload).complete ranges))
        (begins end header payload crc_good tx _ _ m (rw (a, s, w)) (rw (m, no-scan, a, ne_eqb (marks (map_in payload)) 0 (omega arith), w)) ranges there (next_low 0 (hop_in payload)) (unscanned no-scan))
    begun m a no-scan true s false w =
        let n : 0 < marks (map_in payload) = ltb-true 0 (marks (map_in payload)) s in
        settling _ (sym ((settles payload).outside n (λ ranges. false≢true (sym w ∙ (tests _ _ _ _ _ _ _).1 ranges))))
        (refused this OutOfRange (rw (m, no-scan, a, ne_eqb (marks (map_in payload)) 0 (omega arith), w)) (rw (s, a, w) (simp and-false)) refl (unscanned no-scan))
    begun m a no-scan false s within w =
        let n : marks (map_in payload) ≡ 0 = omega (arith, ltb-false 0 (marks (map_in payload)) s) in
        settling _ (sym ((settles payload).empty n))
        (refused this EmptyMap (rw (m, no-scan, a, eq-eqb (marks (map_in payload)) 0 n)) (rw (s, a) (simp and-false)) refl (unscanned no-scan))

    -- a scan request, by the room that there is
    scanned : d.mode ≡ Advertising → asks_to_scan own crc_good header payload ≡ true → asks_to_connect own crc_good header payload ≡ false → (short : Bool) → ltb (length tx) (reply_size scan) ≡ short
        → Happens scan d this (responds d (payload_to d.scan_response tx))
    unfolding connects refused_by asks_to_scan_with
    scanned m sc a true e =
        let size = reply_size_law own scan sound.six sound.reply in
        let short : length tx < reply_size scan = ltb-true (length tx) (reply_size scan) e in
        let full = too_few (length (payload_of d.scan_response)) tx 0 (omega (arith, size)) in
        rw full
        (refused this Eof (rw (m, sc, e)) (simp (a, and-false)) refl
        (record { unasked = rw (lt-leb (reply_size scan) (length tx) short) (simp and-false); untouched = ap (λ (l : List ℕ). payload ∷ l ∷ []) (after_is ∙ rw (m, sc, full)) }))
    scanned m sc a false e =
        let size = reply_size_law own scan sound.six sound.reply in
        let fits : reply_size scan ≤ length tx = ltb-false (length tx) (reply_size scan) e in
        let room = enough (length (payload_of d.scan_response)) tx 0 (omega (arith, size)) in
        rw room
        (replies end header payload crc_good tx m (rw (sc, le-leb (reply_size scan) (length tx) fits)) (rw a) (rw (m, sc, e, a)) (after_is ∙ rw (m, sc, room, zero-add)))

    -- the packet call of a device that does not advertise
    elsewhere : is_advertising d.mode ≡ false → Happens scan d this (refusal d WrongMode)
    unfolding refused_by
    elsewhere off = refused this WrongMode (rw off) (rw off) refl (record { unasked = rw off; untouched = ap (λ (l : List ℕ). payload ∷ l ∷ []) (after_is ∙ rw off) })

    listened : (is_one : (ty : PduType → Bool) → requested ty own crc_good header payload ≡ false) → d.mode ≡ Advertising → Happens scan d this (listens d)
    listened none-asked m = unheard _ refl refl refl refl refl (none-asked is_connect_request) (none-asked is_scan_request) m

    -- a type that is neither request
    other_type : (ty : PduType) → pdu.ty ≡ ty → is_connect_request ty ≡ false → is_scan_request ty ≡ false → d.mode ≡ Advertising → Happens scan d this (listens d)
    other_type ty t c s m = unheard _ refl refl refl refl refl (other_asks is_connect_request ty t c) (other_asks is_scan_request ty t s) m

    packet_happens : (m : Mode) → d.mode ≡ m → (crc : Bool) → crc_good ≡ crc → (ours : Bool) → for_board own header payload ≡ ours → (ty : PduType) → pdu.ty ≡ ty
        → Happens scan d this (cond (is_advertising m) (cond crc (cond ours (addressed d end pdu.lldata tx ty) (listens d)) (listens d)) (refusal d WrongMode))
    unfolding addressed
    packet_happens Standby m crc c ours o ty t = elsewhere (rw m)
    packet_happens Connected m crc c ours o ty t = elsewhere (rw m)
    packet_happens Advertising m false c ours o ty t = listened (λ is. bad_asks is c) m
    packet_happens Advertising m true c false o ty t = listened (λ is. foreign_asks is o) m
    packet_happens Advertising m true c true o ConnectReq t =
        let is : is_connect_request pdu.ty ≡ true = rw t in
        rw ((known header payload).request is) (begun m (asking is_connect_request c o is) (other_asks is_scan_request ConnectReq t refl) (ltb 0 (marks (map_in payload))) refl (in_ranges_in payload) refl)
    packet_happens Advertising m true c true o ScanReq t =
        let is : is_scan_request pdu.ty ≡ true = rw t in
        scanned m (asking is_scan_request c o is) (other_asks is_connect_request ScanReq t refl) (ltb (length tx) (reply_size scan)) refl
    packet_happens Advertising m true c true o AdvDirectInd t = other_type AdvDirectInd t refl refl m
    packet_happens Advertising m true c true o AdvInd t = other_type AdvInd t refl refl m
    packet_happens Advertising m true c true o AdvNonconnInd t = other_type AdvNonconnInd t refl refl m
    packet_happens Advertising m true c true o AdvScanInd t = other_type AdvScanInd t refl refl m
    packet_happens Advertising m true c true o ScanRsp t = other_type ScanRsp t refl refl m
    packet_happens Advertising m true c true o (Unknown n) t = other_type (Unknown n) t refl refl m

  pub happens : (c : Call) → Happens scan d c (call_of d c)
  unfolding tick_of event_of
  happens (start time interval records tx) = start_happens time interval records tx (read_area records) refl (ltb 28 (length records)) refl
  happens (tick tx) = tick_happens tx d.mode refl (ltb (length tx) (length (payload_of d.adv.pdu))) refl
  happens (packet end header payload crc_good tx) =
      subst (Happens scan d (packet end header payload crc_good tx)) (sym (packet_as d end header payload crc_good tx))
      (packet_happens end header payload crc_good tx d.mode refl crc_good refl (for_board d.dev_addr header payload) refl (pdu_in header payload).ty refl)
  happens event = event_happens d.mode refl
  happens stop = stops
  happens (set_scan_data records) = set_happens records (read_area records) refl (ltb 31 (length records)) refl

-- the address is kept, and so is what holds of a device
pub address_kept : {scan : List ℕ} {d : State} {c : Call} {r : Step} → Happens scan d c r → r.state.dev_addr ≡ d.dev_addr
address_kept (starts time interval records tx _ ok _ wrote) = refl
address_kept (ticks tx m ok wrote) = refl
address_kept (replies end header payload crc_good tx m scan_request k ok wrote) = refl
address_kept (begins end header payload crc_good tx u channel m e ok ranges there low q) = refl
address_kept (hopping u channel m there low ok) = refl
address_kept stops = refl
address_kept (sets records _ ok _) = refl
address_kept (stays c s) = refl

pub live_kept : {scan : List ℕ} {d : State} {c : Call} {r : Step} → (d.mode ≡ Connected → Live d.conn) → Happens scan d c r → r.state.mode ≡ Connected → Live r.state.conn
live_kept live (starts time interval records tx pdu ok made wrote) m = absurd (let z : ◌≡◌ {A = ℕ} 0 1 = cc in omega arith)
live_kept live (ticks tx m ok wrote) c = absurd (let z : ◌≡◌ {A = ℕ} 0 1 = cc in omega arith)
live_kept live (replies end header payload crc_good tx m scan_request k ok wrote) c = live c
live_kept live (begins end header payload crc_good tx u channel m e ok ranges there low q) c = record { low = low; some = omega (arith, ranges.two_channels) }
live_kept live (hopping u channel m there low ok) c = record { low = low; some = (live m).some }
live_kept live stops c = absurd (let z : ◌≡◌ {A = ℕ} 0 1 = cc in omega arith)
live_kept live (sets records pdu ok made) c = live c
live_kept live (stays c s) m = live m

-- the reply is that of the scan data after the call
pub reply_kept : {scan : List ℕ} {d : State} {c : Call} {r : Step} → ReplyOf d.dev_addr scan d.scan_response → Happens scan d c r
    → ReplyOf r.state.dev_addr (scan_after scan c) r.state.scan_response
reply_kept reply (starts time interval records tx pdu ok made wrote) = reply
reply_kept reply (ticks tx m ok wrote) = reply
reply_kept reply (replies end header payload crc_good tx m scan_request k ok wrote) = reply
reply_kept reply (begins end header payload crc_good tx u channel m e ok ranges there low q) = reply
reply_kept reply (hopping u channel m there low ok) = reply
reply_kept reply stops = reply
reply_kept reply (sets records pdu ok made) = rw ok made
reply_kept reply (stays c s) = rw s.scan_same reply

pub sound_kept : {scan : List ℕ} {d : State} {c : Call} {r : Step} → Sound scan d → Happens scan d c r → Sound (scan_after scan c) r.state
sound_kept sound h =
    record { six = ap (λ (a : DeviceAddress). length a.bytes) (address_kept h) ∙ sound.six; reply = reply_kept sound.reply h; live = live_kept sound.live h }

-- the list's reading is the device's
pub reads_on : {scan : List ℕ} {d : State} {c : Call} {r : Step} → Happens scan d c r → then_call d.dev_addr (so_far scan d) c ≡ so_far (scan_after scan c) r.state
unfolding then_call
reads_on (starts time interval records tx pdu ok made wrote) = rw (ok, made.size)
reads_on (ticks tx m ok wrote) = rw (ok, m)
reads_on (replies end header payload crc_good tx m scan_request k ok wrote) = rw (m, k)
reads_on (begins end header payload crc_good tx u channel m e ok ranges there low q) = rw (m, e)
reads_on (hopping u channel m there low ok) = refl
reads_on stops = refl
reads_on (sets records pdu ok made) = rw ok
reads_on {d = d} (stays c s) = s.reads_same ∙ ap (λ (x : List ℕ). so_far x d) (sym s.scan_same)
