-- Runs of ticks and of events: the channels that a list's calls give are those of the cycle and of the hop; and what holds at each call. Assumes nothing.
use mathlib.Core.Bool.{Bool, true, false, ◌&&◌, and-false, false≢true}
use mathlib.Core.List.{List, [], ◌∷◌, ◌++◌}
use mathlib.Core.Path.{◌≡◌, refl, sym, ap, subst, ◌∙◌}
use Prim.Native.Nat.{ℕ, zero, suc, ◌+◌, ◌*◌, ◌%◌, ◌≤◌, ◌<◌}
use native.Mathlib.Nat.{add-zero, zero-add, suc-mul}
use native.Mathlib.Omega.{arith}
use lib.Dec.{eqb}
use lib.ListN.{length, get_or}
use Rattle.channels.proofs.Counting.{count_ext}
use Rattle.channels.proofs.Cycles.{once_each, cycles_add}
use Rattle.channels.proofs.Events.{fair, run}
use Rattle.channels.specs.Count.{count}
use Rattle.channels.specs.Hop.{event_channel, uses as uses_in, remapped, unmapped_before, hopped}
use Rattle.channels.specs.Laws.{cycles}
use Rattle.channels.specs.Map.{marks, channel_at, from_raw}
use Rattle.channels.specs.Phy.{index_of, cycled, first_channel}
use Rattle.channels.specs.declared.phy.AdvertisingChannel.{AdvertisingChannel}
use Rattle.channels.specs.declared.phy.DataChannel.{DataChannel}
use Rattle.octets.specs.Time.{later}
use Rattle.octets.specs.declared.time.Instant.{Instant}
use Rattle.records_spec.specs.Area.{rewritten}
use Rattle.addresses.specs.Address.{is_random}
use Rattle.addresses.specs.declared.device_address.DeviceAddress.{DeviceAddress}
use Rattle.addresses.specs.declared.header.Header.{Header}
use Rattle.addresses.specs.declared.header.PduType.TheVariants.{AdvInd}
use Rattle.advertising.specs.Pdu.{ll_data_of, request_of}
use Rattle.advertising.specs.PduBuf.{header_for, flags_record, payload_of}
use Rattle.settings.specs.Settings.{Within, settings_in}
use Rattle.advertising.specs.declared.pdu_buf.PduBuf.{PduBuf}
use Rattle.radio_spec.specs.Calls.{instant, is_advertising, advanced, advertised, beginning}
use Rattle.radio_spec.specs.Demand.{number_in, is_first_event, is_reply, Each, Tick, Ticks, ListeningFrom, RepliesAt, Events}
use Rattle.radio_spec.specs.Call.{Call, start, tick, packet, event, stop, set_scan_data, call_of, octets_of}
use Rattle.radio_spec.specs.SoFar.{map_in, hop_in, connects, asks_to_scan_with, reply_size, refused_by}
use Rattle.radio_spec.specs.Trace.{Entry, tick_on, event_on, channels_by, InRun, ends, inside, outside, gathered, gather, tick_run, event_run, hear_run, ListensOn, keeps, replies, times}
use Rattle.radio_spec.specs.State.{Advertisement, Connection, State, Step}
use Rattle.radio_spec.specs.declared.link.Answer.{Answer}
use Rattle.radio_spec.specs.declared.link.Answer.TheVariants.{Sent, Respond, Stopped, ScanDataSet}
use Rattle.radio_spec.specs.declared.link.Mode.{Mode}
use Rattle.radio_spec.specs.declared.link.Mode.TheVariants.{Advertising, Connected}
use Rattle.radio_spec.proofs.Steps.{hop_or, number, scan_after, Made, Sound, Untouched, Quiet, plain, Happens, starts, ticks, replies as replying, begins, hopping, stops, sets, stays, happens, sound_kept, is_stop, is_set, is_sent, heard_on}
use Rattle.channels.specs.declared.connection.Hop.{Hop}
use Rattle.octets.specs.declared.error.Error.{Error}
use Rattle.std.specs.Prelude.{Result, Ok}
use Rattle.octets.specs.declared.error.Error.{Error}

-- an entry of the trace by the device alone, for a call that came to r
abbrev pub entry_of : List ℕ → State → Call → Step → Entry
entry_of scan d c r = record { mode = d.mode; channel = d.adv.channel; scan_data = scan; number = number scan d c; call = c; result = r; octets = octets_of d c }

abbrev pub traced : List ℕ → State → List Call → List Entry
traced scan d [] = []
traced scan d (c ∷ cs) = entry_of scan d c (call_of d c) ∷ traced (scan_after scan c) (call_of d c).state cs

-- At k d: the device d makes entry k of a run at the next call of it, and stands so after each call that passes
module _ (P : ℕ → Entry → Type 0) (At : ℕ → State → Type 0) (role : Bool → Call → InRun) where
  abbrev pub Moves : InRun → ℕ → Entry → Type 0
  Moves ends k e = Unit {0}
  Moves inside k e = P k e × At (suc k) e.result.state
  Moves outside k e = At k e.result.state

  gathered_each : (ρ : InRun) (k : ℕ) (e : Entry) (rest : List Entry) → Moves ρ k e → ((k : ℕ) → At k e.result.state → Each P k rest)
      → Each P k (gathered ρ e rest)
  gathered_each ends k e rest m ih = tt
  gathered_each inside k e rest m ih = (m.0, ih (suc k) m.1)
  gathered_each outside k e rest m ih = ih k m

  pub gather_each : ((k : ℕ) (scan : List ℕ) (d : State) (c : Call) → Sound scan d → At k d → Moves (role (eqb (number scan d c) 0) c) k (entry_of scan d c (call_of d c)))
      → (scan : List ℕ) (d : State) (cs : List Call) → Sound scan d → (k : ℕ) → At k d → Each P k (gather role (traced scan d cs))
  gather_each moves scan d [] sound k at = tt
  gather_each moves scan d (c ∷ cs) sound k at =
      gathered_each (role (eqb (number scan d c) 0) c) k (entry_of scan d c (call_of d c)) (gather role (traced (scan_after scan c) (call_of d c).state cs)) (moves k scan d c sound at)
      (λ k at. gather_each moves (scan_after scan c) (call_of d c).state cs (sound_kept sound (happens scan d sound c)) k at)

each_map : (P Q : ℕ → Entry → Type 0) → ((k : ℕ) (e : Entry) → P k e → Q k e) → (k : ℕ) (es : List Entry) → Each P k es → Each Q k es
each_map P Q f k [] each = tt
each_map P Q f k (e ∷ es) each = (f k e each.0, each_map P Q f (suc k) es each.1)

-- channels that follow f, by their places
module _ (channel : Result Answer Error → ℕ) (f : ℕ → ℕ) where
  follows : (k : ℕ) (es : List Entry) → Each (λ k e. channel e.result.answer ≡ f k) k es
      → (j : ℕ) → j < length es → get_or (channels_by channel es) j 0 ≡ f (k + j)
  follows k [] each j below = absurd (omega arith)
  follows k (e ∷ es) each zero below = each.0 ∙ ap f (sym (add-zero k))
  follows k (e ∷ es) each (suc j) below =
      let same : suc k + j ≡ k + suc j = omega arith in
      follows (suc k) es each.1 j (omega arith) ∙ ap f same

  follows_times : (es : List Entry) → Each (λ k e. channel e.result.answer ≡ f k) 0 es → (c k n : ℕ) → k + n ≤ length es
      → times c k n (channels_by channel es) ≡ count (λ j. eqb (f (k + j)) c) n
  follows_times es each c k n fits =
      count_ext _ _ n (λ j below. ap (λ (x : ℕ). eqb x c) (follows 0 es each (k + j) (omega arith) ∙ ap f (zero-add (k + j))))

-- Ticks: what a start set up moves by the cycle and the interval

module _ (own : DeviceAddress) (time : Instant) (interval : ℕ) (records : List ℕ) (pdu : PduBuf) (made : Made own records pdu) where
  -- what is set up, after k ticks
  abbrev pub adv_at : ℕ → Advertisement
  adv_at zero = beginning time interval pdu
  adv_at (suc k) = advanced (adv_at k)

  pdu_at : (k : ℕ) → (adv_at k).pdu ≡ pdu
  pdu_at zero = refl
  pdu_at (suc k) = pdu_at k

  interval_at : (k : ℕ) → (adv_at k).interval ≡ interval
  interval_at zero = refl
  interval_at (suc k) = interval_at k

  channel_at_law : (k : ℕ) → (adv_at k).channel ≡ cycles k first_channel
  unfolding cycles
  channel_at_law zero = refl
  channel_at_law (suc k) = ap cycled (channel_at_law k)

  due_at : (k : ℕ) → (adv_at (suc k)).next_adv.0 ≡ later time.0 (suc k * interval)
  due_at zero = omega arith
  due_at (suc k) =
      let before : (adv_at (suc k)).next_adv.0 ≡ later time.0 (suc k * interval) = due_at k in
      rw (before, interval_at k) (omega (arith, suc-mul (suc k) interval))

  abbrev pub TickAt : ℕ → State → Type 0
  TickAt k d = d.adv ≡ adv_at k

  answer_at : (k : ℕ) (d : State) → (advertised d (adv_at k)).answer
      ≡ Ok (Sent (header_for AdvInd (is_random own.kind) false (9 + length records)) (cycles (suc k) first_channel) (instant (later time.0 (suc k * interval))))
  unfolding cycles
  answer_at k d = λ i. Ok (Sent ((ap (λ (p : PduBuf). p.header) (pdu_at k) ∙ made.header) i) (cycled (channel_at_law k i)) (instant (due_at k i)))

  tick_moves : (k : ℕ) {scan : List ℕ} {d : State} {c : Call} {r : Step} → TickAt k d → Happens scan d c r
      → Moves (Tick own time interval records) TickAt tick_run (tick_run (eqb (number scan d c) 0) c) k (entry_of scan d c r)
  unfolding tick_run refused_by
  tick_moves k at (starts t i s tx p ok m wrote) = rw ok tt
  tick_moves k {d = d} at (ticks tx m ok wrote) =
      let payload : payload_of d.adv.pdu ≡ (own.bytes ++ flags_record) ++ rewritten records =
      ap (λ (a : Advertisement). payload_of a.pdu) at ∙ (ap payload_of (pdu_at k) ∙ made.payload) in
      rw ok (
        record { answer = ap (λ (a : Advertisement). (advertised d a).answer) at ∙ answer_at k d; octets = ap (λ (l : List ℕ). l ∷ []) (rw (← payload) wrote) },
        ap advanced at,
      )
  tick_moves k at (replying end header payload crc_good tx m scan_request n ok wrote) = at
  tick_moves k at (begins end header payload crc_good tx u channel m e ok ranges there low q) = at
  tick_moves k at (hopping u channel m there low ok) = at
  tick_moves k at stops = at
  tick_moves k at (sets s p ok m) = at
  tick_moves k at (stays c s) = rw s.no_tick at

  pub tick_run_law : (scan : List ℕ) (d : State) (cs : List Call) → Sound scan d → (k : ℕ) → TickAt k d → Each (Tick own time interval records) k (gather tick_run (traced scan d cs))
  tick_run_law = gather_each (Tick own time interval records) TickAt tick_run (λ k scan d c sound at. tick_moves k at (happens scan d sound c))

  ticks_of : (es : List Entry) → Each (Tick own time interval records) 0 es → Ticks own time interval records es
  ticks_of es each =
      record {
        each = each;
        each_once = λ k fits c.
            follows_times tick_on (λ k. index_of (cycles (suc k) first_channel)) es
            (each_map (Tick own time interval records) (λ k e. tick_on e.result.answer ≡ index_of (cycles (suc k) first_channel)) (λ k e t. ap tick_on t.answer) 0 es each)
            (index_of c) k 3 fits
            ∙ (count_ext _ _ 3 (λ j below.
            let same : suc k + j ≡ suc (k + j) = omega arith in
            ap (λ (x : AdvertisingChannel). eqb (index_of x) (index_of c)) (sym (sym (cycles_add (suc k) j first_channel) ∙ ap (λ (n : ℕ). cycles n first_channel) same)))
            ∙ once_each (cycles (suc k) first_channel) c);
      }

-- the accepted ticks of a start
abbrev pub TicksOf : DeviceAddress → Call → List Entry → Type 0
TicksOf own (start time interval records tx) entries = Ticks own time interval records entries
TicksOf own (tick tx) entries = Unit {0}
TicksOf own (packet end header payload crc_good tx) entries = Unit {0}
TicksOf own event entries = Unit {0}
TicksOf own stop entries = Unit {0}
TicksOf own (set_scan_data records) entries = Unit {0}

pub ticks_from : {scan : List ℕ} {d : State} {c : Call} {r : Step} → Happens scan d c r → Sound (scan_after scan c) r.state → eqb (number scan d c) 0 ≡ true
    → (cs : List Call) → TicksOf d.dev_addr c (entry_of scan d c r ∷ gather tick_run (traced (scan_after scan c) r.state cs))
ticks_from {scan} {d} (starts time interval records tx pdu ok made wrote) sound a cs =
    let own = d.dev_addr in
    ticks_of own time interval records pdu made _ (
      record { answer = answer_at own time interval records pdu made 0 d; octets = ap (λ (l : List ℕ). records ∷ l ∷ []) (rw (← made.payload) wrote) },
      tick_run_law own time interval records pdu made scan (advertised d (beginning time interval pdu)).state cs sound 1 refl,
    )
ticks_from (ticks tx m ok wrote) sound a cs = tt
ticks_from (replying end header payload crc_good tx m scan_request k ok wrote) sound a cs = tt
ticks_from (begins end header payload crc_good tx u channel m e ok ranges there low q) sound a cs = tt
ticks_from (hopping u channel m there low ok) sound a cs = tt
ticks_from stops sound a cs = tt
ticks_from (sets records pdu ok made) sound a cs = tt
ticks_from (stays (start time interval records tx) s) sound a cs = absurd (false≢true (sym s.no_start ∙ a))
ticks_from (stays (tick tx) s) sound a cs = tt
ticks_from (stays (packet end header payload crc_good tx) s) sound a cs = tt
ticks_from (stays event s) sound a cs = tt
ticks_from (stays stop s) sound a cs = tt
ticks_from (stays (set_scan_data records) s) sound a cs = tt

-- Packets between two ticks are heard on the channel of the first

listened : (c : AdvertisingChannel) {x : AdvertisingChannel} {a : Result Answer Error} → ListensOn x a → heard_on c a ≡ x
listened c keeps = refl
listened c replies = refl

module _ (x : AdvertisingChannel) where
  abbrev HearsOn : ℕ → Entry → Type 0
  HearsOn k e = (y : AdvertisingChannel) → ListensOn y e.result.answer → y ≡ x

  abbrev HearAt : ℕ → State → Type 0
  HearAt k d = d.adv.channel ≡ x

  -- an answer that listens on no other channel than the device's
  hears_on : (k : ℕ) (scan : List ℕ) (d : State) (c : Call) (r : Step) → HearAt k d → heard_on d.adv.channel r.answer ≡ d.adv.channel → HearsOn k (entry_of scan d c r)
  hears_on k scan d c r at is y l = sym (listened d.adv.channel l) ∙ (is ∙ at)

  stays_moves : (k : ℕ) (scan : List ℕ) (d : State) (c : Call) (r : Step) → HearsOn k (entry_of scan d c r) → HearAt k r.state
      → Moves HearsOn HearAt hear_run (hear_run false c) k (entry_of scan d c r)
  unfolding hear_run
  stays_moves k scan d (start time interval records tx) r on at = at
  stays_moves k scan d (tick tx) r on at = at
  stays_moves k scan d (packet end header payload crc_good tx) r on at = (on, at)
  stays_moves k scan d event r on at = at
  stays_moves k scan d stop r on at = at
  stays_moves k scan d (set_scan_data records) r on at = at

  hear_moves : (k : ℕ) {scan : List ℕ} {d : State} {c : Call} {r : Step} → HearAt k d → Happens scan d c r
      → Moves HearsOn HearAt hear_run (hear_run (eqb (number scan d c) 0) c) k (entry_of scan d c r)
  unfolding hear_run refused_by
  hear_moves k at (starts time interval records tx pdu ok made wrote) = rw ok tt
  hear_moves k at (ticks tx m ok wrote) = rw ok tt
  hear_moves k {scan} {d} {c} {r} at (replying end header payload crc_good tx m scan_request n ok wrote) = (hears_on k scan d c r at refl, at)
  hear_moves k {scan} {d} {c} {r} at (begins end header payload crc_good tx u channel m e ok ranges there low q) = (hears_on k scan d c r at refl, at)
  hear_moves k at (hopping u channel m there low ok) = at
  hear_moves k at stops = at
  hear_moves k at (sets records pdu ok made) = at
  hear_moves k {scan} {d} {r = r} at (stays c s) = rw s.no_send (stays_moves k scan d c r (hears_on k scan d c r at s.hears) at)

  hear_run_law : (scan : List ℕ) (d : State) (cs : List Call) → Sound scan d → HearAt 0 d → Each HearsOn 0 (gather hear_run (traced scan d cs))
  hear_run_law scan d cs sound at = gather_each HearsOn HearAt hear_run (λ k scan d c sound at. hear_moves k at (happens scan d sound c)) scan d cs sound 0 at

-- an answer that sent on a channel left the device there
sent_there : {scan : List ℕ} {d : State} {c : Call} {r : Step} → Happens scan d c r → (header : Header) (x : AdvertisingChannel) (next : Instant) → r.answer ≡ Ok (Sent header x next)
    → r.state.adv.channel ≡ x
sent_there (starts time interval records tx pdu ok made wrote) header x next is = cc
sent_there (ticks tx m ok wrote) header x next is = cc
sent_there (replying end header payload crc_good tx m scan_request k ok wrote) h x next is = absurd (false≢true (ap is_sent is))
sent_there (begins end header payload crc_good tx u channel m e ok ranges there low q) h x next is = absurd (false≢true (ap is_sent is))
sent_there (hopping u channel m there low ok) header x next is = absurd (false≢true (ap is_sent is))
sent_there stops header x next is = absurd (false≢true (ap is_sent is))
sent_there (sets records pdu ok made) header x next is = absurd (false≢true (ap is_sent is))
sent_there (stays c s) header x next is = absurd (false≢true (sym s.unsent ∙ ap is_sent is))

pub listening_from : {scan : List ℕ} {d : State} {c : Call} {r : Step} → Happens scan d c r → Sound (scan_after scan c) r.state → (cs : List Call)
    → ListeningFrom (entry_of scan d c r) (traced (scan_after scan c) r.state cs)
listening_from {scan} {c = c} {r = r} h sound cs header x next is = hear_run_law x (scan_after scan c) r.state cs sound (sent_there h header x next is)

-- Events move the connection by the hop, while connected

clash : {m : Mode} → m ≡ Advertising → m ≡ Connected → ⊥
clash p q = let z : ◌≡◌ {A = ℕ} 0 1 = cc in omega arith

module _ (p : List ℕ) (ranges : Within (settings_in (request_of p))) where
  some : 0 < marks (map_in p)
  unfolding ll_data_of
  some = omega (arith, ranges.two_channels)

  abbrev pub channel_of : ℕ → ℕ
  channel_of k = event_channel (map_in p) (hop_in p) k

  abbrev pub IsEvent : ℕ → Entry → Type 0
  IsEvent k e = event_on e.result.answer ≡ channel_of k

  -- the connection of the request before event k
  abbrev pub connection_at : ℕ → Connection
  connection_at k = record { channel_map = from_raw (map_in p); hop = hop_in p; unmapped_channel = unmapped_before (from_raw (map_in p)) (hop_in p) k }

  abbrev pub EventAt : ℕ → State → Type 0
  EventAt k d = (d.mode ≡ Connected) × (d.conn ≡ connection_at k)

  five_bits : hop_in p % 32 ≡ hop_in p
  five_bits = omega arith

  -- event k: the channel of the hop, and the unmapped channel of the next
  event_is : (k u : ℕ) (channel : DataChannel) → hopped (from_raw (map_in p)) (unmapped_before (from_raw (map_in p)) (hop_in p) k) (hop_in p) ≡ Ok (record { unmapped = u; channel = channel })
      → (channel.index ≡ channel_of k) × (u ≡ unmapped_before (from_raw (map_in p)) (hop_in p) (suc k))
  unfolding unmapped_before
  event_is k u channel there =
      let same = sym there ∙ run (map_in p) (hop_in p) k some in
      let index : channel.index ≡ event_channel (map_in p) (hop_in p % 32) k = ap (λ (r : Result Hop Error). (hop_or r).channel.index) same in
      (index ∙ ap (λ (h : ℕ). event_channel (map_in p) h k) five_bits, rw there)

  event_moves : (k : ℕ) {scan : List ℕ} {d : State} {c : Call} {r : Step} → EventAt k d → Happens scan d c r
      → Moves IsEvent EventAt event_run (event_run (eqb (number scan d c) 0) c) k (entry_of scan d c r)
  unfolding event_run refused_by
  event_moves k at (starts time interval records tx pdu ok made wrote) = rw ok tt
  event_moves k at (ticks tx m ok wrote) = absurd (clash m at.0)
  event_moves k at (replying end header payload crc_good tx m scan_request n ok wrote) = absurd (clash m at.0)
  event_moves k at (begins end header payload crc_good tx u channel m e ok ranges there low q) = absurd (clash m at.0)
  event_moves k at (hopping u channel m there low ok) =
      let is = event_is k u channel (rw at.1 at there) in
      rw ok (is.0, (m, λ i. record { channel_map = (at.1 i).channel_map; hop = (at.1 i).hop; unmapped_channel = is.1 i }))
  event_moves k at stops = tt
  event_moves k at (sets records pdu ok made) = at
  event_moves k at (stays c s) = rw s.no_event at

  pub event_run_law : (scan : List ℕ) (d : State) (cs : List Call) → Sound scan d → (k : ℕ) → EventAt k d → Each IsEvent k (gather event_run (traced scan d cs))
  event_run_law = gather_each IsEvent EventAt event_run (λ k scan d c sound at. event_moves k at (happens scan d sound c))

  events_of : (es : List Entry) → Each IsEvent 0 es → Events p es
  unfolding uses_in remapped ll_data_of
  events_of es each =
      record {
        by_hop = each;
        each_share = λ k fits i below.
            follows_times event_on channel_of es each (channel_at (map_in p) i) k 37 fits
            ∙ fair (map_in p) (hop_in p) k i (omega (arith, ranges.hop_least)) (omega (arith, ranges.hop_most)) below;
      }

-- the payload that a packet call is handed
abbrev pub payload_in : Call → List ℕ
payload_in (start time interval records tx) = []
payload_in (tick tx) = []
payload_in (packet end header payload crc_good tx) = payload
payload_in event = []
payload_in stop = []
payload_in (set_scan_data records) = []

pub events_from : {scan : List ℕ} {d : State} {c : Call} {r : Step} → Happens scan d c r → Sound (scan_after scan c) r.state → is_first_event r.answer ≡ true
    → (cs : List Call) → Events (payload_in c) (entry_of scan d c r ∷ gather event_run (traced (scan_after scan c) r.state cs))
unfolding unmapped_before ll_data_of
events_from (starts time interval records tx pdu ok made wrote) sound a cs = absurd (false≢true a)
events_from (ticks tx m ok wrote) sound a cs = absurd (false≢true a)
events_from (replying end header payload crc_good tx m scan_request k ok wrote) sound a cs = absurd (false≢true a)
events_from {scan} (begins end header payload crc_good tx u channel m e ok ranges there low q) sound a cs =
    let is = event_is payload ranges 0 u channel there in
    events_of payload ranges _ (is.0, event_run_law payload ranges scan _ cs sound 1 (refl, λ i. record { channel_map = from_raw (map_in payload); hop = hop_in payload; unmapped_channel = is.1 i }))
events_from (hopping u channel m there low ok) sound a cs = absurd (false≢true a)
events_from stops sound a cs = absurd (false≢true a)
events_from (sets records pdu ok made) sound a cs = absurd (false≢true a)
events_from (stays c s) sound a cs = absurd (false≢true (sym s.no_first ∙ a))

-- Where a connection begins, where a reply is given, and what is refused

pub begins_at : {scan : List ℕ} {d : State} {c : Call} {r : Step} → Happens scan d c r → is_first_event r.answer ≡ (is_advertising d.mode && connects d.dev_addr c)
unfolding connects
begins_at (starts time interval records tx pdu ok made wrote) = simp and-false
begins_at (ticks tx m ok wrote) = simp and-false
begins_at (replying end header payload crc_good tx m scan_request k ok wrote) = rw (m, k)
begins_at (begins end header payload crc_good tx u channel m e ok ranges there low q) = rw (m, e)
begins_at (hopping u channel m there low ok) = simp and-false
begins_at stops = simp and-false
begins_at (sets records pdu ok made) = simp and-false
begins_at (stays c s) = s.no_first ∙ sym s.no_connect

-- a call without a reply
quietly : (scan : List ℕ) (d : State) (c : Call) (r : Step) (after : List Entry) → is_reply r.answer ≡ false → Quiet scan d c
    → RepliesAt d.dev_addr (entry_of scan d c r) after
quietly scan d c r after none q =
    record {
      exactly = none ∙ sym q.unasked;
      reply = λ e. absurd (false≢true (sym q.unasked ∙ e));
      elsewhere = λ e end header payload crc_good tx is. subst (λ (x : Call). Untouched x (octets_of d c)) is q.untouched;
    }

pub replies_at : {scan : List ℕ} {d : State} {c : Call} {r : Step} → Sound scan d → Happens scan d c r → (after : List Entry)
    → RepliesAt d.dev_addr (entry_of scan d c r) after
replies_at {scan} {d} {c} {r} sound (starts time interval records tx pdu ok made wrote) after = quietly scan d c r after refl (plain scan d c refl)
replies_at {scan} {d} {c} {r} sound (ticks tx m ok wrote) after = quietly scan d c r after refl (plain scan d c refl)
replies_at {scan} {d} sound (replying end header payload crc_good tx m scan_request k ok wrote) after =
    let there : (is_advertising d.mode && asks_to_scan_with (reply_size scan) d.dev_addr (packet end header payload crc_good tx)) ≡ true = rw (m, scan_request) in
    record {
      exactly = sym there;
      reply = λ e.
          record {
            answer = ap (λ (h : Header). Ok (Respond h d.adv.channel)) sound.reply.header;
            octets = ap (λ (l : List ℕ). payload ∷ l ∷ []) (rw (← sound.reply.payload) wrote);
          };
      elsewhere = λ e. absurd (false≢true (sym e ∙ there));
    }
replies_at {scan} {d} {c} {r} sound (begins end header payload crc_good tx u channel m e ok ranges there low q) after = quietly scan d c r after refl q
replies_at {scan} {d} {c} {r} sound (hopping u channel m there low ok) after = quietly scan d c r after refl (plain scan d c refl)
replies_at {scan} {d} {c} {r} sound stops after = quietly scan d c r after refl (plain scan d c refl)
replies_at {scan} {d} {c} {r} sound (sets records pdu ok made) after = quietly scan d c r after refl (plain scan d c refl)
replies_at {scan} {d} {r = r} sound (stays c s) after = quietly scan d c r after s.no_reply s.quiet

pub stops_at : {scan : List ℕ} {d : State} {c : Call} {r : Step} → Happens scan d c r → c ≡ stop → r.answer ≡ Ok Stopped
stops_at (starts time interval records tx pdu ok made wrote) is = absurd (false≢true (ap is_stop is))
stops_at (ticks tx m ok wrote) is = absurd (false≢true (ap is_stop is))
stops_at (replying end header payload crc_good tx m scan_request k ok wrote) is = absurd (false≢true (ap is_stop is))
stops_at (begins end header payload crc_good tx u channel m e ok ranges there low q) is = absurd (false≢true (ap is_stop is))
stops_at (hopping u channel m there low ok) is = absurd (false≢true (ap is_stop is))
stops_at stops is = refl
stops_at (sets records pdu ok made) is = absurd (false≢true (ap is_stop is))
stops_at (stays c s) is = absurd (false≢true (sym s.no_stop ∙ ap is_stop is))

pub sets_at : {scan : List ℕ} {d : State} {c : Call} {r : Step} → Happens scan d c r → is_set c ≡ true → eqb (number scan d c) 0 ≡ true → r.answer ≡ Ok ScanDataSet
sets_at (starts time interval records tx pdu ok made wrote) is a = absurd (false≢true is)
sets_at (ticks tx m ok wrote) is a = absurd (false≢true is)
sets_at (replying end header payload crc_good tx m scan_request k ok wrote) is a = absurd (false≢true is)
sets_at (begins end header payload crc_good tx u channel m e ok ranges there low q) is a = absurd (false≢true is)
sets_at (hopping u channel m there low ok) is a = absurd (false≢true is)
sets_at stops is a = absurd (false≢true is)
sets_at (sets records pdu ok made) is a = refl
sets_at (stays c s) is a = absurd (false≢true (sym s.no_set ∙ rw (is, a)))

pub refused_at : {scan : List ℕ} {d : State} {c : Call} {r : Step} → Happens scan d c r → number_in r.answer ≡ number scan d c
unfolding refused_by
refused_at (starts time interval records tx pdu ok made wrote) = sym ok
refused_at (ticks tx m ok wrote) = sym ok
refused_at (replying end header payload crc_good tx m scan_request k ok wrote) = sym ok
refused_at (begins end header payload crc_good tx u channel m e ok ranges there low q) = sym ok
refused_at (hopping u channel m there low ok) = sym ok
refused_at stops = refl
refused_at (sets records pdu ok made) = sym ok
refused_at (stays c s) = s.refuses
