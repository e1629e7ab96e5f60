-- Demand 3 holds of every own address of six octets and every list of calls: `demand_3`. Assumes nothing.
use mathlib.Core.Bool.{Bool, true, false, cond, ◌&&◌, and-false, false≢true}
use mathlib.Core.List.{List, [], ◌∷◌}
use mathlib.Core.Path.{◌≡◌, refl, sym, ap, subst, ◌∙◌}
use Prim.Native.Nat.{ℕ}
use native.Mathlib.Omega.{arith}
use lib.Dec.{eqb}
use lib.ListN.{length}
use Rattle.octets.specs.declared.error.Error.TheVariants.{WrongMode}
use Rattle.octets.specs.declared.time.Instant.{Instant}
use Rattle.addresses.specs.declared.device_address.DeviceAddress.{DeviceAddress}
use Rattle.addresses.specs.declared.header.Header.{Header}
use Rattle.radio_spec.specs.Calls.{fresh, is_advertising, listens, refusal, addressed, packet_of}
use Rattle.radio_spec.specs.Demand.{RefusedAt, TicksFrom, ListeningFrom, RepliesAt, SetsAt, BeginsAt, EventsFrom, StopsAt, Events, ReplyOf, mode_then, ModesFrom, Demand3}
use Rattle.radio_spec.specs.Call.{Call, start, tick, packet, event, stop, set_scan_data, call_of}
use Rattle.radio_spec.specs.SoFar.{for_board, connects, SoFar, at_first, start_number, scan_data_number, refused_by, then_call, then_calls, mode_after, scan_data_after}
use Rattle.radio_spec.specs.Trace.{Entry, trace_from, trace, state_from, state_after, gather, tick_run, event_run, AtEach, none, here, Strikable, crc_bad, malformed, foreign, Choice, keep, strike, remaining}
use Rattle.radio_spec.specs.State.{State, Step}
use Rattle.radio_spec.specs.declared.link.Mode.{Mode}
use Rattle.radio_spec.proofs.Packets.{pdu_in, packet_as, not_for}
use Rattle.radio_spec.proofs.Replies.{bare}
use Rattle.radio_spec.proofs.Runs.{entry_of, traced, TicksOf, payload_in, ticks_from, listening_from, events_from, begins_at, replies_at, sets_at, stops_at, refused_at}
use Rattle.radio_spec.proofs.Steps.{so_far, scan_after, Sound, is_set, happens, address_kept, sound_kept, reads_on}

-- a device of this address, in a list
record Ours (own : DeviceAddress) (scan : List ℕ) (d : State) : Type 0 where
  sound : Sound scan d
  address : d.dev_addr ≡ own

next_ours : {own : DeviceAddress} {scan : List ℕ} {d : State} (c : Call) → Ours own scan d → Ours own (scan_after scan c) (call_of d c).state
next_ours {own} {scan} {d} c ours =
    let h = happens scan d ours.sound c in
    record { sound = sound_kept ours.sound h; address = address_kept h ∙ ours.address }

fresh_ours : (own : DeviceAddress) → length own.bytes ≡ 6 → Ours own [] (fresh own)
fresh_ours own six = record { sound = record { six = six; reply = bare own six; live = λ e. absurd (let z : ◌≡◌ {A = ℕ} 0 1 = cc in omega arith) }; address = refl }

-- The list's reading is the device's, with the scan data, so the trace goes by these alone

module _ (own : DeviceAddress) where
  next_reading : (l : SoFar) (scan : List ℕ) (d : State) (c : Call) → Ours own scan d → l ≡ so_far scan d → then_call own l c ≡ so_far (scan_after scan c) (call_of d c).state
  next_reading l scan d c ours is = rw (← ours.address, is) (reads_on (happens scan d ours.sound c))

  trace_traced : (l : SoFar) (scan : List ℕ) (d : State) (cs : List Call) → Ours own scan d → l ≡ so_far scan d → trace_from own l d cs ≡ traced scan d cs
  trace_traced l scan d [] ours is = refl
  trace_traced l scan d (c ∷ cs) ours is =
      let rest = trace_traced (then_call own l c) (scan_after scan c) (call_of d c).state cs (next_ours c ours) (next_reading l scan d c ours is) in
      let address = ours.address in
      cc

  same_mode : (l : SoFar) (scan : List ℕ) (d : State) (cs : List Call) → Ours own scan d → l ≡ so_far scan d → (state_from d cs).mode ≡ (then_calls own l cs).mode
  same_mode l scan d [] ours is = sym (ap (λ (x : SoFar). x.mode) is)
  same_mode l scan d (c ∷ cs) ours is = same_mode (then_call own l c) (scan_after scan c) (call_of d c).state cs (next_ours c ours) (next_reading l scan d c ours is)

  same_reply : (l : SoFar) (scan : List ℕ) (d : State) (cs : List Call) → Ours own scan d → l ≡ so_far scan d → ReplyOf own (then_calls own l cs).scan_data (state_from d cs).scan_response
  same_reply l scan d [] ours is = rw (is, ← ours.address) ours.sound.reply
  same_reply l scan d (c ∷ cs) ours is = same_reply (then_call own l c) (scan_after scan c) (call_of d c).state cs (next_ours c ours) (next_reading l scan d c ours is)

  at_each : (P : Entry → List Entry → Type 0)
      → ((scan : List ℕ) (d : State) (c : Call) (cs : List Call) → Ours own scan d → P (entry_of scan d c (call_of d c)) (traced (scan_after scan c) (call_of d c).state cs))
      → (scan : List ℕ) (d : State) (cs : List Call) → Ours own scan d → AtEach P (traced scan d cs)
  at_each P p scan d [] ours = none
  at_each P p scan d (c ∷ cs) ours = here (p scan d c cs ours) (at_each P p (scan_after scan c) (call_of d c).state cs (next_ours c ours))

-- The mode of the list, call by call

chosen_mode : (b : Bool) (x y : SoFar) → (cond b x y).mode ≡ cond b x.mode y.mode
chosen_mode true x y = refl
chosen_mode false x y = refl

same_either_way : (b : Bool) (m : Mode) → cond b m m ≡ m
same_either_way true m = refl
same_either_way false m = refl

module _ (own : DeviceAddress) where
  then_mode : (l : SoFar) (c : Call) → (then_call own l c).mode ≡ mode_then own l.mode (eqb (refused_by own l c) 0) c
  unfolding then_call refused_by
  then_mode l (start time interval records tx) = chosen_mode (eqb (start_number records tx) 0) _ l
  then_mode l (tick tx) = chosen_mode (eqb (refused_by own l (tick tx)) 0) _ l ∙ same_either_way (eqb (refused_by own l (tick tx)) 0) l.mode
  then_mode l (packet end header payload crc_good tx) = chosen_mode (is_advertising l.mode && connects own (packet end header payload crc_good tx)) _ l
  then_mode l event = refl
  then_mode l stop = refl
  then_mode l (set_scan_data records) = chosen_mode (eqb (scan_data_number records) 0) _ l ∙ same_either_way (eqb (scan_data_number records) 0) l.mode

  modes_from : (l : SoFar) (d : State) (last : Mode) (cs : List Call) → (then_calls own l cs).mode ≡ last → ModesFrom own l.mode last (trace_from own l d cs)
  modes_from l d last [] is = is
  modes_from l d last (c ∷ cs) is =
      (refl, subst (λ (m : Mode). ModesFrom own m last (trace_from own (then_call own l c) (call_of d c).state cs)) (then_mode l c) (modes_from (then_call own l c) (call_of d c).state last cs is))

-- Struck packets change nothing

module _ (d : State) (end : Instant) (h : Header) (p tx : List ℕ) where
  listened : (adv crc ours : Bool) (r : Step) → (crc && ours) ≡ false
      → (cond adv (cond crc (cond ours r (listens d)) (listens d)) (refusal d WrongMode)).state ≡ d
  listened false crc ours r e = refl
  listened true false ours r e = refl
  listened true true false r e = refl
  listened true true true r e = absurd (false≢true (sym e))

  unheard_same : (crc_good : Bool) → (crc_good && for_board d.dev_addr h p) ≡ false → (packet_of d end h p crc_good tx).state ≡ d
  unheard_same crc_good e =
      ap (λ (s : Step). s.state) (packet_as d end h p crc_good tx)
      ∙ listened (is_advertising d.mode) crc_good (for_board d.dev_addr h p) (addressed d end (pdu_in h p).lldata tx (pdu_in h p).ty) e

pub not_ours : {own : DeviceAddress} {end : Instant} {h : Header} {p tx : List ℕ} {crc_good : Bool} → Strikable own (packet end h p crc_good tx)
    → (crc_good && for_board own h p) ≡ false
not_ours crc_bad = refl
not_ours {own} {h = h} {p = p} (malformed bad) = simp (not_for own h p bad, and-false)
not_ours (foreign e) = simp (e, and-false)

struck_same : (d : State) (c : Call) → Strikable d.dev_addr c → (call_of d c).state ≡ d
struck_same d (packet end h p crc_good tx) s = unheard_same d end h p tx crc_good (not_ours s)
struck_same d (start time interval records tx) s = elim s [ ]
struck_same d (tick tx) s = elim s [ ]
struck_same d event s = elim s [ ]
struck_same d stop s = elim s [ ]
struck_same d (set_scan_data records) s = elim s [ ]

struck_scan : {own : DeviceAddress} (scan : List ℕ) (c : Call) → Strikable own c → scan_after scan c ≡ scan
struck_scan scan (packet end h p crc_good tx) s = refl
struck_scan scan (start time interval records tx) s = elim s [ ]
struck_scan scan (tick tx) s = elim s [ ]
struck_scan scan event s = elim s [ ]
struck_scan scan stop s = elim s [ ]
struck_scan scan (set_scan_data records) s = elim s [ ]

module _ (own : DeviceAddress) where
  others_same : (scan : List ℕ) (d : State) {cs : List Call} (ch : Choice own cs) → Ours own scan d → traced scan d (remaining ch cs) ≡ remaining ch (traced scan d cs)
  others_same scan d Choice.none ours = refl
  others_same scan d (keep {c = c} ch) ours = ap (entry_of scan d c (call_of d c) ∷◌) (others_same (scan_after scan c) (call_of d c).state ch (next_ours c ours))
  others_same scan d (strike {c = c} s ch) ours = rw (struck_same d c (rw ours.address s), struck_scan scan c s) (others_same scan d ch ours)

  end_same : (scan : List ℕ) (d : State) {cs : List Call} (ch : Choice own cs) → Ours own scan d → state_from d (remaining ch cs) ≡ state_from d cs
  end_same scan d Choice.none ours = refl
  end_same scan d (keep {c = c} ch) ours = end_same (scan_after scan c) (call_of d c).state ch (next_ours c ours)
  end_same scan d (strike {c = c} s ch) ours = rw (struck_same d c (rw ours.address s)) (end_same scan d ch ours)

  fresh_trace : length own.bytes ≡ 6 → (calls : List Call) → trace own calls ≡ traced [] (fresh own) calls
  unfolding trace
  fresh_trace six calls = trace_traced own at_first [] (fresh own) calls (fresh_ours own six) refl

-- The whole

pub demand_3 : (own : DeviceAddress) → length own.bytes ≡ 6 → (calls : List Call) → Demand3 own calls
unfolding trace state_after mode_after scan_data_after
demand_3 own six calls =
    let ours : Ours own [] (fresh own) = fresh_ours own six in
    let by-device = fresh_trace own six in
    record {
      refusals = rw (by-device calls) (at_each own RefusedAt (λ scan d c cs o. refused_at (happens scan d o.sound c)) [] (fresh own) calls ours);
      ticks = rw (by-device calls) (at_each own (TicksFrom own)
          (λ scan d c cs o time interval records tx is e.
          subst (λ (x : Call). TicksOf own x (entry_of scan d c (call_of d c) ∷ gather tick_run (traced (scan_after scan c) (call_of d c).state cs))) is
          (rw (← o.address) (ticks_from (happens scan d o.sound c) (next_ours c o).sound e cs)))
          [] (fresh own) calls ours);
      listening = rw (by-device calls) (at_each own ListeningFrom (λ scan d c cs o. listening_from (happens scan d o.sound c) (next_ours c o).sound cs) [] (fresh own) calls ours);
      replies = rw (by-device calls) (at_each own (RepliesAt own) (λ scan d c cs o. rw (← o.address) (replies_at o.sound (happens scan d o.sound c) _)) [] (fresh own) calls ours);
      sets = rw (by-device calls) (at_each own SetsAt (λ scan d c cs o records is e. sets_at (happens scan d o.sound c) (ap is_set is) e) [] (fresh own) calls ours);
      begins = rw (by-device calls) (at_each own (BeginsAt own) (λ scan d c cs o. rw (← o.address) (begins_at (happens scan d o.sound c))) [] (fresh own) calls ours);
      events = rw (by-device calls) (at_each own EventsFrom
          (λ scan d c cs o end header payload crc_good tx is e.
          subst (λ (p : List ℕ). Events p (entry_of scan d c (call_of d c) ∷ gather event_run (traced (scan_after scan c) (call_of d c).state cs))) (ap payload_in is)
          (events_from (happens scan d o.sound c) (next_ours c o).sound e cs))
          [] (fresh own) calls ours);
      stops = rw (by-device calls) (at_each own StopsAt (λ scan d c cs o. stops_at (happens scan d o.sound c)) [] (fresh own) calls ours);
      mode = same_mode own at_first [] (fresh own) calls ours refl;
      modes = modes_from own at_first (fresh own) (state_after own calls).mode calls (sym (same_mode own at_first [] (fresh own) calls ours refl));
      carries = same_reply own at_first [] (fresh own) calls ours refl;
      others_same = λ ch. by-device (remaining ch calls) ∙ (others_same own [] (fresh own) ch ours ∙ ap (remaining ch) (sym (by-device calls)));
      end_same = λ ch. end_same own [] (fresh own) ch ours;
    }
