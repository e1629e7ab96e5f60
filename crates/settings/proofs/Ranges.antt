-- The ranges of a connection's settings, and what is taken, by octets: `tests`, `in_time`, `least_kept`, `settles`, `alone`, `limits`. Assumes nothing.
use mathlib.Core.Bool.{Bool, true, false, cond}
use mathlib.Core.List.{List, [], ◌∷◌}
use mathlib.Core.Path.{◌≡◌, refl, sym, ap, subst}
use Prim.Native.Nat.{ℕ, ◌+◌, ◌-◌, ◌*◌, ◌/◌, ◌%◌, ◌≤◌}
use native.Mathlib.Nat.{mul_assoc, min-le_left, min-le_right, le-min}
use native.Mathlib.Omega.{arith}
use lib.Dec.{eqb, leb}
use lib.Seq.{drop-append_seam}
use borrow.Author.Tests.{le-leb, leb-true, lt-ltb, ltb-true, eq-eqb, ne_eqb}
use Rattle.channels.specs.Count.{count}
use Rattle.channels.specs.declared.channel_map.ChannelMap.{ChannelMap}
use Rattle.channels.specs.Map.{marked, marks, cleared, from_raw}
use Rattle.octets.proofs.Places.{both_true}
use Rattle.octets.specs.Bytes.{le}
use Rattle.octets.specs.declared.error.Error.{Error}
use Rattle.octets.specs.declared.error.Error.TheVariants.{OutOfRange}
use Rattle.advertising.proofs.Figures.{field_is}
use Rattle.advertising.specs.Laws.{Figure}
use Rattle.advertising.specs.Pdu.{ll_data_figure, ll_data_of, ll_data_in}
use Rattle.settings.specs.Ranges.{Ranges, Times, between, in_ranges, Tests, InTime}
use Rattle.settings.specs.Settings.{Settings, Within, least_settings, settings_in, is_within, judged, settings_as, taken_of, Taking, Settles, Alone, RangeLimits}
use Rattle.advertising.specs.declared.pdu.ConnectRequestData.{ConnectRequestData}
use Rattle.std.specs.Prelude.{Result, Ok, Err, is_err}
use Rattle.std.specs.Result.{result_unwrap_or}

pub between_true : (low x high : ℕ) → between low x high ≡ true → (low ≤ x) × (x ≤ high)
between_true low x high e =
    let parts = both_true (leb low x) (leb x high) e in
    (leb-true low x parts.0, leb-true x high parts.1)

pub tests : Tests
unfolding in_ranges
tests hop channels interval latency timeout winSize winOffset = (within, passes)
  where
    within : in_ranges hop channels interval latency timeout winSize winOffset ≡ true → Ranges hop channels interval latency timeout winSize winOffset
    within e =
        let hops = both_true _ _ e in
        let marked = both_true _ _ hops.1 in
        let rest = both_true _ _ marked.1 in
        let intervals = both_true _ _ rest.0 in
        let latencies = both_true _ _ intervals.1 in
        let timeouts = both_true _ _ latencies.1 in
        let window = both_true _ _ rest.1 in
        record {
          hop_least = (between_true _ hop _ hops.0).0;
          hop_most = (between_true _ hop _ hops.0).1;
          two_channels = leb-true _ channels marked.0;
          interval_least = (between_true _ interval _ intervals.0).0;
          interval_most = (between_true _ interval _ intervals.0).1;
          latency_most = leb-true latency _ latencies.0;
          timeout_least = (between_true _ timeout _ timeouts.0).0;
          timeout_most = (between_true _ timeout _ timeouts.0).1;
          timeout_above = ltb-true _ _ timeouts.1;
          win_size_least = (between_true _ winSize _ window.0).0;
          win_size_most = (between_true _ winSize _ window.0).1;
          win_offset_most = leb-true winOffset _ window.1;
        }

    passes : Ranges hop channels interval latency timeout winSize winOffset → in_ranges hop channels interval latency timeout winSize winOffset ≡ true
    passes r =
        rw (
          le-leb _ hop r.hop_least,
          le-leb hop _ r.hop_most,
          le-leb _ channels r.two_channels,
          le-leb _ interval r.interval_least,
          le-leb interval _ r.interval_most,
          le-leb latency _ r.latency_most,
          le-leb _ timeout r.timeout_least,
          le-leb timeout _ r.timeout_most,
          lt-ltb _ _ r.timeout_above,
          le-leb _ winSize r.win_size_least,
          le-leb winSize _ r.win_size_most,
          le-leb winOffset _ r.win_offset_most,
        )

pub in_time : InTime
in_time hop channels interval latency timeout winSize winOffset = (to, from)
  where
    in_micros : (1 + latency) * (interval * 1250) ≡ (1 + latency) * interval * 1250
    in_micros = sym (mul_assoc (1 + latency) interval 1250)

    to : Ranges hop channels interval latency timeout winSize winOffset → Times hop channels interval latency timeout winSize winOffset
    to r =
        let eight = min-le_left 8 (interval - 1) in
        let inside = min-le_right 8 (interval - 1) in
        record {
          hop_above = omega (arith, r.hop_least);
          hop_below = omega (arith, r.hop_most);
          channels_above = omega (arith, r.two_channels);
          interval_least = omega (arith, r.interval_least);
          interval_most = omega (arith, r.interval_most);
          latency_below = omega (arith, r.latency_most);
          timeout_least = omega (arith, r.timeout_least);
          timeout_most = omega (arith, r.timeout_most);
          timeout_above = omega (arith, in_micros, r.timeout_above);
          win_size_least = omega (arith, r.win_size_least);
          win_size_most = omega (arith, eight, r.win_size_most);
          win_size_inside = omega (arith, inside, r.win_size_most, r.interval_least);
          win_offset_most = omega (arith, r.win_offset_most);
        }

    from : Times hop channels interval latency timeout winSize winOffset → Ranges hop channels interval latency timeout winSize winOffset
    from t =
        record {
          hop_least = omega (arith, t.hop_above);
          hop_most = omega (arith, t.hop_below);
          two_channels = omega (arith, t.channels_above);
          interval_least = omega (arith, t.interval_least);
          interval_most = omega (arith, t.interval_most);
          latency_most = omega (arith, t.latency_below);
          timeout_least = omega (arith, t.timeout_least);
          timeout_most = omega (arith, t.timeout_most);
          timeout_above = omega (arith, in_micros, t.timeout_above);
          win_size_least = omega (arith, t.win_size_least);
          win_size_most = le-min (omega (arith, t.win_size_most)) (omega (arith, t.win_size_inside));
          win_offset_most = omega (arith, t.win_offset_most);
        }

-- the least settings are within the ranges
pub least_kept : Within least_settings
least_kept =
    record {
      hop_least = omega arith;
      hop_most = omega arith;
      two_channels = omega arith;
      interval_least = omega arith;
      interval_most = omega arith;
      latency_most = omega arith;
      timeout_least = omega arith;
      timeout_most = omega arith;
      timeout_above = omega arith;
      win_size_least = omega arith;
      win_size_most = omega arith;
      win_offset_most = omega arith;
    }

-- so are settings that were taken, or the least
kept_or_least : (t : Result Settings Error) → ((x : Settings) → t ≡ Ok x → Within x) → Within (result_unwrap_or t least_settings)
kept_or_least (Ok x) within = within x refl
kept_or_least (Err e) within = least_kept

-- the settings as the code has them, of what a request l says
pub are_in : (l : ConnectRequestData) {hop interval latency timeout winSize winOffset : ℕ} {chm : ChannelMap} → hop ≡ l.hop → chm ≡ l.chm → interval ≡ l.interval → latency ≡ l.latency
    → timeout ≡ l.timeout → winSize ≡ l.win_size → winOffset ≡ l.win_offset
    → settings_as hop chm (interval / 1250) latency (timeout / 10000) (winSize / 1250) (winOffset / 1250) ≡ settings_in l
are_in l hop map interval latency timeout size offset = λ i.
    record {
      hop = hop i;
      chm = map i;
      interval = interval i / 1250;
      latency = latency i;
      timeout = timeout i / 10000;
      win_size = size i / 1250;
      win_offset = offset i / 1250;
    }

-- what is answered for the settings s of a request l whose map marks some channel
module _ (l : ConnectRequestData) (s : Settings) (are : s ≡ settings_in l) (some : s.chm.num_used_channels ≡ 0 → ⊥) where
  judged_is : judged s ≡ taken_of l
  unfolding taken_of
  judged_is = ap judged are

  pub within_of : is_within s ≡ true → Ok s ≡ taken_of l
  within_of kept = rw (ne_eqb s.chm.num_used_channels 0 some, kept) at judged_is

  pub outside_of : is_within s ≡ false → Err OutOfRange ≡ taken_of l
  outside_of kept = rw (ne_eqb s.chm.num_used_channels 0 some, kept) at judged_is

-- a count kept in µs is itself again
count_of : (n : ℕ) → n * 1250 / 1250 ≡ n
count_of n = omega arith

timeout_of : (n : ℕ) → n * 10000 / 10000 ≡ n
timeout_of n = omega arith

-- the settings in octets that are the fields of LLData
counts_of : {aa crcInit winSize winOffset interval latency timeout chM hopSca further o : List ℕ}
    → Figure ll_data_figure (aa ∷ crcInit ∷ winSize ∷ winOffset ∷ interval ∷ latency ∷ timeout ∷ chM ∷ hopSca ∷ []) further o
    → settings_in (ll_data_of o) ≡ settings_as (le hopSca % 32) (from_raw chM) (le interval) (le latency) (le timeout) (le winSize) (le winOffset)
unfolding ll_data_of
counts_of fig = λ i.
    record {
      hop = le (field_is fig 8 i) % 32;
      chm = from_raw (field_is fig 7 i);
      interval = count_of (le (field_is fig 4 i)) i;
      latency = le (field_is fig 5 i);
      timeout = timeout_of (le (field_is fig 6 i)) i;
      win_size = count_of (le (field_is fig 2 i)) i;
      win_offset = count_of (le (field_is fig 3 i)) i;
    }

taking : (o : List ℕ) → Taking o (settings_in (ll_data_of o)) (taken_of (ll_data_of o))
unfolding taken_of
taking o =
    record {
      counts = λ _ _ _ _ _ _ _ _ _ _ fig. counts_of fig;
      sound = λ x e. sound _ (eqb n 0) (is_within s) refl x e;
      complete = λ r. rw (ne_eqb n 0 (λ e. let two : 2 ≤ n = r.two_channels in omega (arith, e, two)), (tests _ _ _ _ _ _ _).1 r);
      empty = λ e. rw (eq-eqb n 0 e);
      outside = λ some out. rw (ne_eqb n 0 (λ e. omega (arith, e, some)), outside (is_within s) refl out);
      empty_least = λ e. rw (eq-eqb n 0 e);
      outside_least = λ some out. rw (ne_eqb n 0 (λ e. omega (arith, e, some)), outside (is_within s) refl out);
      kept = kept_or_least (taken_of (ll_data_of o)) (λ x e. let is = sound _ (eqb n 0) (is_within s) refl x e in subst Within (sym is.0) is.1);
    }
  where
    s : Settings
    s = settings_in (ll_data_of o)

    n : ℕ
    n = s.chm.num_used_channels

    sound : (e : Error) (b c : Bool) → is_within s ≡ c → (x : Settings) → cond b (Err e) (cond c (Ok s) (Err OutOfRange)) ≡ Ok x → (x ≡ s) × Within s
    sound e true c is x ok = absurd (let z : true ≡ false = ap is_err ok in cc)
    sound e false true is x ok = (cc, (tests _ _ _ _ _ _ _).0 is)
    sound e false false is x ok = absurd (let z : true ≡ false = ap is_err ok in cc)

    outside : (c : Bool) → is_within s ≡ c → (Within s → ⊥) → is_within s ≡ false
    outside true is out = absurd (out ((tests _ _ _ _ _ _ _).0 is))
    outside false is out = is

pub settles : (p : List ℕ) → Settles p
settles p = taking (ll_data_in p)

pub alone : (o : List ℕ) → Alone o
alone o = record { octets = taking o; addresses = λ front twelve. ap ll_data_of (rw (← twelve) (drop-append_seam front o)) }

pub limits : RangeLimits
unfolding taken_of ll_data_of in_ranges marks marked cleared count
limits =
    record {
      hop = refl;
      channels = refl;
      interval = refl;
      latency = refl;
      timeout = refl;
      timeout_above = refl;
      timeout_11 = refl;
      latency_499 = refl;
      timeout_3200 = refl;
      interval_3200 = refl;
      win_size = refl;
      win_size_9 = refl;
      win_size_8 = refl;
      win_size_6 = refl;
      win_offset = refl;
      order = refl;
      octets = refl;
      taken = refl;
      not_taken = refl;
      least = refl;
    }
