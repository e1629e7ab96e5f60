-- A run of a scanner's calls follows the cycle from 37 on: `scanning`; and so does a new scanner: `new_scanner`. Assumes nothing.
use mathlib.Core.Bool.{Bool}
use mathlib.Core.List.{List}
use mathlib.Core.Path.{◌≡◌, refl, ap, ◌∙◌}
use Prim.Native.Nat.{ℕ, zero, suc, ◌+◌}
use native.Mathlib.Omega.{arith}
use lib.Dec.{eqb}
use Rattle.octets.specs.Time.{later}
use Rattle.octets.specs.declared.time.Instant.{Instant}
use Rattle.channels.specs.Laws.{cycles}
use Rattle.channels.specs.Phy.{index_of, first_channel}
use Rattle.channels.specs.declared.phy.AdvertisingChannel.{AdvertisingChannel}
use Rattle.channels.proofs.Counting.{count_ext}
use Rattle.channels.proofs.Cycles.{once_each, cycles_add}
use Rattle.addresses.specs.declared.filter.AddressFilter.{AddressFilter}
use Rattle.addresses.specs.declared.header.Header.{Header}
use Rattle.beacon_spec.specs.Laws.{run, NewScanner, Scanning}
use Rattle.beacon_spec.specs.Scanner.{scanner_of, timer_updated, scanned}
use Rattle.beacon_spec.specs.State.{BeaconScanner}

-- a packet leaves the channel
channel_kept : (s : BeaconScanner) (h : Header) (p : List ℕ) (crcOk : Bool) (list : List ℕ) → (scanned s h p crcOk list).channel ≡ s.channel
unfolding scanned
channel_kept s h p crcOk list = refl

pub new_scanner : (f : AddressFilter) → NewScanner f
new_scanner f =
    record {
      filter = refl;
      packet = λ h p crcOk list. channel_kept (scanner_of f) h p crcOk list;
      channel = λ t. refl;
      instant = λ t small. omega arith;
    }

module _ (s : BeaconScanner) (interval : ℕ) (times : ℕ → Instant) where
  -- the scanner after call k, and that it listens on its channel for its interval
  state : (k : ℕ) → (run s interval times k).scanner ≡ record { filter = s.filter; interval = interval; channel = cycles k first_channel }
  unfolding run cycles
  state zero = refl
  state (suc k) = ap (λ (x : BeaconScanner). (timer_updated x (times (suc k))).scanner) (state k)

  its_channel : (k : ℕ) → (run s interval times k).cmd.channel ≡ (run s interval times k).scanner.channel
  unfolding run
  its_channel zero = refl
  its_channel (suc k) = refl

  its_instant : (k : ℕ) → (run s interval times k).cmd.next_update.0 ≡ later (times k).0 (run s interval times k).scanner.interval
  unfolding run
  its_instant zero = refl
  its_instant (suc k) = refl

  listens : (k : ℕ) → (run s interval times k).cmd.channel ≡ cycles k first_channel
  listens k = its_channel k ∙ ap (λ (x : BeaconScanner). x.channel) (state k)

  pub scanning : (k : ℕ) → Scanning s interval times k
  scanning k =
      record {
        listens = listens k;
        until = its_instant k ∙ ap (λ (x : BeaconScanner). later (times k).0 x.interval) (state k);
        filter = ap (λ (x : BeaconScanner). x.filter) (state k);
        packet = λ h p crcOk list. channel_kept (run s interval times k).scanner h p crcOk list ∙ ap (λ (x : BeaconScanner). x.channel) (state k);
        once_each = λ d.
            count_ext (λ j. eqb (index_of (run s interval times (k + j)).cmd.channel) (index_of d)) (λ j. eqb (index_of (cycles j (cycles k first_channel))) (index_of d)) 3
            (λ j below. ap (λ (c : AdvertisingChannel). eqb (index_of c) (index_of d)) (listens (k + j) ∙ cycles_add k j first_channel))
            ∙ once_each (cycles k first_channel) d;
      }
