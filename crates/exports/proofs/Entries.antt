-- An entry's octets name what a scanner is given, and entry after entry gives `entries_after`. Assumes nothing.
use Rattle.octets.specs.Bytes.{part_or}
use mathlib.Core.Bool.{Bool, false}
use mathlib.Core.List.{List}
use mathlib.Core.Path.{◌≡◌, sym, ap, ◌∙◌}
use Prim.Native.Nat.{ℕ, ◌+◌, ◌*◌}
use native.Mathlib.Numerals.{add-one}
use lib.Dec.{eqb}
use lib.ListN.{get_or}
use Rattle.addresses.specs.declared.header.Header.{Header}
use Rattle.beacon_spec.specs.Scanner.{configured, timer_updated, scanned}
use Rattle.beacon_spec.specs.State.{BeaconScanner, Updated}
use Rattle.exports.specs.Air.{at}
use Rattle.exports.specs.Lists.{time_in, interval_in, call_header, octets_in}
use Rattle.exports.specs.Scans.{listen_said, hear_said, entry_after, entries_up_to, entry_said}

module _ (c : List ℕ) (s : BeaconScanner) where
  pub after_configure : {t i : ℕ} {u : Updated} → get_or c 0 0 ≡ 0 → t ≡ time_in c → i ≡ interval_in c → u ≡ configured s (at t) i → u.scanner ≡ entry_after c s
  unfolding entry_after
  after_configure k t i u = ap (λ (v : Updated). v.scanner) (u ∙ (λ j. configured s (at (t j)) (i j))) ∙ rw k

  pub after_update : {t : ℕ} {u : Updated} → get_or c 0 0 ≡ 1 → t ≡ time_in c → u ≡ timer_updated s (at t) → u.scanner ≡ entry_after c s
  unfolding entry_after
  after_update k t u = ap (λ (v : Updated). v.scanner) (u ∙ (λ j. timer_updated s (at (t j)))) ∙ rw k

  pub after_packet : eqb (get_or c 0 0) 0 ≡ false → eqb (get_or c 0 0) 1 ≡ false → s ≡ entry_after c s
  unfolding entry_after
  after_packet a b = rw (a, b)

  pub said_configure : (list : List ℕ) {t i : ℕ} {u : Updated} → get_or c 0 0 ≡ 0 → t ≡ time_in c → i ≡ interval_in c → u ≡ configured s (at t) i → listen_said u ≡ entry_said c list s
  unfolding entry_said
  said_configure list k t i u = ap listen_said (u ∙ (λ j. configured s (at (t j)) (i j))) ∙ rw k

  pub said_update : (list : List ℕ) {t : ℕ} {u : Updated} → get_or c 0 0 ≡ 1 → t ≡ time_in c → u ≡ timer_updated s (at t) → listen_said u ≡ entry_said c list s
  unfolding entry_said
  said_update list k t u = ap listen_said (u ∙ (λ j. timer_updated s (at (t j)))) ∙ rw k

  pub said_packet : (list : List ℕ) {h : Header} {p : List ℕ} {b : Bool} → eqb (get_or c 0 0) 0 ≡ false → eqb (get_or c 0 0) 1 ≡ false → h ≡ call_header c → p ≡ octets_in c → b ≡ eqb (get_or c 1 0) 1
      → hear_said (scanned s h p b list) ≡ entry_said c list s
  unfolding entry_said
  said_packet list x y h p b = (λ j. hear_said (scanned s (h j) (p j) (b j) list)) ∙ rw (x, y)

-- one more entry of a list
pub one_more : (s : BeaconScanner) (entries : List ℕ) (i j : ℕ) {l l' : BeaconScanner} {p : List ℕ} → l ≡ entries_up_to s entries i → p ≡ part_or 272 entries (272 * i) → l' ≡ entry_after p l → j ≡ i + 1
    → l' ≡ entries_up_to s entries j
unfolding entries_up_to
one_more s entries i j so part r one = r ∙ (λ k. entry_after (part k) (so k)) ∙ ap (entries_up_to s entries) (sym (one ∙ add-one i))
