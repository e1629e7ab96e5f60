-- A call's octets name a call, and turn after turn of a list gives `ran`. Assumes nothing.
use Rattle.octets.specs.Bytes.{part_or}
use mathlib.Core.Bool.{Bool, false}
use mathlib.Core.List.{List}
use mathlib.Core.Path.{◌≡◌, sym, ap, ◌∙◌}
use Prim.Native.Nat.{ℕ, ◌+◌, ◌*◌}
use native.Mathlib.Numerals.{add-one}
use lib.Dec.{eqb}
use lib.ListN.{length, get_or}
use Rattle.addresses.specs.declared.header.Header.{Header}
use Rattle.radio_spec.specs.Calls.{instant}
use Rattle.radio_spec.specs.Call.{start, tick, packet, event, stop, set_scan_data}
use Rattle.radio_spec.specs.State.{State, Step}
use Rattle.exports.specs.Lists.{time_in, interval_in, call_header, octets_in, call_in, Board, board_of, called_by, step_of, ran}

module _ (c tx : List ℕ) where
  pub as_start : {t i : ℕ} {o : List ℕ} → get_or c 0 0 ≡ 0 → t ≡ time_in c → i ≡ interval_in c → o ≡ octets_in c → start (instant t) i o tx ≡ call_in c tx
  unfolding call_in
  as_start k t i o = (λ j. start (instant (t j)) (i j) (o j) tx) ∙ rw k

  pub as_tick : get_or c 0 0 ≡ 1 → tick tx ≡ call_in c tx
  unfolding call_in
  as_tick k = rw k

  pub as_packet : {t : ℕ} {h : Header} {o : List ℕ} {b : Bool} → get_or c 0 0 ≡ 2 → t ≡ time_in c → h ≡ call_header c → o ≡ octets_in c → b ≡ eqb (get_or c 1 0) 1
      → packet (instant t) h o b tx ≡ call_in c tx
  unfolding call_in
  as_packet k t h o b = (λ j. packet (instant (t j)) (h j) (o j) (b j) tx) ∙ rw k

  pub as_event : get_or c 0 0 ≡ 3 → event ≡ call_in c tx
  unfolding call_in
  as_event k = rw k

  pub as_set : {o : List ℕ} → get_or c 0 0 ≡ 5 → o ≡ octets_in c → set_scan_data o ≡ call_in c tx
  unfolding call_in
  as_set k o = (λ j. set_scan_data (o j)) ∙ rw k

  pub as_stop : eqb (get_or c 0 0) 0 ≡ false → eqb (get_or c 0 0) 1 ≡ false → eqb (get_or c 0 0) 2 ≡ false → eqb (get_or c 0 0) 3 ≡ false → eqb (get_or c 0 0) 5 ≡ false → stop ≡ call_in c tx
  unfolding call_in
  as_stop a b d e f = rw (a, b, d, e, f)

-- i calls of a list have been made, from a board on
pub record Replayed (s : Board) (calls : List ℕ) (first second : List ℕ) (device : State) (i : ℕ) : Type 0 where
  pub reached : board_of device first second ≡ ran s calls i
  pub long_first : length first ≡ length s.first
  pub long_second : length second ≡ length s.second

pub replays_on : (s : Board) (calls : List ℕ) (i j : ℕ) {d : State} {a b : List ℕ} {p : List ℕ} {r : Step} {a' b' : List ℕ} → board_of d a b ≡ ran s calls i → p ≡ part_or 272 calls (272 * i)
    → r ≡ called_by p (board_of d a b) → a' ≡ (step_of p (board_of d a b)).first → b' ≡ (step_of p (board_of d a b)).second → j ≡ i + 1 → board_of r.state a' b' ≡ ran s calls j
unfolding ran step_of
replays_on s calls i j {d} {a} {b} {p} so part r first second one =
    (λ k. board_of (r k).state (first k) (second k)) ∙ ap (step_of p) so ∙ ap (λ (q : List ℕ). step_of q (ran s calls i)) part ∙ ap (ran s calls) (sym (one ∙ add-one i))
