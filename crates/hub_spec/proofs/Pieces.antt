-- One piece written after the other: `Wrote`, and how many octets lines have. Assumes nothing.
use mathlib.Core.Path.{◌≡◌, refl, sym, ap, ◌∙◌}
use mathlib.Core.List.{List, [], ◌∷◌, ◌++◌, append-nil, map, flatten}
use Prim.Native.Nat.{ℕ, ◌+◌, ◌-◌, ◌*◌, ◌<◌, ◌≤◌}
use native.Mathlib.Omega.{arith}
use lib.ListN.{length, set, take, drop, length-append, length-take, length-drop, take-append-drop, drop_of_length-le}
use Rattle.std.proofs.lemmas.List.{take_all}
use lib.Seq.{drop-drop}
use borrow.Rule.Slice.PartMut.{put_mid}
use Rattle.octets.specs.Laws.{Octets}
use Rattle.octets.specs.Bytes.{written, at_front}
use Rattle.octets.proofs.Laws.{written_keeps, set_written, written_written}
use Rattle.channels.specs.declared.phy.AdvertisingChannel.{AdvertisingChannel}
use Rattle.addresses.specs.declared.device_address.DeviceAddress.{DeviceAddress}
use Rattle.columns.specs.Column.{column}
use Rattle.columns.specs.Table.{octet_columns, octets_from}
use Rattle.columns.proofs.Printed.{printed}
use Rattle.columns.proofs.Widths.{column_length}
use Rattle.hub_spec.specs.Line.{report_line, line_size, last_size}
use Rattle.hub_spec.specs.Log.{last_line, Sizes}
use Rattle.hub_spec.specs.State.{Hub}

pub octets_length : (octets : List ℕ) → length (flatten (map (column 4) octets)) ≡ 4 * length octets
unfolding flatten
octets_length [] = refl
octets_length (x ∷ octets) = simp (length-append, column_length, octets_length octets) (omega arith)

pub line_length : (number : ℕ) (c : AdvertisingChannel) (sender : DeviceAddress) (records : ℕ) → length sender.bytes ≡ 6 → length (report_line number c sender records) ≡ line_size
unfolding report_line
line_length number c sender records six = simp (length-append, column_length, octets_length, six)

pub last_length : (h : Hub) (n : ℕ) → length (last_line h n) ≡ last_size
unfolding last_line
last_length h n = simp (length-append, column_length)

pub sizes : Sizes
sizes = record { report = line_length; last = last_length }

-- a lent part of `out`, which is all written
pub put_piece : (out piece : List ℕ) (at width : ℕ) {part : List ℕ} → length piece ≡ width → part ≡ piece → put_mid at (at + width - at) out part ≡ written piece out at
put_piece out piece at width long is =
    let end : at + (at + width - at) ≡ at + width = omega arith in
    simp (is, drop-drop, end, long)

lent_length : (out : List ℕ) (at width : ℕ) → at + width ≤ length out → length (take (at + width - at) (drop at out)) ≡ width
lent_length out at width fits = simp (length-take, length-drop) (omega arith)

-- `out` is `out₀` with `done` written from `at` on, up to `next`
pub record Wrote (out₀ : List ℕ) (at : ℕ) (done out : List ℕ) (next : ℕ) : Type 0 where
  pub size : next ≡ at + length done
  pub contents : out ≡ written done out₀ at

pub nothing_yet : (out : List ℕ) (at : ℕ) → Wrote out at [] out at
nothing_yet out at =
    let none_more : at + 0 ≡ at = omega arith in
    record { size = sym none_more; contents = rw none_more (sym (take-append-drop at out)) }

pub front_written : (xs out : List ℕ) → at_front xs out ≡ written xs out 0
front_written xs out =
    let start : 0 + length xs ≡ length xs = omega arith in
    rw start refl

-- octets at the front of what is lent from `at` on
pub tail_written : (xs out : List ℕ) (at : ℕ) {part : List ℕ} → at ≤ length out → part ≡ at_front xs (take (length out - at) (drop at out))
    → put_mid at (length out - at) out part ≡ written xs out at
tail_written xs out at inside is =
    let all : length (drop at out) ≤ length out - at = omega (arith, length-drop at out) in
    simp (is, take_all, drop_of_length-le, all, append-nil, drop-drop)

module _ {out₀ : List ℕ} {at : ℕ} {done out : List ℕ} {next : ℕ} (w : Wrote out₀ at done out next) (inside : next ≤ length out₀) where
  pub as_long : length out ≡ length out₀
  as_long = ap length w.contents ∙ (written_keeps done out₀ at (omega (arith, w.size))).as_long

  -- as the call answers that writes it
  pub then_piece : (piece : List ℕ) {size : ℕ} {out' : List ℕ} {next' : ℕ} → length piece ≡ size → (next' ≡ next + size) × (out' ≡ written piece out next)
      → Wrote out₀ at (done ++ piece) out' next'
  then_piece piece long e =
      record {
        size = rw length-append (omega (arith, w.size, long, e.0));
        contents = e.1 ∙ (λ i. written piece (w.contents i) (w.size i)) ∙ written_written done piece out₀ at (at + length done) refl (omega (arith, w.size));
      }

  pub then_column : (width n : ℕ) {out' : List ℕ} {next' : ℕ} → (next' ≡ next + width) × (out' ≡ written (column width n) out next)
      → Wrote out₀ at (done ++ column width n) out' next'
  then_column width n e = then_piece (column width n) (column_length width n) e

  pub then_octet : (x : ℕ) → next < length out₀ → Wrote out₀ at (done ++ (x ∷ [])) (set out next x) (next + 1)
  then_octet x more = then_piece (x ∷ []) {size = 1} refl (refl, set_written x out next (rw as_long more))

  -- as a call writes it to a lent part, by `put_column` or `put_octet`
  pub then_put : (width n : ℕ) {part : List ℕ} → next + width ≤ length out₀ → part ≡ column (length (take (next + width - next) (drop next out))) n
      → Wrote out₀ at (done ++ column width n) (put_mid next (next + width - next) out part) (next + width)
  then_put width n fits is =
      let size : length (take (next + width - next) (drop next out)) ≡ width = lent_length out next width (rw as_long fits) in
      then_column width n (refl, put_piece out (column width n) next width (column_length width n) (is ∙ ap (λ (k : ℕ). column k n) size))

  -- by `put_octets`
  pub then_octets : (octets : List ℕ) (width : ℕ) {part : List ℕ} → Octets octets → width ≡ 4 * length octets → next + width ≤ length out₀
      → part ≡ octets_from octet_columns octets (take (next + width - next) (drop next out))
      → Wrote out₀ at (done ++ flatten (map (column 4) octets)) (put_mid next (next + width - next) out part) (next + width)
  then_octets octets width all four fits is =
      let lent = take (next + width - next) (drop next out) in
      let size : length lent ≡ 4 * length octets = lent_length out next width (rw as_long fits) ∙ four in
      let long : length (flatten (map (column 4) octets)) ≡ width = octets_length octets ∙ sym four in
      then_piece (flatten (map (column 4) octets)) long (refl, put_piece out (flatten (map (column 4) octets)) next width long (is ∙ printed.octets octets lent all size))
