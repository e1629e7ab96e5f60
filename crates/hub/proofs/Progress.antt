-- What `log_items` has done after some items, with what the octets from `at` on give, is what all give: the invariant of its loop. Assumes nothing.
use mathlib.Core.Path.{◌≡◌, refl, sym, ap, ◌∙◌}
use mathlib.Core.List.{List, [], ◌∷◌, ◌++◌, append-nil, append_assoc, flatten}
use Prim.Native.Nat.{ℕ, suc, ◌+◌, ◌-◌, ◌*◌, ◌<◌, ◌≤◌}
use native.Mathlib.Omega.{arith}
use lib.ListN.{length, take, drop, length-append, length-take, length-drop}
use borrow.Rule.Slice.PartMut.{put_mid}
use lib.Seq.{drop-drop}
use Rattle.std.specs.Prelude.{Some}
use Rattle.octets.specs.Bytes.{written, at_front}
use Rattle.beacon_spec.specs.State.{BeaconScanner}
use Rattle.items.specs.Item.{whole_size, items}
use Rattle.hub_spec.specs.Line.{line_size, room_for, line, reports_in}
use Rattle.hub_spec.specs.Log.{most_items, heard_in, after_item, printed, after_all, printed_all, items_for, lines_of, hub_of, logged_of, RunCounts, lines_in}
use Rattle.hub_spec.specs.State.{Hub}
use Rattle.items.proofs.Items.{whole_fits, one_whole}
use Rattle.hub_spec.proofs.Pieces.{Wrote, as_long, then_piece, tail_written}
use Rattle.hub_spec.proofs.Reports.{line_size_law, line_room, one_report}

abbrev pub hub : ℕ → ℕ → BeaconScanner → Hub
hub items reports scanner = record { items = items; reports = reports; scanner = scanner }

pub record Progress (h : Hub) (s out₀ out : List ℕ) (count found : ℕ) (scanner : BeaconScanner) (at to : ℕ) : Type 0 where
  pub lines : List ℕ
  pub inside : at ≤ length s
  pub counted : RunCounts (hub count found scanner)
  pub room : to ≤ room_for at
  pub wrote : Wrote out₀ 0 lines out to
  pub all_lines : lines ++ lines_of (hub count found scanner) (drop at s) ≡ lines_of h s
  pub all_items : hub_of (hub count found scanner) (drop at s) ≡ hub_of h s
  pub all_octets : at + length (flatten (items_for (hub count found scanner) (drop at s))) ≡ length (flatten (items_for h s))

-- an item is taken
next_item : (h : Hub) (s : List ℕ) {size : ℕ} → h.items < most_items → whole_size s ≡ Some size
    → items_for h s ≡ take size s ∷ items_for (after_item h (take size s)) (drop size s)
unfolding after_item
next_item h s more item =
    let left : most_items - h.items ≡ suc (most_items - (h.items + 1)) = omega arith in
    rw left (one_whole (most_items - (h.items + 1)) s item)

module _ {h : Hub} {s out₀ out : List ℕ} {count found : ℕ} {scanner : BeaconScanner} {at to : ℕ} (p : Progress h s out₀ out count found scanner at to)
    (enough : room_for (length s) ≤ length out₀) where
  -- the octets of the lines fit
  pub within : to ≤ length out₀
  within = omega (arith, p.room, p.inside)

  pub long_out : length out ≡ length out₀
  long_out = as_long p.wrote within

  module _ (size : ℕ) (is : whole_size (drop at s) ≡ Some size) (more : count < most_items) where
    -- as the code lends it
    unfoldable pub item : List ℕ
    item = take (at + size - at) (drop at s)

    pub fits : at + size ≤ length s
    fits = omega (arith, p.inside, whole_fits (drop at s) is, length-drop at s)

    item_long : length item ≡ size
    unfolding item
    item_long = simp (length-take, length-drop) (omega (arith, fits))

    split : items_for (hub count found scanner) (drop at s) ≡ item ∷ items_for (after_item (hub count found scanner) item) (drop (at + size) s)
    unfolding item
    split =
        let width : at + size - at ≡ size = omega arith in
        rw (width, ← drop-drop size at s) (next_item (hub count found scanner) (drop at s) more is)

    -- the item's line stands at the front of what was lent
    lent : {part : List ℕ} → part ≡ at_front (line (count + 1) (heard_in scanner item)) (take (length out - to) (drop to out))
        → put_mid to (length out - to) out part ≡ written (line (count + 1) (heard_in scanner item)) out to
    lent is-part = tail_written (line (count + 1) (heard_in scanner item)) out to (omega (arith, within, long_out)) is-part

    pub advance : {part : List ℕ} → part ≡ at_front (line (count + 1) (heard_in scanner item)) (take (length out - to) (drop to out))
        → let out' = put_mid to (length out - to) out part in
        Progress h s out₀ out' (count + 1) (found + reports_in (heard_in scanner item)) (after_item (hub count found scanner) item).scanner (at + size) (to + line_size * reports_in (heard_in scanner item))
    unfolding after_all printed_all printed after_item flatten
    advance is-part =
        let octets : length (flatten (items_for (hub count found scanner) (drop at s))) ≡ size + length (flatten (items_for (after_item (hub count found scanner) item) (drop (at + size) s))) =
        ap (λ (its : List (List ℕ)). length (flatten its)) split ∙ simp (length-append, item_long) in
        record {
          lines = p.lines ++ line (count + 1) (heard_in scanner item);
          inside = fits;
          counted = (omega arith, omega (arith, p.counted.1, one_report (heard_in scanner item)));
          room = omega (arith, p.room, line_room scanner item, item_long);
          wrote = then_piece p.wrote within (line (count + 1) (heard_in scanner item)) (line_size_law (count + 1) scanner item) (refl, lent is-part);
          all_lines =
              append_assoc p.lines (line (count + 1) (heard_in scanner item)) _
              ∙ ap (λ (l : List ℕ). p.lines ++ l) (sym (ap (printed_all (hub count found scanner)) split))
              ∙ p.all_lines;
          all_items = sym (ap (after_all (hub count found scanner)) split) ∙ p.all_items;
          all_octets = omega (arith, octets, p.all_octets);
        }

-- no items are left
module _ {h : Hub} {s out₀ out : List ℕ} {count found : ℕ} {scanner : BeaconScanner} {at to : ℕ} (p : Progress h s out₀ out count found scanner at to)
    (end : items_for (hub count found scanner) (drop at s) ≡ []) where
  all_done : p.lines ≡ lines_of h s
  unfolding printed_all
  all_done = sym (append-nil p.lines) ∙ ap (λ (its : List (List ℕ)). p.lines ++ printed_all (hub count found scanner) its) (sym end) ∙ p.all_lines

  all_long : to ≡ length p.lines
  all_long = omega (arith, p.wrote.size)

  answer : record { hub = hub count found scanner; taken = at; written = to } ≡ logged_of h s
  unfolding after_all flatten
  answer =
      let hubs : hub count found scanner ≡ hub_of h s = ap (after_all (hub count found scanner)) (sym end) ∙ p.all_items in
      let octets : at ≡ length (flatten (items_for h s)) = omega (arith, ap (λ (its : List (List ℕ)). length (flatten its)) end, p.all_octets) in
      let size : to ≡ length (lines_of h s) = all_long ∙ ap length all_done in
      λ i. record { hub = hubs i; taken = octets i; written = size i }

  contents : out ≡ lines_in h s out₀
  contents =
      let place : 0 + length p.lines ≡ length p.lines = omega arith in
      p.wrote.contents ∙ rw (place, all_done)

  pub logged : (record { hub = hub count found scanner; taken = at; written = to } ≡ logged_of h s) × (out ≡ lines_in h s out₀)
  logged = (answer, contents)
