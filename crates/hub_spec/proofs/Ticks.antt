-- The log of as many ticks as items count, and of one more: `limit`. Assumes nothing.
use mathlib.Core.Path.{◌≡◌, refl, ap, ◌∙◌}
use mathlib.Core.List.{[], ◌∷◌, ◌++◌, flatten}
use Prim.Native.Nat.{ℕ, zero, suc, ◌+◌, ◌-◌, ◌≤◌}
use native.Mathlib.Omega.{arith}
use lib.ListN.{length, replicate, length-replicate, length-drop}
use Rattle.columns.specs.Column.{leading, column}
use Rattle.columns.specs.Text.{ascii, lines}
use Rattle.items.specs.Item.{items, after_items, tick}
use Rattle.items.proofs.Falling.{falls}
use Rattle.hub_spec.specs.Line.{line, reports_in}
use Rattle.hub_spec.specs.Log.{most_items, heard_in, after_item, printed, after_all, printed_all, left_over, last_line, fresh_hub, log_of}
use Rattle.hub_spec.specs.Sample.{Limit}
use Rattle.hub_spec.specs.State.{Hub}

-- n ticks among m, each an item, which prints nothing and is counted
record Ticked (n m : ℕ) (h : Hub) : Type 0 where
  none_printed : printed_all h (items n (replicate m 0)) ≡ []
  count : (after_all h (items n (replicate m 0))).items ≡ h.items + n
  reports : (after_all h (items n (replicate m 0))).reports ≡ h.reports
  octets : length (flatten (items n (replicate m 0))) ≡ n

ticked : (n m : ℕ) → n ≤ m → (h : Hub) → Ticked n m h
unfolding items printed_all after_all flatten printed line reports_in heard_in after_item
ticked zero m few h = record { none_printed = refl; count = omega arith; reports = refl; octets = refl }
ticked (suc n) zero few h = absurd (omega arith)
ticked (suc n) (suc m) few h =
    let first : items (suc n) (replicate (suc m) 0) ≡ (0 ∷ []) ∷ items n (replicate m 0) = (falls n []).found (0 ∷ []) (replicate m 0) tick in
    let later = ticked n m (omega arith) (after_item h (0 ∷ [])) in
    record {
      none_printed = rw first later.none_printed;
      count = rw first (later.count ∙ omega arith);
      reports = rw first (later.reports ∙ omega arith);
      octets = rw first (ap suc later.octets);
    }

-- what is left over of m
left : (n m : ℕ) → n ≤ m → length (after_items (items n (replicate m 0)) (replicate m 0)) ≡ m - n
unfolding after_items
left n m few = rw (length-drop, (ticked n m few fresh_hub).octets, length-replicate)

ticks_log : (ticks over : ℕ) → ticks ≡ most_items + over → log_of (replicate ticks 0) ≡ column 6 most_items ++ (column 6 0 ++ (column 2 (left_over over) ++ (10 ∷ [])))
unfolding log_of last_line
ticks_log ticks over is =
    let all = ticked most_items ticks (omega arith) fresh_hub in
    let rest : length (after_items (items most_items (replicate ticks 0)) (replicate ticks 0)) ≡ over = left most_items ticks (omega arith) ∙ omega arith in
    rw (all.none_printed, all.count, all.reports, rest)

pub limit : (ticks : ℕ) → Limit ticks
unfolding column leading ascii lines
limit ticks = record { most = λ is. ticks_log ticks 0 (omega arith); beyond = λ is. ticks_log ticks 1 (omega arith) }
