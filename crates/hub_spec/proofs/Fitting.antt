-- Every number of a report's row fits its column: `rows_fit`; and lines whose numbers fit are read again, one after the other: `lines_read`. Assumes nothing.
use mathlib.Core.Path.{◌≡◌, refl, ap}
use mathlib.Core.List.{List, [], ◌∷◌, ◌++◌, append_assoc, flatten}
use Prim.Native.Nat.{ℕ, zero, suc, ◌+◌, ◌*◌, ◌<◌, ◌≤◌}
use native.Mathlib.Omega.{arith}
use lib.ListN.{length, get_or, take, drop, length-append, length-take}
use lib.Seq.{drop_at, drop-drop}
use Rattle.records_spec.specs.Accepted.{GoodRecord}
use Rattle.octets.proofs.Lists.{all_append, all_parts}
use Rattle.octets.specs.Lists.{All}
use Rattle.octets.specs.Laws.{Octets}
use Rattle.channels.specs.Laws.{cycles}
use Rattle.channels.specs.Phy.{index_of}
use Rattle.channels.specs.declared.phy.AdvertisingChannel.{AdvertisingChannel}
use Rattle.channels.specs.declared.phy.AdvertisingChannel.TheVariants.{Channel37, Channel38, Channel39}
use Rattle.records_spec.proofs.HubReads.{tiling_of, took}
use Rattle.records_spec.specs.HubReading.{read_padded}
use Rattle.columns.proofs.Rows.{row}
use Rattle.columns.specs.Row.{Fits, row_of, read_row}
use Rattle.items.proofs.Items.{cut}
use Rattle.items.specs.Item.{items, after_items, IsItem, tick, packet}
use Rattle.hub_spec.specs.Line.{line_size}
use Rattle.hub_spec.specs.Log.{most_items}
use Rattle.hub_spec.specs.Reported as spec
use Rattle.hub_spec.specs.Reported.{report_widths, line_each, Prints, ReportRows}
use Rattle.std.specs.Prelude.{Ok}

-- the items of octets are octets
pub octets_in_law : (n : ℕ) (s : List ℕ) → Octets s → Octets (flatten (items n s))
octets_in_law n s octets = (all_parts (λ (x : ℕ). x < 256) (flatten (items n s)) (after_items (items n s) s) (rw (cut n s).tiles octets)).0

-- an item has at most 66 octets
item_size : (item : List ℕ) → IsItem item → length item ≤ 66
item_size item tick = omega arith
item_size item (packet first h0 h1 payload which long) = omega (arith, long)

-- good records have two octets at least
good_size : (rs : List (List ℕ)) → All GoodRecord rs → 2 * length rs ≤ length (flatten rs)
unfolding flatten
good_size [] all = omega arith
good_size ([] ∷ rs) all = absurd all.0
good_size ((n ∷ body) ∷ rs) all = rw length-append (omega (arith, all.0.whole, all.0.some, good_size rs all.1))

records_few : (records : List ℕ) (n taken : ℕ) → read_padded records ≡ Ok (n, taken) → 2 * n ≤ length records
records_few records n taken is =
    let some = took records n taken is [] in
    let tiles = tiling_of (take taken records) some.strictly in
    omega (arith, good_size tiles.pieces tiles.good, tiles.count, ap length tiles.tile, length-take taken records)

index_small : (c : AdvertisingChannel) → index_of c ≤ 39
index_small Channel37 = omega arith
index_small Channel38 = omega arith
index_small Channel39 = omega arith

item_fits : (k channel : ℕ) (item : List ℕ) (rows : List (List ℕ)) → Prints k channel item rows → k ≤ most_items → channel ≤ 39 → length item ≤ 66 → Octets item → All (Fits report_widths) rows
item_fits k channel item rows (spec.report h0 h1 a b c d e f records n taken is read) number index size octets =
    let few : 2 * n ≤ length records = records_few records n taken read in
    let sender = octets.1.1.1 in
    ((omega arith, (omega arith, (omega arith, (omega (arith, sender.0), (omega (arith, sender.1.0), (omega (arith, sender.1.1.0), (omega (arith, sender.1.1.1.0), (omega (arith, sender.1.1.1.1.0), (omega (arith, sender.1.1.1.1.1.0), (omega (arith, few, size), tt)))))))))), tt)
item_fits k channel item rows (spec.other item' not-one) number index size octets = tt

pub rows_fit : {k : ℕ} {from : AdvertisingChannel} {before its rows : List (List ℕ)} → ReportRows k from before its rows → k + length before + length its ≤ most_items → All IsItem its → Octets (flatten its)
    → All (Fits report_widths) rows
unfolding flatten
rows_fit (spec.end before) few all octets = tt
rows_fit {k = k} {from = from} (spec.next before item its rows more ticks count prints later) few all octets =
    let parts = all_parts (λ (x : ℕ). x < 256) item (flatten its) octets in
    let here = item_fits (k + length before + 1) (index_of (cycles ticks from)) item rows prints (omega arith) (index_small (cycles ticks from)) (item_size item all.0) parts.0 in
    all_append (Fits report_widths) rows more here (rows_fit later (rw length-append (omega arith)) all.1 parts.1)

-- lines are read again, one after the other
pub lines_read : (rows : List (List ℕ)) (rest : List ℕ) → All (Fits report_widths) rows → (i : ℕ) → i < length rows
    → read_row report_widths (drop (line_size * i) (line_each rows ++ rest)) ≡ get_or rows i []
unfolding flatten
lines_read [] rest fit i inside = absurd (omega arith)
lines_read (r ∷ rows) rest fit zero inside = rw append_assoc ((row report_widths r).back fit.0 (line_each rows ++ rest))
lines_read (r ∷ rows) rest fit (suc i) inside =
    let far : line_size + line_size * i ≡ line_size * suc i = omega arith in
    rw (append_assoc, ← far, ← drop-drop (line_size * i) line_size, drop_at (row_of report_widths r) (line_each rows ++ rest) line_size ((row report_widths r).size fit.0))
    (lines_read rows rest fit.1 i (omega arith))

pub lines_size : (rows : List (List ℕ)) → All (Fits report_widths) rows → length (line_each rows) ≡ line_size * length rows
unfolding flatten
lines_size [] fit = refl
lines_size (r ∷ rows) fit = rw (length-append, (row report_widths r).size fit.0, lines_size rows fit.1) (omega arith)
