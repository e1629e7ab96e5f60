use Rattle.std.proofs.Common.{sym, ◌≤◌, arith}
use Rattle.items.proofs.Items.{none_whole, none_more}
use Rattle.hub_spec.proofs.Reports.{one_report}
use Rattle.hub_spec.specs.Log.{after_item}
use Rattle.hub.proofs.Progress.{within, fits, item, advance, logged}
use Rattle.hub.proofs.log.log_items.Goals as goal

-- a round that takes an item lies within the octets
pub overflow_add-item : goal.overflow_add-item
overflow_add-item c =
    omega (arith, fits c.loop-items.invariant c.requires.1 _ (sym c.in-Some.ensures) c.loop-items-test.true)

pub slice_bounds-item-end : goal.slice_bounds-item-end
slice_bounds-item-end c =
    omega (arith, fits c.loop-items.invariant c.requires.1 _ (sym c.in-Some.ensures) c.loop-items-test.true)

-- an item's line adds one report at most
pub overflow_add-reports : goal.overflow_add-reports
overflow_add-reports c =
    let added : c.log_item-heard.result ≤ 1 = rw c.log_item-heard.ensures.0 (one_report _) in
    omega (arith, c.loop-items.invariant.counted)

pub overflow_mul-written : goal.overflow_mul-written
overflow_mul-written c =
    let added : c.log_item-heard.result ≤ 1 = rw c.log_item-heard.ensures.0 (one_report _) in
    omega arith

pub overflow_add-written : goal.overflow_add-written
overflow_add-written c =
    let added : c.log_item-heard.result ≤ 1 = rw c.log_item-heard.ensures.0 (one_report _) in
    omega (arith, within c.loop-items.invariant c.requires.1)

pub loop-items-preserved : goal.loop-items-preserved
unfolding item after_item
loop-items-preserved c =
    rw (c.log_item-heard.ensures.0, c.listen-scanner.ensures)
    (advance c.loop-items.invariant c.requires.1 _ (sym c.in-Some.ensures) c.loop-items-test.true c.log_item-heard.ensures.1)

pub returns-after-loop-items : goal.returns-after-loop-items
returns-after-loop-items c = logged c.loop-items.invariant (none_more _ _ (omega arith))

pub returns-in_default : goal.returns-in_default
returns-in_default c = logged c.loop-items.invariant (none_whole _ _ (sym c.in_default.ensures))
