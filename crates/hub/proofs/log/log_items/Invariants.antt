-- What was done so far, with what the octets from `at` on give, is what all give.
use Rattle.std.proofs.Common.{◌-◌}
use Rattle.beacon.specs.State.{scanner_state}
use Rattle.hub_spec.specs.Log.{most_items}
use Rattle.hub.proofs.Progress.{Progress, hub}
use Rattle.hub.proofs.log.log_items.Given as goal

abbrev pub invariant-loop-items : goal.invariant-loop-items
invariant-loop-items l =
    Progress (hub l.initial.items l.initial.reports (scanner_state l.initial.scanner)) l.s l.initial.out l.out l.items l.reports (scanner_state l.scanner) l.at l.written

abbrev pub decreases-loop-items : goal.decreases-loop-items
decreases-loop-items l = most_items - l.items
