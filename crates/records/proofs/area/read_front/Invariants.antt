use mathlib.Core.Path.{◌≡◌}
use Prim.Native.Nat.{◌-◌, ◌≤◌}
use lib.ListN.{length, drop}
use Rattle.records_spec.specs.Area.{records, front_from, front_of}
use Rattle.records.proofs.area.read_front.Given as goal

abbrev pub invariant-loop-next : goal.invariant-loop-next
invariant-loop-next l =
    (front_of l.s ≡ front_from (records (drop l.at l.s)) l.count l.at) × (l.count ≤ l.at) × (l.at ≤ length l.s)

abbrev pub decreases-loop-next : goal.decreases-loop-next
decreases-loop-next l =
    length l.s - l.at
