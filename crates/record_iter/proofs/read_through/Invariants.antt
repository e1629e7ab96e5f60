use Rattle.std.proofs.Common.{◌-◌, length}
use Rattle.record_iter.proofs.ReadSoFar.{ReadSoFar}
use Rattle.record_iter.proofs.read_through.Given as goal

abbrev pub invariant-loop-records : goal.invariant-loop-records
invariant-loop-records l = ReadSoFar l.area l.records l.count

abbrev pub decreases-loop-records : goal.decreases-loop-records
decreases-loop-records l = length l.area - l.records.at
