use Rattle.std.proofs.Common.{◌-◌, length}
use Rattle.records.proofs.Rewriting.{Progress}
use Rattle.records.proofs.area.write_records.Given as goal

abbrev pub invariant-loop-ad : goal.invariant-loop-ad
invariant-loop-ad l = Progress l.s l.initial.out l.out l.writer.at

abbrev pub decreases-loop-ad : goal.decreases-loop-ad
decreases-loop-ad l = length l.s - l.writer.at
