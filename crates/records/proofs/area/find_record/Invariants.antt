use Rattle.std.proofs.Common.{◌≡◌, ◌-◌, length, drop}
use Rattle.records_spec.specs.Area.{records}
use Rattle.records_spec.specs.Search.{first_where, searched}
use Rattle.records.proofs.area.find_record.Given as goal

abbrev pub invariant-loop-at : goal.invariant-loop-at
invariant-loop-at g l = searched (g.T.RecordTest.passing l.test) l.s ≡ first_where (g.T.RecordTest.passing l.test) (records (drop l.at l.s)) l.at

abbrev pub decreases-loop-at : goal.decreases-loop-at
decreases-loop-at g l = length l.s - l.at
