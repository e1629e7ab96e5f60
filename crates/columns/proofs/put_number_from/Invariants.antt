-- What is still to be written, before what stands there, is what is wanted.
use Rattle.std.proofs.Common.{◌≡◌, ◌≤◌, ◌++◌, length, drop}
use Rattle.columns.specs.Table.{number_from}
use Rattle.columns.proofs.put_number_from.Given as goal

abbrev pub invariant-loop-end : goal.invariant-loop-end
invariant-loop-end l = record {
  inside : l.end ≤ length l.out;
  whole : number_from l.table l.end l.left ++ drop l.end l.out ≡ number_from l.table (length l.initial.out) l.n;
}

abbrev pub decreases-loop-end : goal.decreases-loop-end
decreases-loop-end l = l.end
