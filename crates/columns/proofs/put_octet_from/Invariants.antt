-- The last columns are written.
use Rattle.std.proofs.Common.{◌≡◌, ◌-◌, length, drop}
use Rattle.columns.specs.Table.{octet_from}
use Rattle.columns.proofs.put_octet_from.Given as goal

abbrev pub invariant-loop-back : goal.invariant-loop-back
invariant-loop-back l = drop (length l.out - l.back) l.out ≡ octet_from l.table l.back l.octet
