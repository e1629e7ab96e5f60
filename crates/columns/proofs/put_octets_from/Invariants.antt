-- What is written stands before what is still to be written.
use Rattle.std.proofs.Common.{◌≡◌, ◌≤◌, ◌*◌, ◌++◌, length, take, drop}
use Rattle.columns.specs.Table.{octets_from}
use Rattle.columns.proofs.put_octets_from.Given as goal

abbrev pub invariant-loop-i : goal.invariant-loop-i
invariant-loop-i l = record {
  inside : 4 * l.i ≤ length l.out;
  whole : take (4 * l.i) l.out ++ octets_from l.table (drop l.i l.octets) (drop (4 * l.i) l.out) ≡ octets_from l.table l.octets l.initial.out;
}
