use Rattle.std.proofs.Common.{◌≤◌, length}
use Rattle.hub_io.proofs.write_out.Given as goal

abbrev pub invariant-loop : goal.invariant-loop
invariant-loop g l = l.done ≤ length l.s
