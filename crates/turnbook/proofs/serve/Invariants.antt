use Rattle.std.proofs.Common.{◌≤◌, length}
use Rattle.turnbook.proofs.serve.Given as goal

abbrev pub invariant-loop : goal.invariant-loop
invariant-loop g l = l.filled ≤ length l.buf
