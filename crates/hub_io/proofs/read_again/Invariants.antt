use Rattle.std.proofs.Common.{◌≡◌, take}
use Rattle.hub_io.proofs.read_again.Given as goal

abbrev pub invariant-loop : goal.invariant-loop
invariant-loop g l = take l.kept l.buf ≡ take l.kept l.initial.buf
