-- The constant is what is kept of the register.
use Rattle.whitening.proofs.Octets.{cycle, cycle_is}
use Rattle.whitening.proofs.table.cycle.Goals as goal

pub returns : goal.returns
unfolding cycle
returns c = cycle_is
