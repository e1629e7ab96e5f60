-- `hub_io::log_input` meets its contract: before each read the run is as far as what was read, and each read brings it nearer to its end.
use Rattle.hub.specs.State.{hub_state}
use Rattle.hub_spec.proofs.Runs.{to_read}
use Rattle.hub_io.proofs.Going.{Going}
use Rattle.hub_io.proofs.log_input.Given as goal

abbrev pub invariant-loop-step : goal.invariant-loop-step
invariant-loop-step g l = Going l.initial.buf l.initial.out l.buf l.out (hub_state l.hub) l.kept l.written

abbrev pub decreases-loop-step : goal.decreases-loop-step
decreases-loop-step g l = to_read (hub_state l.hub) l.kept
