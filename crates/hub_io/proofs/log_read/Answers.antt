use Rattle.std.proofs.Common.{Result, IfOk, arith}
use Rattle.std.proofs.lemmas.Result.{IfOk-weaker}
use Rattle.hub.specs.State.{hub_state, block_step}
use Rattle.hub_io.proofs.NextRead.{read_on}
use Rattle.hub_io.proofs.log_read.Goals as goal

ok_then : {X Y : Type 0} (r : Result X Y) {P Q : X → Type 0} → IfOk r P → ((x : X) → P x → Q x) → IfOk r Q
ok_then r {P} {Q} e more = IfOk-weaker r P Q more e

pub returns-in-Ok : goal.returns-in-Ok
returns-in-Ok g c =
    let read = c.in-Ok.ensures in
    ok_then c.log_block.result c.log_block.ensures.written
    (λ step e. read_on (block_step step.block) (hub_state c.args.hub) c.args.buf.now c.read_more.new.buf _ _ c.read_more.ensures.kept read.upto.0 (omega arith) e.0 e.1.0 e.1.1)
