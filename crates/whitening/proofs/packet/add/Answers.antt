-- What is done and what is left to do make up the sum.
use mathlib.Core.Path.{◌≡◌, sym, ap, ◌∙◌}
use Rattle.std.proofs.Common.{ℕ, length, arith}
use Rattle.whitening.proofs.Adding.{partly, partly_turn, partly_all}
use Rattle.whitening.proofs.packet.add.Goals as goal

pub loop-i-preserved : goal.loop-i-preserved
loop-i-preserved c =
    let turn = c.loop-i in
    partly_turn turn.i turn.packet c.args.octets.now (omega arith) (omega arith) ∙ turn.invariant

pub returns : goal.returns
returns c =
    let turn = c.loop-i in
    let octets = c.args.octets.now in
    let end : length turn.packet ≡ turn.i = omega arith in
    sym (partly_all turn.packet octets) ∙ ap (λ (i : ℕ). partly i turn.packet octets) end ∙ turn.invariant
