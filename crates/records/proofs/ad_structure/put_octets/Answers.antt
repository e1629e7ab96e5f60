use Rattle.std.proofs.Common.{ap, ◌∙◌, ℕ, List}
use lib.Seq.{take_all}
use Rattle.octets.specs.Bytes.{written}
use Rattle.records.proofs.Writing.{begun, one_more}
use Rattle.records.proofs.ad_structure.put_octets.Goals as goal

pub loop-i-init : goal.loop-i-init
loop-i-init c = begun c.args.out.now c.args.at

pub loop-i-preserved : goal.loop-i-preserved
loop-i-preserved c = one_more c.args.octets.now c.args.out.now c.args.at c.loop-i.i c.requires c.loop-i-test.true c.loop-i.invariant

pub returns : goal.returns
returns c = c.loop-i.invariant ∙ ap (λ (xs : List ℕ). written xs c.args.out.now c.args.at) (take_all c.loop-i.i c.args.octets.now c.loop-i-test.false)
