use Rattle.std.proofs.Common.{◌∙◌}
use Rattle.flags.proofs.Bits.{set}
use Rattle.flags.proofs.Flags.simul_le_br_controller.Goals as goal

pub returns : goal.returns
returns c = c.contains.ensures ∙ set 3 c.args.self.bits
