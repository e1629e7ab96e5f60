use Rattle.std.proofs.Common.{◌∙◌}
use Rattle.flags.proofs.Bits.{set}
use Rattle.flags.proofs.Flags.simul_le_br_host.Goals as goal

pub returns : goal.returns
returns c = c.contains.ensures ∙ set 4 c.args.self.bits
