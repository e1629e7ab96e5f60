use Rattle.std.proofs.Common.{◌∙◌}
use Rattle.flags.proofs.Bits.{set}
use Rattle.flags.proofs.Flags.le_general_discoverable.Goals as goal

pub returns : goal.returns
returns c = c.contains.ensures ∙ set 1 c.args.self.bits
