use Rattle.std.proofs.Common.{ap, not, ◌∙◌}
use Rattle.flags.proofs.Bits.{clear}
use Rattle.flags.proofs.Flags.supports_classic_bluetooth.Goals as goal

pub returns : goal.returns
returns c = ap not c.contains.ensures ∙ clear 2 c.args.self.bits
