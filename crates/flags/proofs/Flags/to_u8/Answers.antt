use Rattle.flags.proofs.Bits.{masked}
use Rattle.flags.proofs.Flags.to_u8.Goals as goal

pub returns : goal.returns
returns c = masked c.args.self.bits
