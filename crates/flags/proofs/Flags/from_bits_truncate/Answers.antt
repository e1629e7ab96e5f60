use Rattle.flags.proofs.Bits.{masked}
use Rattle.flags.proofs.Flags.from_bits_truncate.Goals as goal

pub returns : goal.returns
returns c = masked c.args.bits
