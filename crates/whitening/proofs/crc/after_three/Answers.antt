-- 24 shifts at once.
use Rattle.whitening.proofs.Steps.{register_after_three}
use Rattle.whitening.proofs.crc.after_three.Goals as goal

pub returns : goal.returns
returns c = register_after_three c.args.register c.args.three c.requires.0 c.requires.1
