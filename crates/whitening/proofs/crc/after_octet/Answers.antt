-- Eight shifts at once.
use Rattle.whitening.proofs.Steps.{register_after_octet}
use Rattle.whitening.proofs.crc.after_octet.Goals as goal

pub returns : goal.returns
returns c = register_after_octet c.args.register c.args.octet c.requires c.ranges.octet.fits
