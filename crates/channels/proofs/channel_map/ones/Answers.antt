-- An octet's ones are its set bits, and at most 8.
use lib.Count.{ones-le}
use Rattle.channels.proofs.Maps.{ones_are}
use Rattle.channels.proofs.channel_map.ones.Goals as goal

pub returns : goal.returns
returns c = (ones_are c.args.octet c.ranges.octet.fits, ones-le 8 c.args.octet c.ranges.octet.fits)
