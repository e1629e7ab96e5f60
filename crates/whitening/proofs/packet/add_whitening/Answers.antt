-- As many of the channel's octets as the packet has.
use mathlib.Core.Path.{◌∙◌}
use Rattle.whitening.proofs.Rows.{plus_row}
use Rattle.whitening.proofs.packet.add_whitening.Goals as goal

pub returns : goal.returns
returns c =
    c.add.ensures ∙ plus_row c.args.channel c.args.packet.now c.whitening_octets-octets.result c.whitening_octets-octets.ensures
