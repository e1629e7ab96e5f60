-- What the code computes is the definition.
use Rattle.std.proofs.Common.{rules}
use Rattle.channels.specs.Map.{marked}
use Rattle.channels.proofs.channel_map.ChannelMap.is_marked.Goals as goal

pub returns : goal.returns
unfolding marked
returns c = search rules
