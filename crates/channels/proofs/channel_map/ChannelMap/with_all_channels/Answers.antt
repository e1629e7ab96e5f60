-- The map of five full octets is computed.
use Rattle.channels.specs.Count.{count}
use Rattle.channels.specs.Map.{marked, marks, cleared}
use Rattle.channels.proofs.channel_map.ChannelMap.with_all_channels.Goals as goal

pub returns : goal.returns
unfolding cleared marks marked count
returns c = c.from_raw.ensures
