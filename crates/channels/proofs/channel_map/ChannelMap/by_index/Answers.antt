-- What a place holds is a data channel.
use mathlib.Core.Path.{◌∙◌}
use borrow.Author.Tests.{lt-ltb, le-ltb}
use Rattle.channels.specs.Map.{marked, channel_at}
use Rattle.channels.proofs.Counting.{placed_le}
use Rattle.channels.proofs.channel_map.ChannelMap.by_index.Goals as goal

pub returns-then-n-self : goal.returns-then-n-self
unfolding channel_at
returns-then-n-self c =
    let n = c.args.n in
    let channel = channel_at c.args.self.raw n in
    c.new.ensures
    ∙ rw (
      c.nth_used.ensures,
      le-ltb 36 channel (placed_le (marked c.args.self.raw) 37 n),
      lt-ltb n c.args.self.num_used_channels c.if-n-self.true,
    )
