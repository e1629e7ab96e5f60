use mathlib.Core.Path.{◌≡◌}
use Prim.Native.Nat.{◌+◌, ◌-◌, ◌≤◌}
use Rattle.channels.specs.Count.{count}
use Rattle.channels.specs.Map.{marked}
use Rattle.channels.proofs.channel_map.ChannelMap.nth_used_from.Given as goal

abbrev pub invariant-loop-channel : goal.invariant-loop-channel
invariant-loop-channel l =
    (l.channel ≤ 37) × (count (marked l.self.raw) l.channel + l.left ≡ count (marked l.self.raw) l.from + l.n)

abbrev pub decreases-loop-channel : goal.decreases-loop-channel
decreases-loop-channel l =
    37 - l.channel
