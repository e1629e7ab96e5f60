use mathlib.Core.Path.{◌≡◌}
use Prim.Native.Nat.{◌+◌, ◌-◌, ◌*◌, ◌≤◌}
use Rattle.channels.specs.Count.{count}
use Rattle.channels.specs.Map.{marked}
use Rattle.channels.proofs.channel_map.ChannelMap.nth_used.Given as goal

abbrev pub invariant-loop-k : goal.invariant-loop-k
invariant-loop-k l =
    (l.k ≤ 4) × (count (marked l.self.raw) (8 * l.k) + l.left ≡ l.n)

abbrev pub decreases-loop-k : goal.decreases-loop-k
decreases-loop-k l =
    4 - l.k
