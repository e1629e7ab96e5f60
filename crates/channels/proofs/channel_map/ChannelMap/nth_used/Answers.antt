-- The marks of the octets passed and those left to pass are the place.
use mathlib.Core.Path.{refl}
use Rattle.std.proofs.Common.{arith, ◌+◌, ◌*◌}
use Rattle.channels.specs.Map.{marked}
use Rattle.channels.proofs.Counting.{count_zero}
use Rattle.channels.proofs.Maps.{octet_marks}
use Rattle.channels.proofs.channel_map.ChannelMap.nth_used.Goals as goal

pub loop-k-init : goal.loop-k-init
loop-k-init c = omega (arith, count_zero (marked c.args.self.raw))

pub loop-k-preserved : goal.loop-k-preserved
loop-k-preserved c =
    let k = c.loop-k.k in
    omega (arith, octet_marks c.args.self.raw k (8 * k) (8 * (k + 1)) refl (omega arith))
