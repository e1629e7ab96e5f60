-- The mask is a remainder, and the ones that it leaves are the marks.
use mathlib.Core.Path.{◌≡◌, ap, ◌∙◌}
use Rattle.std.proofs.Common.{List, ℕ, bit_and, set, get_or}
use lib.Bits.{and_mask}
use Rattle.channels.specs.Count.{count}
use Rattle.channels.specs.Map.{marked, cleared}
use Rattle.channels.proofs.Maps.{cleared_ones}
use Rattle.channels.proofs.channel_map.ChannelMap.from_raw.Goals as goal

pub returns : goal.returns
unfolding cleared
returns c =
    let raw = c.args.raw in
    let same : set raw 4 (bit_and (get_or raw 4 0) 31) ≡ cleared raw = ap (set raw 4) (and_mask (get_or raw 4 0) 5) in
    let used = c.count_ones.ensures ∙ ap (λ (l : List ℕ). count (marked l) 40) same ∙ cleared_ones raw in
    λ i. record { raw = same i; num_used_channels = used i }
