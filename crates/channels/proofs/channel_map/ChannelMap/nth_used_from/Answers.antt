-- The marks passed and those left to pass are the place.
use mathlib.Core.Path.{◌≡◌, sym, ap, ◌∙◌}
use Rattle.std.proofs.Common.{arith, rules}
use native.Mathlib.Numerals.{add-one}
use Rattle.channels.specs.Count.{bit, count}
use Rattle.channels.specs.Map.{marked, channel_at}
use Rattle.channels.proofs.Counting.{placed_is, placed_none}
use Rattle.channels.proofs.channel_map.ChannelMap.nth_used_from.Goals as goal
use Rattle.channels.proofs.channel_map.ChannelMap.nth_used_from.Goals.{then-is_marked+else-left-eq0, else-is_marked}

pub returns-then-left-eq0 : goal.returns-then-left-eq0
unfolding channel_at
returns-then-left-eq0 c =
    sym (placed_is (marked c.args.self.raw) 37 _ c.loop-channel.channel (record {
      below = search rules;
      passes = sym c.is_marked.ensures ∙ c.if-is_marked.true;
      place = search rules;
    }))

pub loop-channel-preserved : goal.loop-channel-preserved
unfolding count
loop-channel-preserved c =
    elim c.if-is_marked.branch [
      | then-is_marked+else-left-eq0 w ↦ rw add-one (omega (arith, ap bit (sym c.is_marked.ensures ∙ w.if-is_marked.true)))
      | else-is_marked w ↦ rw add-one (omega (arith, ap bit (sym c.is_marked.ensures ∙ w.if-is_marked.false)))
    ]

pub returns : goal.returns
unfolding channel_at
returns c =
    let p = marked c.args.self.raw in
    let all : c.loop-channel.channel ≡ 37 = omega arith in
    sym (placed_none p 37 _ (omega (arith, ap (count p) all)))
