-- Octet by octet: at most all 40 bits are set.
use mathlib.Core.Path.{◌≡◌, ap, ◌∙◌}
use Prim.Native.Nat.{◌*◌, ◌≤◌}
use Rattle.std.proofs.Common.{length, arith, rules}
use Rattle.std.specs.Prelude.{sum_by}
use Rattle.channels.specs.Count.{count}
use Rattle.channels.specs.Map.{is_set, marked}
use Rattle.channels.proofs.Counting.{count_le}
use Rattle.channels.proofs.Maps.{ones_summed}
use Rattle.channels.proofs.channel_map.count_ones.Goals as goal

pub sum-requires-clause-fits : goal.sum-requires-clause-fits
sum-requires-clause-fits c =
    let few : sum_by (λ x. count (is_set x) 8) c.args.raw ≤ 40 = omega (arith, ones_summed c.args.raw, count_le (marked c.args.raw) (8 * length c.args.raw)) in
    search (rules, few)

pub returns : goal.returns
returns c =
    let total : c.sum.result ≡ sum_by (λ x. count (is_set x) 8) c.args.raw = search rules in
    let bits : 8 * length c.args.raw ≡ 40 = omega arith in
    total ∙ ones_summed c.args.raw ∙ ap (count (marked c.args.raw)) bits
