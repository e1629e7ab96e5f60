-- The part of the cycle from the channel's place on is its whitening.
use mathlib.Core.Path.{◌≡◌, ◌∙◌}
use Rattle.std.proofs.Common.{ℕ, List, ◌+◌, ◌-◌, ◌≤◌, ◌<◌, arith}
use lib.ListN.{get_or, take, drop, replicate}
use Rattle.whitening.specs.Kept.{kept_cycle, kept_places}
use Rattle.whitening.specs.Whitening.{whitening, plus}
use Rattle.whitening.proofs.Rows.{place_small, row_is}
use Rattle.whitening.proofs.packet.whitening_octets.Goals as goal

-- the place of a channel leaves room for its octets
place : (begin : List ℕ) (channel : ℕ) → begin ≡ kept_places → channel ≤ 39 → get_or begin channel 0 < 113
place begin channel are_places h = rw are_places (place_small channel (omega arith))

pub slice_bounds-add-end-2 : goal.slice_bounds-add-end-2
slice_bounds-add-end-2 c = omega (arith, place c.places-begin.result c.args.channel c.places-begin.ensures c.requires)

rows : (channel : ℕ) (round begin : List ℕ) → channel ≤ 39 → round ≡ kept_cycle → begin ≡ kept_places
    → let from = get_or begin channel 0 in
    plus (replicate 42 0) (take (from + 42 - from) (drop from round)) ≡ whitening channel
rows channel round begin h is_cycle are_places = rw (is_cycle, are_places) (row_is channel h)

pub returns : goal.returns
returns c = c.add.ensures ∙ rows c.args.channel c.cycle-round.result c.places-begin.result c.requires c.cycle-round.ensures c.places-begin.ensures
