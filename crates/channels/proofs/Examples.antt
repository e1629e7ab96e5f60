-- The worked values hold of the definitions. Computed. Assumes nothing.
use mathlib.Core.Path.{refl}
use Rattle.channels.specs.Count.{count, placed}
use Rattle.channels.specs.Examples.{Examples}
use Rattle.channels.specs.Hop.{mapped}
use Rattle.channels.specs.Laws.{cycles}
use Rattle.channels.specs.Map.{marked, marks, channel_at, cleared}
use Rattle.channels.specs.Phy.{data_rf}

pub examples : Examples
unfolding cycles data_rf mapped marked marks channel_at cleared placed count
examples = record {
  number_6 = refl;
  number_8 = refl;
  cycle = refl;
  three = refl;
  channel_37 = refl;
  channel_38 = refl;
  channel_39 = refl;
  data_0 = refl;
  data_10 = refl;
  data_11 = refl;
  data_36 = refl;
  whitening_23 = refl;
  new_36 = refl;
  new_37 = refl;
  bit_0 = refl;
  bit_0_only = refl;
  bit_15 = refl;
  bit_15_only = refl;
  bit_36 = refl;
  bit_36_only = refl;
  used_37 = refl;
  top_bits = refl;
  full = refl;
  all_37 = refl;
  place_0 = refl;
  place_1 = refl;
  place_2 = refl;
  place_36 = refl;
  place_37 = refl;
  no_channel_37 = refl;
  place_0_of_none = refl;
  first_hop = refl;
  second_hop = refl;
  marked_hop = refl;
  low_5_bits = refl;
  hop_0 = refl;
  over_36 = refl;
  disagreeing = refl;
  disagreeing_none = refl;
  disagreeing_some = refl;
  from_37 = refl;
  from_37_over_none = refl;
  from_36_over_none = refl;
  handed_on_law = refl;
  handed_back = refl;
  evens = refl;
}
