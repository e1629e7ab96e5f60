-- The worked values, by computation. Assumes nothing.
use mathlib.Core.Path.{refl}
use mathlib.Core.List.{flatten}
use Rattle.items.specs.Item.{size_of, whole_size, items, after_items}
use Rattle.items.specs.Examples.{Examples}

pub examples : Examples
unfolding size_of whole_size items after_items flatten
examples =
    record {
      first_octet = refl;
      six_bits = refl;
      second_octet = refl;
      cut_short = refl;
      whole = refl;
      until_broken = refl;
      left_over_law = refl;
      at_most = refl;
    }
