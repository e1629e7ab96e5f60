-- The worked values, by computation.
-- Assumes nothing.
use mathlib.Core.Path.{refl}
use Rattle.utf8.specs.Examples.{Examples}
use Rattle.utf8.specs.Utf8.{row_in, utf8_after}

pub examples : Examples
unfolding row_in utf8_after
examples =
    record {
      four_lengths = refl;
      overlong_two = refl;
      overlong_three = refl;
      surrogate = refl;
      past_the_last = refl;
      cut_short = refl;
      encodings = refl;
      one_or_two = refl;
      two_or_three = refl;
      three_or_four = refl;
      last = refl;
      row_1 = refl;
      beside_row_1 = refl;
      row_2 = refl;
      beside_row_2 = refl;
      row_3 = refl;
      beside_row_3 = refl;
      row_4 = refl;
      beside_row_4 = refl;
      row_5 = refl;
      beside_row_5 = refl;
      row_6 = refl;
      beside_row_6 = refl;
      row_7 = refl;
      beside_row_7 = refl;
      row_8 = refl;
      beside_row_8 = refl;
      row_9 = refl;
      beside_row_9 = refl;
      no_lead = refl;
      leads = refl;
    }
