-- The worked values, by computation. Assumes nothing.
use mathlib.Core.Path.{refl}
use mathlib.Core.List.{flatten}
use Rattle.columns.specs.Column.{leading, column}
use Rattle.columns.specs.Text.{ascii, lines}
use Rattle.hub_spec.specs.Line.{report_line}
use Rattle.hub_spec.specs.Log.{scanner_after, last_line, is_stuck}
use Rattle.hub_spec.specs.Examples.{Examples}

pub examples : Examples
unfolding leading column ascii lines flatten report_line scanner_after last_line is_stuck
examples =
    record {
      public_line = refl;
      random_line = refl;
      last_full = refl;
      last_whole = refl;
      left_over_law = refl;
      room = refl;
      crc_good_law = refl;
      stuck = refl;
      stuck_beyond = refl;
      none_left = refl;
      ready_items = refl;
      ready_reports = refl;
      ready_octets = refl;
      ready_last = refl;
      ready_room = refl;
      first_channel_law = refl;
      one_tick = refl;
      two_ticks = refl;
      three_ticks = refl;
      packets = refl;
      no_item = refl;
    }
