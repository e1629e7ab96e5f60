-- All laws of this crate. Assumes nothing.
use Rattle.club_spec.specs.Holds.{Holds}
use Rattle.club_spec.proofs.Evenings.{evening}
use Rattle.club_spec.proofs.Examples.{examples}
use Rattle.club_spec.proofs.Items.{club_falls}
use Rattle.club_spec.proofs.Making.{makes_calls, calls_made, line_rows, end_rows, one_more, log_is, log_of_law, taken_is}
use Rattle.club_spec.proofs.Shown.{evening_log}
use Rattle.club_spec.proofs.Taking.{fitted, line_sizes}

pub holds : Holds
holds = record {
  evening = evening;
  evening_log = evening_log;
  club_falls = club_falls;
  fitted = fitted;
  line_sizes = line_sizes;
  makes_calls = makes_calls;
  calls_made = calls_made;
  line_rows = line_rows;
  end_rows = end_rows;
  one_more = one_more;
  log_is = log_is;
  log_of_law = log_of_law;
  taken_is = taken_is;
  examples = examples;
}
