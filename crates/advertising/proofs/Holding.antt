-- All laws of this crate. Assumes nothing.
use Rattle.advertising.specs.Holds.{Holds}
use Rattle.advertising.proofs.Accepting.{accepting, accepting_heard, record_area, record_area_heard, data_part}
use Rattle.advertising.proofs.Builders.{builders, directed, writing, examples}
use Rattle.advertising.proofs.Building.{building}
use Rattle.advertising.proofs.Examples.{example, accuracies, window_end_law}
use Rattle.advertising.proofs.Padded.{heard, alike, rows as padded_rows}
use Rattle.advertising.proofs.Refusals.{order, from_bytes, rows}
use Rattle.advertising.proofs.Table.{table}

pub holds : Holds
holds = record {
  accepting = accepting;
  accepting_heard = accepting_heard;
  record_area = record_area;
  record_area_heard = record_area_heard;
  data_part = data_part;
  building = building;
  example = example;
  accuracies = accuracies;
  window_end_law = window_end_law;
  builders = builders;
  directed = directed;
  writing = writing;
  examples = examples;
  order = order;
  from_bytes = from_bytes;
  rows = rows;
  heard = heard;
  alike = alike;
  padded_rows = padded_rows;
  table = table;
}
