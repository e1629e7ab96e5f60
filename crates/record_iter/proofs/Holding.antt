-- All laws of this crate. Assumes nothing.
use Rattle.record_iter.specs.Laws.{Holds}
use Rattle.record_iter.proofs.Rows.{rows}
use Rattle.record_iter.proofs.Through.{goes_through, rest_placed}

pub holds : Holds
holds = record {
  goes_through = goes_through;
  rest_placed = rest_placed;
  rows = rows;
}
