-- All laws of this crate. Assumes nothing.
use Rattle.records_spec.specs.Holds.{Holds}
use Rattle.records_spec.proofs.Accepted.{decided}
use Rattle.records_spec.proofs.Examples.{codes, examples}
use Rattle.records_spec.proofs.Fronts.{fronted}
use Rattle.records_spec.proofs.HubReads.{hub_reads, differs, without_size, took, rows}
use Rattle.records_spec.proofs.LaidOut.{standing}
use Rattle.records_spec.proofs.Order.{ordered}
use Rattle.records_spec.proofs.Outlines.{written_by_outline, lent_outlines}
use Rattle.records_spec.proofs.ReadAs.{read_as, read_on_as}
use Rattle.records_spec.proofs.ReadBack.{written_and_read_back, not_as_itself}
use Rattle.records_spec.proofs.ReadOn.{read_on_and_rewritten}
use Rattle.records_spec.proofs.Restored.{rewriting}
use Rattle.records_spec.proofs.RoundTrip.{cleans, round_trip, read_and_rewritten}
use Rattle.records_spec.proofs.Search.{searching}
use Rattle.records_spec.proofs.Uuids.{one_by_one}

pub holds : Holds
holds = record {
  decided = decided;
  fronted = fronted;
  hub_reads = hub_reads;
  differs = differs;
  without_size = without_size;
  took = took;
  rows = rows;
  ordered = ordered;
  standing = λ a ty start len own s out at. standing s out at;
  written_by_outline = written_by_outline;
  lent_outlines = lent_outlines;
  read_as = read_as;
  read_on_as = read_on_as;
  written_and_read_back = written_and_read_back;
  not_as_itself = not_as_itself;
  cleans = cleans;
  round_trip = round_trip;
  read_and_rewritten = read_and_rewritten;
  read_on_and_rewritten = read_on_and_rewritten;
  rewriting = rewriting;
  searching = λ s read test P decides. searching s read decides;
  one_by_one = one_by_one;
  codes = codes;
  examples = examples;
}
