-- All laws of this crate. Assumes nothing.
use Rattle.beacon_spec.specs.Laws.{Holds}
use Rattle.beacon_spec.proofs.Broadcasts.{sends, no_beacon, broadcasting, sendable}
use Rattle.beacon_spec.proofs.Reports.{reports, located, bad_list, without_filter, report_says}
use Rattle.beacon_spec.proofs.Rows.{row, examples}
use Rattle.beacon_spec.proofs.Runs.{new_scanner, scanning}

pub holds : Holds
holds = record {
  reports = reports;
  located = located;
  bad_list = bad_list;
  without_filter = without_filter;
  report_says = report_says;
  new_scanner = new_scanner;
  scanning = scanning;
  sends = sends;
  no_beacon = no_beacon;
  broadcasting = broadcasting;
  sendable = sendable;
  row = row;
  examples = examples;
}
