-- All laws of this crate. Assumes nothing.
use Rattle.columns.specs.Holds.{Holds}
use Rattle.columns.proofs.Examples.{examples}
use Rattle.columns.proofs.Justified.{decimal, justified}
use Rattle.columns.proofs.Printed.{printed}
use Rattle.columns.proofs.Rows.{row}
use Rattle.columns.proofs.Table.{copied}

pub holds : Holds
holds = record {
  decimal = decimal;
  justified = justified;
  row = row;
  copied = copied;
  printed = printed;
  examples = examples;
}
