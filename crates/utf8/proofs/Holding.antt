-- All laws of this crate. Assumes nothing.
use Rattle.utf8.specs.Holds.{Holds}
use Rattle.utf8.proofs.Encoded.{utf8_encodes}
use Rattle.utf8.proofs.Examples.{examples}
use Rattle.utf8.proofs.WellFormed.{utf8_is}

pub holds : Holds
holds = record {
  utf8_is = utf8_is;
  utf8_encodes = utf8_encodes;
  examples = examples;
}
