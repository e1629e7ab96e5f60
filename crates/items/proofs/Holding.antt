-- All laws of this crate. Assumes nothing.
use Rattle.items.specs.Holds.{Holds}
use Rattle.items.proofs.Examples.{examples}
use Rattle.items.proofs.Falling.{falls}
use Rattle.items.proofs.Items.{cut}

pub holds : Holds
holds = record {
  falls = falls;
  cut = cut;
  examples = examples;
}
