-- All laws of this crate. Assumes nothing.
use Rattle.bit_stream.specs.Said.{Holds}
use Rattle.bit_stream.proofs.Said.{says, examples}

pub holds : Holds
holds =
    record {
      says = says;
      examples = examples;
    }
