-- All laws of this crate. Assumes nothing.
use Rattle.flags.specs.Flags.{Holds}
use Rattle.flags.proofs.Bits.{named_bits, queries}

pub holds : Holds
holds = record {
  named_bits = named_bits;
  queries = queries;
}
