-- All laws of this crate. Assumes nothing.
use Rattle.addresses.specs.Laws.{Holds}
use Rattle.addresses.proofs.Addresses.{equality}
use Rattle.addresses.proofs.Boxes.{own_bits, figures, numbered, codes, types}
use Rattle.addresses.proofs.Entries.{listed, policies}
use Rattle.addresses.proofs.Examples.{examples}
use Rattle.addresses.proofs.Headers.{reading}

pub holds : Holds
holds = record {
  equality = equality;
  listed = listed;
  policies = policies;
  own_bits = own_bits;
  figures = figures;
  numbered = numbered;
  reading = reading;
  codes = codes;
  types = types;
  examples = examples;
}
