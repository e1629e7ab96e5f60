-- All laws of this crate. Assumes nothing.
use Rattle.hub_spec.specs.Holds.{Holds}
use Rattle.hub_spec.proofs.AnyReads.{any_reads, block_taken}
use Rattle.hub_spec.proofs.Examples.{examples}
use Rattle.hub_spec.proofs.Pieces.{sizes}
use Rattle.hub_spec.proofs.Reported.{reported, continued, rowed, added, stopping}
use Rattle.hub_spec.proofs.Samples.{sample, just_room}
use Rattle.hub_spec.proofs.Ticks.{limit}

pub holds : Holds
holds = record {
  sizes = sizes;
  any_reads = any_reads;
  block_taken = block_taken;
  reported = reported;
  continued = continued;
  rowed = rowed;
  added = added;
  stopping = stopping;
  sample = sample;
  just_room = just_room;
  limit = limit;
  examples = examples;
}
