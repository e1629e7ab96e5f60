-- All laws of this crate. Assumes nothing.
use Rattle.basics.specs.Laws.{Holds}
use Rattle.basics.proofs.Laws.{areas, structures, readings, flags_say, names, taking, parts, reads, headers, channels, turns, filters}

pub holds : Holds
holds =
    record {
      areas = areas;
      structures = structures;
      readings = readings;
      flags_say = flags_say;
      names = names;
      taking = taking;
      parts = parts;
      reads = reads;
      headers = headers;
      channels = channels;
      turns = turns;
      filters = filters;
    }
