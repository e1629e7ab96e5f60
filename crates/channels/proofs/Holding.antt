-- All laws of this crate. Assumes nothing.
use Rattle.channels.specs.Holds.{Holds}
use Rattle.channels.proofs.Cycles.{once_each, in_turn}
use Rattle.channels.proofs.Events.{fair, one_hop, hop_on, run}
use Rattle.channels.proofs.Examples.{examples}
use Rattle.channels.proofs.Frequencies.{data_table, data_frequencies, new_is, whitening}
use Rattle.channels.proofs.Maps.{made_agrees, cleared_ones, clears, marked_is, used_is, at_place, found_is}
use Rattle.channels.proofs.Residues.{once, unmapped_is, stands}

pub holds : Holds
holds = record {
  once_each = once_each;
  in_turn = in_turn;
  data_table = data_table;
  data_frequencies = data_frequencies;
  new_is = new_is;
  once = once;
  unmapped_is = unmapped_is;
  stands = stands;
  whitening = whitening;
  made_agrees = made_agrees;
  cleared_ones = cleared_ones;
  clears = clears;
  marked_is = marked_is;
  used_is = used_is;
  at_place = at_place;
  found_is = found_is;
  fair = fair;
  one_hop = one_hop;
  hop_on = hop_on;
  run = run;
  examples = examples;
}
