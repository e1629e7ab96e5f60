-- All laws of this crate. Assumes nothing.
use Rattle.radio_spec.specs.Laws.{Holds}
use Rattle.radio_spec.proofs.Answering.{start_sends, tick_sends, event_hops, mode_moves}
use Rattle.radio_spec.proofs.Demand.{demand_3}
use Rattle.radio_spec.proofs.Example.{example, title_example, limits, long}
use Rattle.radio_spec.proofs.Replies.{reply_decodes, bare, sets_scan_data}
use Rattle.radio_spec.proofs.Words.{words, modes, refusing, list_words, calls_by_contracts, transmits, bad_start, hears_packet}

pub holds : Holds
holds = record {
  demand_3 = demand_3;
  words = words;
  modes = modes;
  refusing = refusing;
  list_words = list_words;
  calls_by_contracts = calls_by_contracts;
  transmits = transmits;
  reply_decodes = reply_decodes;
  bare = bare;
  bad_start = bad_start;
  sets_scan_data = sets_scan_data;
  hears_packet = hears_packet;
  start_sends = start_sends;
  tick_sends = tick_sends;
  event_hops = event_hops;
  mode_moves = mode_moves;
  example = example;
  title_example = title_example;
  limits = limits;
  long = long;
}
