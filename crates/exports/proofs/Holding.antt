-- All laws of this crate. Assumes nothing.
use Rattle.exports.specs.Laws.{Holds}
use Rattle.exports.proofs.Laws.{heads, builds, sends, updates, hears, drawn_is, calls, entries, short, buffers, lends, says}
use Rattle.exports.proofs.Runs.{call_by_call, entry_by_entry}

pub holds : Holds
holds =
    record {
      heads = heads;
      builds = builds;
      sends = sends;
      updates = updates;
      hears = hears;
      drawn_is = drawn_is;
      calls = calls;
      entries = entries;
      short = short;
      buffers = buffers;
      lends = lends;
      says = says;
      call_by_call = call_by_call;
      entry_by_entry = entry_by_entry;
    }
