use mathlib.Core.Path.{◌≡◌}
use lib.ListN.{length}
use Rattle.beacon.specs.State.{scanner_state}
use Rattle.exports.specs.Scans.{entries_up_to}
use Rattle.exports.proofs.Chunks.{Taken}
use Rattle.exports.proofs.scans.moved_by.Given as goal

abbrev pub invariant-loop-entry : goal.invariant-loop-entry
invariant-loop-entry l =
    record {
      taken : Taken l.entries l.entry-iterator.rest.now l.entry-iterator.size (length l.yielded);
      reached : scanner_state l.listening ≡ entries_up_to (scanner_state l.initial.listening) l.entries (length l.yielded);
    }
