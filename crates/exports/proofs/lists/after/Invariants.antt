use Rattle.std.proofs.Common.{length}
use Rattle.radio.specs.State.{state}
use Rattle.exports.specs.Lists.{board_of}
use Rattle.exports.proofs.Chunks.{Taken}
use Rattle.exports.proofs.Replays.{Replayed}
use Rattle.exports.proofs.lists.after.Given as goal

abbrev pub invariant-loop-call : goal.invariant-loop-call
invariant-loop-call l =
    record {
      taken : Taken l.calls l.call-iterator.rest.now l.call-iterator.size (length l.yielded);
      replayed : Replayed (board_of (state l.initial.device) l.initial.first l.initial.second) l.calls l.first l.second (state l.device) (length l.yielded);
    }
