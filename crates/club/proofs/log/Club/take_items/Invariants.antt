-- What was done so far, with what the items that fit from `at` on give, is what all give.
use Rattle.std.proofs.Common.{◌-◌, length}
use Rattle.club.specs.State.{club_state}
use Rattle.club.proofs.Progress.{Progress}
use Rattle.club.proofs.log.Club.take_items.Given as goal

abbrev pub invariant-loop-out : goal.invariant-loop-out
invariant-loop-out l =
    Progress (club_state l.initial.club) l.s l.initial.out l.out (club_state l.club) l.at l.written

abbrev pub decreases-loop-out : goal.decreases-loop-out
decreases-loop-out l = length l.s - l.at
