-- The loop's invariant, `Reading`: what is left of s decides, from the ranges still to come.
use Rattle.std.specs.Prelude.{Some, None}
use Rattle.utf8.proofs.Sequences.{in_range, below_range, above_range, led, followed, done}
use Rattle.utf8.proofs.is_utf8.Goals as goal
use Rattle.utf8.proofs.is_utf8.Goals.{then-lead-eq0+in-Some, else-lead-eq0+then-lead-b+then-b-lead, else-lead-b-via-then-lead-b+else-b-lead, else-lead-b-via-else-lead-b}

pub returns-in_default : goal.returns-in_default
returns-in_default c = led None c.loop-b.invariant c.loop-b-test.true c.if-lead-eq0.true c.in_default.ensures

pub returns-else-lead-b : goal.returns-else-lead-b
returns-else-lead-b c =
    elim c.else-lead-b.branch [
      | else-lead-b-via-then-lead-b+else-b-lead w ↦ followed c.loop-b.invariant c.loop-b-test.true c.if-lead-eq0.false (above_range _ _ _ w.if-b-lead.false)
      | else-lead-b-via-else-lead-b w ↦ followed c.loop-b.invariant c.loop-b-test.true c.if-lead-eq0.false (below_range _ _ _ w.if-lead-b.false)
    ]

pub loop-b-preserved : goal.loop-b-preserved
loop-b-preserved c =
    elim c.if-lead-eq0.branch [
      | then-lead-eq0+in-Some w ↦ record { same = rw w.lead-is (led (Some w.in-Some.next) c.loop-b.invariant c.loop-b-test.true w.if-lead-eq0.true w.in-Some.ensures) }
      | else-lead-eq0+then-lead-b+then-b-lead w ↦
          record { same = rw w.lead-is (followed c.loop-b.invariant c.loop-b-test.true w.if-lead-eq0.false (in_range _ _ _ w.if-lead-b.true w.if-b-lead.true)) }
    ]

pub returns : goal.returns
returns c = done c.loop-b.invariant c.loop-b-test.false
