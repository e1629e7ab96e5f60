use Rattle.std.proofs.Common.{refl, sym, ◌∙◌, ◌+◌, get_or, arith}
use lib.ListN.{drop_of_length-le}
use Rattle.records_spec.specs.Search.{searched}
use Rattle.records_spec.proofs.Search.{at_end}
use Rattle.records.proofs.Searching.{step_at, asked, turn, onward}
use Rattle.records.proofs.area.find_record.Goals as goal

pub loop-at-init : goal.loop-at-init
unfolding searched
loop-at-init g c = refl

pub loop-at-smaller : goal.loop-at-smaller
loop-at-smaller g c = omega (arith, c.loop-at-test.true)

pub loop-at-preserved : goal.loop-at-preserved
loop-at-preserved g c =
    let passing = g.T.RecordTest.passing c.args.test.now in
    let s = c.args.s.now in
    let step = step_at s c.loop-at.at c.loop-at-test.true refl in
    turn passing c.loop-at.invariant step (asked passing c.args.s.now c.loop-at.at step c.passes.ensures) c.if-passes.false ∙ onward passing s (c.loop-at.at + 1 + get_or s c.loop-at.at 0) refl

pub returns-then-passes : goal.returns-then-passes
returns-then-passes g c =
    let passing = g.T.RecordTest.passing c.args.test.now in
    let step = step_at c.args.s.now c.loop-at.at c.loop-at-test.true c.min-end.ensures in
    rw c.saturating_sub.ensures (sym (turn passing c.loop-at.invariant step (asked passing c.args.s.now c.loop-at.at step c.passes.ensures) c.if-passes.true))

pub returns : goal.returns
returns g c = sym (c.loop-at.invariant ∙ at_end (g.T.RecordTest.passing c.args.test.now) c.args.s.now c.loop-at.at (drop_of_length-le c.args.s.now {i = c.loop-at.at} c.loop-at-test.false))
