use Rattle.std.proofs.Common.{◌≡◌, length, take, [], refl, sym, subst, arith, rules, length-take}
use Rattle.hub_spec.specs.State.{Hub}
use Rattle.hub_spec.proofs.Runs.{Running, begins, counts}
use Rattle.hub_io.proofs.Going.{go_on, end, fewer, bound}
use Rattle.hub_io.proofs.log_input.Goals as goal

pub loop-step-init : goal.loop-step-init
loop-step-init g c = record { buf_long = refl; out_long = refl; run = subst (λ (h : Hub). Running h [] 0) (sym c.new-hub.ensures) begins; short = omega arith }

pub log_read-requires : goal.log_read-requires
log_read-requires g c =
    let inv = c.loop-step.invariant in
    (counts inv.run, (omega (arith, inv.short, inv.buf_long, c.requires.0), omega (arith, inv.buf_long, inv.out_long, c.requires.1)))

pub overflow_add-written : goal.overflow_add-written
overflow_add-written g c = omega (arith, bound c.loop-step.invariant.run c.in-Ok.ensures)

pub returns-then-block : goal.returns-then-block
returns-then-block g c = end c.loop-step.invariant.run c.in-Ok.ensures c.if-block.true

pub loop-step-smaller : goal.loop-step-smaller
loop-step-smaller g c =
    let inv = c.loop-step.invariant in
    let long : length (take c.loop-step.kept c.loop-step.buf) ≡ c.loop-step.kept = simp length-take (omega (arith, inv.short, inv.buf_long, c.requires.0)) in
    let on = rw long at (fewer inv.run c.in-Ok.ensures (omega (arith, long, inv.short)) c.if-block.false) in
    on.0

pub loop-step-preserved : goal.loop-step-preserved
loop-step-preserved g c =
    let inv = c.loop-step.invariant in
    let long : length (take c.loop-step.kept c.loop-step.buf) ≡ c.loop-step.kept = simp length-take (omega (arith, inv.short, inv.buf_long, c.requires.0)) in
    let on = rw long at (fewer inv.run c.in-Ok.ensures (omega (arith, long, inv.short)) c.if-block.false) in
    record {
      buf_long = search rules;
      out_long = search rules;
      run = go_on inv.run c.in-Ok.ensures c.if-block.false;
      short = on.1;
    }
