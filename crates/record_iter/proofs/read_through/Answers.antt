use Rattle.std.proofs.Common.{ap, sym, ◌∙◌, arith}
use Rattle.std.proofs.lemmas.Result.{err_from_is_err_and}
use Rattle.std.specs.Prelude.{Ok}
use Rattle.record_iter.specs.declared.Records.{Records}
use Rattle.record_iter.proofs.ReadSoFar.{begins, steps, goes_on, ends, refuses}
use Rattle.record_iter.proofs.read_through.Goals as goal

pub loop-records-init : goal.loop-records-init
loop-records-init c = begins _ _ (ap (λ (i : Records). i.records.now) c.new-records.ensures) (ap (λ (i : Records). i.at) c.new-records.ensures)

pub loop-records-smaller : goal.loop-records-smaller
loop-records-smaller c =
    let on = steps c.args.area.now c.loop-records.records c.moved-records.result c.loop-records.count c.loop-records.invariant (ap Ok (sym c.in-Some.is) ∙ c.in_ok-next.ensures) c.moved-records.ensures in
    omega (arith, on.0, on.1)

pub loop-records-preserved : goal.loop-records-preserved
loop-records-preserved c = goes_on _ _ _ _ c.loop-records.invariant (ap Ok (sym c.in-Some.is) ∙ c.in_ok-next.ensures) c.moved-records.ensures

pub returns-in_err-next : goal.returns-in_err-next
returns-in_err-next c =
    let p = err_from_is_err_and c.from_residual.result c.from_residual.ensures.1 in
    rw (p.1, p.2) (refuses _ _ _ c.loop-records.invariant c.in_err-next.ensures)

pub returns : goal.returns
returns c = ends _ _ _ c.loop-records.invariant (ap Ok (sym c.in_default.is) ∙ c.in_ok-next.ensures)
