use Rattle.std.proofs.lemmas.Result.{err_from_is_err_and}
use Rattle.records_spec.specs.Uuids.{uuid16_at}
use borrow.Author.Tests.{eq-eqb, ne_eqb}
use Rattle.records.proofs.ad_structure.next_uuid16.Goals as goal

pub returns-then-data-at : goal.returns-then-data-at
unfolding uuid16_at
returns-then-data-at c = simp (eq-eqb _ _ c.if-data-at.true)

pub returns-in_err-uuid : goal.returns-in_err-uuid
unfolding uuid16_at
returns-in_err-uuid c =
    let p = err_from_is_err_and c.from_residual.result c.from_residual.ensures.1 in
    rw (p.1, p.2, ne_eqb _ _ c.if-data-at.false, ← c.in_err-uuid.ensures)

pub returns : goal.returns
unfolding uuid16_at
returns c = rw (ne_eqb _ _ c.if-data-at.false, ← c.in_ok-uuid.ensures)
