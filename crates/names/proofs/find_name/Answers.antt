-- Each area is read, and what is searched of it is the records that were read.
use Rattle.std.proofs.Common.{sym, ◌∙◌}
use Rattle.std.proofs.lemmas.Result.{err_from_is_err_and}
use Rattle.names_spec.proofs.Search.{as_long, both_read, first_refused, second_refused}
use Rattle.names.proofs.find_name.Goals as goal

pub returns-in_err-first : goal.returns-in_err-first
returns-in_err-first c =
    let p = err_from_is_err_and c.from_residual.result c.from_residual.ensures.1 in
    rw (p.1, p.2) (first_refused _ _ (sym c.in_err-first.ensures))

pub returns-in_err-second : goal.returns-in_err-second
returns-in_err-second c =
    let p = err_from_is_err_and c.from_residual-in_err-second.result c.from_residual-in_err-second.ensures.1 in
    rw (p.1, p.2) (second_refused _ _ (sym c.in_ok-first.ensures) (sym c.in_err-second.ensures))

pub slice_bounds-choose-end : goal.slice_bounds-choose-end
slice_bounds-choose-end c = as_long _ (sym c.in_ok-first.ensures)

pub slice_bounds-choose-end-2 : goal.slice_bounds-choose-end-2
slice_bounds-choose-end-2 c = as_long _ (sym c.in_ok-second.ensures)

pub returns : goal.returns
returns c = c.choose.ensures ∙ both_read _ _ (sym c.in_ok-first.ensures) (sym c.in_ok-second.ensures)
