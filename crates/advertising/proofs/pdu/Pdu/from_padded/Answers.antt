use Rattle.std.proofs.Common.{sym, ◌∙◌}
use Rattle.std.proofs.lemmas.Result.{err_from_is_err_and}
use Rattle.advertising.proofs.Payloads.{refuses_records, refuses_bare}
use Rattle.advertising.proofs.pdu.Pdu.from_padded.Goals as goal

pub returns-in_err-count : goal.returns-in_err-count
returns-in_err-count c =
    let p = err_from_is_err_and c.from_residual.result c.from_residual.ensures.1 in
    rw (p.1, p.2) (sym (refuses_records c.args.header c.args.payload.now _ (sym c.has_area.ensures ∙ c.if-has_area.true) c.in_err-count.ensures))

pub returns-in_err-pdu : goal.returns-in_err-pdu
returns-in_err-pdu c =
    let p = err_from_is_err_and c.from_residual-in_err-pdu.result c.from_residual-in_err-pdu.ensures.1 in
    rw (p.1, p.2) (sym (refuses_bare c.args.header c.args.payload.now _ (sym c.has_area.ensures ∙ c.if-has_area.false) c.in_err-pdu.ensures))
