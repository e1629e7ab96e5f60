use Rattle.std.proofs.Common.{◌∙◌, ap}
use Rattle.std.proofs.lemmas.Result.{err_from_is_err_and}
use Rattle.std.specs.Prelude.{Ok}
use Rattle.octets.specs.declared.error.Error.TheVariants.{Eof}
use Rattle.records_spec.specs.Record.{whole_uuids, uuid_list, uuids_read}
use Rattle.records.proofs.Checks.{passed, refused}
use Rattle.records.proofs.ad_structure.Data.read_uuids.Goals as goal

pub returns-in_err-check : goal.returns-in_err-check
unfolding uuids_read
returns-in_err-check c =
    let p = err_from_is_err_and c.from_residual.result c.from_residual.ensures.1 in
    let a = c.args in
    rw (p.1, p.2) (refused (whole_uuids a.kind a.self.octets.now) (uuid_list a.kind a.complete a.self.start _) Eof c.in_err-check.ensures)

pub returns : goal.returns
unfolding uuids_read
returns c =
    let a = c.args in
    ap Ok c.uuid_list.ensures ∙ passed (whole_uuids a.kind a.self.octets.now) _ Eof c.in_ok-check.ensures
