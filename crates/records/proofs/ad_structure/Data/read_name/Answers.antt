use Rattle.std.proofs.Common.{◌∙◌, ap}
use Rattle.std.proofs.lemmas.Result.{err_from_is_err_and}
use Rattle.std.specs.Prelude.{Ok}
use Rattle.octets.specs.declared.error.Error.TheVariants.{InvalidValue}
use Rattle.utf8.specs.Utf8.{is_utf8}
use Rattle.records_spec.specs.Record.{local_name, name_read}
use Rattle.records.proofs.Checks.{passed, refused}
use Rattle.records.proofs.ad_structure.Data.read_name.Goals as goal

pub returns-in_err-check : goal.returns-in_err-check
unfolding name_read
returns-in_err-check c =
    let p = err_from_is_err_and c.from_residual.result c.from_residual.ensures.1 in
    let a = c.args in
    rw (p.1, p.2) (refused (is_utf8 a.self.octets.now) (local_name a.complete a.self.start _) InvalidValue c.in_err-check.ensures)

pub returns : goal.returns
unfolding name_read
returns c = ap Ok c.local_name.ensures ∙ passed (is_utf8 c.args.self.octets.now) _ InvalidValue c.in_ok-check.ensures
