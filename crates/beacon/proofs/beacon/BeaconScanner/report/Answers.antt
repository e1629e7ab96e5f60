use Rattle.std.proofs.Common.{sym, ap, ◌∙◌}
use Rattle.std.proofs.lemmas.Result.{err_from_is_err_and}
use Rattle.std.specs.Prelude.{Ok}
use Rattle.beacon.specs.State.{scanner_state}
use Rattle.beacon_spec.proofs.Filtering.{filter_refused, none_heard, filtered}
use Rattle.beacon.proofs.beacon.BeaconScanner.report.Goals as goal

pub returns-in_err-passes-in-Some : goal.returns-in_err-passes-in-Some
returns-in_err-passes-in-Some c =
    let a = c.args in
    let p = err_from_is_err_and c.from_residual.result c.from_residual.ensures.1 in
    rw (p.1, p.2) (sym (filter_refused (scanner_state a.self) a.header a.payload.now a.crc_ok a.list.now _ _ (sym c.in_err-passes-in-Some.ensures)))

pub returns-in_err-should_scan-in-None : goal.returns-in_err-should_scan-in-None
returns-in_err-should_scan-in-None c =
    let a = c.args in
    let p = err_from_is_err_and c.from_residual-in_err-should_scan-in-None.result c.from_residual-in_err-should_scan-in-None.ensures.1 in
    rw (p.1, p.2) (sym (filter_refused (scanner_state a.self) a.header a.payload.now a.crc_ok a.list.now _ _ (sym c.in_err-should_scan-in-None.ensures)))

pub returns-in_ok-passes-in-Some : goal.returns-in_ok-passes-in-Some
returns-in_ok-passes-in-Some c =
    let a = c.args in
    ap Ok c.then_some.ensures ∙ sym (filtered (scanner_state a.self) a.header a.payload.now a.crc_ok a.list.now _ _ c.in-Some.ensures (sym c.in_ok-passes-in-Some.ensures))

pub returns-in_ok-should_scan-in-None : goal.returns-in_ok-should_scan-in-None
returns-in_ok-should_scan-in-None c =
    let a = c.args in
    sym (none_heard (scanner_state a.self) a.header a.payload.now a.crc_ok a.list.now _ _ c.in-None.ensures (sym c.in_ok-should_scan-in-None.ensures))
