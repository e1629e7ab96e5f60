use Rattle.std.proofs.Common.{◌≡◌, refl, sym, ap, ◌∙◌, List, ℕ, arith, Option, Some, None, Ok, Err}
use Rattle.std.specs.Result.{result_unwrap_or}
use Rattle.std.proofs.lemmas.Option.{none-some}
use Rattle.octets.specs.Bytes.{at_front}
use Rattle.beacon_spec.specs.State.{Report, Scanned}
use Rattle.beacon_spec.specs.declared.beacon.Sighting.{Sighting}
use Rattle.beacon.specs.State.{scan_step}
use Rattle.hub_spec.specs.Line.{report_line, line, line_by, reports_in}
use Rattle.hub_spec.proofs.Reports.{sent_long}
use Rattle.hub.proofs.line.log_scanned.Goals as goal

module _ (number : ℕ) (s : Scanned) (out : List ℕ) where
  one : {x : Sighting} → s.report ≡ Ok (Some x) → reports_in s ≡ 1
  unfolding reports_in
  one is = rw is refl

  reported : {x : Sighting} {out' : List ℕ} → s.report ≡ Ok (Some x) → out' ≡ at_front (report_line number s.channel x.sender x.adv_data.count) out
      → (1 ≡ reports_in s) × (out' ≡ at_front (line number s) out)
  unfolding line
  reported is wrote = (sym (one is), wrote ∙ ap (λ (r : Report). at_front (line_by number s.channel r) out) (sym is))

  unheard : None ≡ result_unwrap_or s.report None → (0 ≡ reports_in s) × (out ≡ at_front (line number s) out)
  unfolding line reports_in
  unheard none = go s.report refl none
    where
      go : (r : Report) → s.report ≡ r → None ≡ result_unwrap_or r None → (0 ≡ reports_in s) × (out ≡ at_front (line number s) out)
      go (Ok (Some x)) is e = absurd (none-some x e)
      go (Ok None) is e = rw is (refl, refl)
      go (Err r) is e = rw is (refl, refl)

-- a report that has a sighting is of it
of_sighting : (r : Report) {x : Sighting} → Some x ≡ result_unwrap_or r None → r ≡ Ok (Some x)
of_sighting (Ok (Some y)) {x} e = ap (λ (o : Option Sighting). Ok o) (sym e)
of_sighting (Ok None) {x} e = absurd (none-some x (sym e))
of_sighting (Err r) {x} e = absurd (none-some x (sym e))

pub put_line-requires : goal.put_line-requires
put_line-requires c =
    let is = of_sighting c.args.scanned.report c.in-Some.ensures in
    let sent = c.requires.0 _ is in
    (sent.1, (sent_long c.args.item.now sent.0, omega (arith, one c.args.number (scan_step c.args.scanned) c.args.out.now is, c.requires.1)))

pub returns-in-Some : goal.returns-in-Some
returns-in-Some c =
    reported c.args.number (scan_step c.args.scanned) c.args.out.now (of_sighting c.args.scanned.report c.in-Some.ensures) c.put_line.ensures

pub returns-in-None : goal.returns-in-None
returns-in-None c = unheard c.args.number (scan_step c.args.scanned) c.args.out.now c.in-None.ensures
