use Rattle.std.proofs.Common.{sym, ap, ◌∙◌, ℕ, arith}
use Rattle.std.specs.Prelude.{Ok}
use Rattle.records.proofs.Rewriting.{begun, advance, none_refused, finished}
use Rattle.records.proofs.area.write_records.Goals as goal

pub loop-ad-init : goal.loop-ad-init
loop-ad-init c = begun c.new-writer.ensures c.requires.0

pub loop-ad-smaller : goal.loop-ad-smaller
loop-ad-smaller c =
    let onward = advance c.loop-ad.invariant c.requires.1 (ap Ok (sym c.in-Some.is) ∙ c.in_ok-ad.ensures) (omega (arith, c.type_inv.s c.loop-ad.writer.at)) c.write_record.ensures c.in_ok-writer.was in
    omega (arith, onward.0, onward.1.inside)

pub loop-ad-preserved : goal.loop-ad-preserved
loop-ad-preserved c =
    (advance c.loop-ad.invariant c.requires.1 (ap Ok (sym c.in-Some.is) ∙ c.in_ok-ad.ensures) (omega (arith, c.type_inv.s c.loop-ad.writer.at)) c.write_record.ensures c.in_ok-writer.was).1

pub returns-in_err-ad : goal.returns-in_err-ad
returns-in_err-ad c = absurd (none_refused c.loop-ad.invariant c.in_err-ad.ensures)

pub returns-in_err-writer : goal.returns-in_err-writer
returns-in_err-writer c =
    absurd (advance c.loop-ad.invariant c.requires.1 (ap Ok (sym c.in-Some.is) ∙ c.in_ok-ad.ensures) (omega (arith, c.type_inv.s c.loop-ad.writer.at)) c.write_record.ensures c.in_err-writer.was)

pub returns : goal.returns
returns c =
    let end = finished c.loop-ad.invariant (ap Ok (sym c.in_default.is) ∙ c.in_ok-ad.ensures) in
    (ap (λ (at : ℕ). Ok (record { at = at })) end.0, end.1)
