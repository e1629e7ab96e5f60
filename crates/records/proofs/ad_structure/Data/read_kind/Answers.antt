use Rattle.std.proofs.Common.{true, false, ap, ◌∙◌, arith}
use Rattle.records_spec.specs.Record.{pair_kind, of_kind, kind_read}
use borrow.Author.Tests.{ne_eqb}
use Rattle.octets.specs.declared.comp_id.CompanyId.{CompanyId}
use Rattle.records_spec.specs.declared.ad_structure.AdStructure.TheVariants as ad
use Rattle.std.proofs.lemmas.Result.{err_from_is_err_and}
use Rattle.std.specs.Prelude.{◌≡◌, ℕ, Ok}
use Rattle.records.proofs.ad_structure.Data.read_kind.Goals as goal

company_is : {id : CompanyId} {n : ℕ} → id.0 ≡ n → id ≡ record { 0 = n }
company_is is = ap (λ (n : ℕ). record { 0 = n }) is

pub returns-in-4 : goal.returns-in-4
unfolding kind_read
returns-in-4 c = simp c.in-4.is c.read_uuids.ensures

pub returns-in-5 : goal.returns-in-5
unfolding kind_read
returns-in-5 c = simp c.in-5.is c.read_uuids-in-5.ensures

pub returns-in-6 : goal.returns-in-6
unfolding kind_read
returns-in-6 c = simp c.in-6.is c.read_uuids-in-6.ensures

pub returns-in-7 : goal.returns-in-7
unfolding kind_read
returns-in-7 c = simp c.in-7.is c.read_uuids-in-7.ensures

pub returns-in-8 : goal.returns-in-8
unfolding kind_read
returns-in-8 c = simp c.in-8.is c.read_name.ensures

pub returns-in-9 : goal.returns-in-9
unfolding kind_read
returns-in-9 c = simp c.in-9.is c.read_name-in-9.ensures

pub returns-in_err-uuid-in-22 : goal.returns-in_err-uuid-in-22
unfolding kind_read
returns-in_err-uuid-in-22 c =
    let p = err_from_is_err_and c.from_residual.result c.from_residual.ensures.1 in
    rw (p.1, p.2) (simp c.in-22.is (ap (of_kind (pair_kind true)) c.in_err-uuid-in-22.ensures))

pub returns-in_ok-uuid-in-22 : goal.returns-in_ok-uuid-in-22
unfolding kind_read
returns-in_ok-uuid-in-22 c = simp c.in-22.is (ap (of_kind (pair_kind true)) c.in_ok-uuid-in-22.ensures)

pub returns-in_err-number-in-255 : goal.returns-in_err-number-in-255
unfolding kind_read
returns-in_err-number-in-255 c =
    let p = err_from_is_err_and c.from_residual-in_err-number-in-255.result c.from_residual-in_err-number-in-255.ensures.1 in
    rw (p.1, p.2) (simp c.in-255.is (ap (of_kind (pair_kind false)) c.in_err-number-in-255.ensures))

pub returns-in_ok-number-in-255 : goal.returns-in_ok-number-in-255
unfolding kind_read
returns-in_ok-number-in-255 c =
    let n = c.in_ok-number-in-255 in
    simp c.in-255.is (ap (λ (id : CompanyId). Ok (ad.ManufacturerSpecificData id n.rest.start n.rest.len)) (company_is c.from_raw.ensures) ∙ ap (of_kind (pair_kind false)) n.ensures)

pub returns-in_default : goal.returns-in_default
unfolding kind_read
returns-in_default c =
    let ty = c.args.ty in
    simp (ne_eqb ty 4 (omega arith), ne_eqb ty 5 (omega arith), ne_eqb ty 6 (omega arith), ne_eqb ty 7 (omega arith), ne_eqb ty 8 (omega arith), ne_eqb ty 9 (omega arith), ne_eqb ty 22 (omega arith), ne_eqb ty 255 (omega arith)) c.read.ensures
