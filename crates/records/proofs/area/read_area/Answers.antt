-- The refusal is that of the first bad record.
use Rattle.std.proofs.Common.{rules, ◌≡◌, ap, ◌∙◌}
use mathlib.Core.Path.{sym, subst}
use Rattle.std.proofs.lemmas.Result.{err_from_is_err_and}
use Rattle.std.specs.Prelude.{ℕ, List, Result, Ok, Err, MatchResult}
use Rattle.std.specs.Result.{IsErrAnd}
use Rattle.octets.specs.declared.error.Error.{Error}
use Rattle.records_spec.specs.Accepted.{FrontOf}
use Rattle.records_spec.specs.Area.{front_of, read_area}
use Rattle.records_spec.specs.declared.area.BadRecord.{BadRecord}
use Rattle.records_spec.proofs.Accepted.{decided}
use Rattle.records_spec.proofs.Fronts.{first_bad, fronted}
use Rattle.records.proofs.area.read_area.Goals as goal

abbrev whole : Result ℕ BadRecord → Result ℕ Error
whole (Ok m) = Ok m
whole (Err bad) = Err bad.error

mapped : (f : Result ℕ BadRecord) {r : Result ℕ Error} (Q : BadRecord → Error → Type 0) → MatchResult f (λ m. r ≡ Ok m) (λ bad. IsErrAnd r (Q bad)) → ((bad : BadRecord) (k : Error) → Q bad k → k ≡ bad.error) → r ≡ whole f
mapped (Ok m) Q said error = said
mapped (Err bad) {r} Q said error = let p = err_from_is_err_and r said in p.1 ∙ ap Err (error bad p.0 p.2)

front_whole : (s : List ℕ) (f : Result ℕ BadRecord) → f ≡ front_of s → whole f ≡ read_area s
front_whole s (Ok m) is = sym ((decided s).accepted (subst (FrontOf s) (sym is) (fronted s).told))
front_whole s (Err bad) is =
    let found = subst (FrontOf s) (sym is) (fronted s).told in
    sym ((decided s).refused (first_bad s bad.at found.0 found.1))

pub returns : goal.returns
returns c = mapped c.read_front.result _ c.map_err.ensures.cases (λ bad k learnt. search rules) ∙ front_whole _ c.read_front.result c.read_front.ensures
