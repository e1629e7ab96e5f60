-- A record that has no type, or another, is no name.
use Rattle.std.proofs.Common.{rules, ◌≡◌, ◌<◌, ℕ, zero, suc, false, List, [], ◌∷◌, length, get_or, ap, ◌∙◌, arith}
use borrow.Author.Tests.{ne_eqb}
use Rattle.records_spec.specs.Record.{first}
use Rattle.names_spec.specs.Name.{is_name}
use Rattle.names.proofs.NameTestRecordTest.passes.Goals as goal

another : (rest : List ℕ) (ty : ℕ) → 0 < ty → (get_or rest 1 0 ≡ ty → ⊥) → false ≡ is_name ty (first rest)
unfolding first is_name
another [] ty some other = rw (ne_eqb 0 ty (omega arith))
another (zero ∷ []) ty some other = rw (ne_eqb 0 ty (omega arith))
another (suc n ∷ []) ty some other = rw (ne_eqb 0 ty (omega arith))
another (zero ∷ t ∷ rest) ty some other = rw (ne_eqb 0 ty (omega arith))
another (suc n ∷ t ∷ rest) ty some other = rw (ne_eqb t ty other)

typeless : (rest : List ℕ) (ty : ℕ) → 0 < ty → length rest < 2 → false ≡ is_name ty (first rest)
typeless [] ty some few = another [] ty some (λ is. omega arith)
typeless (n ∷ []) ty some few = another (n ∷ []) ty some (λ is. omega arith)
typeless (n ∷ t ∷ rest) ty some few = absurd (omega arith)

pub returns-then-rest-lt2 : goal.returns-then-rest-lt2
returns-then-rest-lt2 c = typeless c.args.rest.now c.args.self.now.ty (search rules) c.if-rest-lt2.true

pub returns-then-rest-self : goal.returns-then-rest-self
returns-then-rest-self c = another c.args.rest.now c.args.self.now.ty (search rules) c.if-rest-self.true

pub returns : goal.returns
returns c = c.is_name.ensures ∙ ap (is_name c.args.self.now.ty) c.first_record.ensures
