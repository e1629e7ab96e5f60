use Rattle.std.proofs.Common.{rules, ◌≡◌, ◌<◌, ◌&&◌, ℕ, zero, suc, Bool, true, false, List, [], ◌∷◌, length, refl, nat_eq, arith, MatchBool}
use Rattle.std.proofs.lemmas.Iterator.{cases_from_all, YieldsList-from_slice}
use Rattle.std.specs.List.{AllWithin, HoldsAt}
use borrow.Author.Tests.{ne_eqb, tests}
use Rattle.records_spec.specs.HubReading.{is_zeros}
use Rattle.records.proofs.area.is_zeros.Goals as goal

zeros : (l : List ℕ) → AllWithin (λ x. x ≡ 0) l 0 (length l) → true ≡ is_zeros l
unfolding is_zeros
zeros [] all = refl
zeros (x ∷ l) all = rw (all 0 0 (omega arith) (omega arith)) (zeros l (λ k d low high. all (suc k) d (omega arith) (omega arith)))

another : (l : List ℕ) (k : ℕ) → k < length l → HoldsAt (λ x. x ≡ 0 → ⊥) l k → false ≡ is_zeros l
unfolding is_zeros
another [] k h at = absurd (omega arith)
another (x ∷ l) zero h at = rw (ne_eqb x 0 (at 0))
another (x ∷ l) (suc k) h at = go (nat_eq x 0) (another l k (omega arith) at)
  where
    go : (b : Bool) → false ≡ is_zeros l → false ≡ (b && is_zeros l)
    go true e = e
    go false e = refl

told : (b : Bool) (l : List ℕ) → MatchBool b (AllWithin (λ x. x ≡ 0) l 0 (length l)) ((k : ℕ) × (k < length l) × HoldsAt (λ x. x ≡ 0 → ⊥) l k) → b ≡ is_zeros l
told true l all = zeros l all
told false l (k, below, at) = another l k below at

pub returns : goal.returns
returns c =
    told c.all.result c.args.octets.now
    (cases_from_all _ _ _ (λ x. x ≡ 0) (λ x. x ≡ 0 → ⊥) c.all.ensures.ran (YieldsList-from_slice c.args.octets.now cc) (λ x q k. search (rules, tests)) (λ x q k. search (rules, tests)))
