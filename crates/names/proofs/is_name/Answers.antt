-- By the record's type and then by its data; a record of one octet has neither.
use Rattle.std.proofs.Common.{◌≡◌, ◌-◌, ◌<◌, ◌≤◌, ℕ, Bool, false, List, [], ◌∷◌, length, get_or, take, drop, nat_eq, arith, length-drop}
use lib.Seq.{take_all}
use borrow.Author.Tests.{eq-eqb, ne_eqb}
use Rattle.utf8.specs.Utf8.{is_utf8}
use Rattle.names_spec.specs.Name.{is_name}
use Rattle.names.proofs.is_name.Goals as goal

short : (r : List ℕ) (ty : ℕ) → length r < 2 → 0 < ty → false ≡ is_name ty r
unfolding is_name
short [] ty few some = rw (ne_eqb 0 ty (omega arith))
short (n ∷ []) ty few some = rw (ne_eqb 0 ty (omega arith))
short (n ∷ t ∷ r) ty few some = absurd (omega arith)

of_type : (r : List ℕ) (ty : ℕ) {b : Bool} → 2 ≤ length r → get_or r 1 0 ≡ ty → b ≡ is_utf8 (take (length r - 2) (drop 2 r)) → b ≡ is_name ty r
unfolding is_name
of_type r ty long is e =
    let rest = take_all (length r - 2) (drop 2 r) (omega (arith, length-drop 2 r)) in
    rw (e, rest, eq-eqb (get_or r 1 0) ty is)

other_type : (r : List ℕ) (ty : ℕ) → (get_or r 1 0 ≡ ty → ⊥) → nat_eq (get_or r 1 0) ty ≡ is_name ty r
unfolding is_name
other_type r ty other = rw (ne_eqb (get_or r 1 0) ty other)

pub returns-in_default : goal.returns-in_default
returns-in_default c = short c.args.octets.now c.args.ty c.in_default.len_below c.requires

pub returns-then-t-ty : goal.returns-then-t-ty
returns-then-t-ty c = of_type c.args.octets.now c.args.ty c.in-len2-up.len_at_least c.if-t-ty.true c.is_utf8.ensures

pub returns-else-t-ty : goal.returns-else-t-ty
returns-else-t-ty c = other_type c.args.octets.now c.args.ty c.if-t-ty.false
