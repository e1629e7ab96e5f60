use Rattle.std.proofs.Common.{rules, ◌≡◌, ◌<◌, ◌≤◌, ◌⊎◌, ℕ, inl, inr, true, false, List, [], ◌∷◌, length, get_or, sym, ap, ◌∙◌, nat_eq, arith}
use borrow.Author.Tests.{tests, le-leb, lt-leb}
use Rattle.octets.specs.Bytes.{le}
use Rattle.records_spec.specs.Types.{manufacturer_type}
use Rattle.book_spec.specs.Moves.{is_move}
use Rattle.book.proofs.moves.is_move.Goals as goal
use Rattle.book.proofs.moves.is_move.Goals.{then-contains, else-contains}

another_length : (r : List ℕ) (company : ℕ) → (length r < 7) ⊎ (26 < length r) → false ≡ is_move company r
unfolding is_move
another_length r company (inl few) = rw (lt-leb 7 (length r) few)
another_length r company (inr many) = rw (le-leb 7 (length r) (omega arith), lt-leb (length r) 26 many)

another_type : (r : List ℕ) (company : ℕ) → (7 ≤ length r) × (length r ≤ 26) → nat_eq (get_or r 1 0) manufacturer_type ≡ false → false ≡ is_move company r
unfolding is_move
another_type r company (some, few) other = rw (le-leb 7 (length r) some, le-leb (length r) 26 few, other)

by_company : (r : List ℕ) (company : ℕ) {n : ℕ} → (7 ≤ length r) × (length r ≤ 26) → nat_eq (get_or r 1 0) manufacturer_type ≡ true → n ≡ le (get_or r 2 0 ∷ get_or r 3 0 ∷ []) → nat_eq n company ≡ is_move company r
unfolding is_move
by_company r company (some, few) type is = rw (le-leb 7 (length r) some, le-leb (length r) 26 few, type) (ap (λ (n : ℕ). nat_eq n company) is)

pub returns-then-octets : goal.returns-then-octets
returns-then-octets c =
    elim c.if-contains.branch [
      | then-contains w ↦ by_company c.args.octets.now c.args.company (search (rules, tests)) (sym w.value-is ∙ c.if-octets.true) c.u16_from_le_bytes.ensures
      | else-contains w ↦ absurd (let z : ◌≡◌ {A = ℕ} 0 1 = cc (c.if-octets.true, w.value-is, w.if-contains.false) in omega arith)
    ]

pub returns-else-octets : goal.returns-else-octets
returns-else-octets c =
    elim c.if-contains.branch [
      | then-contains w ↦ c.if-octets.false ∙ another_type c.args.octets.now c.args.company (search (rules, tests)) (sym w.value-is ∙ c.if-octets.false)
      | else-contains w ↦ c.if-octets.false ∙ another_length c.args.octets.now c.args.company (search (rules, tests))
    ]
