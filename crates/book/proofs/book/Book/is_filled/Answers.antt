use Rattle.std.proofs.Common.{rules, ◌≡◌, ◌<◌, ◌≤◌, ◌⊎◌, ℕ, inl, inr, false, ◌∙◌, arith}
use borrow.Author.Tests.{tests, eq-eqb, ne_eqb, lt-ltb, le-ltb}
use lib.Dec.{leb}
use Rattle.book_spec.specs.Book.{is_filled}
use Rattle.book_spec.specs.State.{Book}
use Rattle.book.specs.State.{book_state}
use Rattle.book.proofs.book.Book.is_filled.Goals as goal

within : (b : Book) (n : ℕ) → (1 ≤ n) × (n ≤ 64) → leb n b.filled ≡ is_filled b n
unfolding is_filled
within b n (some, few) = rw (ne_eqb n 0 (omega arith), le-ltb 64 n few)

outside : (b : Book) (n : ℕ) → (n < 1) ⊎ (64 < n) → false ≡ is_filled b n
unfolding is_filled
outside b n (inl none) = rw (eq-eqb n 0 (omega arith))
outside b n (inr many) = rw (ne_eqb n 0 (omega arith), lt-ltb 64 n many)

pub returns-then-contains : goal.returns-then-contains
returns-then-contains c = within (book_state c.args.self) c.args.n (search (rules, tests))

pub returns-else-contains : goal.returns-else-contains
returns-else-contains c = c.if-contains.false ∙ outside (book_state c.args.self) c.args.n (search (rules, tests))
