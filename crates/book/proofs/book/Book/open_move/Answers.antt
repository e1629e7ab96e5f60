use Rattle.std.proofs.Common.{rules, ◌≡◌, length}
use Rattle.book_spec.specs.Moves.{no_move}
use Rattle.book_spec.specs.Book.{open_at}
use mathlib.Core.Path.{sym, ◌∙◌}
use native.Mathlib.Omega.{arith}
use Rattle.book.proofs.Seats.{place, at_place, length_mapped, past_moves}
use Rattle.book.proofs.book.Book.open_move.Goals as goal

-- `Book::open_move` meets its contract. Assumes nothing.
-- src/book.rt:240:22
pub overflow_sub-at : goal.overflow_sub-at
overflow_sub-at c =
    (place _ _ (sym c.is_filled.ensures ∙ c.if-is_filled.true)).some

-- src/book.rt:241:13
pub offset_bounds-self-at : goal.offset_bounds-self-at
offset_bounds-self-at c =
    omega (arith, (place _ _ (sym c.is_filled.ensures ∙ c.if-is_filled.true)).few)

-- src/book.rt:241:13
pub bounds-self-at : goal.bounds-self-at
bounds-self-at c =
    omega (arith, (place _ _ (sym c.is_filled.ensures ∙ c.if-is_filled.true)).some, (place _ _ (sym c.is_filled.ensures ∙ c.if-is_filled.true)).few)

-- src/book.rt:236:5
pub returns-then-is_filled : goal.returns-then-is_filled
unfolding open_at
returns-then-is_filled c =
    let a = c.args in
    let p = place _ _ (sym c.is_filled.ensures ∙ c.if-is_filled.true) in
    let long : length a.self.kept ≡ 64 = search (rules, length_mapped) in
    rw (← c.is_filled.ensures, c.if-is_filled.true) (at_place a.self.kept a.n past_moves no_move long p.some p.few)

-- src/book.rt:236:5
pub returns-else-is_filled : goal.returns-else-is_filled
unfolding open_at
returns-else-is_filled c = rw (← c.is_filled.ensures, c.if-is_filled.false) c.no_move.ensures
