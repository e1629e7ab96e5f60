use Rattle.std.proofs.Common.{rules, ◌≡◌, length}
use Rattle.std.specs.Prelude.{Some}
use Rattle.book_spec.specs.Book.{empty_address, read_seat_call}
use mathlib.Core.Path.{sym, ap, ◌∙◌}
use native.Mathlib.Omega.{arith}
use Rattle.book.proofs.Seats.{place, at_place, length_mapped, past_addresses}
use Rattle.book.proofs.book.Book.read_seat.Goals as goal

-- `Book::read_seat` meets its contract. Assumes nothing.
pub overflow_sub-at : goal.overflow_sub-at
overflow_sub-at c =
    (place _ _ (sym c.is_filled.ensures ∙ c.if-is_filled.true)).some

pub offset_bounds-self-at : goal.offset_bounds-self-at
offset_bounds-self-at c =
    omega (arith, (place _ _ (sym c.is_filled.ensures ∙ c.if-is_filled.true)).few)

pub bounds-self-at : goal.bounds-self-at
bounds-self-at c =
    omega (arith, (place _ _ (sym c.is_filled.ensures ∙ c.if-is_filled.true)).some, (place _ _ (sym c.is_filled.ensures ∙ c.if-is_filled.true)).few)

pub returns-then-is_filled : goal.returns-then-is_filled
unfolding read_seat_call
returns-then-is_filled c =
    let a = c.args in
    let p = place _ _ (sym c.is_filled.ensures ∙ c.if-is_filled.true) in
    let long : length a.self.addresses ≡ 64 = search (rules, length_mapped) in
    rw (← c.is_filled.ensures, c.if-is_filled.true) (ap Some (at_place a.self.addresses a.n past_addresses empty_address long p.some p.few))

pub returns-else-is_filled : goal.returns-else-is_filled
unfolding read_seat_call
returns-else-is_filled c = rw (← c.is_filled.ensures, c.if-is_filled.false)
