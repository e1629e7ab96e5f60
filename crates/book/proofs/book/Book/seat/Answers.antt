use Rattle.std.proofs.Common.{◌≡◌, ◌+◌, ℕ, true, false, arith}
use Rattle.std.specs.Prelude.{Option, Some, None, Ok}
use Rattle.std.specs.Option.{is_some}
use Rattle.book_spec.specs.Book.{seat_number, seat_call, seats_of, with_seat}
use Rattle.book.specs.State.{number_in, book_state}
use mathlib.Core.Path.{refl, sym, ap, ◌∙◌}
use borrow.Author.Tests.{eq-eqb, ne_eqb, le-leb, lt-leb}
use Rattle.book_spec.specs.declared.Move.{Move}
use Rattle.book.proofs.Seats.{seat_with}
use Rattle.book.proofs.book.Book.seat.Goals as goal

some : (o : Option ℕ) → is_some o ≡ true → number_in o ≡ 0 → ⊥
some None is zero = let z : ◌≡◌ {A = ℕ} 0 1 = cc in omega arith
some (Some at) is zero = omega (arith, zero)

none : (o : Option ℕ) → is_some o ≡ false → number_in o ≡ 0
none None is = refl
none (Some at) is = absurd (let z : ◌≡◌ {A = ℕ} 0 1 = cc in omega arith)

pub returns-then-is_some : goal.returns-then-is_some
unfolding seat_call
returns-then-is_some c =
    let a = c.args in
    rw (ne_eqb (seat_number a.address (seats_of (book_state a.self))) 0 (λ e. some _ (sym c.if-is_some.ensures) (c.place_of.ensures.number ∙ e)))

pub returns-then-at-ge-SEATS : goal.returns-then-at-ge-SEATS
unfolding seat_call
returns-then-at-ge-SEATS c =
    let a = c.args in
    rw (eq-eqb (seat_number a.address (seats_of (book_state a.self))) 0 (sym c.place_of.ensures.number ∙ none _ (sym c.if-is_some.ensures)), le-leb 64 a.self.filled c.if-at-ge-SEATS.true)

pub returns : goal.returns
unfolding seat_call with_seat
returns c =
    let a = c.args in
    rw (eq-eqb (seat_number a.address (seats_of (book_state a.self))) 0 (sym c.place_of.ensures.number ∙ none _ (sym c.if-is_some.ensures)), lt-leb 64 a.self.filled c.if-at-ge-SEATS.false)
    (ap (λ (m : Move). record { seat = Ok (a.self.filled + 1); book = seat_with m a.address (book_state a.self) }) c.no_move-nothing.ensures)
