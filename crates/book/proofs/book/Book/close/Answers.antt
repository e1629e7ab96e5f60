use Rattle.book_spec.specs.Book.{close_call, next_turn}
use Rattle.book.specs.State.{book_state}
use mathlib.Core.Path.{ap}
use borrow.Author.Tests.{eq-eqb, ne_eqb}
use Rattle.book_spec.specs.declared.Move.{Move}
use Rattle.book.proofs.Seats.{next_with}
use Rattle.book.proofs.book.Book.close.Goals as goal
use Rattle.std.specs.Prelude.{Ok}

-- src/book.rt:197:13
pub returns-then-turn : goal.returns-then-turn
unfolding close_call
returns-then-turn c = rw (eq-eqb _ _ c.if-turn.true)

-- src/book.rt:192:5
pub returns : goal.returns
unfolding close_call next_turn
returns c =
    let b = book_state c.args.self in
    rw (ne_eqb b.turn 65535 c.if-turn.false) (ap (λ (m : Move). record { outcome = (Ok tt); book = next_with m b }) c.no_move-nothing.ensures)
