-- Reading a book and what its calls return as records leaves nothing out (`whole`) and changes nothing that callers see (`as_it_is`). Assumes nothing.
use mathlib.Core.Path.{refl, ap}
use Rattle.book_spec.specs.State as spec
use Rattle.book.specs.State.{Whole, AsItIs}
use Rattle.book.specs.declared.book.Book.{Book}
use Rattle.book.specs.declared.book.SeatCalled.{SeatCalled}
use Rattle.book.specs.declared.book.BookCalled.{BookCalled}

-- what is read as a record, from that record
abbrev book_of : spec.Book → Book
book_of b = record { company = b.company; turn = b.turn; filled = b.filled; addresses = b.addresses; kept = b.kept; closed = b.closed }

abbrev seat_of : spec.SeatCalled → SeatCalled
seat_of r = record { seat = r.seat; book = book_of r.book }

abbrev called_of : spec.BookCalled → BookCalled
called_of r = record { outcome = r.outcome; book = book_of r.book }

pub whole : Whole
whole = record { book = λ a b e. ap book_of e; seat = λ a b e. ap seat_of e; called = λ a b e. ap called_of e }

pub as_it_is : AsItIs
as_it_is = record { seat = λ r. refl; seat_book = λ r. refl; outcome = λ r. refl; book = λ r. refl }
