-- A book and what its calls return, read as records of the specification: the contracts of src/book.rt say of each which record it is.
--   number_in p              == the number of the seat at a place, 0 where there is none
--   book_state b             == the book b, whose fields are private
--   seat_step r, book_step r  == what seating returns, and what a report and a close return
--   Whole                   == nothing is left out: what is read as the same is the same
--   AsItIs                  == what callers see is read as it is
use Rattle.std.specs.Prelude.{◌≡◌, ℕ, ◌+◌, Option, Some, None}
use Rattle.book_spec.specs.State as spec
use Rattle.book.specs.declared.book.Book.{Book}
use Rattle.book.specs.declared.book.SeatCalled.{SeatCalled}
use Rattle.book.specs.declared.book.BookCalled.{BookCalled}

abbrev pub number_in : Option ℕ → ℕ
number_in (Some place) = place + 1
number_in None = 0

abbrev pub book_state : Book → spec.Book
book_state b = record { company = b.company; turn = b.turn; filled = b.filled; addresses = b.addresses; kept = b.kept; closed = b.closed }

abbrev pub seat_step : SeatCalled → spec.SeatCalled
seat_step r = record { seat = r.seat; book = book_state r.book }

abbrev pub book_step : BookCalled → spec.BookCalled
book_step r = record { outcome = r.outcome; book = book_state r.book }

pub record Whole : Type 0 where
  pub book : (a b : Book) → book_state a ≡ book_state b → a ≡ b
  pub seat : (a b : SeatCalled) → seat_step a ≡ seat_step b → a ≡ b
  pub called : (a b : BookCalled) → book_step a ≡ book_step b → a ≡ b

pub record AsItIs : Type 0 where
  pub seat : (r : SeatCalled) → (seat_step r).seat ≡ r.seat
  pub seat_book : (r : SeatCalled) → (seat_step r).book ≡ book_state r.book
  pub outcome : (r : BookCalled) → (book_step r).outcome ≡ r.outcome
  pub book : (r : BookCalled) → (book_step r).book ≡ book_state r.book
