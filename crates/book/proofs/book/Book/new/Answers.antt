use Rattle.book_spec.specs.Book.{fresh_book}
use Rattle.book.proofs.Seats.{fresh_with}
use Rattle.book.proofs.book.Book.new.Goals as goal

-- src/book.rt:72:5
pub returns : goal.returns
unfolding fresh_book
returns c = λ i. fresh_with (c.no_address-nobody.ensures i) (c.no_move-nothing.ensures i) c.args.company
