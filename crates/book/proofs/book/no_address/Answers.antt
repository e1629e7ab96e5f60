use Rattle.book_spec.specs.Book.{empty_address}
use Rattle.book.proofs.book.no_address.Goals as goal

-- src/book.rt:45:1
pub returns : goal.returns
unfolding empty_address
returns c = c.new.ensures
