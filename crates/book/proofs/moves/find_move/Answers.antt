use Rattle.book_spec.specs.Moves.{move_in}
use Rattle.book.proofs.moves.find_move.Goals as goal

pub returns : goal.returns
unfolding move_in
returns c = c.find_record.ensures
