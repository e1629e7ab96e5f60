use Rattle.book_spec.specs.Moves.{no_move}
use mathlib.Core.Path.{refl}
use Rattle.book.proofs.moves.no_move.Goals as goal

-- src/moves.rt:17:1
pub returns : goal.returns
unfolding no_move
returns c = refl
