-- All laws of this crate. Assumes nothing.
use Rattle.book_spec.specs.Holds.{Holds}
use Rattle.book_spec.proofs.Examples.{examples}
use Rattle.book_spec.proofs.Moves.{move_test, hears_move, move_made}
use Rattle.book_spec.proofs.OneReplies.{one_reply}
use Rattle.book_spec.proofs.Opened.{stands_on, same_turn, keeps_seats}
use Rattle.book_spec.proofs.Ordered.{in_order, by_contracts}
use Rattle.book_spec.proofs.TurnBook.{turn_book}

pub holds : Holds
holds = record {
  turn_book = turn_book;
  one_reply = one_reply;
  stands_on = stands_on;
  same_turn = same_turn;
  keeps_seats = keeps_seats;
  move_test = move_test;
  hears_move = hears_move;
  move_made = move_made;
  in_order = in_order;
  by_contracts = by_contracts;
  examples = examples;
}
