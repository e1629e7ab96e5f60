-- Holds (Holding.holds): all laws of this crate, with what they assume.
use Rattle.std.specs.Prelude.{List, ℕ}
use Rattle.records_spec.specs.Search.{IsRead}
use Rattle.book_spec.specs.Examples.{Examples}
use Rattle.book_spec.specs.History.{BookCall, BookStanding}
use Rattle.book_spec.specs.Laws.{MoveTest, HearsMove, MoveMade, InOrder, ByContracts}
use Rattle.book_spec.specs.State.{Book}
use Rattle.book_spec.specs.TurnBook.{TurnBook, OneReply, StandsOn, SameTurn, KeepsSeats}

pub record Holds : Type 0 where
  -- THE THEOREM: of every company, every list of calls from a fresh book, and every call after it
  pub turn_book : (company : ℕ) (before : List BookCall) (c : BookCall) → TurnBook company before c
  pub one_reply : (company : ℕ) (before : List BookCall) (c : BookCall) → OneReply company before c
  pub stands_on : (st : BookStanding) → StandsOn st
  pub same_turn : (st : BookStanding) (calls : List BookCall) → SameTurn st calls
  pub keeps_seats : (before more : List BookCall) → KeepsSeats before more
  pub move_test : (company : ℕ) → MoveTest company
  pub hears_move : (company : ℕ) (s : List ℕ) → IsRead s → HearsMove company s
  pub move_made : (octets : List ℕ) → MoveMade octets
  pub in_order : (calls : List BookCall) (c : BookCall) → InOrder calls c
  pub by_contracts : (b : Book) → ByContracts b
  pub examples : Examples
