-- What each call of the book answers, and the book after it (document 02, Note 8). specs/TurnBook says it in the Note's words, of every list of calls.
--   empty_address                     == the address that a fresh book has at each place
--   fresh_book company                 == a book with no seat filled, turn 0 open and no moves
--   seats_of b                     == the addresses of the filled seats, seat 1 first
--   seat_number_from a k seats          == the number of the first of these that is the address a, k seats being passed; 0 where none is
--   seat_number a seats              == the same, none being passed
--   is_filled b n                  == seat n is filled
--   open_at, closed_at b n               == the open move of seat n, and its closed move; none where it is not filled
--   with_seat a b                  == the next seat filled with the address a, without moves
--   not_seated e b                 == what seating answers that is refused with e
--   seat_call a b                  == WHAT SEATING an address answers
--   with_open at m b               == the open move of the seat at place `at` replaced
--   kept_at n m b                  == seat n keeps a move, unless it has one
--   taken sender h b              == a move that was heard from a sender is kept, where its turn is the open one and the sender has a seat
--   heard_as a sender h b          == the same by the reading of the report's area
--   report_call sender area b      == WHAT A REPORT answers
--   next_turn b                    == the open moves are the closed ones, and the next turn is open without moves
--   close_call b                   == WHAT CLOSING answers
--   read_seat_call n b              == WHAT READING a seat answers: its address, none where it is not filled
use Rattle.std.specs.Prelude.{Bool, false, cond, List, [], ◌∷◌, ℕ, ◌+◌, ◌-◌, eqb, ltb, leb, get_or, set, take, replicate, Result, Ok, Err, Option, Some, None}
use Rattle.octets.specs.declared.error.Error.{Error}
use Rattle.octets.specs.declared.error.Error.TheVariants.{AlreadySeated, NoFreeSeat, LastTurn}
use Rattle.records_spec.specs.HubReading.{read_padded}
use Rattle.addresses.specs.Address.{address_of, same_address}
use Rattle.addresses.specs.declared.device_address.AddressKind.TheVariants.{Public}
use Rattle.addresses.specs.declared.device_address.DeviceAddress.{DeviceAddress}
use Rattle.book_spec.specs.Moves.{no_move, move_heard}
use Rattle.book_spec.specs.State.{Book, SeatCalled, BookCalled, HeardMove}
use Rattle.book_spec.specs.declared.Move.{Move}

unfoldable pub empty_address : DeviceAddress
empty_address = address_of (replicate 6 0) Public

-- "one open turn, which starts at 0"
unfoldable pub fresh_book : ℕ → Book
fresh_book company =
    record { company = company; turn = 0; filled = 0; addresses = replicate 64 empty_address; kept = replicate 64 no_move; closed = replicate 64 no_move }

-- Seats

abbrev pub seats_of : Book → List DeviceAddress
seats_of b = take b.filled b.addresses

unfoldable pub seat_number_from : DeviceAddress → ℕ → List DeviceAddress → ℕ
seat_number_from a k [] = 0
seat_number_from a k (x ∷ xs) = cond (same_address x a) (k + 1) (seat_number_from a (k + 1) xs)

abbrev pub seat_number : DeviceAddress → List DeviceAddress → ℕ
seat_number a seats = seat_number_from a 0 seats

-- "seats are numbered from 1", and there are 64
unfoldable pub is_filled : Book → ℕ → Bool
is_filled b n = cond (eqb n 0) false (cond (ltb 64 n) false (leb n b.filled))

unfoldable pub open_at : Book → ℕ → Move
open_at b n = cond (is_filled b n) (get_or b.kept (n - 1) no_move) no_move

unfoldable pub closed_at : Book → ℕ → Move
closed_at b n = cond (is_filled b n) (get_or b.closed (n - 1) no_move) no_move

unfoldable pub with_seat : DeviceAddress → Book → Book
with_seat a b =
    record {
      company = b.company;
      turn = b.turn;
      filled = b.filled + 1;
      addresses = set b.addresses b.filled a;
      kept = set b.kept b.filled no_move;
      closed = set b.closed b.filled no_move;
    }

abbrev pub not_seated : Error → Book → SeatCalled
not_seated e b = record { seat = Err e; book = b }

-- "13, address already seated; 14, no free seat; .. They are tested in this order."
unfoldable pub seat_call : DeviceAddress → Book → SeatCalled
seat_call a b =
    cond (eqb (seat_number a (seats_of b)) 0)
    (cond (leb 64 b.filled) (not_seated NoFreeSeat b) (record { seat = Ok (b.filled + 1); book = with_seat a b }))
    (not_seated AlreadySeated b)

-- Reports

unfoldable pub with_open : ℕ → Move → Book → Book
with_open at m b =
    record { company = b.company; turn = b.turn; filled = b.filled; addresses = b.addresses; kept = set b.kept at m; closed = b.closed }

-- "The first move heard from a seat for the open turn is kept; later ones change nothing."
unfoldable pub kept_at : ℕ → Move → Book → Book
kept_at n m b = cond (eqb n 0) b (cond (ltb 64 n) b (cond (eqb (get_or b.kept (n - 1) no_move).len 0) (with_open (n - 1) m b) b))

unfoldable pub taken : DeviceAddress → HeardMove → Book → Book
taken sender h b = cond h.found (cond (eqb h.turn b.turn) (kept_at (seat_number sender (seats_of b)) h.played b) b) b

-- "a record area, which is read, and refused where bad, as the hub reads"
unfoldable pub heard_as : Result (ℕ × ℕ) Error → DeviceAddress → HeardMove → Book → BookCalled
heard_as (Ok (n, size)) sender h b = record { outcome = (Ok tt); book = taken sender h b }
heard_as (Err e) sender h b = record { outcome = (Err e); book = b }

unfoldable pub report_call : DeviceAddress → List ℕ → Book → BookCalled
report_call sender area b = heard_as (read_padded area) sender (move_heard b.company area) b

-- Closing

-- "Closing keeps these moves as the closed turn, replacing the one before, and opens the next."
unfoldable pub next_turn : Book → Book
next_turn b =
    record { company = b.company; turn = b.turn + 1; filled = b.filled; addresses = b.addresses; kept = replicate 64 no_move; closed = b.kept }

-- "15, closing turn 65,535"
unfoldable pub close_call : Book → BookCalled
close_call b = cond (eqb b.turn 65535) (record { outcome = (Err LastTurn); book = b }) (record { outcome = (Ok tt); book = next_turn b })

-- Reading

unfoldable pub read_seat_call : ℕ → Book → Option DeviceAddress
read_seat_call n b = cond (is_filled b n) (Some (get_or b.addresses (n - 1) empty_address)) None
