-- Lists of calls on a book: what the list alone says, and what the calls give.
--   BookCall            == a call with all its arguments but the book
--   BookReply               == what a call returns besides the book
--   next_book b c, reply_of b c   == the book after a call, and its reply
--   book_after b calls   == the book after all of them
--   BookStanding            == what the list says of the calls so far: the open turn, and the addresses that were seated, in order
--   first_standing       == before any call
--   standing_on st c     == the standing after the call; standing_all: after calls
--   standing calls      == the standing after the calls from a fresh book
--   BookEntry               == a call of the list and the standing before it
--   entries_from st calls, entries calls  == each call so, from a standing on, and from a fresh book
use Rattle.std.specs.Prelude.{cond, ◌||◌, not, List, [], ◌∷◌, ◌++◌, ℕ, ◌+◌, eqb, leb, length, Result, Option}
use Rattle.addresses.specs.declared.device_address.DeviceAddress.{DeviceAddress}
use Rattle.book_spec.specs.Book.{seat_number, seat_call, report_call, close_call, read_seat_call, open_at, closed_at}
use Rattle.book_spec.specs.State.{Book}
use Rattle.book_spec.specs.declared.Move.{Move}
use Rattle.octets.specs.declared.error.Error.{Error}

pub data BookCall : Type 0 where
  seat : (address : DeviceAddress) → BookCall
  report : (sender : DeviceAddress) (area : List ℕ) → BookCall
  close : BookCall
  read_seat : (n : ℕ) → BookCall
  read_open : (n : ℕ) → BookCall
  read_closed : (n : ℕ) → BookCall
  read_turn : BookCall
  read_company : BookCall

pub data BookReply : Type 0 where
  seated : (seat : Result ℕ Error) → BookReply
  called : (outcome : Result (Unit {0}) Error) → BookReply
  seat_is : (address : Option DeviceAddress) → BookReply
  move_is : (played : Move) → BookReply
  number_is : (n : ℕ) → BookReply

-- What the calls give

abbrev pub next_book : Book → BookCall → Book
next_book b (seat a) = (seat_call a b).book
next_book b (report sender area) = (report_call sender area b).book
next_book b close = (close_call b).book
next_book b (read_seat n) = b
next_book b (read_open n) = b
next_book b (read_closed n) = b
next_book b read_turn = b
next_book b read_company = b

abbrev pub reply_of : Book → BookCall → BookReply
reply_of b (seat a) = seated (seat_call a b).seat
reply_of b (report sender area) = called (report_call sender area b).outcome
reply_of b close = called (close_call b).outcome
reply_of b (read_seat n) = seat_is (read_seat_call n b)
reply_of b (read_open n) = move_is (open_at b n)
reply_of b (read_closed n) = move_is (closed_at b n)
reply_of b read_turn = number_is b.turn
reply_of b read_company = number_is b.company

abbrev pub book_after : Book → List BookCall → Book
book_after b [] = b
book_after b (c ∷ cs) = book_after (next_book b c) cs

-- What the list alone says

pub record BookStanding : Type 0 where
  pub turn : ℕ
  pub seats : List DeviceAddress

abbrev pub first_standing : BookStanding
first_standing = record { turn = 0; seats = [] }

-- an address is seated that has no seat yet, as long as one of 64 is free; each close but that of turn 65,535 opens the next turn
unfoldable pub standing_on : BookStanding → BookCall → BookStanding
standing_on st (seat a) =
    cond (not (eqb (seat_number a st.seats) 0) || leb 64 (length st.seats)) st (record { turn = st.turn; seats = st.seats ++ (a ∷ []) })
standing_on st (report sender area) = st
standing_on st close = cond (eqb st.turn 65535) st (record { turn = st.turn + 1; seats = st.seats })
standing_on st (read_seat n) = st
standing_on st (read_open n) = st
standing_on st (read_closed n) = st
standing_on st read_turn = st
standing_on st read_company = st

abbrev pub standing_all : BookStanding → List BookCall → BookStanding
standing_all st [] = st
standing_all st (c ∷ cs) = standing_all (standing_on st c) cs

abbrev pub standing : List BookCall → BookStanding
standing calls = standing_all first_standing calls

pub record BookEntry : Type 0 where
  pub before : BookStanding
  pub call : BookCall

abbrev pub entries_from : BookStanding → List BookCall → List BookEntry
entries_from st [] = []
entries_from st (c ∷ cs) = record { before = st; call = c } ∷ entries_from (standing_on st c) cs

abbrev pub entries : List BookCall → List BookEntry
entries calls = entries_from first_standing calls
