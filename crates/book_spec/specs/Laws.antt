-- The definitions of specs/Moves and specs/History in other words; those of specs/Book are said by specs/TurnBook, of every list of calls.
--   MoveTest company       (Moves.move_test)    `is_move` passes exactly the move records of the company
--   HearsMove company s    (Moves.hears_move)   in an area that is read, the move that is heard is that of its first move record of the company
--   MoveMade octets        (Moves.move_made)    a move is its octets and their number
--   InOrder calls c        (Ordered.in_order)   the standing, the entries and the book of a list with one call more, by those of the list; and of no call
--   ByContracts b          (Ordered.by_contracts)   the book after a call and its reply, in the words of the contracts of `book`
use Rattle.std.specs.Prelude.{◌≡◌, true, false, List, [], ◌∷◌, ◌++◌, ℕ, ◌+◌, ◌*◌, ◌-◌, ◌≤◌, length, get_or}
use Rattle.octets.specs.Bytes.{part}
use Rattle.records_spec.specs.Search.{First, Nowhere, Decides}
use Rattle.addresses.specs.declared.device_address.DeviceAddress.{DeviceAddress}
use Rattle.book_spec.specs.Book.{seat_call, report_call, close_call, read_seat_call, open_at, closed_at}
use Rattle.book_spec.specs.History.{BookCall, seat, report, close, read_seat, read_open, read_closed, read_turn, read_company, seated, called, seat_is, move_is, number_is, next_book, reply_of, book_after, standing_on, standing, entries}
use Rattle.book_spec.specs.State.{Book}
use Rattle.book_spec.specs.Moves.{move_of, is_move, move_heard}
use Rattle.book_spec.specs.TurnBook.{MoveRecord, IsMoveOf}

abbrev pub MoveTest : ℕ → Type 0
MoveTest company = Decides (is_move company) (MoveRecord company)

pub record HearsMove (company : ℕ) (s : List ℕ) : Type 0 where
  pub turn : (start len : ℕ) → First (MoveRecord company) s start len → (move_heard company s).turn ≡ get_or s (start + 2) 0 + 256 * get_or s (start + 3) 0
  pub played : (start len : ℕ) → First (MoveRecord company) s start len → IsMoveOf (move_heard company s).played (part (len - 4) s (start + 4))
  pub found : (start len : ℕ) → First (MoveRecord company) s start len → (move_heard company s).found ≡ true
  pub none : Nowhere (MoveRecord company) s → (move_heard company s).found ≡ false

abbrev pub MoveMade : List ℕ → Type 0
MoveMade octets = 1 ≤ length octets → length octets ≤ 20 → IsMoveOf (move_of octets) octets

pub record InOrder (calls : List BookCall) (c : BookCall) : Type 0 where
  pub at_first : standing [] ≡ record { turn = 0; seats = [] }
  pub stands : standing (calls ++ (c ∷ [])) ≡ standing_on (standing calls) c
  pub no_entries : entries [] ≡ []
  pub one_entry : entries (calls ++ (c ∷ [])) ≡ entries calls ++ (record { before = standing calls; call = c } ∷ [])
  pub no_calls : (b : Book) → book_after b [] ≡ b
  pub one_call : (b : Book) → book_after b (calls ++ (c ∷ [])) ≡ next_book (book_after b calls) c

-- a contract of `book` equates what a function answers with the right-hand side
pub record ByContracts (b : Book) : Type 0 where
  pub seats : (a : DeviceAddress) → next_book b (seat a) ≡ (seat_call a b).book
  pub seated_so : (a : DeviceAddress) → reply_of b (seat a) ≡ seated (seat_call a b).seat
  pub hears : (sender : DeviceAddress) (area : List ℕ) → next_book b (report sender area) ≡ (report_call sender area b).book
  pub heard_so : (sender : DeviceAddress) (area : List ℕ) → reply_of b (report sender area) ≡ called (report_call sender area b).outcome
  pub closes : next_book b close ≡ (close_call b).book
  pub closed_so : reply_of b close ≡ called (close_call b).outcome
  pub seat_read : (n : ℕ) → next_book b (read_seat n) ≡ b
  pub seat_reply : (n : ℕ) → reply_of b (read_seat n) ≡ seat_is (read_seat_call n b)
  pub open_read : (n : ℕ) → next_book b (read_open n) ≡ b
  pub open_reply : (n : ℕ) → reply_of b (read_open n) ≡ move_is (open_at b n)
  pub closed_read : (n : ℕ) → next_book b (read_closed n) ≡ b
  pub closed_reply : (n : ℕ) → reply_of b (read_closed n) ≡ move_is (closed_at b n)
  pub turn_read : next_book b read_turn ≡ b
  pub turn_reply : reply_of b read_turn ≡ number_is b.turn
  pub company_read : next_book b read_company ≡ b
  pub company_reply : reply_of b read_company ≡ number_is b.company
