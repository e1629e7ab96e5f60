-- Worked histories, by computation.
--   ada_random, bo_random, ada_public           == addresses; the last has Ada's octets and the other kind
--   move_row company turn octets  == the record of a move, the high octets of company and turn being 0
--   replies_from b calls          == the replies to the calls, one after the other
--   one octet, nothing           == a move of one octet read, and none
--   after_report sender area     == the reply to a report in turn 0 of a book of company 0x59 with Ada in seat 1, and Ada's open move then
--   seats_down k                  == calls that seat k addresses, Ada's being the last but one
--   late_book                     == a book of company 0x59 with turn 65,534 open
--   Examples                     (Examples.examples)
use Rattle.std.specs.Prelude.{◌≡◌, List, [], ◌∷◌, ◌++◌, ℕ, zero, suc, ◌+◌, length, replicate, Ok, Err, Some, None}
use Rattle.octets.specs.declared.error.Error.TheVariants.{Eof, InvalidLength, AlreadySeated, NoFreeSeat, LastTurn}
use Rattle.addresses.specs.Address.{address_of}
use Rattle.addresses.specs.declared.device_address.AddressKind.TheVariants.{Public, Random}
use Rattle.addresses.specs.declared.device_address.DeviceAddress.{DeviceAddress}
use Rattle.book_spec.specs.Book.{fresh_book}
use Rattle.book_spec.specs.History.{BookCall, seat, report, close, read_seat, read_open, read_closed, read_turn, read_company, BookReply, seated, called, seat_is, move_is, number_is, next_book, reply_of, book_after}
use Rattle.book_spec.specs.State.{Book}

abbrev pub ada_random : DeviceAddress
ada_random = address_of (1 ∷ 2 ∷ 3 ∷ 4 ∷ 5 ∷ 0xC6 ∷ []) Random

abbrev pub ada_public : DeviceAddress
ada_public = address_of (1 ∷ 2 ∷ 3 ∷ 4 ∷ 5 ∷ 0xC6 ∷ []) Public

abbrev pub bo_random : DeviceAddress
bo_random = address_of (9 ∷ 8 ∷ 7 ∷ 6 ∷ 5 ∷ 0xC4 ∷ []) Random

-- company and turn below 256
abbrev pub move_row : ℕ → ℕ → List ℕ → List ℕ
move_row company turn octets = (length octets + 5) ∷ 0xFF ∷ company ∷ 0 ∷ turn ∷ 0 ∷ octets

abbrev pub replies_from : Book → List BookCall → List BookReply
replies_from b [] = []
replies_from b (c ∷ cs) = reply_of b c ∷ replies_from (next_book b c) cs

-- a move of one octet, and no move
abbrev pub one : ℕ → BookReply
one octet = move_is (record { len = 1; octets = octet ∷ replicate 19 0 })

abbrev pub nothing : BookReply
nothing = move_is (record { len = 0; octets = replicate 20 0 })

-- the open move of Ada, in seat 1 of a book of company 0x59 with turn 0 open, after one report
abbrev pub after_report : DeviceAddress → List ℕ → List BookReply
after_report sender area = replies_from (book_after (fresh_book 0x59) (seat ada_random ∷ [])) (report sender area ∷ read_open 1 ∷ [])

abbrev pub seats_down : ℕ → List BookCall
seats_down zero = []
seats_down (suc k) = seat (address_of (k ∷ 2 ∷ 3 ∷ 4 ∷ 5 ∷ 0xC6 ∷ []) Random) ∷ seats_down k

abbrev pub late_book : Book
late_book =
    record { company = 0x59; turn = 65534; filled = 0; addresses = (fresh_book 0x59).addresses; kept = (fresh_book 0x59).kept; closed = (fresh_book 0x59).closed }

pub record Examples : Type 0 where
  -- a seat, a move of another turn, two moves of the open turn; a second seat, filled after its first move; a close, a move of the new turn, another close
  pub history :
      replies_from
      (fresh_book 0x59)
      (seat ada_random
      ∷ report ada_random (move_row 0x59 1 (6 ∷ []))
      ∷ read_open 1
      ∷ report ada_random (move_row 0x59 0 (7 ∷ []))
      ∷ report ada_random (move_row 0x59 0 (8 ∷ []))
      ∷ report bo_random (move_row 0x59 0 (4 ∷ []))
      ∷ seat bo_random
      ∷ read_open 1
      ∷ read_open 2
      ∷ report bo_random (move_row 0x59 0 (5 ∷ []))
      ∷ close
      ∷ read_turn
      ∷ read_open 1
      ∷ read_closed 1
      ∷ read_closed 2
      ∷ report ada_random (move_row 0x59 1 (9 ∷ []))
      ∷ read_open 1
      ∷ read_closed 1
      ∷ close
      ∷ read_closed 1
      ∷ read_closed 2
      ∷ read_company
      ∷ [])
      ≡ seated (Ok 1)
      ∷ called (Ok tt)
      ∷ nothing
      ∷ called (Ok tt)
      ∷ called (Ok tt)
      ∷ called (Ok tt)
      ∷ seated (Ok 2)
      ∷ one 7
      ∷ nothing
      ∷ called (Ok tt)
      ∷ called (Ok tt)
      ∷ number_is 1
      ∷ nothing
      ∷ one 7
      ∷ one 5
      ∷ called (Ok tt)
      ∷ one 9
      ∷ one 7
      ∷ called (Ok tt)
      ∷ one 9
      ∷ nothing
      ∷ number_is 0x59
      ∷ []
  -- 4, 5, 24 and 25 octets of data
  pub four : after_report ada_random (move_row 0x59 0 []) ≡ called (Ok tt) ∷ nothing ∷ []
  pub five : after_report ada_random (move_row 0x59 0 (7 ∷ [])) ≡ called (Ok tt) ∷ one 7 ∷ []
  pub twenty_four : after_report ada_random (move_row 0x59 0 (replicate 20 7)) ≡ called (Ok tt) ∷ move_is (record { len = 20; octets = replicate 20 7 }) ∷ []
  pub twenty_five : after_report ada_random (move_row 0x59 0 (replicate 21 7)) ≡ called (Ok tt) ∷ nothing ∷ []
  -- a record that is too short or too long for a move is passed over
  pub passed_over : after_report ada_random (move_row 0x59 0 [] ++ move_row 0x59 0 (7 ∷ [])) ≡ called (Ok tt) ∷ one 7 ∷ []
  -- the high octets of company and turn; another type
  pub high_company : after_report ada_random (6 ∷ 0xFF ∷ 0x59 ∷ 1 ∷ 0 ∷ 0 ∷ 7 ∷ []) ≡ called (Ok tt) ∷ nothing ∷ []
  pub high_turn : after_report ada_random (6 ∷ 0xFF ∷ 0x59 ∷ 0 ∷ 0 ∷ 1 ∷ 7 ∷ []) ≡ called (Ok tt) ∷ nothing ∷ []
  pub another_type : after_report ada_random (6 ∷ 0xFE ∷ 0x59 ∷ 0 ∷ 0 ∷ 0 ∷ 7 ∷ []) ≡ called (Ok tt) ∷ nothing ∷ []
  -- another company first; another turn first; two moves
  pub company_first : after_report ada_random (move_row 0x58 0 (6 ∷ []) ++ move_row 0x59 0 (7 ∷ [])) ≡ called (Ok tt) ∷ one 7 ∷ []
  pub turn_first : after_report ada_random (move_row 0x59 1 (6 ∷ []) ++ move_row 0x59 0 (7 ∷ [])) ≡ called (Ok tt) ∷ nothing ∷ []
  pub two_moves : after_report ada_random (move_row 0x59 0 (7 ∷ []) ++ move_row 0x59 0 (8 ∷ [])) ≡ called (Ok tt) ∷ one 7 ∷ []
  -- padding after the move, and a move after padding, which is refused; an area that ends within its record
  pub padding : after_report ada_random (move_row 0x59 0 (7 ∷ []) ++ (0 ∷ 0 ∷ [])) ≡ called (Ok tt) ∷ one 7 ∷ []
  pub after_padding : after_report ada_random (0 ∷ move_row 0x59 0 (7 ∷ [])) ≡ called (Err InvalidLength) ∷ nothing ∷ []
  pub bad_after_move : after_report ada_random (move_row 0x59 0 (7 ∷ []) ++ (3 ∷ 9 ∷ [])) ≡ called (Err Eof) ∷ nothing ∷ []
  -- a sender unknown, with a good area and with a bad one; the same octets with the other kind
  pub unknown : after_report bo_random (move_row 0x59 0 (7 ∷ [])) ≡ called (Ok tt) ∷ nothing ∷ []
  pub unknown_bad : after_report bo_random (3 ∷ 9 ∷ []) ≡ called (Err Eof) ∷ nothing ∷ []
  pub other_kind : after_report ada_public (move_row 0x59 0 (7 ∷ [])) ≡ called (Ok tt) ∷ nothing ∷ []
  -- seats: one address twice, and with the other kind; seats that are not filled
  pub seats :
      replies_from (fresh_book 0x59) (seat ada_random ∷ seat ada_random ∷ seat ada_public ∷ read_seat 0 ∷ read_seat 1 ∷ read_seat 2 ∷ read_seat 3 ∷ read_seat 257 ∷ [])
      ≡ seated (Ok 1)
      ∷ seated (Err AlreadySeated)
      ∷ seated (Ok 2)
      ∷ seat_is None
      ∷ seat_is (Some ada_random)
      ∷ seat_is (Some ada_public)
      ∷ seat_is None
      ∷ seat_is None
      ∷ []
  -- with 64 seats filled, an address that is seated and one that is not
  pub full_book :
      replies_from (book_after (fresh_book 0x59) (seats_down 64)) (seat ada_random ∷ seat bo_random ∷ read_seat 63 ∷ read_seat 65 ∷ [])
      ≡ seated (Err AlreadySeated)
      ∷ seated (Err NoFreeSeat)
      ∷ seat_is (Some ada_random)
      ∷ seat_is None
      ∷ []
  -- a fresh book has a public address of six zeros at each place
  pub places : (fresh_book 0x59).addresses ≡ replicate 64 (record { bytes = 0 ∷ 0 ∷ 0 ∷ 0 ∷ 0 ∷ 0 ∷ []; kind = Public })
  -- the last turn is not closed
  pub last_turn : replies_from late_book (close ∷ close ∷ read_turn ∷ []) ≡ called (Ok tt) ∷ called (Err LastTurn) ∷ number_is 65535 ∷ []
