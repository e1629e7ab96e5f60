-- The turn book in the words of document 02's Note 8, of every list of calls from a fresh book. What a call answers is said by the calls before it, and nothing
-- here asks the book. `next_book` and `reply_of` are the words of the contracts of `book` (`ByContracts`, specs/Laws).
--   MoveRecord company ty octets == a move of the company by its type and the octets of its data: FF, 5 to 24 of them, the company's 16 bits low octet first
--   SeatIs n a seats            == a is the n-th of the addresses that were seated
--   IsSeated a seats            == a is among them
--   IsMoveOf m octets           == m is the move of these octets: 1 to 20 of them, their number, and zeros after them
--   Qualifies company n t e m   == the entry e is a report that qualifies for seat n in turn t, and m is its move
--   Unheard P es                == no entry of es qualifies, with any move
--   Earliest P es m             == m is the move of the earliest entry of es that qualifies
--   KeptIs P es m               == so it is, or none qualifies and m is no move
--   Replies company before c r  == r is the reply to the call c after the calls `before`
--   IsRefused r                 == the reply r is a refusal
--   TurnBook company before c   (TurnBook.turn_book)  the book replies so, to every call after every list, and a refused call leaves the book as it was
--   OneReply company before c   (OneReplies.one_reply)  `Replies` admits one reply only
--   StandsOn st                 (Opened.stands_on)    what each call makes of the standing, in words
--   closes st c                 == the call closes a turn
--   Open st calls               == no call of the list closes a turn
--   SameTurn st calls           (Opened.same_turn)    the open turn is the same before and after calls exactly where none of them closes one
--   KeepsSeats before more       (Opened.keeps_seats)  seats are never emptied, and no address has two
use Rattle.std.specs.Prelude.{◌≡◌, ◌⊎◌, Bool, false, not, List, [], ◌∷◌, ◌++◌, ℕ, ◌+◌, ◌*◌, ◌-◌, ◌<◌, ◌≤◌, eqb, length, get_or, replicate, Ok, Err, Some, None}
use Rattle.octets.specs.Bytes.{part}
use Rattle.octets.specs.Lists.{All}
use Rattle.octets.specs.declared.error.Error.{Error}
use Rattle.octets.specs.declared.error.Error.TheVariants.{AlreadySeated, NoFreeSeat, LastTurn}
use Rattle.records_spec.specs.HubReading.{read_padded}
use Rattle.records_spec.specs.Search.{IsRead, First}
use Rattle.addresses.specs.declared.device_address.DeviceAddress.{DeviceAddress}
use Rattle.book_spec.specs.Book.{fresh_book}
use Rattle.book_spec.specs.History.{BookCall, seat, report, close, read_seat, read_open, read_closed, read_turn, read_company, BookReply, seated, called, seat_is, move_is, number_is, next_book, reply_of, book_after, BookStanding, standing_on, standing_all, standing, BookEntry, entries}
use Rattle.book_spec.specs.declared.Move.{Move}

-- "a record of type FF whose data is the company number, the turn (16 bits each, low octet first) and 1 to 20 move octets"
pub record MoveRecord (company ty : ℕ) (octets : List ℕ) : Type 0 where
  pub type : ty ≡ 0xFF
  pub some : 5 ≤ length octets
  pub few : length octets ≤ 24
  pub number : get_or octets 0 0 + 256 * get_or octets 1 0 ≡ company

-- "seats are numbered from 1 as they are filled"
pub record SeatIs (n : ℕ) (a : DeviceAddress) (seats : List DeviceAddress) : Type 0 where
  pub earlier : List DeviceAddress
  pub later : List DeviceAddress
  pub tile : seats ≡ earlier ++ (a ∷ later)
  pub counted : n ≡ length earlier + 1

pub record IsSeated (a : DeviceAddress) (seats : List DeviceAddress) : Type 0 where
  pub number : ℕ
  pub seat : SeatIs number a seats

pub record IsMoveOf (m : Move) (octets : List ℕ) : Type 0 where
  pub some : 1 ≤ length octets
  pub few : length octets ≤ 20
  pub number : m.len ≡ length octets
  pub octets_are : m.octets ≡ octets ++ replicate (20 - length octets) 0

-- an accepted report from the seat's address, kind included, while turn t was open and the seat was filled, whose first move record of the company has that turn
pub record Qualifies (company n t : ℕ) (e : BookEntry) (m : Move) : Type 0 where
  pub sender : DeviceAddress
  pub area : List ℕ
  pub is_report_law : e.call ≡ report sender area
  pub read : IsRead area
  pub from_seat : SeatIs n sender e.before.seats
  pub open_then : e.before.turn ≡ t
  pub start : ℕ
  pub len : ℕ
  pub first : First (MoveRecord company) area start len
  pub its_turn : get_or area (start + 2) 0 + 256 * get_or area (start + 3) 0 ≡ t
  pub its_move : IsMoveOf m (part (len - 4) area (start + 4))

abbrev pub Unheard : (BookEntry → Move → Type 0) → List BookEntry → Type 0
Unheard P es = All (λ (e : BookEntry). (m : Move) → P e m → ⊥) es

pub record Earliest (P : BookEntry → Move → Type 0) (es : List BookEntry) (m : Move) : Type 0 where
  pub earlier : List BookEntry
  pub entry : BookEntry
  pub later : List BookEntry
  pub tile : es ≡ earlier ++ (entry ∷ later)
  pub unheard : Unheard P earlier
  pub qualifies : P entry m

-- "the kept move must be that of the earliest qualifying report .., and a seat has none exactly when there is no such report"
pub data KeptIs (P : BookEntry → Move → Type 0) (es : List BookEntry) : Move → Type 0 where
  kept : (m : Move) → Earliest P es m → KeptIs P es m
  none : Unheard P es → KeptIs P es (record { len = 0; octets = replicate 20 0 })

pub data Replies (company : ℕ) (before : List BookCall) : BookCall → BookReply → Type 0 where
  -- "13, address already seated; 14, no free seat; 15, closing turn 65,535. They are tested in this order."
  already : (a : DeviceAddress) → IsSeated a (standing before).seats → Replies company before (seat a) (seated (Err AlreadySeated))
  full : (a : DeviceAddress) → (IsSeated a (standing before).seats → ⊥) → length (standing before).seats ≡ 64 → Replies company before (seat a) (seated (Err NoFreeSeat))
  sits : (a : DeviceAddress) → (IsSeated a (standing before).seats → ⊥) → length (standing before).seats < 64
      → Replies company before (seat a) (seated (Ok (length (standing before).seats + 1)))
  -- "a record area, which is read, and refused where bad, as the hub reads"
  bad_area : (sender : DeviceAddress) (area : List ℕ) (e : Error) → read_padded area ≡ Err e → Replies company before (report sender area) (called (Err e))
  heard : (sender : DeviceAddress) (area : List ℕ) → IsRead area → Replies company before (report sender area) (called (Ok tt))
  last_turn : (standing before).turn ≡ 65535 → Replies company before close (called (Err LastTurn))
  closed : (standing before).turn < 65535 → Replies company before close (called (Ok tt))
  -- a seat, and its moves: that of the open turn, and that of the turn before, which is the closed one
  filled_seat : (n : ℕ) (a : DeviceAddress) → SeatIs n a (standing before).seats → Replies company before (read_seat n) (seat_is (Some a))
  empty_seat_law : (n : ℕ) → (n ≡ 0) ⊎ (length (standing before).seats < n) → Replies company before (read_seat n) (seat_is None)
  open_move : (n : ℕ) (m : Move) → KeptIs (Qualifies company n (standing before).turn) (entries before) m → Replies company before (read_open n) (move_is m)
  closed_move : (n t : ℕ) (m : Move) → (standing before).turn ≡ t + 1 → KeptIs (Qualifies company n t) (entries before) m → Replies company before (read_closed n) (move_is m)
  none_closed : (n : ℕ) → (standing before).turn ≡ 0 → Replies company before (read_closed n) (move_is (record { len = 0; octets = replicate 20 0 }))
  open_turn : Replies company before read_turn (number_is (standing before).turn)
  its_company : Replies company before read_company (number_is company)

pub data IsRefused : BookReply → Type 0 where
  seating : (e : Error) → IsRefused (seated (Err e))
  calling : (e : Error) → IsRefused (called (Err e))

pub record TurnBook (company : ℕ) (before : List BookCall) (c : BookCall) : Type 0 where
  pub replies : Replies company before c (reply_of (book_after (fresh_book company) before) c)
  pub keeps : IsRefused (reply_of (book_after (fresh_book company) before) c) → next_book (book_after (fresh_book company) before) c ≡ book_after (fresh_book company) before

-- the replies are fixed by the calls: a book with another reply anywhere breaks the theorem
abbrev pub OneReply : ℕ → List BookCall → BookCall → Type 0
OneReply company before c = (r r' : BookReply) → Replies company before c r → Replies company before c r' → r ≡ r'

pub record StandsOn (st : BookStanding) : Type 0 where
  -- an address without a seat takes the next, as long as one of 64 is free
  pub sits : (a : DeviceAddress) → (IsSeated a st.seats → ⊥) → length st.seats < 64 → standing_on st (seat a) ≡ record { turn = st.turn; seats = st.seats ++ (a ∷ []) }
  pub already : (a : DeviceAddress) → IsSeated a st.seats → standing_on st (seat a) ≡ st
  pub full : (a : DeviceAddress) → 64 ≤ length st.seats → standing_on st (seat a) ≡ st
  -- a close opens the next turn, but that of turn 65,535
  pub next_turn_law : (st.turn ≡ 65535 → ⊥) → standing_on st close ≡ record { turn = st.turn + 1; seats = st.seats }
  pub last_turn : st.turn ≡ 65535 → standing_on st close ≡ st
  -- a report and each read change neither seats nor turn
  pub reported : (sender : DeviceAddress) (area : List ℕ) → standing_on st (report sender area) ≡ st
  pub seat_read : (n : ℕ) → standing_on st (read_seat n) ≡ st
  pub open_read : (n : ℕ) → standing_on st (read_open n) ≡ st
  pub closed_read : (n : ℕ) → standing_on st (read_closed n) ≡ st
  pub turn_read : standing_on st read_turn ≡ st
  pub company_read : standing_on st read_company ≡ st

-- "since the turn opened": an entry with the turn that is open at the end stands after the call that opened it
abbrev pub closes : BookStanding → BookCall → Bool
closes st close = not (eqb st.turn 65535)
closes st (seat a) = false
closes st (report sender area) = false
closes st (read_seat n) = false
closes st (read_open n) = false
closes st (read_closed n) = false
closes st read_turn = false
closes st read_company = false

pub data Open : BookStanding → List BookCall → Type 0 where
  none : {st : BookStanding} → Open st []
  here : {st : BookStanding} {c : BookCall} {cs : List BookCall} → closes st c ≡ false → Open (standing_on st c) cs → Open st (c ∷ cs)

pub record SameTurn (st : BookStanding) (calls : List BookCall) : Type 0 where
  pub since : (standing_all st calls).turn ≡ st.turn → Open st calls
  pub still : Open st calls → (standing_all st calls).turn ≡ st.turn

-- "each one address; seats are .. never emptied"
pub record KeepsSeats (before more : List BookCall) : Type 0 where
  pub stays : (n : ℕ) (a : DeviceAddress) → SeatIs n a (standing before).seats → SeatIs n a (standing (before ++ more)).seats
  pub one_seat : (n k : ℕ) (a : DeviceAddress) → SeatIs n a (standing before).seats → SeatIs k a (standing before).seats → n ≡ k
  pub up_to_64 : length (standing before).seats ≤ 64
