-- What a club prints: a line for each item of its own, in the order of the items, and a last line (docs/TURNBOOK.md). Each is a row of right-justified
-- columns and the octet 0A. A packet is heard as the hub hears it; what the scanner reports is a report to the book.
--
--     seat         | 3 or 4, in 2 columns | refusal 3, 0 where it is seated | the seat's number 3, 0 where it is not |
--     close        | 5, in 2              | refusal 3, 0 where it is closed | the turn that is open then 6           |
--     move         | 6 or 7, in 2         | seat 4 | octets of the move 3 | 20 octets, 4 each, zeros after the move   |
--     last line    | the turn that is open 6 | flag 2: 1 where octets are left over |
--
--   calls_for s item               == the call on the book that an item makes, where the scanner is s; none, or one
--   packet_calls sc payload        == that of a packet: a report, where the scanner reports; report_calls r payload: by its report; own_calls first rest: that of the
--                                     club's own items
--   seat_widths, close_widths, move_widths, end_widths == the columns of the lines
--   reply_line first n r turn      == the line of a reply to the item that begins with `first` and names seat n; `turn` is the open one then
--   call_line item b c             == the same of a call on the book b
--   club_line k item               == THE LINE of an item; none for a tick and a packet
--   club_after k item              == the club after an item
--   club_lines k its, club_after_all k its   == the same of many items
--   fresh_club company             == a club whose book is fresh, and that listens on the first channel
--   end_line k n                   == the last line, where n octets are left over
--   club_log company s             == THE LOG of the input s
--   item_taken k s                 == what taking the item at the front of s answers; item_line k s: its line
--   longest_line                   == octets of the longest line
--   items_fitting n k s room       == the items at the front of s, at most n, as long as there is room for the longest line in `room` octets
--   items_taken k s room           == what taking these answers
use Rattle.std.specs.Prelude.{cond, ℕ, zero, suc, ◌-◌, leb, ltb, eqb, length, get_or, take, drop, replicate, Option, None, Some, option_map, Result, Ok, Err}
use Rattle.std.specs.Option.{option_map_or}
use mathlib.Core.List.{List, [], ◌∷◌, ◌++◌, flatten}
use Rattle.octets.specs.Error.{number_of, outcome_number}
use Rattle.octets.specs.declared.error.Error.{Error}
use Rattle.columns.specs.Row.{row_of}
use Rattle.addresses.specs.Address.{address_of}
use Rattle.addresses.specs.declared.device_address.AddressKind.TheVariants.{Public, Random}
use Rattle.addresses.specs.declared.filter.AddressFilter.TheVariants.{AllowAll}
use Rattle.advertising.specs.Pdu.{data_in}
use Rattle.beacon_spec.specs.Scanner.{scanner_of, configured}
use Rattle.beacon_spec.specs.State.{BeaconScanner, Scanned, Report}
use Rattle.hub_spec.specs.Log.{start, heard_in, scanner_after, left_over}
use Rattle.book_spec.specs.Book.{fresh_book}
use Rattle.book_spec.specs.History.{BookCall, seat, report, close, read_open, read_closed, BookReply, seated, called, seat_is, move_is, number_is, next_book, reply_of, book_after}
use Rattle.book_spec.specs.State.{Book}
use Rattle.club_spec.specs.Item.{whole_item, club_items, after_club}
use Rattle.club_spec.specs.State.{Club, TakenItem, TakenItems}

-- the record area as the scanner tells it, in the payload
abbrev pub report_calls : Report → List ℕ → List BookCall
report_calls (Ok (Some x)) payload = report x.sender (data_in x.adv_data payload) ∷ []
report_calls (Ok None) payload = []
report_calls (Err e) payload = []

abbrev pub packet_calls : Scanned → List ℕ → List BookCall
packet_calls sc payload = report_calls sc.report payload

abbrev pub own_calls : ℕ → List ℕ → List BookCall
own_calls first rest =
    cond (eqb first 3) (seat (address_of (take 6 rest) Public) ∷ [])
    (cond (eqb first 4) (seat (address_of (take 6 rest) Random) ∷ [])
    (cond (eqb first 5) (close ∷ [])
    (cond (eqb first 6) (read_open (get_or rest 0 0) ∷ []) (read_closed (get_or rest 0 0) ∷ []))))

unfoldable pub calls_for : BeaconScanner → List ℕ → List BookCall
calls_for s [] = []
calls_for s (first ∷ rest) = cond (leb first 2) (packet_calls (heard_in s (first ∷ rest)) (drop 2 rest)) (own_calls first rest)

abbrev pub seat_widths : List ℕ
seat_widths = 2 ∷ 3 ∷ 3 ∷ []

abbrev pub close_widths : List ℕ
close_widths = 2 ∷ 3 ∷ 6 ∷ []

abbrev pub move_widths : List ℕ
move_widths = 2 ∷ 4 ∷ 3 ∷ replicate 20 4

abbrev pub end_widths : List ℕ
end_widths = 6 ∷ 2 ∷ []

-- the numbers of a seating
abbrev pub seat_refusal : Result ℕ Error → ℕ
seat_refusal (Ok k) = 0
seat_refusal (Err e) = number_of e

abbrev pub seat_number : Result ℕ Error → ℕ
seat_number (Ok k) = k
seat_number (Err e) = 0

-- a report has no line
unfoldable pub reply_line : ℕ → ℕ → BookReply → ℕ → List ℕ
reply_line first n (seated s) turn = row_of seat_widths (first ∷ seat_refusal s ∷ seat_number s ∷ [])
reply_line first n (called o) turn = cond (eqb first 5) (row_of close_widths (first ∷ outcome_number o ∷ turn ∷ [])) []
reply_line first n (move_is m) turn = row_of move_widths (first ∷ n ∷ m.len ∷ m.octets)
reply_line first n (seat_is read) turn = []
reply_line first n (number_is k) turn = []

abbrev pub call_line : List ℕ → Book → List BookCall → List ℕ
call_line item b [] = []
call_line item b (c ∷ cs) = reply_line (get_or item 0 0) (get_or item 1 0) (reply_of b c) (next_book b c).turn

unfoldable pub club_line : Club → List ℕ → List ℕ
club_line k item = call_line item k.book (calls_for k.scanner item)

unfoldable pub club_after : Club → List ℕ → Club
club_after k item = record { book = book_after k.book (calls_for k.scanner item); scanner = scanner_after k.scanner item }

unfoldable pub club_lines : Club → List (List ℕ) → List ℕ
club_lines k [] = []
club_lines k (item ∷ its) = club_line k item ++ club_lines (club_after k item) its

unfoldable pub club_after_all : Club → List (List ℕ) → Club
club_after_all k [] = k
club_after_all k (item ∷ its) = club_after_all (club_after k item) its

abbrev pub fresh_club : ℕ → Club
fresh_club company = record { book = fresh_book company; scanner = (configured (scanner_of AllowAll) start 0).scanner }

unfoldable pub end_line : Club → ℕ → List ℕ
end_line k n = row_of end_widths (k.book.turn ∷ left_over n ∷ [])

-- an item has an octet at least, so there are no more of them than octets
unfoldable pub club_log : ℕ → List ℕ → List ℕ
club_log company s =
    club_lines (fresh_club company) (club_items (length s) s)
    ++ end_line (club_after_all (fresh_club company) (club_items (length s) s)) (length (after_club (club_items (length s) s) s))

-- What the library answers

unfoldable pub item_line : Club → List ℕ → List ℕ
item_line k s = option_map_or (λ size. club_line k (take size s)) (whole_item s) []

unfoldable pub item_taken : Club → List ℕ → Option TakenItem
item_taken k s =
    option_map (λ size. record { club = club_after k (take size s); size = size; written = length (club_line k (take size s)) }) (whole_item s)

abbrev pub longest_line : ℕ
longest_line = 90

unfoldable pub items_fitting : ℕ → Club → List ℕ → ℕ → List (List ℕ)
items_fitting zero k s room = []
items_fitting (suc n) k s room =
    cond (ltb room longest_line) []
    (option_map_or (λ size. take size s ∷ items_fitting n (club_after k (take size s)) (drop size s) (room - length (club_line k (take size s)))) (whole_item s) [])

abbrev pub fitting_in : Club → List ℕ → ℕ → List (List ℕ)
fitting_in k s room = items_fitting (length s) k s room

unfoldable pub items_taken : Club → List ℕ → ℕ → TakenItems
items_taken k s room =
    record { club = club_after_all k (fitting_in k s room); taken = length (flatten (fitting_in k s room)); written = length (club_lines k (fitting_in k s room)) }
