-- What items, lines, the log and what is taken are, in other words than those of their definitions: by the octets of the items and by rows of numbers.
--   Makes item calls            == the calls on the book that an item makes, by its octets (docs/TURNBOOK.md)
--   MakesAll its calls          == the same of items, one after the other
--   NoItem s                    == no item stands at the front of s
--   move_columns                 == the widths of a move's line
--   ClubRow                     == the widths of a line's columns, and its numbers
--   lines_each rows              == the lines of these; HasRoom row: every number fits its column
--   Shows company before item rows   == the row of an item, or none, after the calls `before` on a fresh book
--   ShowsAll company before its rows == the same of items, one after the other
--   MakesCalls s item passing   (Making.makes_calls)  a scanner s that lets all senders pass makes these calls of an item and no others, and lets all pass after it
--   CallsMade s its passing     (Making.calls_made)   the same of items; a fresh club lets all senders pass, and after any items too
--   LineRows first n turn       (Making.line_rows)    the lines of replies as rows of numbers, in columns of these widths
--   EndRows k n                 (Making.end_rows)     the same of the last line
--   InTurnOf k its item         (Making.one_more)     lines stand in the order of their items, each by the club after the items before it
--   LogIs company s             (Making.log_is)       the log of s: the lines of its items up to where none stands, and the last line
--   LogOf company its rest      (Making.log_of_law)       the log of items and of octets after them that begin none
--   EveningLog company s        (Shown.evening_log)   THE LOG of s in these words alone: a row for each item that has one, and the last line; every number fits
--   TakenIs k s room            (Making.taken_is)     what is taken of s
use Rattle.std.specs.Prelude.{◌≡◌, ℕ, suc, ◌/◌, ◌%◌, length, Option, None, Some, Result, Ok, Err}
use mathlib.Core.List.{List, [], ◌∷◌, ◌++◌, map, flatten}
use Rattle.octets.specs.Error.{number_of, outcome_number}
use Rattle.octets.specs.Laws.{Octets}
use Rattle.octets.specs.Lists.{All}
use Rattle.addresses.specs.Address.{address_of}
use Rattle.addresses.specs.declared.device_address.AddressKind.TheVariants.{Public, Random}
use Rattle.addresses.specs.declared.device_address.DeviceAddress.{DeviceAddress}
use Rattle.addresses.specs.declared.filter.AddressFilter.TheVariants.{AllowAll}
use Rattle.beacon_spec.specs.State.{BeaconScanner}
use Rattle.columns.specs.Row.{row_of, Fits}
use Rattle.hub_spec.specs.Log.{scanner_after}
use Rattle.hub_spec.specs.Reported.{IsReported}
use Rattle.book_spec.specs.History.{BookCall, seat, report, close, read_open, read_closed, seated, called, seat_is, move_is, number_is, standing}
use Rattle.book_spec.specs.TurnBook.{Replies}
use Rattle.book_spec.specs.declared.Move.{Move}
use Rattle.club_spec.specs.Item.{IsClubItem}
use Rattle.club_spec.specs.Laws.{calls_of, scanner_on}
use Rattle.club_spec.specs.Log.{calls_for, reply_line, club_line, club_lines, club_after, club_after_all, fresh_club, end_line, club_log, item_taken, item_line, items_taken, fitting_in}
use Rattle.club_spec.specs.State.{Club}
use Rattle.octets.specs.declared.error.Error.{Error}

pub data Makes : List ℕ → List BookCall → Type 0 where
  tick : Makes (0x00 ∷ []) []
  -- a CRC-good packet that the hub reports: the sender's kind is TxAdd, bit 6 of the header, and all octets after its address are the area
  from_public : (h0 h1 a b c d e f : ℕ) (area : List ℕ)
      → IsReported h0 h1 (a ∷ b ∷ c ∷ d ∷ e ∷ f ∷ area)
      → h0 / 64 % 2 ≡ 0
      → Makes (0x01 ∷ h0 ∷ h1 ∷ a ∷ b ∷ c ∷ d ∷ e ∷ f ∷ area) (report (address_of (a ∷ b ∷ c ∷ d ∷ e ∷ f ∷ []) Public) area ∷ [])
  from_random : (h0 h1 a b c d e f : ℕ) (area : List ℕ)
      → IsReported h0 h1 (a ∷ b ∷ c ∷ d ∷ e ∷ f ∷ area)
      → h0 / 64 % 2 ≡ 1
      → Makes (0x01 ∷ h0 ∷ h1 ∷ a ∷ b ∷ c ∷ d ∷ e ∷ f ∷ area) (report (address_of (a ∷ b ∷ c ∷ d ∷ e ∷ f ∷ []) Random) area ∷ [])
  unreported : (h0 h1 : ℕ) (payload : List ℕ) → (IsReported h0 h1 payload → ⊥) → Makes (0x01 ∷ h0 ∷ h1 ∷ payload) []
  crc_bad_law : (h0 h1 : ℕ) (payload : List ℕ) → Makes (0x02 ∷ h0 ∷ h1 ∷ payload) []
  seat_public : (a b c d e f : ℕ) → Makes (0x03 ∷ a ∷ b ∷ c ∷ d ∷ e ∷ f ∷ []) (seat (address_of (a ∷ b ∷ c ∷ d ∷ e ∷ f ∷ []) Public) ∷ [])
  seat_random : (a b c d e f : ℕ) → Makes (0x04 ∷ a ∷ b ∷ c ∷ d ∷ e ∷ f ∷ []) (seat (address_of (a ∷ b ∷ c ∷ d ∷ e ∷ f ∷ []) Random) ∷ [])
  closes : Makes (0x05 ∷ []) (close ∷ [])
  open_move : (n : ℕ) → Makes (0x06 ∷ n ∷ []) (read_open n ∷ [])
  closed_move : (n : ℕ) → Makes (0x07 ∷ n ∷ []) (read_closed n ∷ [])

pub data MakesAll : List (List ℕ) → List BookCall → Type 0 where
  end : MakesAll [] []
  next : (item : List ℕ) (its : List (List ℕ)) (calls more : List BookCall) → Makes item calls → MakesAll its more → MakesAll (item ∷ its) (calls ++ more)

abbrev pub NoItem : List ℕ → Type 0
NoItem s = (item rest : List ℕ) → IsClubItem item → s ≡ item ++ rest → ⊥

pub record MakesCalls (s : BeaconScanner) (item : List ℕ) (passing : s.filter.scan ≡ AllowAll) : Type 0 where
  pub made : IsClubItem item → Makes item (calls_for s item)
  pub only : (calls : List BookCall) → Makes item calls → calls_for s item ≡ calls
  pub all_pass : (scanner_after s item).filter.scan ≡ AllowAll

pub record CallsMade (s : BeaconScanner) (its : List (List ℕ)) (passing : s.filter.scan ≡ AllowAll) : Type 0 where
  pub made : All IsClubItem its → MakesAll its (calls_of s its)
  pub only : (calls : List BookCall) → MakesAll its calls → calls_of s its ≡ calls
  pub all_pass : (scanner_on s its).filter.scan ≡ AllowAll
  pub fresh_passes : (company : ℕ) → (fresh_club company).scanner.filter.scan ≡ AllowAll
  pub club_passes : (company : ℕ) → (club_after_all (fresh_club company) its).scanner.filter.scan ≡ AllowAll

-- the figure's widths of a move: 20 octets, 4 each
abbrev pub move_columns : List ℕ
move_columns = 2 ∷ 4 ∷ 3 ∷ 4 ∷ 4 ∷ 4 ∷ 4 ∷ 4 ∷ 4 ∷ 4 ∷ 4 ∷ 4 ∷ 4 ∷ 4 ∷ 4 ∷ 4 ∷ 4 ∷ 4 ∷ 4 ∷ 4 ∷ 4 ∷ 4 ∷ 4 ∷ []

-- the figure of specs/Log, with its widths as numbers; a packet begins with 1, and a report has no line
pub record LineRows (first n turn : ℕ) : Type 0 where
  pub seat_row : (k : ℕ) → reply_line first n (seated (Ok k)) turn ≡ row_of (2 ∷ 3 ∷ 3 ∷ []) (first ∷ 0 ∷ k ∷ [])
  pub refused_row : (e : Error) → reply_line first n (seated (Err e)) turn ≡ row_of (2 ∷ 3 ∷ 3 ∷ []) (first ∷ number_of e ∷ 0 ∷ [])
  pub close_row : (o : Result (Unit {0}) Error) → reply_line 5 n (called o) turn ≡ row_of (2 ∷ 3 ∷ 6 ∷ []) (5 ∷ outcome_number o ∷ turn ∷ [])
  pub move_row_law : (m : Move) → reply_line first n (move_is m) turn ≡ row_of move_columns (first ∷ n ∷ m.len ∷ m.octets)
  pub report_none : (o : Result (Unit {0}) Error) → reply_line 1 n (called o) turn ≡ []
  -- no item asks for these
  pub seat_none : (read : Option DeviceAddress) → reply_line first n (seat_is read) turn ≡ []
  pub number_none : (k : ℕ) → reply_line first n (number_is k) turn ≡ []

-- the flag is 0 where no octets are left over
pub record EndRows (k : Club) (n : ℕ) : Type 0 where
  pub none_over : end_line k 0 ≡ row_of (6 ∷ 2 ∷ []) (k.book.turn ∷ 0 ∷ [])
  pub some_over : end_line k (suc n) ≡ row_of (6 ∷ 2 ∷ []) (k.book.turn ∷ 1 ∷ [])

pub record InTurnOf (k : Club) (its : List (List ℕ)) (item : List ℕ) : Type 0 where
  pub no_lines : club_lines k [] ≡ []
  pub same_club : club_after_all k [] ≡ k
  pub lines : club_lines k (its ++ (item ∷ [])) ≡ club_lines k its ++ club_line (club_after_all k its) item
  pub club : club_after_all k (its ++ (item ∷ [])) ≡ club_after (club_after_all k its) item

pub record LogIs (company : ℕ) (s : List ℕ) : Type 0 where
  pub its : List (List ℕ)
  pub rest : List ℕ
  pub are_items : All IsClubItem its
  pub none_left : NoItem rest
  pub tiles : flatten its ++ rest ≡ s
  pub log : club_log company s ≡ club_lines (fresh_club company) its ++ end_line (club_after_all (fresh_club company) its) (length rest)

abbrev pub LogOf : ℕ → List (List ℕ) → List ℕ → Type 0
LogOf company its rest =
    All IsClubItem its → NoItem rest
    → club_log company (flatten its ++ rest) ≡ club_lines (fresh_club company) its ++ end_line (club_after_all (fresh_club company) its) (length rest)

-- A row for each item of the club's own; the reply is the right one by the calls before it, which `Replies` says without the book.
pub record ClubRow : Type 0 where
  pub widths : List ℕ
  pub numbers : List ℕ

abbrev pub lines_each : List ClubRow → List ℕ
lines_each rows = flatten (map (λ (r : ClubRow). row_of r.widths r.numbers) rows)

abbrev pub HasRoom : ClubRow → Type 0
HasRoom r = Fits r.widths r.numbers

pub data Shows (company : ℕ) (before : List BookCall) : List ℕ → List ClubRow → Type 0 where
  silent : (item : List ℕ) → Makes item [] → Shows company before item []
  reported : (item : List ℕ) (sender : DeviceAddress) (area : List ℕ) → Makes item (report sender area ∷ []) → Shows company before item []
  seats : (first : ℕ) (address : List ℕ) (a : DeviceAddress) (k : ℕ)
      → Makes (first ∷ address) (seat a ∷ [])
      → Replies company before (seat a) (seated (Ok k))
      → Shows company before (first ∷ address) (record { widths = 2 ∷ 3 ∷ 3 ∷ []; numbers = first ∷ 0 ∷ k ∷ [] } ∷ [])
  refuses : (first : ℕ) (address : List ℕ) (a : DeviceAddress) (e : Error)
      → Makes (first ∷ address) (seat a ∷ [])
      → Replies company before (seat a) (seated (Err e))
      → Shows company before (first ∷ address) (record { widths = 2 ∷ 3 ∷ 3 ∷ []; numbers = first ∷ number_of e ∷ 0 ∷ [] } ∷ [])
  -- with the turn that is open after it
  closes : (o : Result (Unit {0}) Error)
      → Replies company before close (called o)
      → Shows company before (0x05 ∷ []) (record { widths = 2 ∷ 3 ∷ 6 ∷ []; numbers = 5 ∷ outcome_number o ∷ (standing (before ++ (close ∷ []))).turn ∷ [] } ∷ [])
  open_move : (n : ℕ) (m : Move)
      → Replies company before (read_open n) (move_is m)
      → Shows company before (0x06 ∷ n ∷ []) (record { widths = move_columns; numbers = 6 ∷ n ∷ m.len ∷ m.octets } ∷ [])
  closed_move : (n : ℕ) (m : Move)
      → Replies company before (read_closed n) (move_is m)
      → Shows company before (0x07 ∷ n ∷ []) (record { widths = move_columns; numbers = 7 ∷ n ∷ m.len ∷ m.octets } ∷ [])

pub data ShowsAll (company : ℕ) : List BookCall → List (List ℕ) → List ClubRow → Type 0 where
  end : (before : List BookCall) → ShowsAll company before [] []
  next : (before : List BookCall) (item : List ℕ) (its : List (List ℕ)) (calls : List BookCall) (rows more : List ClubRow)
      → Makes item calls
      → Shows company before item rows
      → ShowsAll company (before ++ calls) its more
      → ShowsAll company before (item ∷ its) (rows ++ more)

pub record EveningLog (company : ℕ) (s : List ℕ) : Type 0 where
  pub its : List (List ℕ)
  pub rest : List ℕ
  pub are_items : All IsClubItem its
  pub none_left : NoItem rest
  pub tiles : flatten its ++ rest ≡ s
  pub rows : List ClubRow
  pub shown : ShowsAll company [] its rows
  pub calls : List BookCall
  pub made : MakesAll its calls
  pub flag : ℕ
  pub log : club_log company s ≡ lines_each rows ++ row_of (6 ∷ 2 ∷ []) ((standing calls).turn ∷ flag ∷ [])
  pub all_read : rest ≡ [] → flag ≡ 0
  pub left_over_law : (rest ≡ [] → ⊥) → flag ≡ 1
  -- so no digit is lost
  pub fit : Octets s → All HasRoom rows
  pub last_fits : Fits (6 ∷ 2 ∷ []) ((standing calls).turn ∷ flag ∷ [])

-- which items fit in the room: the law `Fitted`
pub record TakenIs (k : Club) (s : List ℕ) (room : ℕ) : Type 0 where
  pub taken : (item rest : List ℕ) → IsClubItem item → s ≡ item ++ rest
      → item_taken k s ≡ Some (record { club = club_after k item; size = length item; written = length (club_line k item) })
  pub line : (item rest : List ℕ) → IsClubItem item → s ≡ item ++ rest → item_line k s ≡ club_line k item
  pub none_taken : NoItem s → item_taken k s ≡ None
  pub no_line : NoItem s → item_line k s ≡ []
  pub many : items_taken k s room
      ≡ record { club = club_after_all k (fitting_in k s room); taken = length (flatten (fitting_in k s room)); written = length (club_lines k (fitting_in k s room)) }
