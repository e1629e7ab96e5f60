-- The log in other words: its lines are the replies of the book to the calls that the items make, which specs/TurnBook of book_spec says by these calls alone.
--   calls_of s its           == the calls that items make, one after the other, where the scanner is s before them
--   RightLine company before c item line  == the line of an item that makes the call c is that of the right reply to it
--   Evening company its     (Evenings.evening)   after any items, the book is that of their calls from a fresh one; and the line of the next item is that of the reply to its call
--   Fitted k s room         (Taking.fitted)      the items that are taken are the first of those at the front; no more are taken for want of room or of a whole item alone
--   LineSizes k item        (Taking.line_sizes)  no line of an item is longer than 90 octets
use Rattle.std.specs.Prelude.{◌≡◌, ◌⊎◌, ℕ, ◌+◌, ◌<◌, ◌≤◌, length, get_or, drop, None}
use mathlib.Core.List.{List, [], ◌∷◌, ◌++◌, flatten}
use Rattle.beacon_spec.specs.State.{BeaconScanner}
use Rattle.hub_spec.specs.Log.{scanner_after}
use Rattle.book_spec.specs.Book.{fresh_book}
use Rattle.book_spec.specs.History.{BookCall, BookReply, book_after, standing}
use Rattle.book_spec.specs.TurnBook.{Replies}
use Rattle.club_spec.specs.Item.{whole_item, club_items}
use Rattle.club_spec.specs.Log.{calls_for, reply_line, club_line, club_lines, club_after_all, fresh_club, fitting_in}
use Rattle.club_spec.specs.State.{Club}

abbrev pub calls_of : BeaconScanner → List (List ℕ) → List BookCall
calls_of s [] = []
calls_of s (item ∷ its) = calls_for s item ++ calls_of (scanner_after s item) its

abbrev pub scanner_on : BeaconScanner → List (List ℕ) → BeaconScanner
scanner_on s [] = s
scanner_on s (item ∷ its) = scanner_on (scanner_after s item) its

-- a line of an item that makes the call c after the calls `before`
pub record RightLine (company : ℕ) (before : List BookCall) (c : BookCall) (item line : List ℕ) : Type 0 where
  pub reply : BookReply
  pub right : Replies company before c reply
  pub is : line ≡ reply_line (get_or item 0 0) (get_or item 1 0) reply (standing (before ++ (c ∷ []))).turn

pub record Evening (company : ℕ) (its : List (List ℕ)) : Type 0 where
  pub book : (club_after_all (fresh_club company) its).book ≡ book_after (fresh_book company) (calls_of (fresh_club company).scanner its)
  pub scanner : (club_after_all (fresh_club company) its).scanner ≡ scanner_on (fresh_club company).scanner its
  -- an item without a call has no line; one with a call has that of the reply, which is right by the calls before it
  pub silent : (item : List ℕ) → calls_for (scanner_on (fresh_club company).scanner its) item ≡ [] → club_line (club_after_all (fresh_club company) its) item ≡ []
  pub line : (item : List ℕ) (c : BookCall) → calls_for (scanner_on (fresh_club company).scanner its) item ≡ c ∷ []
      → RightLine company (calls_of (fresh_club company).scanner its) c item (club_line (club_after_all (fresh_club company) its) item)
  -- the open turn of the last line
  pub open_turn : (club_after_all (fresh_club company) its).book.turn ≡ (standing (calls_of (fresh_club company).scanner its)).turn

pub record Fitted (k : Club) (s : List ℕ) (room : ℕ) : Type 0 where
  pub more : List (List ℕ)
  pub first : club_items (length s) s ≡ fitting_in k s room ++ more
  pub room_kept : length (club_lines k (fitting_in k s room)) ≤ room
  pub stops : (whole_item (drop (length (flatten (fitting_in k s room))) s) ≡ None) ⊎ (room < length (club_lines k (fitting_in k s room)) + 90)

abbrev pub LineSizes : Club → List ℕ → Type 0
LineSizes k item = length (club_line k item) ≤ 90
