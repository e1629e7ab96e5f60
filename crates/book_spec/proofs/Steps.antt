-- What one call does, by cases: nothing that counts, a seat filled, a report heard, a turn closed. Assumes nothing.
use mathlib.Core.Path.{◌≡◌, refl, sym, ap, ◌∙◌}
use mathlib.Core.Bool.{Bool, true, false}
use mathlib.Core.List.{List, [], ◌∷◌, ◌++◌}
use Prim.Native.Nat.{ℕ, ◌+◌, ◌≤◌, ◌<◌}
use native.Mathlib.Omega.{arith}
use native.Mathlib.Numerals.{add-one}
use lib.Dec.{eqb, leb}
use lib.ListN.{length, length-take}
use lib.Seq.{take-suc-set}
use borrow.Author.Tests.{eqb-false, leb-false}
use Rattle.addresses.specs.declared.device_address.DeviceAddress.{DeviceAddress}
use Rattle.records_spec.specs.HubReading.{read_padded}
use Rattle.records_spec.specs.Search.{IsRead}
use Rattle.book_spec.specs.Book.{seats_of, seat_number, with_seat, seat_call, taken, heard_as, report_call, next_turn, close_call}
use Rattle.book_spec.specs.History.{BookCall, seat, report, close, read_seat, read_open, read_closed, read_turn, read_company, next_book, BookStanding, standing_on}
use Rattle.book_spec.specs.Moves.{move_heard}
use Rattle.book_spec.specs.State.{Book}
use Rattle.std.specs.Prelude.{Result, Ok, Err}
use Rattle.octets.specs.declared.error.Error.{Error}

-- a book of a company with a turn of 16 bits, whose lists have 64 elements and whose seats are among them
pub record Fit (company : ℕ) (b : Book) : Type 0 where
  pub number : b.company ≡ company
  pub turn : b.turn ≤ 65535
  pub few : b.filled ≤ 64
  pub addresses : length b.addresses ≡ 64
  pub kept : length b.kept ≡ 64
  pub closed : length b.closed ≡ 64

pub counted : {company : ℕ} {b : Book} → Fit company b → length (seats_of b) ≡ b.filled
counted {company} {b} fit = length-take b.filled b.addresses ∙ omega (arith, fit)

-- what a book says of the calls before
abbrev pub standing_of : Book → BookStanding
standing_of b = record { turn = b.turn; seats = seats_of b }

-- the call is no report whose area is read
abbrev pub Unread : BookCall → Type 0
Unread c = (sender : DeviceAddress) (area : List ℕ) → c ≡ report sender area → IsRead area → ⊥

pub data Happens (b : Book) : BookCall → Type 0 where
  quiet : (c : BookCall) → next_book b c ≡ b → standing_on (standing_of b) c ≡ standing_of b → Unread c → Happens b c
  fills : (a : DeviceAddress) → Unread (seat a) → b.filled < 64 → next_book b (seat a) ≡ with_seat a b
      → standing_on (standing_of b) (seat a) ≡ record { turn = b.turn; seats = seats_of b ++ (a ∷ []) } → Happens b (seat a)
  hears : (sender : DeviceAddress) (area : List ℕ) → IsRead area → next_book b (report sender area) ≡ taken sender (move_heard b.company area) b → Happens b (report sender area)
  ends : Unread close → (b.turn ≡ 65535 → ⊥) → next_book b close ≡ next_turn b → standing_on (standing_of b) close ≡ record { turn = b.turn + 1; seats = seats_of b } → Happens b close

-- 1 of a report, 0 of any other call
is_report : BookCall → ℕ
is_report (seat a) = 0
is_report (report sender area) = 1
is_report close = 0
is_report (read_seat n) = 0
is_report (read_open n) = 0
is_report (read_closed n) = 0
is_report read_turn = 0
is_report read_company = 0

-- a call of another kind
other : (c : BookCall) → is_report c ≡ 0 → Unread c
unfolding is_report
other c is sender area e read = absurd (let z : ◌≡◌ {A = ℕ} 0 1 = sym is ∙ ap is_report e in omega arith)

module _ {company : ℕ} (b : Book) (fit : Fit company b) where
  happens_seat : (a : DeviceAddress) → Happens b (seat a)
  unfolding seat_call standing_on is_report
  happens_seat a = go (eqb (seat_number a (seats_of b)) 0) (leb 64 b.filled) refl refl
    where
      count : leb 64 (length (seats_of b)) ≡ leb 64 b.filled
      count = ap (leb 64) (counted fit)

      go : (y z : Bool) → eqb (seat_number a (seats_of b)) 0 ≡ y → leb 64 b.filled ≡ z → Happens b (seat a)
      go false z f g = quiet (seat a) (rw (f, next_book) refl) (rw f refl) (other (seat a) refl)
      go true true f g = quiet (seat a) (rw (f, g, next_book) refl) (rw (f, count, g) refl) (other (seat a) refl)
      go true false f g = fills a (other (seat a) refl) (leb-false 64 b.filled g) (rw (f, g, next_book) refl) (rw (f, count, g) refl)

  happens_report : (sender : DeviceAddress) (area : List ℕ) → Happens b (report sender area)
  unfolding report_call heard_as standing_on
  happens_report sender area = go (read_padded area) refl
    where
      go : (p : Result (ℕ × ℕ) Error) → read_padded area ≡ p → Happens b (report sender area)
      go (Ok (n, size)) f = hears sender area (record { number = n; taken = size; accepted = f }) (rw (f, next_book) refl)
      go (Err k) f =
          quiet (report sender area) (rw (f, next_book) refl) refl
          (λ s l e read. absurd (let same : area ≡ l = cc in let is = read.accepted in let z : ◌≡◌ {A = ℕ} 0 1 = cc in omega arith))

  happens_close : Happens b close
  unfolding close_call standing_on is_report
  happens_close = go (eqb b.turn 65535) refl
    where
      go : (y : Bool) → eqb b.turn 65535 ≡ y → Happens b close
      go true f = quiet close (rw (f, next_book) refl) (rw f refl) (other close refl)
      go false f = ends (other close refl) (eqb-false b.turn 65535 f) (rw (f, next_book) refl) (rw f refl)

  pub happens : (c : BookCall) → Happens b c
  unfolding standing_on is_report
  happens (seat a) = happens_seat a
  happens (report sender area) = happens_report sender area
  happens close = happens_close
  happens (read_seat n) = quiet (read_seat n) refl refl (other (read_seat n) refl)
  happens (read_open n) = quiet (read_open n) refl refl (other (read_open n) refl)
  happens (read_closed n) = quiet (read_closed n) refl refl (other (read_closed n) refl)
  happens read_turn = quiet read_turn refl refl (other read_turn refl)
  happens read_company = quiet read_company refl refl (other read_company refl)

-- the seats of the book with one more
pub seats_more : {company : ℕ} (a : DeviceAddress) (b : Book) → Fit company b → b.filled < 64 → seats_of (with_seat a b) ≡ seats_of b ++ (a ∷ [])
unfolding with_seat
seats_more a b fit h = rw add-one (take-suc-set b.addresses b.filled a (omega (arith, fit)))
