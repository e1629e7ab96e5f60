-- The theorem of the turn book: `turn_book`. Assumes nothing.
use mathlib.Core.Path.{◌≡◌, refl, ap, ◌∙◌, subst, subst⁻¹}
use mathlib.Core.Logic.{inl, inr}
use mathlib.Core.Bool.{Bool, true, false, cond}
use mathlib.Core.List.{List}
use Prim.Native.Nat.{ℕ, zero, suc, ◌+◌, ◌-◌, ◌<◌}
use native.Mathlib.Omega.{arith}
use lib.Dec.{eqb, ltb, leb}
use lib.ListN.{length, get_or, take, drop}
use lib.Seq.{split_at, get_or-take, length-take-le}
use borrow.Author.Tests.{eqb-true, eqb-false, leb-true, leb-false, ltb-true}
use Rattle.octets.specs.declared.error.Error.TheVariants.{AlreadySeated, NoFreeSeat, LastTurn}
use Rattle.addresses.specs.declared.device_address.DeviceAddress.{DeviceAddress}
use Rattle.records_spec.specs.HubReading.{read_padded}
use Rattle.book_spec.specs.Book.{empty_address, fresh_book, seats_of, seat_number, is_filled, open_at, closed_at, with_seat, not_seated, seat_call, heard_as, report_call, next_turn, close_call, read_seat_call}
use Rattle.book_spec.specs.History.{BookCall, seat, report, close, read_seat, read_open, read_closed, read_turn, read_company, BookReply, seated, called, seat_is, move_is, number_is, next_book, reply_of, book_after, BookStanding, standing, entries}
use Rattle.book_spec.specs.Moves.{no_move, move_heard}
use Rattle.book_spec.specs.State.{Book, SeatCalled, BookCalled}
use Rattle.book_spec.specs.TurnBook.{SeatIs, IsSeated, Qualifies, KeptIs, Replies, IsRefused, TurnBook}
use Rattle.book_spec.specs.TurnBook.Replies.{already, full, sits, bad_area, heard, last_turn, closed, filled_seat, empty_seat_law, open_move, closed_move, none_closed, open_turn, its_company}
use Rattle.book_spec.specs.TurnBook.IsRefused.{seating, calling}
use Rattle.book_spec.specs.declared.Move.{Move}
use Rattle.book_spec.proofs.Agreed.{Agrees, Ran, ran}
use Rattle.book_spec.proofs.Seats.{not_seated_law, seat_found}
use Rattle.book_spec.proofs.Steps.{counted, standing_of}
use Rattle.std.specs.Prelude.{Result, Ok, Err, Option, Some, None}
use Rattle.octets.specs.declared.error.Error.{Error}

-- the seat of a place
seat_at : (seats : List DeviceAddress) (n : ℕ) (d : DeviceAddress) → 0 < n → n - 1 < length seats → SeatIs n (get_or seats (n - 1) d) seats
seat_at seats n d some inside =
    record {
      earlier = take (n - 1) seats;
      later = drop (suc (n - 1)) seats;
      tile = split_at seats (n - 1) d inside;
      counted = let long : length (take (n - 1) seats) ≡ n - 1 = length-take-le (n - 1) seats (omega arith) in omega (arith, long);
    }

-- ---- what seating and closing return, by their tests
abbrev seating_as : DeviceAddress → Book → Bool → Bool → SeatCalled
seating_as a b free none_free = cond free (cond none_free (not_seated NoFreeSeat b) (record { seat = Ok (b.filled + 1); book = with_seat a b })) (not_seated AlreadySeated b)

abbrev closing_as : Book → Bool → BookCalled
closing_as b last = cond last (record { outcome = (Err LastTurn); book = b }) (record { outcome = (Ok tt); book = next_turn b })

-- ---- a reply, by what the list says
module _ (company : ℕ) (before : List BookCall) (b : Book) (h : Agrees company (entries before) b) (stands : standing before ≡ standing_of b) where
  seats : (standing before).seats ≡ seats_of b
  seats = ap (λ (st : BookStanding). st.seats) stands

  turn : (standing before).turn ≡ b.turn
  turn = ap (λ (st : BookStanding). st.turn) stands

  count : length (standing before).seats ≡ b.filled
  count = ap length seats ∙ counted h.fit

  reply_seat : (a : DeviceAddress) → Replies company before (seat a) (reply_of b (seat a))
  unfolding seat_call
  reply_seat a = go (eqb (seat_number a (seats_of b)) 0) (leb 64 b.filled) refl refl
    where
      nobody : eqb (seat_number a (seats_of b)) 0 ≡ true → IsSeated a (standing before).seats → ⊥
      nobody e is = not_seated_law (seats_of b) a (eqb-true (seat_number a (seats_of b)) 0 e) (subst (IsSeated a) seats is)

      go : (x y : Bool) → eqb (seat_number a (seats_of b)) 0 ≡ x → leb 64 b.filled ≡ y → Replies company before (seat a) (seated (seating_as a b x y).seat)
      go false y e f =
          let some : seat_number a (seats_of b) ≡ 0 → ⊥ = eqb-false (seat_number a (seats_of b)) 0 e in
          already a (subst⁻¹ (IsSeated a) seats (record { number = seat_number a (seats_of b); seat = seat_found (seats_of b) a (seat_number a (seats_of b)) refl (omega arith) }))
      go true true e f = full a (nobody e) (omega (arith, count, h.fit.few, leb-true 64 b.filled f))
      go true false e f =
          subst (λ (k : ℕ). Replies company before (seat a) (seated (Ok (k + 1)))) count (sits a (nobody e) (omega (arith, count, leb-false 64 b.filled f)))

  reply_report : (sender : DeviceAddress) (area : List ℕ) → Replies company before (report sender area) (reply_of b (report sender area))
  unfolding report_call heard_as
  reply_report sender area = go (read_padded area) refl
    where
      go : (p : Result (ℕ × ℕ) Error) → read_padded area ≡ p → Replies company before (report sender area) (called (heard_as p sender (move_heard b.company area) b).outcome)
      go (Ok (n, size)) e = heard sender area (record { number = n; taken = size; accepted = e })
      go (Err k) e = bad_area sender area k e

  reply_close : Replies company before close (reply_of b close)
  unfolding close_call
  reply_close = go (eqb b.turn 65535) refl
    where
      go : (x : Bool) → eqb b.turn 65535 ≡ x → Replies company before close (called (closing_as b x).outcome)
      go true e = last_turn (turn ∙ eqb-true b.turn 65535 e)
      go false e = let other : b.turn ≡ 65535 → ⊥ = eqb-false b.turn 65535 e in closed (omega (arith, turn, h.fit.turn))

  reply_seat_read : (n : ℕ) → Replies company before (read_seat n) (reply_of b (read_seat n))
  unfolding read_seat_call is_filled empty_address
  reply_seat_read n = go (eqb n 0) (ltb 64 n) (leb n b.filled) refl refl refl
    where
      read_as : Bool → Option DeviceAddress
      read_as x = cond x (Some (get_or b.addresses (n - 1) empty_address)) None

      go : (x y z : Bool) → eqb n 0 ≡ x → ltb 64 n ≡ y → leb n b.filled ≡ z → Replies company before (read_seat n) (seat_is (read_as (cond x false (cond y false z))))
      go true y z e f g = empty_seat_law n (inl (eqb-true n 0 e))
      go false true z e f g = empty_seat_law n (inr (omega (arith, count, h.fit.few, ltb-true 64 n f)))
      go false false false e f g = empty_seat_law n (inr (omega (arith, count, leb-false n b.filled g)))
      go false false true e f g =
          let some : n ≡ 0 → ⊥ = eqb-false n 0 e in
          let inside : n - 1 < b.filled = omega (arith, leb-true n b.filled g) in
          let is : get_or (seats_of b) (n - 1) empty_address ≡ get_or b.addresses (n - 1) empty_address = get_or-take b.filled b.addresses (n - 1) empty_address inside in
          filled_seat n (get_or b.addresses (n - 1) empty_address)
          (subst⁻¹ (SeatIs n (get_or b.addresses (n - 1) empty_address)) seats
          (subst (λ (a : DeviceAddress). SeatIs n a (seats_of b)) is (seat_at (seats_of b) n empty_address (omega arith) (omega (arith, inside, counted h.fit)))))

  reply_closed : (n : ℕ) → Replies company before (read_closed n) (reply_of b (read_closed n))
  unfolding no_move
  reply_closed n = go b.turn refl
    where
      go : (t : ℕ) → b.turn ≡ t → Replies company before (read_closed n) (move_is (closed_at b n))
      go zero e = subst⁻¹ (λ (m : Move). Replies company before (read_closed n) (move_is m)) (h.unclosed n e) (none_closed n (turn ∙ e))
      go (suc t) e =
          let one : b.turn ≡ t + 1 = omega (arith, e) in
          closed_move n t (closed_at b n) (turn ∙ one) (h.closed n t one)

  replies : (c : BookCall) → Replies company before c (reply_of b c)
  replies (seat a) = reply_seat a
  replies (report sender area) = reply_report sender area
  replies close = reply_close
  replies (read_seat n) = reply_seat_read n
  replies (read_open n) = open_move n (open_at b n) (subst⁻¹ (λ (t : ℕ). KeptIs (Qualifies company n t) (entries before) (open_at b n)) turn (h.kept n))
  replies (read_closed n) = reply_closed n
  replies read_turn = subst (λ (t : ℕ). Replies company before read_turn (number_is t)) turn open_turn
  replies read_company = subst⁻¹ (λ (k : ℕ). Replies company before read_company (number_is k)) h.fit.number its_company

-- ---- a refused call leaves the book as it was
abbrev refusals : BookReply → ℕ
refusals (seated (Err e)) = 1
refusals (seated (Ok n)) = 0
refusals (called (Err e)) = 1
refusals (called (Ok tt)) = 0
refusals (seat_is r) = 0
refusals (move_is m) = 0
refusals (number_is n) = 0

refused : {r : BookReply} → IsRefused r → refusals r ≡ 1
refused (seating e) = refl
refused (calling e) = refl

keeps : (b : Book) (c : BookCall) → IsRefused (reply_of b c) → next_book b c ≡ b
unfolding seat_call report_call heard_as close_call
keeps b (seat a) = go (eqb (seat_number a (seats_of b)) 0) (leb 64 b.filled)
  where
    go : (x y : Bool) → IsRefused (seated (seating_as a b x y).seat) → (seating_as a b x y).book ≡ b
    go false y r = refl
    go true true r = refl
    go true false r = absurd (omega (arith, refused r))
keeps b (report sender area) = go (read_padded area)
  where
    go : (p : Result (ℕ × ℕ) Error) → IsRefused (called (heard_as p sender (move_heard b.company area) b).outcome) → (heard_as p sender (move_heard b.company area) b).book ≡ b
    go (Ok (n, size)) r = absurd (omega (arith, refused r))
    go (Err k) r = refl
keeps b close = go (eqb b.turn 65535)
  where
    go : (x : Bool) → IsRefused (called (closing_as b x).outcome) → (closing_as b x).book ≡ b
    go true r = refl
    go false r = absurd (omega (arith, refused r))
keeps b (read_seat n) = λ r. refl
keeps b (read_open n) = λ r. refl
keeps b (read_closed n) = λ r. refl
keeps b read_turn = λ r. refl
keeps b read_company = λ r. refl

pub turn_book : (company : ℕ) (before : List BookCall) (c : BookCall) → TurnBook company before c
turn_book company before c =
    let r : Ran company (entries before) (book_after (fresh_book company) before) (standing before) = ran company before in
    record { replies = replies company before (book_after (fresh_book company) before) r.agrees r.stands c; keeps = keeps (book_after (fresh_book company) before) c }
