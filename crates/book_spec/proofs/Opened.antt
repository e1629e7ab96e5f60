-- Turns and seats after a call and over a list of calls: `stands_on`, `same_turn` and `keeps_seats`. Assumes nothing.
use mathlib.Core.Bool.{Bool, true, false, cond, not, ◌||◌}
use mathlib.Core.List.{List, [], ◌∷◌, ◌++◌}
use mathlib.Core.Path.{◌≡◌, refl, sym, subst⁻¹, ◌∙◌}
use Prim.Native.Nat.{ℕ, ◌+◌, ◌≤◌}
use native.Mathlib.Omega.{arith}
use lib.Dec.{eqb, leb}
use lib.ListN.{length, length-append}
use borrow.Author.Tests.{eq-eqb, ne_eqb, le-leb, lt-leb}
use Rattle.addresses.specs.declared.device_address.DeviceAddress.{DeviceAddress}
use Rattle.book_spec.specs.Book.{seat_number}
use Rattle.book_spec.specs.History.{BookCall, seat, report, close, read_seat, read_open, read_closed, read_turn, read_company, BookStanding, first_standing, standing_on, standing_all, standing}
use Rattle.book_spec.specs.TurnBook.{SeatIs, StandsOn, closes, Open, SameTurn, KeepsSeats}
use Rattle.book_spec.proofs.Seats.{not_seated_law, no_number, SeatsOn, same_seats, one_more, seats_on, seat_before, distinct}

-- ---- one call
pub stands_on : (st : BookStanding) → StandsOn st
unfolding standing_on
stands_on st =
    record {
      sits = λ a none room. rw (eq-eqb (seat_number a st.seats) 0 (no_number st.seats a none), lt-leb 64 (length st.seats) room) refl;
      already = λ a is. rw (ne_eqb (seat_number a st.seats) 0 (λ none. not_seated_law st.seats a none is)) refl;
      full = λ a none. go (not (eqb (seat_number a st.seats) 0)) (le-leb 64 (length st.seats) none) a;
      next_turn_law = λ not_last. rw (ne_eqb st.turn 65535 not_last) refl;
      last_turn = λ last. rw (eq-eqb st.turn 65535 last) refl;
      reported = λ sender area. refl;
      seat_read = λ n. refl;
      open_read = λ n. refl;
      closed_read = λ n. refl;
      turn_read = refl;
      company_read = refl;
    }
  where
    go : (x : Bool) → leb 64 (length st.seats) ≡ true → (a : DeviceAddress) → cond (x || leb 64 (length st.seats)) st (record { turn = st.turn; seats = st.seats ++ (a ∷ []) }) ≡ st
    go true e a = refl
    go false e a = rw e refl

-- ---- the open turn
-- a call that closes a turn opens the next, and no other changes it
pub turn_on : (st : BookStanding) (c : BookCall) → (standing_on st c).turn ≡ cond (closes st c) (st.turn + 1) st.turn
unfolding standing_on
turn_on st (seat a) = go (not (eqb (seat_number a st.seats) 0) || leb 64 (length st.seats))
  where
    made : Bool → BookStanding
    made x = cond x st (record { turn = st.turn; seats = st.seats ++ (a ∷ []) })

    go : (x : Bool) → (made x).turn ≡ st.turn
    go true = refl
    go false = refl
turn_on st close = go (eqb st.turn 65535)
  where
    made : Bool → BookStanding
    made x = cond x st (record { turn = st.turn + 1; seats = st.seats })

    go : (x : Bool) → (made x).turn ≡ cond (not x) (st.turn + 1) st.turn
    go true = refl
    go false = refl
turn_on st (report sender area) = refl
turn_on st (read_seat n) = refl
turn_on st (read_open n) = refl
turn_on st (read_closed n) = refl
turn_on st read_turn = refl
turn_on st read_company = refl

pub turn_grows : (st : BookStanding) (calls : List BookCall) → st.turn ≤ (standing_all st calls).turn
turn_grows st [] = omega arith
turn_grows st (c ∷ cs) = go (closes st c) (turn_on st c) (turn_grows (standing_on st c) cs)
  where
    go : (x : Bool) → (standing_on st c).turn ≡ cond x (st.turn + 1) st.turn → (standing_on st c).turn ≤ (standing_all (standing_on st c) cs).turn
        → st.turn ≤ (standing_all (standing_on st c) cs).turn
    go true e h = omega (arith, e, h)
    go false e h = omega (arith, e, h)

pub same_turn : (st : BookStanding) (calls : List BookCall) → SameTurn st calls
same_turn st [] = record { since = λ e. Open.none; still = λ o. refl }
same_turn st (c ∷ cs) = go (closes st c) refl (turn_on st c) (same_turn (standing_on st c) cs)
  where
    first : Open st (c ∷ cs) → closes st c ≡ false
    first (Open.here f o) = f

    rest : Open st (c ∷ cs) → Open (standing_on st c) cs
    rest (Open.here f o) = o

    go : (x : Bool) → closes st c ≡ x → (standing_on st c).turn ≡ cond x (st.turn + 1) st.turn → SameTurn (standing_on st c) cs → SameTurn st (c ∷ cs)
    go true f e h =
        record {
          since = λ same. absurd (omega (arith, same, e, turn_grows (standing_on st c) cs));
          still = λ o. let not-it = first o in absurd (let z : ◌≡◌ {A = ℕ} 0 1 = cc in omega arith);
        }
    go false f e h = record { since = λ same. Open.here f (h.since (same ∙ sym e)); still = λ o. h.still (rest o) ∙ e }

-- ---- seats
pub seats_stay : (st : BookStanding) (calls : List BookCall) (n : ℕ) (a : DeviceAddress) → SeatIs n a st.seats → SeatIs n a (standing_all st calls).seats
seats_stay st [] n a s = s
seats_stay st (c ∷ cs) n a s = seats_stay (standing_on st c) cs n a (go (standing_on st c).seats (seats_on st c))
  where
    go : (l : List DeviceAddress) → SeatsOn st.seats l → SeatIs n a l
    go _ same_seats = s
    go _ (one_more b free room) = seat_before n a st.seats (b ∷ []) s

few_on : (seats : List DeviceAddress) (l : List DeviceAddress) → length seats ≤ 64 → SeatsOn seats l → length l ≤ 64
few_on seats _ few same_seats = few
few_on seats _ few (one_more a free room) = omega (arith, length-append seats (a ∷ []), room)

pub few_all : (st : BookStanding) (calls : List BookCall) → length st.seats ≤ 64 → length (standing_all st calls).seats ≤ 64
few_all st [] few = few
few_all st (c ∷ cs) few = few_all (standing_on st c) cs (few_on st.seats (standing_on st c).seats few (seats_on st c))

pub standing_append : (st : BookStanding) (before more : List BookCall) → standing_all st (before ++ more) ≡ standing_all (standing_all st before) more
standing_append st [] more = refl
standing_append st (c ∷ cs) more = standing_append (standing_on st c) cs more

pub keeps_seats : (before more : List BookCall) → KeepsSeats before more
keeps_seats before more =
    record {
      stays = λ n a s.
          subst⁻¹ (λ (st : BookStanding). SeatIs n a st.seats) (standing_append first_standing before more) (seats_stay (standing before) more n a s);
      one_seat = λ n k a s t. (distinct before).one_seat n k a s t;
      up_to_64 = few_all first_standing before (omega arith);
    }
