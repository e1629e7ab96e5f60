-- After any list of calls the book has what the list says: its turn, its seats, and of each seat the move that is kept (`ran`). Assumes nothing.
--   Agrees company es b   == what holds of a book b after the entries es
--   Ran company es b st   == the same, and the standing after them is st
use mathlib.Core.Path.{◌≡◌, refl, sym, ap, ◌∙◌, subst, subst⁻¹}
use mathlib.Core.Bool.{Bool, true, false, cond, ◌&&◌}
use mathlib.Core.List.{List, [], ◌∷◌, ◌++◌, append_assoc, append-nil}
use Prim.Native.Nat.{ℕ, suc, ◌+◌, ◌-◌, ◌≤◌, ◌<◌}
use native.Mathlib.Omega.{arith}
use lib.Dec.{eqb, ltb, leb}
use lib.ListN.{length, get_or, take, replicate, length-set, length-replicate, get_or-replicate, get_or-eq_default}
use borrow.Author.Tests.{eqb-true, eqb-false, eq-eqb, ne_eqb, lt-ltb, le-ltb, le-leb, lt-leb, ltb-true, ltb-false}
use Rattle.octets.specs.Lists.{All}
use Rattle.octets.proofs.Lists.{all_append}
use Rattle.addresses.specs.Address.{same_address}
use Rattle.addresses.specs.declared.device_address.DeviceAddress.{DeviceAddress}
use Rattle.records_spec.specs.Search.{IsRead}
use Rattle.book_spec.specs.Book.{empty_address, fresh_book, seats_of, seat_number_from, seat_number, is_filled, open_at, closed_at, with_seat, taken, next_turn}
use Rattle.book_spec.specs.History.{BookCall, seat, report, close, next_book, book_after, BookStanding, first_standing, standing_on, standing_all, standing, BookEntry, entries_from, entries}
use Rattle.book_spec.specs.Moves.{no_move, move_heard}
use Rattle.book_spec.specs.State.{Book}
use Rattle.book_spec.specs.TurnBook.{SeatIs, Qualifies, Unheard, KeptIs}
use Rattle.book_spec.specs.TurnBook.KeptIs.{none}
use Rattle.book_spec.proofs.Changes.{clash, place, hidden, open_seat, closed_seat, takes, takes_none, open_taken, Rest, rest_taken}
use Rattle.book_spec.proofs.Heard.{Counts, qualifies_some, counts, qualifies}
use Rattle.book_spec.proofs.Kept.{all_map, kept_pass, kept_take}
use Rattle.book_spec.proofs.Seats.{Distinct, distinct_none, distinct_on, seat_found, number_is}
use Rattle.book_spec.proofs.Steps.{Fit, counted, standing_of, Unread, Happens, quiet, fills, hears, ends, happens, seats_more}

pub record Agrees (company : ℕ) (es : List BookEntry) (b : Book) : Type 0 where
  pub fit : Fit company b
  pub old : All (λ (e : BookEntry). e.before.turn ≤ b.turn) es
  pub kept : (s : ℕ) → KeptIs (Qualifies company s b.turn) es (open_at b s)
  pub closed : (s t : ℕ) → b.turn ≡ t + 1 → KeptIs (Qualifies company s t) es (closed_at b s)
  pub unclosed : (s : ℕ) → b.turn ≡ 0 → closed_at b s ≡ no_move

abbrev entry : Book → BookCall → BookEntry
entry b c = record { before = standing_of b; call = c }

-- ---- the moves that a book shows
-- a list of no moves shows none
blank : (n i : ℕ) → get_or (replicate n no_move) i no_move ≡ no_move
blank n i = go (ltb i n) refl
  where
    go : (x : Bool) → ltb i n ≡ x → get_or (replicate n no_move) i no_move ≡ no_move
    go true e = get_or-replicate n i no_move no_move (ltb-true i n e)
    go false e = get_or-eq_default (replicate n no_move) no_move (rw (length-replicate n no_move) (ltb-false i n e))

blank_shown : (x : Bool) (i : ℕ) → cond x (get_or (replicate 64 no_move) i no_move) no_move ≡ no_move
blank_shown true i = blank 64 i
blank_shown false i = refl

-- the seat that is filled next is not filled
unfilled : (b : Book) (s : ℕ) → s ≡ b.filled + 1 → is_filled b s ≡ false
unfolding is_filled
unfilled b s is = go (eqb s 0) (ltb 64 s)
  where
    go : (x y : Bool) → cond x false (cond y false (leb s b.filled)) ≡ false
    go true y = refl
    go false true = refl
    go false false = lt-leb s b.filled (omega arith)

new_open : (a : DeviceAddress) (b : Book) (s : ℕ) → open_at (with_seat a b) s ≡ open_at b s
new_open a b s = open_seat a b s ∙ go (eqb s (b.filled + 1)) refl
  where
    go : (x : Bool) → eqb s (b.filled + 1) ≡ x → cond x no_move (open_at b s) ≡ open_at b s
    go true e = sym (hidden b s (unfilled b s (eqb-true s (b.filled + 1) e)))
    go false e = refl

new_closed : (a : DeviceAddress) (b : Book) (s : ℕ) → closed_at (with_seat a b) s ≡ closed_at b s
unfolding closed_at
new_closed a b s = closed_seat a b s ∙ go (eqb s (b.filled + 1)) refl
  where
    go : (x : Bool) → eqb s (b.filled + 1) ≡ x → cond x no_move (closed_at b s) ≡ closed_at b s
    go true e = sym (rw (unfilled b s (eqb-true s (b.filled + 1) e)) refl)
    go false e = refl

closed_same : (b c : Book) → c.filled ≡ b.filled → c.closed ≡ b.closed → (s : ℕ) → closed_at c s ≡ closed_at b s
unfolding closed_at is_filled
closed_same b c f e s = rw (f, e) refl

-- ---- the seat that takes a move
number_few : (a : DeviceAddress) (k : ℕ) (l : List DeviceAddress) → seat_number_from a k l ≤ k + length l
unfolding seat_number_from
number_few a k [] = omega arith
number_few a k (x ∷ l) = go (same_address x a) (number_few a (k + 1) l)
  where
    go : (y : Bool) → seat_number_from a (k + 1) l ≤ k + 1 + length l → cond y (k + 1) (seat_number_from a (k + 1) l) ≤ k + suc (length l)
    go true h = omega arith
    go false h = omega arith

fill : (b : Book) (s : ℕ) → 1 ≤ s → s ≤ 64 → s ≤ b.filled → is_filled b s ≡ true
unfolding is_filled
fill b s some few within = let ne : s ≡ 0 → ⊥ = λ z. omega arith in rw (ne_eqb s 0 ne, le-ltb 64 s few, le-leb s b.filled within) refl

-- a sender whose seat has number s; no seat has number 0
abbrev is_from : ℕ → DeviceAddress → List DeviceAddress → Bool
is_from s sender seats = ltb 0 s && eqb s (seat_number sender seats)

module _ (company : ℕ) (b : Book) (fit : Fit company b) (sender : DeviceAddress) (s : ℕ) where
  -- a seat takes a move exactly where it is the sender's and has none
  takes_is : takes b (seat_number sender (seats_of b)) s ≡ (is_from s sender (seats_of b) && eqb (open_at b s).len 0)
  takes_is = go (ltb 0 s) (eqb s n) refl refl
    where
      n : ℕ
      n = seat_number sender (seats_of b)

      few : n ≤ b.filled
      few = omega (arith, number_few sender 0 (seats_of b), counted fit)

      go : (x y : Bool) → ltb 0 s ≡ x → eqb s n ≡ y → takes b n s ≡ ((ltb 0 s && eqb s n) && eqb (open_at b s).len 0)
      go false y e f = takes_none n no_move b s (λ is filled. omega (arith, (place b s filled).some, ltb-false 0 s e)) ∙ rw e refl
      go true false e f = rw (e, f) refl
      go true true e f =
          let is : s ≡ n = eqb-true s n f in
          let filled : is_filled b s ≡ true = fill b s (omega (arith, ltb-true 0 s e)) (omega (arith, few, fit)) (omega (arith, few)) in
          let inside : ltb (s - 1) (length b.kept) ≡ true = lt-ltb (s - 1) (length b.kept) (omega (arith, few, fit, ltb-true 0 s e)) in
          rw (e, f, filled, inside) refl

-- the number of the sender's seat, as the test of it and as a seat
module _ (seats : List DeviceAddress) (sender : DeviceAddress) (s : ℕ) where
  from_is : Distinct seats → SeatIs s sender seats → is_from s sender seats ≡ true
  from_is d is = rw (lt-ltb 0 s (omega (arith, is.counted)), eq-eqb s (seat_number sender seats) (sym (number_is seats d s sender is))) refl

  from_seat : is_from s sender seats ≡ true → SeatIs s sender seats
  from_seat = go (ltb 0 s) (eqb s (seat_number sender seats)) refl refl
    where
      go : (x y : Bool) → ltb 0 s ≡ x → eqb s (seat_number sender seats) ≡ y → (x && y) ≡ true → SeatIs s sender seats
      go false y e f is = clash is refl
      go true false e f is = clash is refl
      go true true e f is = seat_found seats sender s (sym (eqb-true s (seat_number sender seats) f)) (ltb-true 0 s e)

-- ---- before any call
fresh_agrees : (company : ℕ) → Agrees company [] (fresh_book company)
unfolding fresh_book open_at closed_at no_move
fresh_agrees company =
    record {
      fit = record { number = refl; turn = omega arith; few = omega arith; addresses = length-replicate 64 empty_address; kept = length-replicate 64 no_move; closed = length-replicate 64 no_move };
      old = tt;
      kept = λ s. subst⁻¹ (KeptIs (Qualifies company s 0) []) (blank_shown (is_filled (fresh_book company) s) (s - 1)) (none tt);
      closed = λ s t is. absurd (omega (arith, is));
      unclosed = λ s is. blank_shown (is_filled (fresh_book company) s) (s - 1);
    }

fresh_stands : (company : ℕ) → standing_of (fresh_book company) ≡ first_standing
unfolding fresh_book
fresh_stands company = refl

fresh_distinct : (company : ℕ) → Distinct (seats_of (fresh_book company))
unfolding fresh_book
fresh_distinct company = distinct_none

turn_seat : (a : DeviceAddress) (b : Book) → b.turn ≡ (with_seat a b).turn
unfolding with_seat
turn_seat a b = refl

next_stands : (b : Book) → ◌≡◌ {A = BookStanding} (record { turn = b.turn + 1; seats = seats_of b }) (standing_of (next_turn b))
unfolding next_turn
next_stands b = refl

-- before a turn opens nothing qualifies in it
none_yet : (company s t : ℕ) (es : List BookEntry) → All (λ (e : BookEntry). e.before.turn < t) es → Unheard (Qualifies company s t) es
none_yet company s t es old = all_map (λ e was m q. omega (arith, q.open_then)) es old

-- ---- one more call
record Step (company : ℕ) (es : List BookEntry) (b : Book) (c : BookCall) : Type 0 where
  agrees : Agrees company (es ++ (entry b c ∷ [])) (next_book b c)
  stands : standing_on (standing_of b) c ≡ standing_of (next_book b c)

module _ (company : ℕ) (es : List BookEntry) (b : Book) (h : Agrees company es b) where
  older : (t : ℕ) (c : BookCall) → b.turn ≤ t → All (λ (e : BookEntry). e.before.turn ≤ t) (es ++ (entry b c ∷ []))
  older t c le =
      all_append (λ (e : BookEntry). e.before.turn ≤ t) es (entry b c ∷ []) (all_map (λ e was. omega (arith, was, le)) es h.old) (le, tt)

  -- a call that is no report that is read leaves the open moves as they are
  still_open : (c : BookCall) → Unread c → (s : ℕ) → KeptIs (Qualifies company s b.turn) (es ++ (entry b c ∷ [])) (open_at b s)
  still_open c not-it s = kept_pass es (entry b c) (λ m q. not-it q.sender q.area q.is_report_law q.read) (h.kept s)

  -- no call of the open turn changes those of the turn before
  still_closed : (c : BookCall) (s t : ℕ) → b.turn ≡ t + 1 → KeptIs (Qualifies company s t) (es ++ (entry b c ∷ [])) (closed_at b s)
  still_closed c s t is = kept_pass es (entry b c) (λ m q. omega (arith, q.open_then, is)) (h.closed s t is)

  quiet_step : (c : BookCall) → Unread c → Agrees company (es ++ (entry b c ∷ [])) b
  quiet_step c not-it =
      record { fit = h.fit; old = older b.turn c (omega arith); kept = still_open c not-it; closed = still_closed c; unclosed = h.unclosed }

  fills_step : (a : DeviceAddress) → Unread (seat a) → b.filled < 64 → Agrees company (es ++ (entry b (seat a) ∷ [])) (with_seat a b)
  unfolding with_seat
  fills_step a not-it room =
      record {
        fit =
            record {
              number = h.fit.number;
              turn = h.fit.turn;
              few = omega arith;
              addresses = length-set b.addresses b.filled a ∙ h.fit.addresses;
              kept = length-set b.kept b.filled no_move ∙ h.fit.kept;
              closed = length-set b.closed b.filled no_move ∙ h.fit.closed;
            };
        old = older b.turn (seat a) (omega arith);
        kept = λ s. subst⁻¹ (KeptIs (Qualifies company s b.turn) (es ++ (entry b (seat a) ∷ []))) (new_open a b s) (still_open (seat a) not-it s);
        closed = λ s t is. subst⁻¹ (KeptIs (Qualifies company s t) (es ++ (entry b (seat a) ∷ []))) (new_closed a b s) (still_closed (seat a) s t is);
        unclosed = λ s is. new_closed a b s ∙ h.unclosed s is;
      }

  module _ (distinct : Distinct (seats_of b)) (sender : DeviceAddress) (area : List ℕ) (read : IsRead area) where
    hears_open : (s : ℕ) → KeptIs (Qualifies company s b.turn) (es ++ (entry b (report sender area) ∷ [])) (open_at (taken sender (move_heard company area) b) s)
    hears_open s =
        subst⁻¹ (KeptIs (Qualifies company s b.turn) (es ++ (entry b (report sender area) ∷ []))) (open_taken sender (move_heard company area) b s)
        (go (move_heard company area).found (eqb (move_heard company area).turn b.turn) (is_from s sender (seats_of b)) refl refl refl)
      where
        free : takes b (seat_number sender (seats_of b)) s ≡ (is_from s sender (seats_of b) && eqb (open_at b s).len 0)
        free = takes_is company b h.fit sender s

        pass : (Counts company s b.turn (standing_of b) sender area → ⊥) → KeptIs (Qualifies company s b.turn) (es ++ (entry b (report sender area) ∷ [])) (open_at b s)
        pass not-it = kept_pass es (entry b (report sender area)) (λ m q. not-it (counts company s b.turn (standing_of b) sender area m q)) (h.kept s)

        go : (x y z : Bool) → (move_heard company area).found ≡ x → eqb (move_heard company area).turn b.turn ≡ y → is_from s sender (seats_of b) ≡ z
            → KeptIs (Qualifies company s b.turn) (es ++ (entry b (report sender area) ∷ []))
            (cond (((move_heard company area).found && eqb (move_heard company area).turn b.turn) && takes b (seat_number sender (seats_of b)) s) (move_heard company area).played (open_at b s))
        go false y z p q r = rw p (pass (λ c. clash c.found p))
        go true false z p q r = rw (p, q) (pass (λ c. eqb-false (move_heard company area).turn b.turn q c.its_turn))
        go true true false p q r = rw (p, q, free, r) (pass (λ c. clash (from_is (seats_of b) sender s distinct c.from_seat) r))
        go true true true p q r =
            rw (p, q, free, r)
            (kept_take es (entry b (report sender area)) (qualifies_some company s b.turn) (open_at b s) (move_heard company area).played
            (qualifies company s b.turn (standing_of b) sender area read
            (record { found = p; its_turn = eqb-true (move_heard company area).turn b.turn q; open_then = refl; from_seat = from_seat (seats_of b) sender s r }))
            (h.kept s))

    report_stands : standing_on (standing_of b) (report sender area) ≡ standing_of b
    unfolding standing_on
    report_stands = refl

    hears_step : Agrees company (es ++ (entry b (report sender area) ∷ [])) (taken sender (move_heard company area) b)
    hears_step =
        let same : Rest (taken sender (move_heard company area) b) b = rest_taken sender (move_heard company area) b in
        let shown = closed_same b (taken sender (move_heard company area) b) same.filled same.closed in
        record {
          fit =
              record {
                number = same.number ∙ h.fit.number;
                turn = rw same.turn h.fit.turn;
                few = rw same.filled h.fit.few;
                addresses = ap length same.addresses ∙ h.fit.addresses;
                kept = same.size ∙ h.fit.kept;
                closed = ap length same.closed ∙ h.fit.closed;
              };
          old = rw same.turn (older b.turn (report sender area) (omega arith));
          kept = λ s. subst⁻¹ (λ (t : ℕ). KeptIs (Qualifies company s t) (es ++ (entry b (report sender area) ∷ [])) (open_at (taken sender (move_heard company area) b) s)) same.turn (hears_open s);
          closed = λ s t is.
              subst⁻¹ (KeptIs (Qualifies company s t) (es ++ (entry b (report sender area) ∷ []))) (shown s) (still_closed (report sender area) s t (sym same.turn ∙ is));
          unclosed = λ s is. shown s ∙ h.unclosed s (sym same.turn ∙ is);
        }

  ends_step : Unread close → (b.turn ≡ 65535 → ⊥) → Agrees company (es ++ (entry b close ∷ [])) (next_turn b)
  unfolding next_turn open_at closed_at is_filled no_move
  ends_step not-it not_last =
      record {
        fit = record { number = h.fit.number; turn = omega (arith, h.fit.turn, not_last); few = h.fit.few; addresses = h.fit.addresses; kept = length-replicate 64 no_move; closed = h.fit.kept };
        old = older (b.turn + 1) close (omega arith);
        kept = λ s.
            subst⁻¹ (KeptIs (Qualifies company s (b.turn + 1)) (es ++ (entry b close ∷ []))) (blank_shown (is_filled (next_turn b) s) (s - 1))
            (none (none_yet company s (b.turn + 1) (es ++ (entry b close ∷ [])) (all_map (λ e was. omega (arith, was)) (es ++ (entry b close ∷ [])) (older b.turn close (omega arith)))));
        closed = λ s t is. subst (λ (u : ℕ). KeptIs (Qualifies company s u) (es ++ (entry b close ∷ [])) (open_at b s)) (let same : b.turn ≡ t = omega (arith, is) in same) (still_open close not-it s);
        unclosed = λ s is. absurd (omega (arith, is));
      }

  step : Distinct (seats_of b) → (c : BookCall) → Happens b c → Step company es b c
  step distinct c (quiet _ same st not-it) =
      record { agrees = subst⁻¹ (Agrees company (es ++ (entry b c ∷ []))) same (quiet_step c not-it); stands = st ∙ ap standing_of (sym same) }
  step distinct c (fills a not-it room same st) =
      record {
        agrees = subst⁻¹ (Agrees company (es ++ (entry b c ∷ []))) same (fills_step a not-it room);
        stands = st ∙ (λ i. record { turn = turn_seat a b i; seats = sym (seats_more a b h.fit room) i }) ∙ ap standing_of (sym same);
      }
  step distinct c (hears sender area read same) =
      let now : next_book b c ≡ taken sender (move_heard company area) b = same ∙ ap (λ (k : ℕ). taken sender (move_heard k area) b) h.fit.number in
      let rest : Rest (taken sender (move_heard company area) b) b = rest_taken sender (move_heard company area) b in
      record {
        agrees = subst⁻¹ (Agrees company (es ++ (entry b c ∷ []))) now (hears_step distinct sender area read);
        stands =
            report_stands distinct sender area read ∙ sym (λ i. record { turn = rest.turn i; seats = take (rest.filled i) (rest.addresses i) }) ∙ ap standing_of (sym now);
      }
  step distinct c (ends not-it not_last same st) =
      record { agrees = subst⁻¹ (Agrees company (es ++ (entry b c ∷ []))) same (ends_step not-it not_last); stands = st ∙ next_stands b ∙ ap standing_of (sym same) }

-- ---- any list of calls
pub record Ran (company : ℕ) (es : List BookEntry) (b : Book) (st : BookStanding) : Type 0 where
  pub agrees : Agrees company es b
  pub stands : st ≡ standing_of b

run : (company : ℕ) (es : List BookEntry) (b : Book) (calls : List BookCall) → Agrees company es b → Distinct (seats_of b)
    → Ran company (es ++ entries_from (standing_of b) calls) (book_after b calls) (standing_all (standing_of b) calls)
run company es b [] h distinct = record { agrees = subst⁻¹ (λ (l : List BookEntry). Agrees company l b) (append-nil es) h; stands = refl }
run company es b (c ∷ calls) h distinct =
    let s : Step company es b c = step company es b h distinct c (happens b h.fit c) in
    let still : Distinct (seats_of (next_book b c)) = subst (λ (st : BookStanding). Distinct st.seats) s.stands (distinct_on (standing_of b) c distinct) in
    let r : Ran company ((es ++ (entry b c ∷ [])) ++ entries_from (standing_of (next_book b c)) calls) (book_after (next_book b c) calls) (standing_all (standing_of (next_book b c)) calls) =
    run company (es ++ (entry b c ∷ [])) (next_book b c) calls s.agrees still in
    subst⁻¹ (λ (st : BookStanding). Ran company (es ++ (entry b c ∷ entries_from st calls)) (book_after (next_book b c) calls) (standing_all st calls)) s.stands
    (subst (λ (l : List BookEntry). Ran company l (book_after (next_book b c) calls) (standing_all (standing_of (next_book b c)) calls))
    (append_assoc es (entry b c ∷ []) (entries_from (standing_of (next_book b c)) calls)) r)

pub ran : (company : ℕ) (calls : List BookCall) → Ran company (entries calls) (book_after (fresh_book company) calls) (standing calls)
ran company calls =
    subst (λ (st : BookStanding). Ran company (entries_from st calls) (book_after (fresh_book company) calls) (standing_all st calls)) (fresh_stands company)
    (run company [] (fresh_book company) calls (fresh_agrees company) (fresh_distinct company))
