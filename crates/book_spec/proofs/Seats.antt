-- The seats of a list of calls: an address and its number (`not_seated_law`, `no_number`, `seat_found`, `seat_number_law`), and that no address has two (`distinct`). Assumes nothing.
--   numbered        == `seat_number_from` is the number of a seat of the address, or 0 where it has none
--   Distinct seats  == no address has two seats
use mathlib.Core.Bool.{Bool, true, false, cond, not, ◌||◌}
use mathlib.Core.List.{List, [], ◌∷◌, ◌++◌, append_assoc, nil≢cons, head-eq_of_cons-eq, tail-eq_of_cons-eq}
use mathlib.Core.Path.{◌≡◌, refl, sym, ap, subst, ◌∙◌}
use Prim.Native.Nat.{ℕ, ◌+◌, ◌<◌}
use native.Mathlib.Omega.{arith}
use lib.Dec.{eqb, leb}
use lib.ListN.{length}
use borrow.Author.Tests.{eqb-true, leb-false}
use Rattle.addresses.specs.Address.{same_address}
use Rattle.addresses.specs.declared.device_address.DeviceAddress.{DeviceAddress}
use Rattle.addresses.proofs.Addresses.{equality}
use Rattle.book_spec.specs.Book.{seat_number_from, seat_number}
use Rattle.book_spec.specs.History.{BookCall, seat, report, close, read_seat, read_open, read_closed, read_turn, read_company, BookStanding, first_standing, standing_on, standing_all, standing}
use Rattle.book_spec.specs.TurnBook.{SeatIs, IsSeated}

-- ---- a seat among those of a longer list
no_seat : (n : ℕ) (a : DeviceAddress) → SeatIs n a [] → ⊥
no_seat n a s = go s.earlier s.tile
  where
    go : (earlier : List DeviceAddress) → [] ≡ earlier ++ (a ∷ s.later) → ⊥
    go [] e = nil≢cons e
    go (x ∷ xs) e = nil≢cons e

pub seat_first : (a : DeviceAddress) (seats : List DeviceAddress) → SeatIs 1 a (a ∷ seats)
seat_first a seats = record { earlier = []; later = seats; tile = refl; counted = refl }

pub seat_next : (n : ℕ) (a x : DeviceAddress) (seats : List DeviceAddress) → SeatIs n a seats → SeatIs (n + 1) a (x ∷ seats)
seat_next n a x seats s =
    record { earlier = x ∷ s.earlier; later = s.later; tile = ap (λ (l : List DeviceAddress). x ∷ l) s.tile; counted = omega (arith, s.counted) }

-- a seat of a list is the first or one of the others
data Among (a x : DeviceAddress) (seats : List DeviceAddress) (n : ℕ) : Type 0 where
  this : x ≡ a → n ≡ 1 → Among a x seats n
  other : (k : ℕ) → SeatIs k a seats → n ≡ k + 1 → Among a x seats n

among : (n : ℕ) (a x : DeviceAddress) (seats : List DeviceAddress) → SeatIs n a (x ∷ seats) → Among a x seats n
among n a x seats s = go s.earlier s.tile s.counted
  where
    go : (earlier : List DeviceAddress) → x ∷ seats ≡ earlier ++ (a ∷ s.later) → n ≡ length earlier + 1 → Among a x seats n
    go [] e c = this (head-eq_of_cons-eq e) (omega (arith, c))
    go (y ∷ ys) e c = other (length ys + 1) (record { earlier = ys; later = s.later; tile = tail-eq_of_cons-eq e; counted = refl }) (omega (arith, c))

-- ---- the number of an address
data Numbered (a : DeviceAddress) (k : ℕ) (seats : List DeviceAddress) : ℕ → Type 0 where
  nowhere : (IsSeated a seats → ⊥) → Numbered a k seats 0
  there : (n : ℕ) → SeatIs n a seats → Numbered a k seats (k + n)

numbered : (a : DeviceAddress) (k : ℕ) (seats : List DeviceAddress) → Numbered a k seats (seat_number_from a k seats)
unfolding seat_number_from
numbered a k [] = nowhere (λ s. no_seat s.number a s.seat)
numbered a k (x ∷ xs) = go (same_address x a) refl (seat_number_from a (k + 1) xs) (numbered a (k + 1) xs)
  where
    none : same_address x a ≡ false → (IsSeated a xs → ⊥) → IsSeated a (x ∷ xs) → ⊥
    none e not-later s = pick (among s.number a x xs s.seat)
      where
        pick : Among a x xs s.number → ⊥
        pick (this same c) = let same-too = (equality x a).complete same in let z : ◌≡◌ {A = ℕ} 0 1 = cc in omega arith
        pick (other n later c) = not-later (record { number = n; seat = later })

    go : (b : Bool) → same_address x a ≡ b → (m : ℕ) → Numbered a (k + 1) xs m → Numbered a k (x ∷ xs) (cond b (k + 1) m)
    go true e m r = there 1 (subst (λ (y : DeviceAddress). SeatIs 1 a (y ∷ xs)) (sym ((equality x a).sound e)) (seat_first a xs))
    go false e _ (nowhere not-later) = nowhere (none e not-later)
    go false e _ (there n s) =
        let moved : k + (n + 1) ≡ k + 1 + n = omega arith in
        subst (Numbered a k (x ∷ xs)) moved (there (n + 1) (seat_next n a x xs s))

module _ (seats : List DeviceAddress) (a : DeviceAddress) where
  pub not_seated_law : seat_number a seats ≡ 0 → IsSeated a seats → ⊥
  not_seated_law is s = go (seat_number a seats) is (numbered a 0 seats)
    where
      go : (m : ℕ) → m ≡ 0 → Numbered a 0 seats m → ⊥
      go _ e (nowhere none) = none s
      go _ e (there n found) = omega (arith, e, found.counted)

  pub no_number : (IsSeated a seats → ⊥) → seat_number a seats ≡ 0
  no_number none = go (seat_number a seats) (numbered a 0 seats)
    where
      go : (m : ℕ) → Numbered a 0 seats m → m ≡ 0
      go _ (nowhere also) = refl
      go _ (there n found) = absurd (none (record { number = n; seat = found }))

  pub seat_found : (n : ℕ) → seat_number a seats ≡ n → 0 < n → SeatIs n a seats
  seat_found n is some = go (seat_number a seats) is (numbered a 0 seats)
    where
      go : (m : ℕ) → m ≡ n → Numbered a 0 seats m → SeatIs n a seats
      go _ e (nowhere none) = absurd (omega (arith, e, some))
      go _ e (there k found) = subst (λ (i : ℕ). SeatIs i a seats) (let same : k ≡ n = omega (arith, e) in same) found

-- ---- no address has two seats
pub record Distinct (seats : List DeviceAddress) : Type 0 where
  pub one_seat : (n k : ℕ) (a : DeviceAddress) → SeatIs n a seats → SeatIs k a seats → n ≡ k

-- the number that is found is the only one
pub number_is : (seats : List DeviceAddress) → Distinct seats → (n : ℕ) (a : DeviceAddress) → SeatIs n a seats → seat_number a seats ≡ n
number_is seats d n a s = go (seat_number a seats) (numbered a 0 seats)
  where
    go : (m : ℕ) → Numbered a 0 seats m → m ≡ n
    go _ (nowhere none) = absurd (none (record { number = n; seat = s }))
    go _ (there k found) = omega (arith, d.one_seat k n a found s)

-- a seat of a list with one more address is one of the list, or the last
pub seat_before : (n : ℕ) (a : DeviceAddress) (seats more : List DeviceAddress) → SeatIs n a seats → SeatIs n a (seats ++ more)
seat_before n a seats more s = record { earlier = s.earlier; later = s.later ++ more; tile = ap (λ (l : List DeviceAddress). l ++ more) s.tile ∙ append_assoc s.earlier (a ∷ s.later) more; counted = s.counted }

pub seat_last : (a : DeviceAddress) (seats : List DeviceAddress) → SeatIs (length seats + 1) a (seats ++ (a ∷ []))
seat_last a seats = record { earlier = seats; later = []; tile = refl; counted = refl }

pub data OfMore (n : ℕ) (a b : DeviceAddress) (seats : List DeviceAddress) : Type 0 where
  earlier_seat : SeatIs n a seats → OfMore n a b seats
  last_seat : a ≡ b → n ≡ length seats + 1 → OfMore n a b seats

pub of_more : (n : ℕ) (a b : DeviceAddress) (seats : List DeviceAddress) → SeatIs n a (seats ++ (b ∷ [])) → OfMore n a b seats
of_more n a b [] s = go (among n a b [] s)
  where
    go : Among a b [] n → OfMore n a b []
    go (this same c) = last_seat (sym same) c
    go (other k later c) = absurd (no_seat k a later)
of_more n a b (x ∷ xs) s = go (λ k t. of_more k a b xs t) (among n a x (xs ++ (b ∷ [])) s)
  where
    next : (k : ℕ) → n ≡ k + 1 → OfMore k a b xs → OfMore n a b (x ∷ xs)
    next k c (earlier_seat t) = earlier_seat (subst (λ (i : ℕ). SeatIs i a (x ∷ xs)) (sym c) (seat_next k a x xs t))
    next k c (last_seat same l) = last_seat same (omega (arith, c, l))

    go : ((k : ℕ) → SeatIs k a (xs ++ (b ∷ [])) → OfMore k a b xs) → Among a x (xs ++ (b ∷ [])) n → OfMore n a b (x ∷ xs)
    go shorter (this same c) = earlier_seat (subst (λ (i : ℕ). SeatIs i a (x ∷ xs)) (sym c) (subst (λ (y : DeviceAddress). SeatIs 1 a (y ∷ xs)) (sym same) (seat_first a xs)))
    go shorter (other k later c) = next k c (shorter k later)

pub distinct_none : Distinct []
distinct_none = record { one_seat = λ n k a s t. absurd (no_seat n a s) }

pub distinct_more : (seats : List DeviceAddress) (b : DeviceAddress) → Distinct seats → seat_number b seats ≡ 0 → Distinct (seats ++ (b ∷ []))
distinct_more seats b d free = record { one_seat = λ n k a s t. go n k a (of_more n a b seats s) (of_more k a b seats t) }
  where
    never : (n : ℕ) (a : DeviceAddress) → SeatIs n a seats → a ≡ b → ⊥
    never n a s same = not_seated_law seats b free (record { number = n; seat = subst (λ (x : DeviceAddress). SeatIs n x seats) same s })

    go : (n k : ℕ) (a : DeviceAddress) → OfMore n a b seats → OfMore k a b seats → n ≡ k
    go n k a (earlier_seat s) (earlier_seat t) = d.one_seat n k a s t
    go n k a (earlier_seat s) (last_seat same l) = absurd (never n a s same)
    go n k a (last_seat same l) (earlier_seat t) = absurd (never k a t same)
    go n k a (last_seat same l) (last_seat also m) = omega (arith, l, m)

-- ---- one call and many
-- the seats after a call: the same, or one more address, which had none, where one was free
pub data SeatsOn (seats : List DeviceAddress) : List DeviceAddress → Type 0 where
  same_seats : SeatsOn seats seats
  one_more : (a : DeviceAddress) → seat_number a seats ≡ 0 → length seats < 64 → SeatsOn seats (seats ++ (a ∷ []))

pub seats_on : (st : BookStanding) (c : BookCall) → SeatsOn st.seats (standing_on st c).seats
unfolding standing_on
seats_on st (seat a) = go (eqb (seat_number a st.seats) 0) (leb 64 (length st.seats)) refl refl
  where
    made : Bool → BookStanding
    made x = cond x st (record { turn = st.turn; seats = st.seats ++ (a ∷ []) })

    go : (x y : Bool) → eqb (seat_number a st.seats) 0 ≡ x → leb 64 (length st.seats) ≡ y → SeatsOn st.seats (made (not x || y)).seats
    go false y e f = same_seats
    go true true e f = same_seats
    go true false e f = one_more a (eqb-true (seat_number a st.seats) 0 e) (leb-false 64 (length st.seats) f)
seats_on st (report sender area) = same_seats
seats_on st close = go (eqb st.turn 65535)
  where
    made : Bool → BookStanding
    made x = cond x st (record { turn = st.turn + 1; seats = st.seats })

    go : (x : Bool) → SeatsOn st.seats (made x).seats
    go true = same_seats
    go false = same_seats
seats_on st (read_seat n) = same_seats
seats_on st (read_open n) = same_seats
seats_on st (read_closed n) = same_seats
seats_on st read_turn = same_seats
seats_on st read_company = same_seats

pub distinct_on : (st : BookStanding) (c : BookCall) → Distinct st.seats → Distinct (standing_on st c).seats
distinct_on st c d = go (standing_on st c).seats (seats_on st c)
  where
    go : (l : List DeviceAddress) → SeatsOn st.seats l → Distinct l
    go _ same_seats = d
    go _ (one_more a free room) = distinct_more st.seats a d free

pub distinct_all : (st : BookStanding) (calls : List BookCall) → Distinct st.seats → Distinct (standing_all st calls).seats
distinct_all st [] d = d
distinct_all st (c ∷ cs) d = distinct_all (standing_on st c) cs (distinct_on st c d)

pub distinct : (calls : List BookCall) → Distinct (standing calls).seats
distinct calls = distinct_all first_standing calls distinct_none

pub seat_number_law : (calls : List BookCall) (n : ℕ) (a : DeviceAddress) → SeatIs n a (standing calls).seats → seat_number a (standing calls).seats ≡ n
seat_number_law calls n a s = number_is (standing calls).seats (distinct calls) n a s
