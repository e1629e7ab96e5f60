-- What each change of a book does to the open moves that it shows. These hold of every book. Assumes nothing.
use mathlib.Core.Path.{◌≡◌, refl, sym, ap, ◌∙◌}
use mathlib.Core.Bool.{Bool, true, false, cond, ◌&&◌}
use mathlib.Core.List.{List, [], ◌∷◌}
use Prim.Native.Nat.{ℕ, zero, suc, ◌+◌, ◌-◌, ◌≤◌}
use native.Mathlib.Omega.{arith}
use lib.Dec.{eqb, ltb, leb}
use lib.ListN.{length, get_or, set, length-set}
use lib.Seq.{get_or-set_same, get_or-set_other, set_out}
use borrow.Author.Tests.{eqb-true, eqb-false, ltb-true, ltb-false, leb-true, leb-false}
use Rattle.addresses.specs.declared.device_address.DeviceAddress.{DeviceAddress}
use Rattle.book_spec.specs.declared.Move.{Move}
use Rattle.book_spec.specs.State.{Book, HeardMove}
use Rattle.book_spec.specs.Moves.{no_move}
use Rattle.book_spec.specs.Book.{is_filled, open_at, closed_at, with_seat, with_open, kept_at, seat_number, seats_of, taken}

pub record Place (b : Book) (n : ℕ) : Type 0 where
  pub some : 1 ≤ n
  pub few : n ≤ 64
  pub within : n ≤ b.filled

-- the number of a filled seat
pub place : (b : Book) (n : ℕ) → is_filled b n ≡ true → Place b n
unfolding is_filled
place b n = go (eqb n 0) (ltb 64 n) (leb n b.filled) refl refl refl
  where
    go : (x y z : Bool) → eqb n 0 ≡ x → ltb 64 n ≡ y → leb n b.filled ≡ z → cond x false (cond y false z) ≡ true → Place b n
    go true y z e f g h = absurd (let w : ◌≡◌ {A = ℕ} 0 1 = cc in omega arith)
    go false true z e f g h = absurd (let w : ◌≡◌ {A = ℕ} 0 1 = cc in omega arith)
    go false false z e f g h =
        record { some = let k : n ≡ 0 → ⊥ = eqb-false n 0 e in omega arith; few = ltb-false 64 n f; within = leb-true n b.filled (g ∙ h) }

-- two Bools that contradict
pub clash : {A : Type 0} {x : Bool} → x ≡ true → x ≡ false → A
clash e f = absurd (let z : ◌≡◌ {A = ℕ} 0 1 = cc in omega arith)

pub get_d_set_self : {A : Type 0} (l : List A) (i : ℕ) (d : A) → get_or (set l i d) i d ≡ d
get_d_set_self [] i d = refl
get_d_set_self (x ∷ l) zero d = refl
get_d_set_self (x ∷ l) (suc i) d = get_d_set_self l i d

pub shown : (b : Book) (s : ℕ) → is_filled b s ≡ true → open_at b s ≡ get_or b.kept (s - 1) no_move
unfolding open_at
shown b s e = rw e refl

pub hidden : (b : Book) (s : ℕ) → is_filled b s ≡ false → open_at b s ≡ no_move
unfolding open_at
hidden b s e = rw e refl

-- a list read at seat n, where the next seat is filled: at the new seat the new element, and at any other what it was
module _ (l : List Move) (f n : ℕ) where
  pub seat_shown : cond (cond (eqb n 0) false (cond (ltb 64 n) false (leb n (f + 1)))) (get_or (set l f no_move) (n - 1) no_move) no_move
      ≡ cond (eqb n (f + 1)) no_move (cond (cond (eqb n 0) false (cond (ltb 64 n) false (leb n f))) (get_or l (n - 1) no_move) no_move)
  seat_shown = go (eqb n 0) (ltb 64 n) (leb n (f + 1)) (leb n f) (eqb n (f + 1)) refl refl refl refl refl
    where
      go : (x y z w v : Bool) → eqb n 0 ≡ x → ltb 64 n ≡ y → leb n (f + 1) ≡ z → leb n f ≡ w → eqb n (f + 1) ≡ v
          → cond (cond x false (cond y false z)) (get_or (set l f no_move) (n - 1) no_move) no_move
          ≡ cond v no_move (cond (cond x false (cond y false w)) (get_or l (n - 1) no_move) no_move)
      go true y z w true e₁ e₂ e₃ e₄ e₅ = refl
      go true y z w false e₁ e₂ e₃ e₄ e₅ = refl
      go false true z w true e₁ e₂ e₃ e₄ e₅ = refl
      go false true z w false e₁ e₂ e₃ e₄ e₅ = refl
      go false false false w true e₁ e₂ e₃ e₄ e₅ = refl
      go false false false true false e₁ e₂ e₃ e₄ e₅ = absurd (omega (arith, leb-false n (f + 1) e₃, leb-true n f e₄))
      go false false false false false e₁ e₂ e₃ e₄ e₅ = refl
      go false false true w true e₁ e₂ e₃ e₄ e₅ =
          let at : n - 1 ≡ f = omega (arith, eqb-true n (f + 1) e₅) in
          rw at (get_d_set_self l f no_move)
      go false false true true false e₁ e₂ e₃ e₄ e₅ =
          let some : n ≡ 0 → ⊥ = eqb-false n 0 e₁ in
          let other : n - 1 ≡ f → ⊥ = λ e. omega (arith, leb-true n f e₄) in
          get_or-set_other l f (n - 1) no_move no_move other
      go false false true false false e₁ e₂ e₃ e₄ e₅ =
          let new : n ≡ f + 1 → ⊥ = eqb-false n (f + 1) e₅ in
          absurd (omega (arith, leb-true n (f + 1) e₃, leb-false n f e₄))

pub open_seat : (a : DeviceAddress) (b : Book) (n : ℕ) → open_at (with_seat a b) n ≡ cond (eqb n (b.filled + 1)) no_move (open_at b n)
unfolding open_at with_seat is_filled
open_seat a b n = seat_shown b.kept b.filled n

pub closed_seat : (a : DeviceAddress) (b : Book) (n : ℕ) → closed_at (with_seat a b) n ≡ cond (eqb n (b.filled + 1)) no_move (closed_at b n)
unfolding closed_at with_seat is_filled
closed_seat a b n = seat_shown b.closed b.filled n

filled_open : (at : ℕ) (m : Move) (b : Book) (s : ℕ) → is_filled (with_open at m b) s ≡ is_filled b s
unfolding with_open is_filled
filled_open at m b s = refl

-- seat s takes a move for seat n: it is that seat, filled, in the array, and without a move
abbrev pub takes : Book → ℕ → ℕ → Bool
takes b n s = eqb s n && (is_filled b s && (ltb (s - 1) (length b.kept) && eqb (open_at b s).len 0))

module _ (n : ℕ) (m : Move) (b : Book) (s : ℕ) where
  -- another seat
  other_seat : eqb s n ≡ false → takes b n s ≡ false
  other_seat e = rw e refl

  unfilled : is_filled b s ≡ false → takes b n s ≡ false
  unfilled e = go (eqb s n)
    where
      go : (x : Bool) → (x && (is_filled b s && (ltb (s - 1) (length b.kept) && eqb (open_at b s).len 0))) ≡ false
      go true = rw e refl
      go false = refl

  -- no seat has the number n
  pub takes_none : ((e : s ≡ n) → is_filled b s ≡ true → ⊥) → takes b n s ≡ false
  takes_none none = go (eqb s n) (is_filled b s) refl refl
    where
      go : (x y : Bool) → eqb s n ≡ x → is_filled b s ≡ y → takes b n s ≡ false
      go false y e f = other_seat e
      go true false e f = unfilled f
      go true true e f = absurd (none (eqb-true s n e) f)

  -- the seat has a move
  taken_seat : eqb (get_or b.kept (n - 1) no_move).len 0 ≡ false → takes b n s ≡ false
  taken_seat g = go (eqb s n) (is_filled b s) (ltb (s - 1) (length b.kept)) refl refl
    where
      go : (x y z : Bool) → eqb s n ≡ x → is_filled b s ≡ y → takes b n s ≡ false
      go false y z e f = other_seat e
      go true false z e f = unfilled f
      go true true z e f = rw (e, f, shown b s f, eqb-true s n e, g) (both (ltb (n - 1) (length b.kept)))
        where
          both : (x : Bool) → (x && false) ≡ false
          both true = refl
          both false = refl

  unchanged : takes b n s ≡ false → open_at b s ≡ cond (takes b n s) m (open_at b s)
  unchanged e = rw e refl

  changed : (n ≡ 0 → ⊥) → n ≤ 64 → eqb (get_or b.kept (n - 1) no_move).len 0 ≡ true → open_at (with_open (n - 1) m b) s ≡ cond (takes b n s) m (open_at b s)
  unfolding with_open
  changed some few free = go (is_filled b s) (eqb s n) (ltb (s - 1) (length b.kept)) refl refl refl
    where
      same : is_filled (with_open (n - 1) m b) s ≡ is_filled b s
      same = filled_open (n - 1) m b s

      go : (x y z : Bool) → is_filled b s ≡ x → eqb s n ≡ y → ltb (s - 1) (length b.kept) ≡ z
          → open_at (with_open (n - 1) m b) s ≡ cond (takes b n s) m (open_at b s)
      go false y z e f g = hidden (with_open (n - 1) m b) s (same ∙ e) ∙ sym (hidden b s e) ∙ unchanged (unfilled e)
      go true false z e f g =
          let p : Place b s = place b s e in
          let other : s - 1 ≡ n - 1 → ⊥ = λ h. eqb-false s n f (omega arith) in
          shown (with_open (n - 1) m b) s (same ∙ e) ∙ get_or-set_other b.kept (n - 1) (s - 1) m no_move other ∙ sym (shown b s e) ∙ unchanged (other_seat f)
      go true true true e f g =
          shown (with_open (n - 1) m b) s (same ∙ e)
          ∙ rw (f, e, g, shown b s e, eqb-true s n f, free) (get_or-set_same b.kept (n - 1) m no_move (rw (eqb-true s n f) at (ltb-true (s - 1) (length b.kept) g)))
      go true true false e f g =
          shown (with_open (n - 1) m b) s (same ∙ e)
          ∙ ap (λ (l : List Move). get_or l (s - 1) no_move) (set_out b.kept (n - 1) m (rw (eqb-true s n f) at (ltb-false (s - 1) (length b.kept) g)))
          ∙ sym (shown b s e)
          ∙ unchanged (rw (f, e, g) refl)

-- the open moves after a move for seat n
pub open_kept : (n : ℕ) (m : Move) (b : Book) (s : ℕ) → open_at (kept_at n m b) s ≡ cond (takes b n s) m (open_at b s)
unfolding kept_at
open_kept n m b s = go (eqb n 0) (ltb 64 n) (eqb (get_or b.kept (n - 1) no_move).len 0) refl refl refl
  where
    go : (x y z : Bool) → eqb n 0 ≡ x → ltb 64 n ≡ y → eqb (get_or b.kept (n - 1) no_move).len 0 ≡ z
        → open_at (cond x b (cond y b (cond z (with_open (n - 1) m b) b))) s ≡ cond (takes b n s) m (open_at b s)
    go true y z e f g = unchanged n m b s (takes_none n m b s (λ same is. omega (arith, (place b s is).some, eqb-true n 0 e)))
    go false true z e f g = unchanged n m b s (takes_none n m b s (λ same is. omega (arith, (place b s is).few, ltb-true 64 n f)))
    go false false false e f g = unchanged n m b s (taken_seat n m b s g)
    go false false true e f g = changed n m b s (eqb-false n 0 e) (ltb-false 64 n f) g

-- all but the open moves, and how many of these there are
pub record Rest (b c : Book) : Type 0 where
  pub number : b.company ≡ c.company
  pub turn : b.turn ≡ c.turn
  pub filled : b.filled ≡ c.filled
  pub addresses : b.addresses ≡ c.addresses
  pub closed : b.closed ≡ c.closed
  pub size : length b.kept ≡ length c.kept

itself : (b : Book) → Rest b b
itself b = record { number = refl; turn = refl; filled = refl; addresses = refl; closed = refl; size = refl }

pub rest_kept : (n : ℕ) (m : Move) (b : Book) → Rest (kept_at n m b) b
unfolding kept_at with_open
rest_kept n m b = go (eqb n 0) (ltb 64 n) (eqb (get_or b.kept (n - 1) no_move).len 0)
  where
    go : (x y z : Bool) → Rest (cond x b (cond y b (cond z (with_open (n - 1) m b) b))) b
    go true y z = itself b
    go false true z = itself b
    go false false false = itself b
    go false false true =
        record { number = refl; turn = refl; filled = refl; addresses = refl; closed = refl; size = length-set b.kept (n - 1) m }

pub rest_taken : (sender : DeviceAddress) (h : HeardMove) (b : Book) → Rest (taken sender h b) b
unfolding taken
rest_taken sender h b = go h.found (eqb h.turn b.turn)
  where
    go : (x y : Bool) → Rest (cond x (cond y (kept_at (seat_number sender (seats_of b)) h.played b) b) b) b
    go false y = itself b
    go true false = itself b
    go true true = rest_kept (seat_number sender (seats_of b)) h.played b

-- the open moves after a report
pub open_taken : (sender : DeviceAddress) (h : HeardMove) (b : Book) (s : ℕ)
    → open_at (taken sender h b) s ≡ cond ((h.found && eqb h.turn b.turn) && takes b (seat_number sender (seats_of b)) s) h.played (open_at b s)
unfolding taken
open_taken sender h b s = go h.found (eqb h.turn b.turn)
  where
    go : (x y : Bool) → open_at (cond x (cond y (kept_at (seat_number sender (seats_of b)) h.played b) b) b) s
        ≡ cond ((x && y) && takes b (seat_number sender (seats_of b)) s) h.played (open_at b s)
    go false y = refl
    go true false = refl
    go true true = open_kept (seat_number sender (seats_of b)) h.played b s
