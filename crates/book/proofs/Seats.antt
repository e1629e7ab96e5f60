-- What is read at a seat's place of an array. Assumes nothing.
use mathlib.Core.Path.{◌≡◌, refl, sym, ◌∙◌}
use mathlib.Core.Bool.{Bool, true, false, cond}
use mathlib.Core.List.{List, [], ◌∷◌, map}
use Prim.Native.Nat.{ℕ, zero, suc, ◌+◌, ◌-◌, ◌≤◌, ◌<◌}
use native.Mathlib.Omega.{arith}
use lib.Dec.{eqb, ltb, leb}
use lib.ListN.{length, get_or, set, replicate, length-map}
use borrow.Author.Tests.{eqb-false, ltb-false, leb-true, eq-eqb, ne_eqb, le-ltb}
use Rattle.addresses.specs.declared.device_address.AddressKind.TheVariants.{Public}
use Rattle.addresses.specs.declared.device_address.DeviceAddress.{DeviceAddress}
use Rattle.book_spec.specs.Book.{is_filled, kept_at, with_open}
use Rattle.book_spec.specs.Moves.{no_move}
use Rattle.book_spec.specs.State.{Book}
use Rattle.book_spec.specs.declared.Move.{Move}

-- ---- the place of a filled seat
pub record Place (b : Book) (n : ℕ) : Type 0 where
  pub some : 1 ≤ n
  pub few : n ≤ 64
  pub within : n ≤ b.filled

pub place : (b : Book) (n : ℕ) → is_filled b n ≡ true → Place b n
unfolding is_filled
place b n = go (eqb n 0) (ltb 64 n) (leb n b.filled) refl refl refl
  where
    go : (x y z : Bool) → eqb n 0 ≡ x → ltb 64 n ≡ y → leb n b.filled ≡ z → cond x false (cond y false z) ≡ true → Place b n
    go true y z e f g h = absurd (let w : ◌≡◌ {A = ℕ} 0 1 = cc in omega arith)
    go false true z e f g h = absurd (let w : ◌≡◌ {A = ℕ} 0 1 = cc in omega arith)
    go false false z e f g h =
        record { some = let k : n ≡ 0 → ⊥ = eqb-false n 0 e in omega arith; few = ltb-false 64 n f; within = leb-true n b.filled (g ∙ h) }

-- an array's relation counts the elements as they are laid out
pub length_mapped : (X Y : Type 0) (f : X → Y) (l : List X) (n : ℕ) → length (map f l) ≡ n → length l ≡ n
length_mapped X Y f l n p = sym (length-map l f) ∙ p

-- within a list the element past its end does not count
get_d_any : {A : Type 0} (l : List A) (i : ℕ) (d e : A) → i < length l → get_or l i d ≡ get_or l i e
get_d_any [] i d e h = absurd (omega arith)
get_d_any (x ∷ l) zero d e h = refl
get_d_any (x ∷ l) (suc i) d e h = get_d_any l i d e (omega arith)

-- so it does not at a seat's place
pub at_place : {A : Type 0} (l : List A) (n : ℕ) (d e : A) → length l ≡ 64 → 1 ≤ n → n ≤ 64 → get_or l (n - 1) d ≡ get_or l (n - 1) e
at_place l n d e long some few = get_d_any l (n - 1) d e (omega arith)

-- what the code reads past an array's end
abbrev pub past_moves : Move
past_moves = record { len = 0; octets = [] }

abbrev pub past_addresses : DeviceAddress
past_addresses = record { bytes = []; kind = Public }

-- ---- books, of any address and move to fill them with
abbrev pub fresh_with : DeviceAddress → Move → ℕ → Book
fresh_with a m company =
    record { company = company; turn = 0; filled = 0; addresses = replicate 64 a; kept = replicate 64 m; closed = replicate 64 m }

abbrev pub next_with : Move → Book → Book
next_with m b =
    record { company = b.company; turn = b.turn + 1; filled = b.filled; addresses = b.addresses; kept = replicate 64 m; closed = b.kept }

abbrev pub seat_with : Move → DeviceAddress → Book → Book
seat_with m a b =
    record {
      company = b.company;
      turn = b.turn;
      filled = b.filled + 1;
      addresses = set b.addresses b.filled a;
      kept = set b.kept b.filled m;
      closed = set b.closed b.filled m;
    }

-- ---- a move that is to be kept: of a sender without a seat, and of one whose seat has the place `at`
module _ (m : Move) (b : Book) where
  pub no_seat : b ≡ kept_at 0 m b
  unfolding kept_at
  no_seat = refl

  module _ (at : ℕ) (few : at < 64) (long : length b.kept ≡ 64) where
    back : at + 1 - 1 ≡ at
    back = omega arith

    pub has_one : ((get_or b.kept at past_moves).len ≡ 0 → ⊥) → b ≡ kept_at (at + 1) m b
    unfolding kept_at
    has_one one = rw (ne_eqb (at + 1) 0 (omega arith), le-ltb 64 (at + 1) (omega arith), back, get_d_any b.kept at no_move past_moves (omega arith), ne_eqb (get_or b.kept at past_moves).len 0 one)

    pub first_one : (get_or b.kept at past_moves).len ≡ 0 → with_open at m b ≡ kept_at (at + 1) m b
    unfolding kept_at
    first_one empty = rw (ne_eqb (at + 1) 0 (omega arith), le-ltb 64 (at + 1) (omega arith), back, get_d_any b.kept at no_move past_moves (omega arith), eq-eqb (get_or b.kept at past_moves).len 0 empty)
