-- Octets added to a packet one after the other. Assumes nothing.
use mathlib.Core.Path.{◌≡◌, refl, sym, ap₂}
use mathlib.Core.List.{List, [], ◌∷◌, ◌++◌, append_assoc, append-nil}
use Prim.Native.Nat.{ℕ, suc, ◌+◌, ◌≤◌, ◌<◌}
use native.Mathlib.Numerals.{add-one}
use native.Mathlib.Omega.{arith}
use lib.Bits.{bit_xor, xor_comm}
use lib.ListN.{length, get_or, take, drop, set, length-append}
use lib.Seq.{drop-cons, take-suc-set, drop-set-lt, take-length, drop-length}
use Rattle.whitening.specs.Whitening.{plus}

-- what is done, and what is to be done
abbrev pub partly : ℕ → List ℕ → List ℕ → List ℕ
partly i packet octets = take i packet ++ plus (drop i packet) (drop i octets)

pub partly_turn : (i : ℕ) (packet octets : List ℕ) → i < length packet → i < length octets
    → partly (i + 1) (set packet i (bit_xor (get_or packet i 0) (get_or octets i 0))) octets ≡ partly i packet octets
unfolding plus
partly_turn i packet octets h l =
    let below : i < suc i = omega arith in
    rw (add-one, take-suc-set packet i, drop-set-lt (suc i) packet i, drop-cons packet i 0, drop-cons octets i 0, append_assoc)

pub partly_all : (packet octets : List ℕ) → partly (length packet) packet octets ≡ packet
unfolding plus
partly_all packet octets = rw (take-length, drop-length, append-nil)

-- in either order
plus_none : (xs : List ℕ) → plus xs [] ≡ []
unfolding plus
plus_none [] = refl
plus_none (x ∷ xs) = refl

pub plus_comm : (xs ys : List ℕ) → plus xs ys ≡ plus ys xs
unfolding plus
plus_comm [] ys = sym (plus_none ys)
plus_comm (x ∷ xs) [] = refl
plus_comm (x ∷ xs) (y ∷ ys) = ap₂ ◌∷◌ (xor_comm x y) (plus_comm xs ys)

-- octets at the front of a buffer
pub fits_front : (front rest : List ℕ) (n : ℕ) → length front ≡ n → n ≤ length (front ++ rest)
fits_front front rest n e = simp length-append (omega arith)
