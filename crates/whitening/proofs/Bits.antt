-- Laws of the bits of a number. Assumes nothing.
use mathlib.Core.Path.{◌≡◌, refl, sym, ap, ap₂, ◌∙◌}
use mathlib.Core.Bool.{Bool, true, false}
use mathlib.Core.List.{List, [], ◌∷◌, ◌++◌}
use Prim.Native.Nat.{ℕ, zero, suc, ◌+◌, ◌*◌, ◌/◌, ◌%◌, ◌^◌, ◌<◌}
use native.Mathlib.Nat.{mod-lt, pow-suc, div-add-mod'}
use native.Mathlib.Omega.{arith}
use lib.Arith.{bin_ind}
use lib.Bits.{bit_xor, differ, xor_step, xor_shr, xor_mod, xor_zero_l, block_half, block_odd}
use lib.Dec.{eqb}
use lib.ListN.{length}
use Rattle.channels.specs.Count.{bit}
use Rattle.whitening.specs.Bits.{bits, number}

-- a number below 2
pub below_two : (P : ℕ → Type 0) → P 0 → P 1 → (n : ℕ) → n < 2 → P n
below_two P p q zero h = p
below_two P p q (suc zero) h = q
below_two P p q (suc (suc n)) h = absurd (omega arith)

pub odd_bit : (x : ℕ) → bit (eqb (x % 2) 1) ≡ x % 2
odd_bit x = below_two (λ n. bit (eqb n 1) ≡ n) refl refl (x % 2) (mod-lt x (omega arith))

pub bit_odd : (b : Bool) (n : ℕ) → eqb ((bit b + 2 * n) % 2) 1 ≡ b
bit_odd true n = let e : (1 + 2 * n) % 2 ≡ 1 = omega arith in rw e
bit_odd false n = let e : (0 + 2 * n) % 2 ≡ 0 = omega arith in rw e

pub bit_half : (b : Bool) (n : ℕ) → (bit b + 2 * n) / 2 ≡ n
bit_half true n = omega arith
bit_half false n = omega arith

pub number_bits_8 : (x : ℕ) → number (bits 8 x) ≡ x % 256
unfolding number bits
number_bits_8 x =
    omega (
      arith,
      odd_bit x,
      odd_bit (x / 2),
      odd_bit (x / 2 / 2),
      odd_bit (x / 2 / 2 / 2),
      odd_bit (x / 2 / 2 / 2 / 2),
      odd_bit (x / 2 / 2 / 2 / 2 / 2),
      odd_bit (x / 2 / 2 / 2 / 2 / 2 / 2),
      odd_bit (x / 2 / 2 / 2 / 2 / 2 / 2 / 2),
    )

pub xor_assoc : (a b c : ℕ) → bit_xor (bit_xor a b) c ≡ bit_xor a (bit_xor b c)
xor_assoc =
    bin_ind (λ (n : ℕ). (b c : ℕ) → bit_xor (bit_xor n b) c ≡ bit_xor n (bit_xor b c))
    (λ b c. ap (λ (m : ℕ). bit_xor m c) (xor_zero_l b) ∙ sym (xor_zero_l (bit_xor b c)))
    (λ n ih b c.
    xor_step (bit_xor n b) c
    ∙ ap₂ (λ (h d : ℕ). bit_xor h (c / 2) * 2 + differ d (c % 2)) (xor_shr n b 1) (xor_mod n b 1)
    ∙ ap₂ (λ (h d : ℕ). h * 2 + d) (ih (b / 2) (c / 2)) (digit (n % 2) (b % 2) (c % 2) (mod-lt n (omega arith)) (mod-lt b (omega arith)) (mod-lt c (omega arith)))
    ∙ sym (ap₂ (λ (h d : ℕ). bit_xor (n / 2) h * 2 + differ (n % 2) d) (xor_shr b c 1) (xor_mod b c 1))
    ∙ sym (xor_step n (bit_xor b c)))
  where
    digit : (x y z : ℕ) → x < 2 → y < 2 → z < 2 → differ (bit_xor x y) z ≡ differ x (bit_xor y z)
    digit x y z h l m =
        below_two (λ x. differ (bit_xor x y) z ≡ differ x (bit_xor y z))
        (below_two (λ y. differ (bit_xor 0 y) z ≡ differ 0 (bit_xor y z))
        (below_two (λ z. differ (bit_xor 0 0) z ≡ differ 0 (bit_xor 0 z)) refl refl z m)
        (below_two (λ z. differ (bit_xor 0 1) z ≡ differ 0 (bit_xor 1 z)) refl refl z m)
        y
        l)
        (below_two (λ y. differ (bit_xor 1 y) z ≡ differ 1 (bit_xor y z))
        (below_two (λ z. differ (bit_xor 1 0) z ≡ differ 1 (bit_xor 0 z)) refl refl z m)
        (below_two (λ z. differ (bit_xor 1 1) z ≡ differ 1 (bit_xor 1 z)) refl refl z m)
        y
        l)
        x
        h

-- the highest bits of a small number are 0
pub bits_more : (n x : ℕ) → x < 2 ^ n → bits n x ++ false ∷ [] ≡ bits (suc n) x
unfolding bits
bits_more zero x h = let e : x ≡ 0 = omega arith in rw e
bits_more (suc n) x h = ap (λ (l : List Bool). eqb (x % 2) 1 ∷ l) (bits_more n (x / 2) (omega (arith, pow-suc 2 n)))

pub bits_length : (n x : ℕ) → length (bits n x) ≡ n
unfolding bits
bits_length zero x = refl
bits_length (suc n) x = ap suc (bits_length n (x / 2))

-- a number and its bits determine each other
pub bits_number : (bs : List Bool) → bits (length bs) (number bs) ≡ bs
unfolding bits number
bits_number [] = refl
bits_number (b ∷ bs) = ap₂ ◌∷◌ (bit_odd b (number bs)) (ap (bits (length bs)) (bit_half b (number bs)) ∙ bits_number bs)

pub number_bits : (n x : ℕ) → x < 2 ^ n → number (bits n x) ≡ x
unfolding bits number
number_bits zero x h = omega arith
number_bits (suc n) x h = omega (arith, odd_bit x, number_bits n (x / 2) (omega (arith, pow-suc 2 n)))

pub number_small : (bs : List Bool) → number bs < 2 ^ length bs
unfolding number
number_small [] = omega arith
number_small (true ∷ bs) = omega (arith, number_small bs, pow-suc 2 (length bs))
number_small (false ∷ bs) = omega (arith, number_small bs, pow-suc 2 (length bs))

-- higher bits do not count
bits_low : (n a r : ℕ) → bits n (a * 2 ^ n + r) ≡ bits n r
unfolding bits
bits_low zero a r = refl
bits_low (suc n) a r = ap₂ (λ (d h : ℕ). eqb d 1 ∷ bits n h) (block_odd a n r) (block_half a n r) ∙ ap (λ (l : List Bool). eqb (r % 2) 1 ∷ l) (bits_low n a (r / 2))

pub bits_24 : (x : ℕ) → bits 24 (x % 2 ^ 24) ≡ bits 24 x
bits_24 x = sym (bits_low 24 (x / 2 ^ 24) (x % 2 ^ 24)) ∙ ap (bits 24) (div-add-mod' x (2 ^ 24))

-- the bits of a number after those of another
abbrev pub more : ℕ → ℕ → ℕ
more zero m = m
more (suc n) m = suc (more n m)

pub bits_join : (n m x y : ℕ) → x < 2 ^ n → bits (more n m) (y * 2 ^ n + x) ≡ bits n x ++ bits m y
unfolding bits
bits_join zero m x y h = let e : y * 1 + x ≡ y = omega arith in ap (bits m) e
bits_join (suc n) m x y h =
    ap₂ (λ (d r : ℕ). eqb d 1 ∷ bits (more n m) r) (block_odd y n x) (block_half y n x)
    ∙ ap (λ (l : List Bool). eqb (x % 2) 1 ∷ l) (bits_join n m (x / 2) y (omega (arith, pow-suc 2 n)))
