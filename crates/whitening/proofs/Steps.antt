-- Many shifts of the CRC's register at once: what it holds afterwards is linear in what it holds and takes in. That eight and 24 shifts at once give the
-- same is a computed test each: over the 256 octets, and over the 24 single bits, which tell all of a linear function. Assumes nothing.
use mathlib.Core.Path.{◌≡◌, refl, sym, ap, ap₂, subst, ◌∙◌}
use mathlib.Core.Bool.{Bool, true, false}
use Prim.Native.Nat.{ℕ, zero, suc, ◌+◌, ◌-◌, ◌*◌, ◌/◌, ◌%◌, ◌^◌, ◌<◌, ◌≤◌}
use native.Mathlib.Nat.{mod-lt, pow-suc, add-zero, div-add-mod'}
use native.Mathlib.Omega.{arith}
use lib.Dec.{ltb}
use lib.Pow.{pow_pos}
use lib.Bits.{bit_xor, xor_shr, xor_mod, xor_zero_r, xor_comm, xor_self, xor_add_and, xor_lt, xor_block, xor_shifted, shifted_half, shifted_even}
use borrow.Author.Tests.{ltb-true, ltb-false}
use Rattle.whitening.specs.Bits.{bits}
use Rattle.whitening.specs.Crc.{crc_after}
use Rattle.whitening.specs.Number.{Register}
use Rattle.whitening.proofs.Bits.{below_two, xor_assoc}
use Rattle.whitening.proofs.Values.{values, values_all}
use Rattle.whitening.proofs.Registers.{crc_number, register_after_bit, register_turn}

-- ---- sums modulo 2

xor_swap : (a b c : ℕ) → bit_xor (bit_xor a b) c ≡ bit_xor (bit_xor a c) b
xor_swap a b c = xor_assoc a b c ∙ ap (bit_xor a) (xor_comm b c) ∙ sym (xor_assoc a c b)

xor_four : (a b c d : ℕ) → bit_xor (bit_xor a b) (bit_xor c d) ≡ bit_xor (bit_xor a c) (bit_xor b d)
xor_four a b c d =
    sym (xor_assoc (bit_xor a b) c d) ∙ ap (λ (n : ℕ). bit_xor n d) (xor_swap a b c) ∙ xor_assoc (bit_xor a c) b d

-- ---- the register as a number: after a bit, and after k bits of d

abbrev after_bit : ℕ → ℕ → ℕ
after_bit r d = bit_xor (r / 2) (crc_number * ((r + d) % 2))

unfoldable reached : ℕ → ℕ → ℕ → ℕ
reached zero r d = r
reached (suc k) r d = reached k (after_bit r d) (d / 2)

reached_is : (k r d : ℕ) → r < 2 ^ 24 → Register (reached k r d) (crc_after (bits 24 r) (bits k d))
unfolding reached bits crc_after
reached_is zero r d h = record { same = refl; small = h }
reached_is (suc k) r d h =
    let one = register_after_bit r d h in
    let rest = reached_is k (after_bit r d) (d / 2) one.small in
    record { same = rest.same ∙ register_turn k r d (after_bit r d) one.same; small = rest.small }

-- bits that are taken in might as well stand in the register's lowest places
into : (k r d : ℕ) → d < 2 ^ k → reached k r d ≡ reached k (bit_xor r d) 0
unfolding reached
into zero r d h = let e : d ≡ 0 = omega arith in sym (ap (bit_xor r) e ∙ xor_zero_r r)
into (suc k) r d h = into k (after_bit r d) (d / 2) (omega (arith, pow-suc 2 k)) ∙ ap (λ (n : ℕ). reached k n 0) (turn r d)
  where
    turn : (r d : ℕ) → bit_xor (after_bit r d) (d / 2) ≡ after_bit (bit_xor r d) 0
    turn r d =
        let odd : (r + d) % 2 ≡ (bit_xor r d + 0) % 2 = omega (arith, xor_add_and r d) in
        xor_swap (r / 2) (crc_number * ((r + d) % 2)) (d / 2)
        ∙ ap₂ (λ (h b : ℕ). bit_xor h (crc_number * b)) (sym (xor_shr r d 1)) odd

two_taps : (m n : ℕ) → m < 2 → n < 2 → crc_number * ((m + n) % 2) ≡ bit_xor (crc_number * m) (crc_number * n)
two_taps m n h l =
    below_two (λ m. crc_number * ((m + n) % 2) ≡ bit_xor (crc_number * m) (crc_number * n))
    (below_two (λ n. crc_number * ((0 + n) % 2) ≡ bit_xor (crc_number * 0) (crc_number * n)) refl refl n l)
    (below_two (λ n. crc_number * ((1 + n) % 2) ≡ bit_xor (crc_number * 1) (crc_number * n)) refl refl n l)
    m
    h

linear : (k u v : ℕ) → reached k (bit_xor u v) 0 ≡ bit_xor (reached k u 0) (reached k v 0)
unfolding reached
linear zero u v = refl
linear (suc k) u v = ap (λ (n : ℕ). reached k n 0) (turn u v) ∙ linear k (after_bit u 0) (after_bit v 0)
  where
    turn : (u v : ℕ) → after_bit (bit_xor u v) 0 ≡ bit_xor (after_bit u 0) (after_bit v 0)
    turn u v =
        let odd : (bit_xor u v + 0) % 2 ≡ ((u + 0) % 2 + (v + 0) % 2) % 2 = omega (arith, xor_add_and u v) in
        ap₂ (λ (h b : ℕ). bit_xor h (crc_number * b)) (xor_shr u v 1) odd
        ∙ ap (bit_xor (bit_xor (u / 2) (v / 2))) (two_taps ((u + 0) % 2) ((v + 0) % 2) (mod-lt (u + 0) (omega arith)) (mod-lt (v + 0) (omega arith)))
        ∙ xor_four (u / 2) (v / 2) (crc_number * ((u + 0) % 2)) (crc_number * ((v + 0) % 2))

-- zeros only leave
moved : (k h : ℕ) → reached k (h * 2 ^ k) 0 ≡ h
unfolding reached
moved zero h = omega arith
moved (suc k) h = ap (λ (n : ℕ). reached k n 0) (turn k h) ∙ moved k h
  where
    turn : (k h : ℕ) → after_bit (h * 2 ^ suc k) 0 ≡ h * 2 ^ k
    turn k h =
        let even : (h * 2 ^ suc k + 0) % 2 ≡ 0 = ap (λ (n : ℕ). n % 2) (add-zero (h * 2 ^ suc k)) ∙ shifted_even h k in
        ap₂ (λ (a b : ℕ). bit_xor a (crc_number * b)) (shifted_half h k) even ∙ xor_zero_r (h * 2 ^ k)

-- ---- linear functions: of a sum they give the sum, so that their values at single bits tell all

abbrev Linear : (ℕ → ℕ) → Type 0
Linear f = (a b : ℕ) → f (bit_xor a b) ≡ bit_xor (f a) (f b)

zero_of : (f : ℕ → ℕ) → Linear f → f 0 ≡ 0
zero_of f l = l 0 0 ∙ xor_self (f 0)

agree : (f g : ℕ → ℕ) → Linear f → Linear g → (n : ℕ) → ((i : ℕ) → i < n → f (1 * 2 ^ i) ≡ g (1 * 2 ^ i)) → (x : ℕ) → x < 2 ^ n → f x ≡ g x
agree f g l m zero h x lt = let e : x ≡ 0 = omega arith in ap f e ∙ zero_of f l ∙ sym (ap g e ∙ zero_of g m)
agree f g l m (suc n) h x lt = go (agree f g l m n (λ i k. h i (omega arith))) (ltb x (2 ^ n)) refl
  where
    go : ((y : ℕ) → y < 2 ^ n → f y ≡ g y) → (b : Bool) → ltb x (2 ^ n) ≡ b → f x ≡ g x
    go below true e = below x (ltb-true x (2 ^ n) e)
    go below false e =
        let high : 2 ^ n ≤ x = ltb-false x (2 ^ n) e in
        let low : x - 2 ^ n < 2 ^ n = omega (arith, pow-suc 2 n) in
        let sum : x ≡ 1 * 2 ^ n + (x - 2 ^ n) = omega arith in
        let parts : x ≡ bit_xor (1 * 2 ^ n) (x - 2 ^ n) = sum ∙ sym (xor_shifted 1 n (x - 2 ^ n) low) in
        ap f parts
        ∙ l (1 * 2 ^ n) (x - 2 ^ n)
        ∙ ap₂ bit_xor (h n (omega arith)) (below (x - 2 ^ n) low)
        ∙ sym (ap g parts ∙ m (1 * 2 ^ n) (x - 2 ^ n))

-- sums of two, and one of the other
of_sum : (f g : ℕ → ℕ) → Linear f → Linear g → Linear (λ (x : ℕ). bit_xor (f x) (g x))
of_sum f g l m a b = ap₂ bit_xor (l a b) (m a b) ∙ xor_four (f a) (f b) (g a) (g b)

one_of : (f g : ℕ → ℕ) → Linear f → Linear g → Linear (λ (x : ℕ). f (g x))
one_of f g l m a b = ap f (m a b) ∙ l (g a) (g b)

-- shifts up within 32 bits, shifts down, and the low 24 bits
abbrev up : ℕ → ℕ → ℕ
up k x = x * 2 ^ k % 2 ^ 32

up_linear : (k : ℕ) → Linear (up k)
up_linear k a b = ap (λ (n : ℕ). n % 2 ^ 32) (scaled (a * 2 ^ k) (b * 2 ^ k) (bit_xor a b * 2 ^ k) (xor_block k a b 0 0 (pow_pos k) (pow_pos k))) ∙ xor_mod (a * 2 ^ k) (b * 2 ^ k) 32
  where
    scaled : (x y z : ℕ) → bit_xor (x + 0) (y + 0) ≡ z + 0 → z ≡ bit_xor x y
    scaled x y z e = sym (ap₂ bit_xor (sym (add-zero x)) (sym (add-zero y)) ∙ e ∙ add-zero z)

abbrev down : ℕ → ℕ → ℕ
down k x = x / 2 ^ k

down_linear : (k : ℕ) → Linear (down k)
down_linear k a b = xor_shr a b k

-- ---- an octet

-- the eight bits fed back, moved to the place of each term: 64 and 128, 4096 and 8192, 32768 and 65536 by pairs, and 1024
abbrev pair : ℕ → ℕ
pair x = bit_xor x (2 * x)

abbrev fed : ℕ → ℕ
fed x = bit_xor (1024 * x) (bit_xor (64 * pair x) (bit_xor (4096 * pair x) (32768 * pair x)))

fed_is : (x : ℕ) → x < 256 → reached 8 x 0 ≡ fed x
unfolding reached values
fed_is = values_all (λ (x : ℕ). reached 8 x 0) fed 256 refl

eight : (r d : ℕ) → d < 256 → reached 8 r d ≡ bit_xor (bit_xor r d / 256) (reached 8 (bit_xor r d % 256) 0)
eight r d h =
    let y = bit_xor r d in
    let parts : y ≡ bit_xor (y / 256 * 256) (y % 256) = sym (xor_shifted (y / 256) 8 (y % 256) (mod-lt y (omega arith)) ∙ div-add-mod' y 256) in
    into 8 r d h
    ∙ ap (λ (n : ℕ). reached 8 n 0) parts
    ∙ linear 8 (y / 256 * 256) (y % 256)
    ∙ ap (λ (n : ℕ). bit_xor n (reached 8 (y % 256) 0)) (moved 8 (y / 256))

pub register_after_octet : (r d : ℕ) → r < 2 ^ 24 → d < 256
    → Register
    (bit_xor (bit_xor (bit_xor r d / 256) (1024 * (bit_xor r d % 256)))
    (bit_xor (64 * pair (bit_xor r d % 256)) (bit_xor (4096 * pair (bit_xor r d % 256)) (32768 * pair (bit_xor r d % 256)))))
    (crc_after (bits 24 r) (bits 8 d))
register_after_octet r d h l =
    let y = bit_xor r d in
    let x = y % 256 in
    let is =
    eight r d l
    ∙ ap (bit_xor (y / 256)) (fed_is x (mod-lt y (omega arith)))
    ∙ sym (xor_assoc (y / 256) (1024 * x) (bit_xor (64 * pair x) (bit_xor (4096 * pair x) (32768 * pair x)))) in
    subst (λ (n : ℕ). Register n (crc_after (bits 24 r) (bits 8 d))) is (reached_is 8 r d h)

pub pair_small : (y : ℕ) → bit_xor (y % 256) (2 * (y % 256)) < 512
pair_small y = xor_lt 9 (y % 256) (2 * (y % 256)) (omega arith) (omega arith)

-- ---- three octets

-- the bits that come round again, all that are fed back, and the bits that they make
abbrev again : ℕ → ℕ
again s = bit_xor (bit_xor (up 14 s) (up 15 s)) (bit_xor (bit_xor (up 18 s) (up 20 s)) (bit_xor (up 21 s) (up 23 s)))

abbrev back_of : ℕ → ℕ
back_of s = bit_xor s (again s) % 2 ^ 24

abbrev out_of : ℕ → ℕ
out_of b = bit_xor (bit_xor b (down 1 b)) (bit_xor (bit_xor (down 3 b) (down 4 b)) (bit_xor (down 6 b) (bit_xor (down 9 b) (down 10 b))))

again_linear : Linear again
again_linear =
    of_sum (λ (x : ℕ). bit_xor (up 14 x) (up 15 x)) (λ (x : ℕ). bit_xor (bit_xor (up 18 x) (up 20 x)) (bit_xor (up 21 x) (up 23 x)))
    (of_sum (up 14) (up 15) (up_linear 14) (up_linear 15))
    (of_sum (λ (x : ℕ). bit_xor (up 18 x) (up 20 x)) (λ (x : ℕ). bit_xor (up 21 x) (up 23 x)) (of_sum (up 18) (up 20) (up_linear 18) (up_linear 20)) (of_sum (up 21) (up 23) (up_linear 21) (up_linear 23)))

back_linear : Linear back_of
back_linear = one_of (λ (x : ℕ). x % 2 ^ 24) (λ (x : ℕ). bit_xor x (again x)) (λ a b. xor_mod a b 24) (of_sum (λ (x : ℕ). x) again (λ a b. refl) again_linear)

out_linear : Linear out_of
out_linear =
    of_sum (λ (x : ℕ). bit_xor x (down 1 x)) (λ (x : ℕ). bit_xor (bit_xor (down 3 x) (down 4 x)) (bit_xor (down 6 x) (bit_xor (down 9 x) (down 10 x))))
    (of_sum (λ (x : ℕ). x) (down 1) (λ a b. refl) (down_linear 1))
    (of_sum (λ (x : ℕ). bit_xor (down 3 x) (down 4 x)) (λ (x : ℕ). bit_xor (down 6 x) (bit_xor (down 9 x) (down 10 x)))
    (of_sum (down 3) (down 4) (down_linear 3) (down_linear 4))
    (of_sum (down 6) (λ (x : ℕ). bit_xor (down 9 x) (down 10 x)) (down_linear 6) (of_sum (down 9) (down 10) (down_linear 9) (down_linear 10))))

single : (i : ℕ) → i < 24 → reached 24 (1 * 2 ^ i) 0 ≡ out_of (back_of (1 * 2 ^ i))
unfolding reached values
single = values_all (λ (i : ℕ). reached 24 (1 * 2 ^ i) 0) (λ (i : ℕ). out_of (back_of (1 * 2 ^ i))) 24 refl

pub register_after_three : (r d : ℕ) → r < 2 ^ 24 → d < 2 ^ 24 → Register (out_of (back_of (bit_xor r d))) (crc_after (bits 24 r) (bits 24 d))
register_after_three r d h l =
    let is =
    into 24 r d l
    ∙ agree (λ (x : ℕ). reached 24 x 0) (λ (x : ℕ). out_of (back_of x)) (linear 24) (one_of out_of back_of out_linear back_linear) 24 single (bit_xor r d) (xor_lt 24 r d h l) in
    subst (λ (n : ℕ). Register n (crc_after (bits 24 r) (bits 24 d))) is (reached_is 24 r d h)
