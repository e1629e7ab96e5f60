-- Whitening adds the register's bits to those of a packet, and twice is not at all. Assumes nothing.
use mathlib.Core.Path.{◌≡◌, refl, sym, ap, ap₂, ◌∙◌}
use mathlib.Core.Bool.{Bool, false, xor}
use mathlib.Core.List.{List, [], ◌∷◌, ◌++◌, append_assoc}
use Prim.Native.Nat.{ℕ, zero, suc, ◌*◌, ◌/◌, ◌%◌, ◌≤◌, ◌<◌}
use native.Mathlib.Nat.{mod-lt}
use native.Mathlib.Omega.{arith}
use lib.Dec.{eqb}
use lib.Bits.{bit_xor, xor_shr, xor_mod, xor_self, xor_zero_r, xor_lt}
use lib.Pow.{pow_mono}
use lib.ListN.{length, get_or, take, drop, length-append, length-take, length-drop, take-append-drop}
use Rattle.octets.specs.Laws.{Octets}
use Rattle.whitening.specs.Bits.{bits, number, bits_of, octets_in_bits, added, shifted}
use Rattle.whitening.specs.Whitening.{whitening_taps, register_on, leaving, whitening, plus, whitened}
use Rattle.whitening.specs.Laws.{sum}
use Rattle.whitening.proofs.Bits.{odd_bit, xor_assoc, bits_length, bits_number, number_small}
use Rattle.whitening.proofs.Registers.{xor_lowest}
use Rattle.whitening.proofs.Rows.{whitening_length}

-- ---- octets and their bits

pub heard_octets_of : (n : ℕ) (bs : List Bool) → length bs ≡ n * 8 → bits_of (octets_in_bits n bs) ≡ bs
unfolding bits_of octets_in_bits
heard_octets_of zero [] e = refl
heard_octets_of zero (b ∷ bs) e = absurd (omega arith)
heard_octets_of (suc n) bs e =
    let eight : length (take 8 bs) ≡ 8 = simp length-take (omega arith) in
    let rest : length (drop 8 bs) ≡ n * 8 = simp length-drop (omega arith) in
    ap₂ ◌++◌ (ap (λ (k : ℕ). bits k (number (take 8 bs))) (sym eight) ∙ bits_number (take 8 bs)) (heard_octets_of n (drop 8 bs) rest)
    ∙ take-append-drop 8 bs

pub heard_append : (s t : List ℕ) → bits_of (s ++ t) ≡ bits_of s ++ bits_of t
unfolding bits_of
heard_append [] t = refl
heard_append (x ∷ s) t = ap (λ (l : List Bool). bits 8 x ++ l) (heard_append s t) ∙ sym (append_assoc (bits 8 x) (bits_of s) (bits_of t))

-- ---- sums

xor_bit : (x y : ℕ) → eqb (bit_xor x y % 2) 1 ≡ xor (eqb (x % 2) 1) (eqb (y % 2) 1)
xor_bit x y =
    ap (λ (n : ℕ). eqb n 1) (xor_mod x y 1)
    ∙ ap (λ (n : ℕ). eqb (bit_xor (x % 2) n) 1) (sym (odd_bit y))
    ∙ xor_lowest (eqb (y % 2) 1) (x % 2) (mod-lt x (omega arith))

pub bits_xor : (n x y : ℕ) → bits n (bit_xor x y) ≡ sum (bits n x) (bits n y)
unfolding bits sum
bits_xor zero x y = refl
bits_xor (suc n) x y = ap₂ ◌∷◌ (xor_bit x y) (ap (bits n) (xor_shr x y 1) ∙ bits_xor n (x / 2) (y / 2))

pub sum_append : (xs ys us vs : List Bool) → length xs ≡ length us → sum (xs ++ ys) (us ++ vs) ≡ sum xs us ++ sum ys vs
unfolding sum
sum_append [] ys [] vs e = refl
sum_append [] ys (u ∷ us) vs e = absurd (omega arith)
sum_append (x ∷ xs) ys [] vs e = absurd (omega arith)
sum_append (x ∷ xs) ys (u ∷ us) vs e = ap (λ (l : List Bool). xor x u ∷ l) (sum_append xs ys us vs (omega arith))

sum_none : (xs : List Bool) → sum xs [] ≡ []
unfolding sum
sum_none [] = refl
sum_none (x ∷ xs) = refl

pub heard_plus : (xs ys : List ℕ) → bits_of (plus xs ys) ≡ sum (bits_of xs) (bits_of ys)
unfolding bits_of plus sum
heard_plus [] ys = refl
heard_plus (x ∷ xs) [] = sym (sum_none (bits 8 x ++ bits_of xs))
heard_plus (x ∷ xs) (y ∷ ys) =
    ap₂ ◌++◌ (bits_xor 8 x y) (heard_plus xs ys)
    ∙ sym (sum_append (bits 8 x) (bits_of xs) (bits 8 y) (bits_of ys) (bits_length 8 x ∙ sym (bits_length 8 y)))

-- ---- twice

xor_twice : (x y : ℕ) → bit_xor (bit_xor x y) y ≡ x
xor_twice x y = xor_assoc x y y ∙ ap (bit_xor x) (xor_self y) ∙ xor_zero_r x

pub plus_twice : (xs ys : List ℕ) → length xs ≤ length ys → plus (plus xs ys) ys ≡ xs
unfolding plus
plus_twice [] ys h = refl
plus_twice (x ∷ xs) [] h = absurd (omega arith)
plus_twice (x ∷ xs) (y ∷ ys) h = ap₂ ◌∷◌ (xor_twice x y) (plus_twice xs ys (omega arith))

pub added_length : (k : Bool) (taps xs : List Bool) → length xs ≡ length taps → length (added k taps xs) ≡ length taps
unfolding added
added_length k [] xs e = refl
added_length k (t ∷ taps) [] e = e
added_length k (t ∷ taps) (x ∷ xs) e = ap suc (added_length k taps xs (omega arith))

pub shifted_length : (taps : List Bool) (k : Bool) (rest : List Bool) → suc (length rest) ≡ length taps → length (shifted taps k rest) ≡ length taps
shifted_length taps k rest e = added_length k taps (rest ++ false ∷ []) (simp length-append (omega arith))

leaving_length : (n : ℕ) (register : List Bool) → length register ≡ 7 → length (leaving n register) ≡ n
unfolding leaving
leaving_length zero register e = refl
leaving_length (suc n) [] e = absurd (omega arith)
leaving_length (suc n) (out ∷ rest) e = ap suc (leaving_length n (shifted whitening_taps out rest) (shifted_length whitening_taps out rest e))

pub leaving_on : (n channel : ℕ) → length (leaving n (register_on channel)) ≡ n
leaving_on n channel = leaving_length n (register_on channel) (simp (length-append, bits_length))

plus_length : (xs ys : List ℕ) → length xs ≤ length ys → length (plus xs ys) ≡ length xs
unfolding plus
plus_length [] ys h = refl
plus_length (x ∷ xs) [] h = absurd (omega arith)
plus_length (x ∷ xs) (y ∷ ys) h = ap suc (plus_length xs ys (omega arith))

pub whitened_length : (channel : ℕ) (packet : List ℕ) → length packet ≤ 42 → length (whitened channel packet) ≡ length packet
unfolding whitened
whitened_length channel packet h = plus_length packet (whitening channel) (omega (arith, whitening_length channel))

-- ---- octets stay octets

pub octets_all : (s : List ℕ) → ((j : ℕ) → get_or s j 0 < 256) → Octets s
octets_all [] h = tt
octets_all (x ∷ s) h = (h 0, octets_all s (λ j. h (suc j)))

octets_of_octets : (n : ℕ) (bs : List Bool) → Octets (octets_in_bits n bs)
unfolding octets_in_bits
octets_of_octets zero bs = tt
octets_of_octets (suc n) bs =
    let short : length (take 8 bs) ≤ 8 = simp length-take (omega arith) in
    (omega (arith, number_small (take 8 bs), pow_mono {i = length (take 8 bs)} {j = 8} short), octets_of_octets n (drop 8 bs))

plus_octets : (xs ys : List ℕ) → Octets xs → Octets ys → Octets (plus xs ys)
unfolding plus
plus_octets [] ys o p = tt
plus_octets (x ∷ xs) [] o p = tt
plus_octets (x ∷ xs) (y ∷ ys) o p = (xor_lt 8 x y o.0 p.0, plus_octets xs ys o.1 p.1)

pub whitened_octets : (channel : ℕ) (packet : List ℕ) → Octets packet → Octets (whitened channel packet)
unfolding whitened whitening
whitened_octets channel packet o = plus_octets packet (whitening channel) o (octets_of_octets 42 (leaving 336 (register_on channel)))

pub adds : (channel : ℕ) (packet : List ℕ) → bits_of (whitened channel packet) ≡ sum (bits_of packet) (leaving 336 (register_on channel))
unfolding whitened whitening
adds channel packet =
    heard_plus packet (whitening channel) ∙ ap (sum (bits_of packet)) (heard_octets_of 42 (leaving 336 (register_on channel)) (leaving_on 336 channel))

pub twice : (channel : ℕ) (packet : List ℕ) → length packet ≤ 42 → whitened channel (whitened channel packet) ≡ packet
unfolding whitened
twice channel packet h = plus_twice packet (whitening channel) (omega (arith, whitening_length channel))
