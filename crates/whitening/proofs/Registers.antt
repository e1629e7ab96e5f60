-- A register that is kept as a number: a shift is a shift of the number, and the taps are added by exclusive or. Assumes nothing.
use mathlib.Core.Path.{◌≡◌, refl, sym, ap, ap₂, ◌∙◌}
use mathlib.Core.Bool.{Bool, true, false, xor, ◌&&◌}
use mathlib.Core.List.{List, [], ◌∷◌, ◌++◌, append_assoc, reverse_aux}
use Prim.Native.Nat.{ℕ, suc, ◌+◌, ◌-◌, ◌*◌, ◌/◌, ◌%◌, ◌^◌, ◌<◌, ◌≤◌}
use native.Mathlib.Nat.{mod-lt}
use native.Mathlib.Omega.{arith}
use lib.Dec.{eqb}
use lib.Bits.{bit_xor, xor_shr, xor_mod, xor_lt}
use lib.ListN.{length, get_or, drop}
use lib.Seq.{drop-cons, drop-length}
use native.Mathlib.Numerals.{add-one}
use Rattle.octets.specs.Bytes.{le}
use Rattle.channels.specs.Count.{bit}
use Rattle.whitening.specs.Bits.{bits, number, bits_of, octets_in_bits, added, shifted}
use Rattle.whitening.specs.Crc.{crc_taps, crc_after}
use Rattle.whitening.specs.Number.{Register}
use Rattle.whitening.proofs.Bits.{below_two, bits_more, number_bits_8, bits_join}

pub xor_lowest : (b : Bool) (a : ℕ) → a < 2 → eqb (bit_xor a (bit b)) 1 ≡ xor (eqb a 1) b
unfolding xor
xor_lowest true a h = below_two (λ a. eqb (bit_xor a 1) 1 ≡ xor (eqb a 1) true) refl refl a h
xor_lowest false a h = below_two (λ a. eqb (bit_xor a 0) 1 ≡ xor (eqb a 1) false) refl refl a h

taps_lowest : (k t : Bool) (n : ℕ) → bit k * (bit t + 2 * n) % 2 ≡ bit (k && t)
taps_lowest true true n = omega arith
taps_lowest true false n = omega arith
taps_lowest false t n = omega arith

taps_half : (k t : Bool) (n : ℕ) → bit k * (bit t + 2 * n) / 2 ≡ bit k * n
taps_half true true n = omega arith
taps_half true false n = omega arith
taps_half false t n = omega arith

pub added_bits : (k : Bool) (taps : List Bool) (x : ℕ) → added k taps (bits (length taps) x) ≡ bits (length taps) (bit_xor x (bit k * number taps))
unfolding added bits number
added_bits k [] x = refl
added_bits k (t ∷ taps) x =
    ap₂ ◌∷◌
    (sym
    (ap (λ (a : ℕ). eqb a 1) (xor_mod x (bit k * (bit t + 2 * number taps)) 1)
    ∙ ap (λ (m : ℕ). eqb (bit_xor (x % 2) m) 1) (taps_lowest k t (number taps))
    ∙ xor_lowest (k && t) (x % 2) (mod-lt x (omega arith))))
    (added_bits k taps (x / 2)
    ∙ ap (bits (length taps))
    (ap (bit_xor (x / 2)) (sym (taps_half k t (number taps))) ∙ sym (xor_shr x (bit k * (bit t + 2 * number taps)) 1)))

back_is : (a b : ℕ) → bit (xor (eqb (a % 2) 1) (eqb (b % 2) 1)) ≡ (a + b) % 2
unfolding xor
back_is a b =
    below_two (λ m. m ≡ a % 2 → bit (xor (eqb m 1) (eqb (b % 2) 1)) ≡ (a + b) % 2)
    (λ e. below_two (λ n. n ≡ b % 2 → bit (xor false (eqb n 1)) ≡ (a + b) % 2) (λ f. omega arith) (λ f. omega arith) (b % 2) (mod-lt b (omega arith)) refl)
    (λ e. below_two (λ n. n ≡ b % 2 → bit (xor true (eqb n 1)) ≡ (a + b) % 2) (λ f. omega arith) (λ f. omega arith) (b % 2) (mod-lt b (omega arith)) refl)
    (a % 2)
    (mod-lt a (omega arith))
    refl

shifted_bits : (k : Bool) (y : ℕ) → y < 2 ^ 23 → shifted crc_taps k (bits 23 y) ≡ bits 24 (bit_xor y (bit k * number crc_taps))
shifted_bits k y h = ap (added k crc_taps) (bits_more 23 y h) ∙ added_bits k crc_taps y

-- the polynomial's terms below x^24 as a number, x^0 its highest bit
abbrev pub crc_number : ℕ
crc_number = 0xDA6000

taps_number : number crc_taps ≡ crc_number
unfolding number
taps_number = refl

crc_after_bit : (register rest : ℕ) → crc_after (bits 24 register) (bits 1 rest)
    ≡ shifted crc_taps (xor (eqb (register % 2) 1) (eqb (rest % 2) 1)) (bits 23 (register / 2))
unfolding crc_after bits
crc_after_bit register rest = refl

-- one bit more
pub register_after_bit : (register rest : ℕ) → register < 2 ^ 24
    → Register (bit_xor (register / 2) (crc_number * ((register + rest) % 2))) (crc_after (bits 24 register) (bits 1 rest))
register_after_bit register rest h =
    let back : bit (xor (eqb (register % 2) 1) (eqb (rest % 2) 1)) ≡ (register + rest) % 2 = back_is register rest in
    let turned : (register + rest) % 2 * crc_number ≡ crc_number * ((register + rest) % 2) = omega arith in
    record {
      same =
          sym
          (crc_after_bit register rest
          ∙ shifted_bits (xor (eqb (register % 2) 1) (eqb (rest % 2) 1)) (register / 2) (omega arith)
          ∙ ap (λ (m : ℕ). bits 24 (bit_xor (register / 2) m)) (ap₂ ◌*◌ back taps_number ∙ turned));
      small = xor_lt 24 (register / 2) (crc_number * ((register + rest) % 2)) (omega arith) (omega arith);
    }

pub crc_after_none : (bs : List Bool) → crc_after [] bs ≡ []
unfolding crc_after
crc_after_none [] = refl
crc_after_none (b ∷ bs) = refl

pub crc_after_append : (register ds bs : List Bool) → crc_after register (ds ++ bs) ≡ crc_after (crc_after register ds) bs
unfolding crc_after
crc_after_append register [] bs = refl
crc_after_append [] (d ∷ ds) bs = sym (crc_after_none bs)
crc_after_append (out ∷ rest) (d ∷ ds) bs = crc_after_append (shifted crc_taps (xor out d) rest) ds bs

-- a number's bits in the other order, one after the other
pub reversing : (m k register rest : ℕ)
    → reverse_aux (bits m (rest / 2)) (bits (suc k) (2 * register + rest % 2)) ≡ reverse_aux (bits (suc m) rest) (bits k register)
unfolding bits
reversing m k register rest =
    ap₂ (λ (a x : ℕ). reverse_aux (bits m (rest / 2)) (eqb a 1 ∷ bits k x))
    (the_rest register rest)
    (the_register register rest)
  where
    the_rest : (register rest : ℕ) → (2 * register + rest % 2) % 2 ≡ rest % 2
    the_rest register rest = omega arith

    the_register : (register rest : ℕ) → (2 * register + rest % 2) / 2 ≡ register
    the_register register rest = omega arith

eighth : (x : ℕ) → x / 2 / 2 / 2 / 2 / 2 / 2 / 2 / 2 ≡ x / 256
eighth x = omega arith

pub reversed : (k register rest : ℕ) → k ≡ 24 → bits 24 register ≡ reverse_aux (bits (24 - k) rest) (bits k register)
unfolding bits
reversed k register rest e = rw e

-- the three octets of a register
pub octets_of_bits : (x : ℕ) → octets_in_bits 3 (bits 24 x) ≡ x % 256 ∷ x / 256 % 256 ∷ x / 65536 % 256 ∷ []
unfolding octets_in_bits bits
octets_of_bits x =
    let high : x / 256 / 256 ≡ x / 65536 = omega arith in
    ap₂ ◌∷◌ (number_bits_8 x)
    (ap₂ ◌∷◌
    (number_bits_8 (x / 2 / 2 / 2 / 2 / 2 / 2 / 2 / 2) ∙ ap (λ (n : ℕ). n % 256) (eighth x))
    (ap (λ (n : ℕ). n ∷ [])
    (number_bits_8 (x / 2 / 2 / 2 / 2 / 2 / 2 / 2 / 2 / 2 / 2 / 2 / 2 / 2 / 2 / 2 / 2)
    ∙ ap (λ (n : ℕ). n % 256) (eighth (x / 2 / 2 / 2 / 2 / 2 / 2 / 2 / 2) ∙ ap (λ (n : ℕ). n / 256) (eighth x) ∙ high))))

-- one bit after the other
pub register_turn : (n reached rest next : ℕ) → bits 24 next ≡ crc_after (bits 24 reached) (bits 1 rest)
    → crc_after (bits 24 next) (bits n (rest / 2)) ≡ crc_after (bits 24 reached) (bits (suc n) rest)
unfolding bits
register_turn n reached rest next e =
    ap (λ (r : List Bool). crc_after r (bits n (rest / 2))) e ∙ sym (crc_after_append (bits 24 reached) (bits 1 rest) (bits n (rest / 2)))

-- a turn of the loop over octets, and its end
heard_at_law : (i : ℕ) (octets : List ℕ) → i < length octets → bits_of (drop i octets) ≡ bits 8 (get_or octets i 0) ++ bits_of (drop (i + 1) octets)
unfolding bits_of
heard_at_law i octets h = rw (add-one, drop-cons octets i 0)

pub octets_turn : (i : ℕ) (octets : List ℕ) (register next : ℕ) → i < length octets
    → bits 24 next ≡ crc_after (bits 24 register) (bits 8 (get_or octets i 0))
    → crc_after (bits 24 next) (bits_of (drop (i + 1) octets)) ≡ crc_after (bits 24 register) (bits_of (drop i octets))
octets_turn i octets register next h e =
    ap (λ (r : List Bool). crc_after r (bits_of (drop (i + 1) octets))) e
    ∙ sym (crc_after_append (bits 24 register) (bits 8 (get_or octets i 0)) (bits_of (drop (i + 1) octets)))
    ∙ ap (crc_after (bits 24 register)) (sym (heard_at_law i octets h))

-- three octets as a number
three_bits : (a b c : ℕ) → a < 256 → b < 256 → bits 24 (le (a ∷ b ∷ c ∷ 0 ∷ [])) ≡ bits 8 a ++ (bits 8 b ++ bits 8 c)
three_bits a b c h l =
    let e : le (a ∷ b ∷ c ∷ 0 ∷ []) ≡ (c * 2 ^ 8 + b) * 2 ^ 8 + a = omega arith in
    ap (bits 24) e ∙ bits_join 8 16 a (c * 2 ^ 8 + b) h ∙ ap (λ (s : List Bool). bits 8 a ++ s) (bits_join 8 8 b c l)

heard_three : (i : ℕ) (octets : List ℕ) → i + 3 ≤ length octets
    → bits_of (drop i octets) ≡ (bits 8 (get_or octets i 0) ++ (bits 8 (get_or octets (i + 1) 0) ++ bits 8 (get_or octets (i + 2) 0))) ++ bits_of (drop (i + 3) octets)
heard_three i octets h =
    let a = bits 8 (get_or octets i 0) in
    let b = bits 8 (get_or octets (i + 1) 0) in
    let c = bits 8 (get_or octets (i + 2) 0) in
    let rest = bits_of (drop (i + 3) octets) in
    let two : i + 1 + 1 ≡ i + 2 = omega arith in
    let three : i + 2 + 1 ≡ i + 3 = omega arith in
    heard_at_law i octets (omega arith)
    ∙ ap (λ (s : List Bool). a ++ s)
    (heard_at_law (i + 1) octets (omega arith)
    ∙ ap (λ (s : List Bool). b ++ s) (ap (λ (k : ℕ). bits_of (drop k octets)) two ∙ heard_at_law (i + 2) octets (omega arith) ∙ ap (λ (k : ℕ). c ++ bits_of (drop k octets)) three)
    ∙ sym (append_assoc b c rest))
    ∙ sym (append_assoc a (b ++ c) rest)

pub three_turn : (i : ℕ) (octets : List ℕ) (register next : ℕ) → i + 3 ≤ length octets → get_or octets i 0 < 256 → get_or octets (i + 1) 0 < 256
    → bits 24 next ≡ crc_after (bits 24 register) (bits 24 (le (get_or octets i 0 ∷ get_or octets (i + 1) 0 ∷ get_or octets (i + 2) 0 ∷ 0 ∷ [])))
    → crc_after (bits 24 next) (bits_of (drop (i + 3) octets)) ≡ crc_after (bits 24 register) (bits_of (drop i octets))
three_turn i octets register next h l m e =
    let bs = bits 8 (get_or octets i 0) ++ (bits 8 (get_or octets (i + 1) 0) ++ bits 8 (get_or octets (i + 2) 0)) in
    ap (λ (r : List Bool). crc_after r (bits_of (drop (i + 3) octets))) (e ∙ ap (crc_after (bits 24 register)) (three_bits (get_or octets i 0) (get_or octets (i + 1) 0) (get_or octets (i + 2) 0) l m))
    ∙ sym (crc_after_append (bits 24 register) bs (bits_of (drop (i + 3) octets)))
    ∙ ap (crc_after (bits 24 register)) (sym (heard_three i octets h))

pub octets_end : (i : ℕ) (octets : List ℕ) (register : ℕ) → i ≡ length octets → bits 24 register ≡ crc_after (bits 24 register) (bits_of (drop i octets))
unfolding bits_of crc_after
octets_end i octets register e = rw (e, drop-length)
