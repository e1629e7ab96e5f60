-- A packet's own CRC is right, and one bit more or less makes it wrong: after a packet that is right the register holds zeros, and what it
-- holds tells two bits, and two registers before the same bits, apart. Assumes nothing.
use mathlib.Core.Path.{◌≡◌, refl, sym, ap, ap₂, ◌∙◌}
use mathlib.Core.Bool.{Bool, true, false, xor, ◌&&◌}
use mathlib.Core.List.{List, [], ◌∷◌, ◌++◌, append_assoc, append-nil}
use Prim.Native.Nat.{ℕ, zero, suc, ◌+◌, ◌-◌, ◌*◌, ◌≤◌}
use native.Mathlib.Omega.{arith}
use lib.Dec.{eqb}
use lib.ListN.{length, take, drop, replicate, length-append, length-reverse, length-drop, take-append-drop}
use lib.Seq.{take_at, drop_at}
use borrow.Author.Tests.{eqb-true, eq-eqb}
use Rattle.octets.specs.Laws.{Octets}
use Rattle.whitening.specs.Bits.{bits, number, bits_of, octets_in_bits, added, shifted}
use Rattle.whitening.specs.Crc.{crc_taps, crc_start, crc_after, crc_octets, same, crc_good}
use Rattle.whitening.specs.Laws.{CrcChecks}
use Rattle.whitening.specs.Number.{Register}
use Rattle.whitening.proofs.Bits.{bits_length, number_bits}
use Rattle.whitening.proofs.Rows.{octets_of_length}
use Rattle.whitening.proofs.Registers.{crc_after_append}
use Rattle.whitening.proofs.Twice.{heard_octets_of, heard_append, added_length, shifted_length}

-- ---- the register keeps its length

pub crc_after_length : (register bs : List Bool) → length register ≡ 24 → length (crc_after register bs) ≡ 24
unfolding crc_after
crc_after_length register [] e = e
crc_after_length [] (b ∷ bs) e = e
crc_after_length (out ∷ rest) (b ∷ bs) e = crc_after_length (shifted crc_taps (xor out b) rest) bs (shifted_length crc_taps (xor out b) rest e)

pub crc_start_length : (start : ℕ) → length (crc_start start) ≡ 24
crc_start_length start = length-reverse (bits 24 start) ∙ bits_length 24 start

-- ---- a register that takes in its own bits

pub xor_none : (x : Bool) → xor x false ≡ x
unfolding xor
xor_none true = refl
xor_none false = refl

added_none : (taps xs : List Bool) → length xs ≡ length taps → added false taps xs ≡ xs
unfolding added xor
added_none [] [] e = refl
added_none [] (x ∷ xs) e = absurd (omega arith)
added_none (t ∷ taps) [] e = refl
added_none (t ∷ taps) (x ∷ xs) e = ap₂ ◌∷◌ (xor_none x) (added_none taps xs (omega arith))

xor_same : (x : Bool) → xor x x ≡ false
unfolding xor
xor_same true = refl
xor_same false = refl

zeros_more : (m : ℕ) → replicate m false ++ false ∷ [] ≡ replicate (suc m) false
zeros_more zero = refl
zeros_more (suc m) = ap (λ (l : List Bool). false ∷ l) (zeros_more m)

pub zeros_length : (m : ℕ) → length (replicate m false) ≡ m
zeros_length zero = refl
zeros_length (suc m) = ap suc (zeros_length m)

taken_in : (xs : List Bool) (m : ℕ) → length xs + m ≡ 24 → crc_after (xs ++ replicate m false) xs ≡ replicate 24 false
unfolding crc_after
taken_in [] m e = let f : m ≡ 24 = omega arith in rw f
taken_in (x ∷ xs) m e =
    let all : length ((xs ++ replicate m false) ++ false ∷ []) ≡ 24 = simp (length-append, zeros_length) (omega arith) in
    ap (λ (k : Bool). crc_after (shifted crc_taps k (xs ++ replicate m false)) xs) (xor_same x)
    ∙ ap (λ (r : List Bool). crc_after r xs)
    (added_none crc_taps ((xs ++ replicate m false) ++ false ∷ []) all ∙ append_assoc xs (replicate m false) (false ∷ []) ∙ ap (λ (l : List Bool). xs ++ l) (zeros_more m))
    ∙ taken_in xs (suc m) (omega arith)

own_bits : (register : List Bool) → length register ≡ 24 → crc_after register register ≡ replicate 24 false
own_bits register e = ap (λ (r : List Bool). crc_after r register) (sym (append-nil register)) ∙ taken_in register 0 (omega arith)

-- ---- the test of the three octets

pub same_is : (xs ys : List ℕ) → same xs ys ≡ true → xs ≡ ys
unfolding same
same_is [] [] e = refl
same_is [] (y ∷ ys) e = let z : ◌≡◌ {A = ℕ} 0 1 = cc in absurd (omega arith)
same_is (x ∷ xs) [] e = let z : ◌≡◌ {A = ℕ} 0 1 = cc in absurd (omega arith)
same_is (x ∷ xs) (y ∷ ys) e = go (eqb x y) refl (same_is xs ys) e
  where
    go : (b : Bool) → eqb x y ≡ b → (same xs ys ≡ true → xs ≡ ys) → (b && same xs ys) ≡ true → x ∷ xs ≡ y ∷ ys
    go true f rest g = ap₂ ◌∷◌ (eqb-true x y f) (rest g)
    go false f rest g = let z : ◌≡◌ {A = ℕ} 0 1 = cc in absurd (omega arith)

pub same_self : (xs : List ℕ) → same xs xs ≡ true
unfolding same
same_self [] = refl
same_self (x ∷ xs) = rw (eq-eqb x x refl) (same_self xs)

-- after a packet that is right the register holds zeros
pub good_zeros : (start : ℕ) (packet : List ℕ) → crc_good start packet ≡ true → crc_after (crc_start start) (bits_of packet) ≡ replicate 24 false
unfolding crc_good crc_octets
good_zeros start packet e =
    let n = length packet - 3 in
    let register = crc_after (crc_start start) (bits_of (take n packet)) in
    let whole = crc_after_length (crc_start start) (bits_of (take n packet)) (crc_start_length start) in
    ap (λ (l : List ℕ). crc_after (crc_start start) (bits_of l)) (sym (take-append-drop n packet))
    ∙ ap (crc_after (crc_start start)) (heard_append (take n packet) (drop n packet))
    ∙ crc_after_append (crc_start start) (bits_of (take n packet)) (bits_of (drop n packet))
    ∙ ap (crc_after register) (ap bits_of (same_is (drop n packet) (octets_in_bits 3 register) e) ∙ heard_octets_of 3 register whole)
    ∙ own_bits register whole

-- ---- different bits leave different registers

pub xor_back : (x m : Bool) → xor (xor x m) m ≡ x
unfolding xor
xor_back true true = refl
xor_back true false = refl
xor_back false true = refl
xor_back false false = refl

xor_front : (m x : Bool) → xor m (xor m x) ≡ x
unfolding xor
xor_front true true = refl
xor_front true false = refl
xor_front false true = refl
xor_front false false = refl

pub xor_cancel : (x y m : Bool) → xor x m ≡ xor y m → x ≡ y
xor_cancel x y m e = sym (xor_back x m) ∙ ap (λ (z : Bool). xor z m) e ∙ xor_back y m

xor_cancel_front : (m x y : Bool) → xor m x ≡ xor m y → x ≡ y
xor_cancel_front m x y e = sym (xor_front m x) ∙ ap (xor m) e ∙ xor_front m y

added_same : (k : Bool) (taps xs ys : List Bool) → length xs ≡ length taps → length ys ≡ length taps → added k taps xs ≡ added k taps ys → xs ≡ ys
unfolding added
added_same k [] [] [] e f h = refl
added_same k [] (x ∷ xs) ys e f h = absurd (omega arith)
added_same k [] [] (y ∷ ys) e f h = absurd (omega arith)
added_same k (t ∷ taps) [] ys e f h = absurd (omega arith)
added_same k (t ∷ taps) (x ∷ xs) [] e f h = absurd (omega arith)
added_same k (t ∷ taps) (x ∷ xs) (y ∷ ys) e f h =
    let first : xor x (k && t) ≡ xor y (k && t) = cc in
    let rest : added k taps xs ≡ added k taps ys = cc in
    ap₂ ◌∷◌ (xor_cancel x y (k && t) first) (added_same k taps xs ys (omega arith) (omega arith) rest)

-- what is fed back stands in position 0 after the shift
added_last : (k : Bool) (taps xs : List Bool) → length xs ≡ length taps → added k (taps ++ true ∷ []) (xs ++ false ∷ []) ≡ added k taps xs ++ k ∷ []
unfolding added xor
added_last true [] [] e = refl
added_last false [] [] e = refl
added_last k [] (x ∷ xs) e = absurd (omega arith)
added_last k (t ∷ taps) [] e = absurd (omega arith)
added_last k (t ∷ taps) (x ∷ xs) e = ap (λ (l : List Bool). xor x (k && t) ∷ l) (added_last k taps xs (omega arith))

-- positions 23 to 1
abbrev higher : List Bool
higher =
    false ∷ false ∷ false ∷ false ∷ false ∷ false ∷ false ∷ false ∷ false ∷ false ∷ false ∷ false
    ∷ false ∷ true ∷ true ∷ false ∷ false ∷ true ∷ false ∷ true ∷ true ∷ false ∷ true ∷ []

shifted_is : (k : Bool) (rest : List Bool) → length rest ≡ 23 → shifted crc_taps k rest ≡ added k higher rest ++ k ∷ []
shifted_is k rest e = added_last k higher rest e

snoc_same : (xs ys : List Bool) (a b : Bool) → length xs ≡ length ys → xs ++ a ∷ [] ≡ ys ++ b ∷ [] → (xs ≡ ys) × (a ≡ b)
snoc_same [] [] a b e h = (refl, cc)
snoc_same [] (y ∷ ys) a b e h = absurd (omega arith)
snoc_same (x ∷ xs) [] a b e h = absurd (omega arith)
snoc_same (x ∷ xs) (y ∷ ys) a b e h =
    let first : x ≡ y = cc in
    let rest : xs ++ a ∷ [] ≡ ys ++ b ∷ [] = cc in
    let below = snoc_same xs ys a b (omega arith) rest in
    (ap₂ ◌∷◌ first below.0, below.1)

shifted_same : (j k : Bool) (xs ys : List Bool) → length xs ≡ 23 → length ys ≡ 23 → shifted crc_taps j xs ≡ shifted crc_taps k ys → (xs ≡ ys) × (j ≡ k)
shifted_same j k xs ys e f h =
    let parts = snoc_same (added j higher xs) (added k higher ys) j k (added_length j higher xs e ∙ sym (added_length k higher ys f)) (sym (shifted_is j xs e) ∙ h ∙ shifted_is k ys f) in
    (added_same k higher xs ys e f (ap (λ (b : Bool). added b higher xs) (sym parts.1) ∙ parts.0), parts.1)

crc_after_same : (r s bs : List Bool) → length r ≡ 24 → length s ≡ 24 → crc_after r bs ≡ crc_after s bs → r ≡ s
unfolding crc_after
crc_after_same r s [] e f h = h
crc_after_same [] s (b ∷ bs) e f h = absurd (omega arith)
crc_after_same (x ∷ r) [] (b ∷ bs) e f h = absurd (omega arith)
crc_after_same (x ∷ r) (y ∷ s) (b ∷ bs) e f h =
    let before = crc_after_same (shifted crc_taps (xor x b) r) (shifted crc_taps (xor y b) s) bs (shifted_length crc_taps (xor x b) r e) (shifted_length crc_taps (xor y b) s f) h in
    let parts = shifted_same (xor x b) (xor y b) r s (omega arith) (omega arith) before in
    ap₂ ◌∷◌ (xor_cancel x y b parts.1) parts.0

one_bit_apart : (register after : List Bool) (b d : Bool) → length register ≡ 24 → crc_after register (b ∷ after) ≡ crc_after register (d ∷ after) → b ≡ d
unfolding crc_after
one_bit_apart [] after b d e h = absurd (omega arith)
one_bit_apart (x ∷ r) after b d e h =
    let shift = crc_after_same (shifted crc_taps (xor x b) r) (shifted crc_taps (xor x d) r) after (shifted_length crc_taps (xor x b) r e) (shifted_length crc_taps (xor x d) r e) h in
    xor_cancel_front x b d (shifted_same (xor x b) (xor x d) r r (omega arith) (omega arith) shift).1

pub crc_octets_length : (start : ℕ) (octets : List ℕ) → length (crc_octets start octets) ≡ 3
unfolding crc_octets
crc_octets_length start octets = octets_of_length 3 _

pub own_good : (start : ℕ) (octets : List ℕ) → crc_good start (octets ++ crc_octets start octets) ≡ true
unfolding crc_good
own_good start octets =
    let e : length (octets ++ crc_octets start octets) - 3 ≡ length octets = simp length-append (omega (arith, crc_octets_length start octets)) in
    rw (e, take_at octets (crc_octets start octets) (length octets) refl, drop_at octets (crc_octets start octets) (length octets) refl) (same_self (crc_octets start octets))

last_is : (start : ℕ) (octets last : List ℕ) → length last ≡ 3 → crc_good start (octets ++ last) ≡ true → last ≡ crc_octets start octets
unfolding crc_good
last_is start octets last e g =
    let n : length (octets ++ last) - 3 ≡ length octets = simp length-append (omega arith) in
    same_is last (crc_octets start octets) (rw (n, take_at octets last (length octets) refl, drop_at octets last (length octets) refl) at g)

pub checks : (start : ℕ) → CrcChecks start
checks start = record { own = own_good start; no_other = no_other; one_bit = one_bit }
  where
    no_other : (octets last : List ℕ) → length last ≡ 3 → crc_good start (octets ++ last) ≡ true → last ≡ crc_octets start octets
    no_other octets last e g = last_is start octets last e g

    one_bit : (p q : List ℕ) (before after : List Bool) (b d : Bool) → bits_of p ≡ before ++ b ∷ after → bits_of q ≡ before ++ d ∷ after
        → crc_good start p ≡ true → crc_good start q ≡ true → b ≡ d
    one_bit p q before after b d e f g h =
        let register = crc_after (crc_start start) before in
        one_bit_apart register after b d (crc_after_length (crc_start start) before (crc_start_length start))
        (sym (crc_after_append (crc_start start) before (b ∷ after))
        ∙ ap (crc_after (crc_start start)) (sym e)
        ∙ good_zeros start p g
        ∙ sym (good_zeros start q h)
        ∙ ap (crc_after (crc_start start)) f
        ∙ crc_after_append (crc_start start) before (d ∷ after))

-- ---- the register holds zeros after packets that are right, and after no others

pub heard_length : (octets : List ℕ) → length (bits_of octets) ≡ length octets * 8
unfolding bits_of
heard_length [] = refl
heard_length (x ∷ octets) = simp (length-append, bits_length) (omega (arith, heard_length octets))

octets_of_heard : (s : List ℕ) → Octets s → octets_in_bits (length s) (bits_of s) ≡ s
unfolding octets_in_bits bits_of
octets_of_heard [] o = refl
octets_of_heard (x ∷ s) o =
    ap₂ ◌∷◌
    (ap number (take_at (bits 8 x) (bits_of s) 8 (bits_length 8 x)) ∙ number_bits 8 x o.0)
    (ap (octets_in_bits (length s)) (drop_at (bits 8 x) (bits_of s) 8 (bits_length 8 x)) ∙ octets_of_heard s o.1)

octets_drop : (n : ℕ) (s : List ℕ) → Octets s → Octets (drop n s)
octets_drop zero s o = o
octets_drop (suc n) [] o = o
octets_drop (suc n) (x ∷ s) o = octets_drop n s o.1

zeros_good : (start : ℕ) (packet : List ℕ) → 3 ≤ length packet → Octets packet → crc_after (crc_start start) (bits_of packet) ≡ replicate 24 false → crc_good start packet ≡ true
unfolding crc_good crc_octets
zeros_good start packet least o e =
    let n = length packet - 3 in
    let last = drop n packet in
    let register = crc_after (crc_start start) (bits_of (take n packet)) in
    let whole = crc_after_length (crc_start start) (bits_of (take n packet)) (crc_start_length start) in
    let three : length last ≡ 3 = simp length-drop (omega arith) in
    let own : length (bits_of last) ≡ 24 = omega (arith, heard_length last) in
    let after : crc_after register (bits_of last) ≡ replicate 24 false =
    sym (crc_after_append (crc_start start) (bits_of (take n packet)) (bits_of last))
    ∙ ap (crc_after (crc_start start)) (sym (heard_append (take n packet) last))
    ∙ ap (λ (l : List ℕ). crc_after (crc_start start) (bits_of l)) (take-append-drop n packet)
    ∙ e in
    let is : register ≡ bits_of last = crc_after_same register (bits_of last) (bits_of last) whole own (after ∙ sym (own_bits (bits_of last) own)) in
    let sent : octets_in_bits 3 register ≡ last = ap (octets_in_bits 3) is ∙ ap (λ (k : ℕ). octets_in_bits k (bits_of last)) (sym three) ∙ octets_of_heard last (octets_drop n packet o) in
    ap (same last) sent ∙ same_self last

zeros_number : number (replicate 24 false) ≡ 0
unfolding number
zeros_number = refl

zeros_bits : bits 24 0 ≡ replicate 24 false
unfolding bits
zeros_bits = refl

-- so a packet is right exactly if the register's number is 0
pub good_is : (start : ℕ) (packet : List ℕ) (n : ℕ) → 3 ≤ length packet → Octets packet → Register n (crc_after (crc_start start) (bits_of packet)) → eqb n 0 ≡ crc_good start packet
good_is start packet n least o is = go (crc_good start packet) refl (eqb n 0) refl
  where
    go : (good : Bool) → crc_good start packet ≡ good → (zero : Bool) → eqb n 0 ≡ zero → zero ≡ good
    go true e z f =
        sym f ∙ eq-eqb n 0 (sym (number_bits 24 n is.small) ∙ ap number (is.same ∙ good_zeros start packet e) ∙ zeros_number)
    go false e true f =
        sym (zeros_good start packet least o (sym is.same ∙ ap (bits 24) (eqb-true n 0 f) ∙ zeros_bits)) ∙ e
    go false e false f = refl
