-- The CRC is what a division by the polynomial leaves: the bits fed_back back are the quotient. Assumes nothing.
use mathlib.Core.Path.{◌≡◌, refl, sym, ap, ap₂, ◌∙◌}
use mathlib.Core.Bool.{Bool, true, false, xor, ◌&&◌}
use mathlib.Core.List.{List, [], ◌∷◌, ◌++◌, append_assoc, append-nil}
use Prim.Native.Nat.{ℕ, zero, suc, ◌+◌}
use native.Mathlib.Omega.{arith}
use lib.ListN.{length, replicate, length-append}
use Rattle.whitening.specs.Bits.{bits, number, bits_of, added, shifted}
use Rattle.whitening.specs.Crc.{crc_taps, crc_start, crc_after, crc_register, crc_of}
use Rattle.whitening.specs.Laws.{is_in, terms, sum, each, product, Divides}
use Rattle.whitening.proofs.Bits.{bits_number}
use Rattle.whitening.proofs.Errors.{zeros_length, crc_after_length, crc_start_length}
use Rattle.whitening.proofs.Twice.{sum_append, shifted_length}

abbrev zeros : ℕ → List Bool
zeros n = replicate n false

-- the bits fed_back back
unfoldable fed_back : List Bool → List Bool → List Bool
fed_back register [] = []
fed_back [] (b ∷ bs) = []
fed_back (out ∷ rest) (b ∷ bs) = xor out b ∷ fed_back (shifted crc_taps (xor out b) rest) bs

fed_back_length : (register bs : List Bool) → length register ≡ 24 → length (fed_back register bs) ≡ length bs
unfolding fed_back
fed_back_length register [] e = refl
fed_back_length [] (b ∷ bs) e = absurd (omega arith)
fed_back_length (out ∷ rest) (b ∷ bs) e = ap suc (fed_back_length (shifted crc_taps (xor out b) rest) bs (shifted_length crc_taps (xor out b) rest e))

each_length : (k : Bool) (ts : List Bool) → length (each k ts) ≡ length ts
unfolding each
each_length k [] = refl
each_length k (t ∷ ts) = ap suc (each_length k ts)

added_sum : (k : Bool) (taps xs : List Bool) → length xs ≡ length taps → added k taps xs ≡ sum xs (each k taps)
unfolding added sum each
added_sum k [] [] e = refl
added_sum k [] (x ∷ xs) e = absurd (omega arith)
added_sum k (t ∷ taps) [] e = absurd (omega arith)
added_sum k (t ∷ taps) (x ∷ xs) e = ap (λ (l : List Bool). xor x (k && t) ∷ l) (added_sum k taps xs (omega arith))

sum_zeros : (n : ℕ) → zeros n ≡ sum (zeros n) (zeros n)
unfolding sum xor
sum_zeros zero = refl
sum_zeros (suc n) = ap (λ (l : List Bool). false ∷ l) (sum_zeros n)

xor_assoc : (x y z : Bool) → xor (xor x y) z ≡ xor x (xor y z)
unfolding xor
xor_assoc true true true = refl
xor_assoc true true false = refl
xor_assoc true false true = refl
xor_assoc true false false = refl
xor_assoc false true true = refl
xor_assoc false true false = refl
xor_assoc false false true = refl
xor_assoc false false false = refl

xor_around : (m a b : Bool) → xor m (xor a (xor b m)) ≡ xor a b
unfolding xor
xor_around true true true = refl
xor_around true true false = refl
xor_around true false true = refl
xor_around true false false = refl
xor_around false true true = refl
xor_around false true false = refl
xor_around false false true = refl
xor_around false false false = refl

sum_assoc : (xs ys zs : List Bool) → sum (sum xs ys) zs ≡ sum xs (sum ys zs)
unfolding sum
sum_assoc [] ys zs = refl
sum_assoc (x ∷ xs) [] zs = refl
sum_assoc (x ∷ xs) (y ∷ ys) [] = refl
sum_assoc (x ∷ xs) (y ∷ ys) (z ∷ zs) = ap₂ ◌∷◌ (xor_assoc x y z) (sum_assoc xs ys zs)

sum_around : (m a b : List Bool) → length a ≡ length m → length b ≡ length m → sum m (sum a (sum b m)) ≡ sum a b
unfolding sum
sum_around [] [] b e f = refl
sum_around [] (x ∷ a) b e f = absurd (omega arith)
sum_around (k ∷ m) [] b e f = absurd (omega arith)
sum_around (k ∷ m) (x ∷ a) [] e f = absurd (omega arith)
sum_around (k ∷ m) (x ∷ a) (y ∷ b) e f = ap₂ ◌∷◌ (xor_around k x y) (sum_around m a b (omega arith) (omega arith))

head_is : (out b : Bool) → xor b out ≡ xor (xor (xor out b && true) false) false
unfolding xor
head_is true true = refl
head_is true false = refl
head_is false true = refl
head_is false false = refl

divided : (register bs : List Bool) → length register ≡ 24
    → sum (bs ++ zeros 24) (register ++ zeros (length bs)) ≡ sum (product (fed_back register bs)) (zeros (length bs) ++ crc_after register bs)
unfolding fed_back product crc_after sum each terms is_in
divided register [] e = ap (sum (zeros 24)) (append-nil register)
divided [] (b ∷ bs) e = absurd (omega arith)
divided (out ∷ rest) (b ∷ bs) e =
    let k = xor out b in
    let next = shifted crc_taps k rest in
    let n = length bs in
    let long : length (rest ++ false ∷ []) ≡ 24 = simp length-append (omega arith) in
    let after = shifted_length crc_taps k rest e in
    let taps = each k crc_taps in
    let m : List Bool = taps ++ zeros n in
    let a : List Bool = bs ++ zeros 24 in
    let c : List Bool = (rest ++ false ∷ []) ++ zeros n in
    let ml : length m ≡ 24 + n = simp (length-append, each_length, zeros_length) (omega (arith, each_length k crc_taps)) in
    let al : length a ≡ 24 + n = simp (length-append, zeros_length) (omega arith) in
    let cl : length c ≡ 24 + n = simp (length-append, zeros_length) (omega (arith, long)) in
    let q = fed_back next bs in
    let w : List Bool = zeros n ++ crc_after next bs in
    let with-next : next ++ zeros n ≡ sum c m =
    ap₂ ◌++◌ (added_sum k crc_taps (rest ++ false ∷ []) long) (sum_zeros n) ∙ sym (sum_append (rest ++ false ∷ []) (zeros n) taps (zeros n) (long ∙ sym (each_length k crc_taps))) in
    ap₂ ◌∷◌ (head_is out b)
    (ap (sum a) (sym (append_assoc rest (false ∷ []) (zeros n)))
    ∙ sym (sum_around m a c (al ∙ sym ml) (cl ∙ sym ml))
    ∙ ap (λ (l : List Bool). sum m (sum a l)) (sym with-next)
    ∙ ap (sum m) (divided next bs after)
    ∙ sym (sum_assoc m (product q) w)
    ∙ ap (λ (j : ℕ). sum (sum (taps ++ zeros j) (product q)) w) (sym (fed_back_length next bs after)))

pub divides : (start : ℕ) (octets : List ℕ) → Divides start octets
unfolding crc_of
divides start octets =
    let register = crc_register start octets in
    let e = crc_after_length (crc_start start) (bits_of octets) (crc_start_length start) in
    let back : bits 24 (number register) ≡ register = ap (λ (n : ℕ). bits n (number register)) (sym e) ∙ bits_number register in
    record {
      quotient = fed_back (crc_start start) (bits_of octets);
      size = fed_back_length (crc_start start) (bits_of octets) (crc_start_length start);
      left = divided (crc_start start) (bits_of octets) (crc_start_length start)
          ∙ ap (λ (l : List Bool). sum (product (fed_back (crc_start start) (bits_of octets))) (zeros (length (bits_of octets)) ++ l)) (sym back);
    }
