-- Bits as they are heard, each octet's lowest first, and the shift register of the Core's figures (Vol 6 Part B, 3.1.1 and 3.2).
--
--   bits n x                   == the n lowest bits of x, lowest first
--   number bs                  == the number whose bits, lowest first, are bs
--   bits_of octets              == the bits of octets as they are heard
--   octets_in_bits n bs          == the first n octets that are heard in the bits bs
--   added back taps xs         == the bits xs, the bit `back` being added wherever there is a tap
--   shifted taps back rest     == a register after a shift
use Rattle.std.specs.Prelude.{ℕ, zero, suc, ◌+◌, ◌*◌, ◌/◌, ◌%◌, Bool, false, ◌&&◌, List, [], ◌∷◌, ◌++◌, eqb, take, drop}
use Rattle.std.specs.Bool.{xor}
use Rattle.channels.specs.Count.{bit}

unfoldable pub bits : ℕ → ℕ → List Bool
bits zero x = []
bits (suc n) x = eqb (x % 2) 1 ∷ bits n (x / 2)

unfoldable pub number : List Bool → ℕ
number [] = 0
number (b ∷ bs) = bit b + 2 * number bs

unfoldable pub bits_of : List ℕ → List Bool
bits_of [] = []
bits_of (octet ∷ octets) = bits 8 octet ++ bits_of octets

unfoldable pub octets_in_bits : ℕ → List Bool → List ℕ
octets_in_bits zero bs = []
octets_in_bits (suc n) bs = number (take 8 bs) ∷ octets_in_bits n (drop 8 bs)

-- A register is the list of its positions, the highest first. At a shift what stands in the highest position leaves, the others move up by one,
-- and the bit fed back is added modulo 2 wherever the polynomial has a term: at position i for x^i, position 0 being empty before.
unfoldable pub added : Bool → List Bool → List Bool → List Bool
added back [] xs = []
added back (t ∷ taps) [] = []
added back (t ∷ taps) (x ∷ xs) = xor x (back && t) ∷ added back taps xs

abbrev pub shifted : List Bool → Bool → List Bool → List Bool
shifted taps back rest = added back taps (rest ++ false ∷ [])
