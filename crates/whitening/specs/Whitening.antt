-- Data whitening (the Core, Vol 6 Part B, 3.2).
--
--            +------------------------------------------+
--            v                           v              |
--          | 0 | -> | 1 | -> .. | 3 | -> + -> | 4 | .. | 6 | -> added to the packet's bits
--
--   whitening_taps           == x^7 + x^4 + 1 without its first term
--   register_on channel      == the register at the start of a packet
--   leaving n register      == the n bits that leave it
--   whitening channel       == the octets that are added to a packet, which has 42 at most
--   plus xs ys              == octets added to octets
--   whitened channel packet == a packet with whitening added, or taken off
use Rattle.std.specs.Prelude.{ℕ, zero, suc, Bool, true, false, List, [], ◌∷◌, ◌++◌}
use Rattle.std.specs.Int.Bits.{bit_xor}
use Rattle.whitening.specs.Bits.{bits, octets_in_bits, shifted}

-- positions 6 to 0
abbrev pub whitening_taps : List Bool
whitening_taps = false ∷ false ∷ true ∷ false ∷ false ∷ false ∷ true ∷ []

-- position 0 is 1, positions 1 to 6 the channel index, its most significant bit in position 1
abbrev pub register_on : ℕ → List Bool
register_on channel = bits 6 channel ++ true ∷ []

-- what leaves is fed back
unfoldable pub leaving : ℕ → List Bool → List Bool
leaving zero register = []
leaving (suc n) [] = []
leaving (suc n) (out ∷ rest) = out ∷ leaving n (shifted whitening_taps out rest)

unfoldable pub whitening : ℕ → List ℕ
whitening channel = octets_in_bits 42 (leaving 336 (register_on channel))

-- added modulo 2, octet by octet; what is longer is cut
unfoldable pub plus : List ℕ → List ℕ → List ℕ
plus [] ys = []
plus (x ∷ xs) [] = []
plus (x ∷ xs) (y ∷ ys) = bit_xor x y ∷ plus xs ys

unfoldable pub whitened : ℕ → List ℕ → List ℕ
whitened channel packet = plus packet (whitening channel)
