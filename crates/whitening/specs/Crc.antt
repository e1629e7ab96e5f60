-- The CRC of a packet (the Core, Vol 6 Part B, 3.1.1).
--
--   crc_taps                  == x^24 + x^10 + x^9 + x^6 + x^4 + x^3 + x + 1 without its first term
--   crc_start start           == the register before the first bit
--   crc_after register bs     == the register after the bits bs
--   crc_register start octets == the register after octets
--   crc_of start octets       == the CRC as a number, position 23 its lowest bit
--   crc_octets start octets   == the three octets that are sent after octets: position 23 first
--   same xs ys               == the same octets
--   crc_good start packet     == the last three octets are those that are sent after the others, whatever the header says
use Rattle.std.specs.Prelude.{ℕ, ◌-◌, Bool, true, false, ◌&&◌, List, [], ◌∷◌, reverse, eqb, length, take, drop}
use Rattle.std.specs.Bool.{xor}
use Rattle.whitening.specs.Bits.{bits, number, bits_of, octets_in_bits, shifted}

-- positions 23 to 0
abbrev pub crc_taps : List Bool
crc_taps =
    false ∷ false ∷ false ∷ false ∷ false ∷ false ∷ false ∷ false ∷ false ∷ false ∷ false ∷ false
    ∷ false ∷ true ∷ true ∷ false ∷ false ∷ true ∷ false ∷ true ∷ true ∷ false ∷ true ∷ true ∷ []

-- bit i of the start value stands in position i; bits above the 24th are not used
abbrev pub crc_start : ℕ → List Bool
crc_start start = reverse (bits 24 start)

-- the bit fed back is what leaves and the data's bit, added
unfoldable pub crc_after : List Bool → List Bool → List Bool
crc_after register [] = register
crc_after [] (b ∷ bs) = []
crc_after (out ∷ rest) (b ∷ bs) = crc_after (shifted crc_taps (xor out b) rest) bs

abbrev pub crc_register : ℕ → List ℕ → List Bool
crc_register start octets = crc_after (crc_start start) (bits_of octets)

unfoldable pub crc_of : ℕ → List ℕ → ℕ
crc_of start octets = number (crc_register start octets)

unfoldable pub crc_octets : ℕ → List ℕ → List ℕ
crc_octets start octets = octets_in_bits 3 (crc_register start octets)

unfoldable pub same : List ℕ → List ℕ → Bool
same [] [] = true
same [] (y ∷ ys) = false
same (x ∷ xs) [] = false
same (x ∷ xs) (y ∷ ys) = eqb x y && same xs ys

unfoldable pub crc_good : ℕ → List ℕ → Bool
crc_good start packet = same (drop (length packet - 3) packet) (crc_octets start (take (length packet - 3) packet))
