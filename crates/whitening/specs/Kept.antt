-- What the code keeps of whitening (document 02, Note 5: "All channels follow one cycle of 127 bits from different places. Keep that cycle instead, all whitening
-- tables together taking at most 200 octets."). `cycle` and `places` of src/table.rt, which alone name the constants, hand these out, whole.
--   cycle_bits       == the cycle, of `period` bits, from where channel 0 begins
--   Follows channel == a place from which the bits that leave the channel's register are the cycle's, round and round
--   OneCycle        (Cycle.one_cycle)  every channel has such a place, one only, and no two have the same
--   kept_cycle       == the octets that leave the register of channel 4: once round the cycle, eight bits at a time, and 27 octets more
--   kept_places      == where each channel's octets begin in it
--   Kept            (Kept.kept)        they are at most 200 octets, hold each channel's 42 whitening octets in one piece, and are the cycle, bit by bit
use Rattle.std.specs.Prelude.{Bool, false, List, [], ◌∷◌, ◌≡◌, ℕ, ◌+◌, ◌%◌, ◌≤◌, ◌<◌, length, get_or}
use Rattle.octets.specs.Bytes.{part}
use Rattle.whitening.specs.Bits.{bits_of, octets_in_bits}
use Rattle.whitening.specs.Whitening.{register_on, leaving, whitening}

abbrev pub period : ℕ
period = 127

abbrev pub cycle_bits : List Bool
cycle_bits = leaving period (register_on 0)

-- of any number of bits, the 336 of a packet among them
pub record Follows (channel : ℕ) : Type 0 where
  pub place : ℕ
  pub within : place < period
  pub bit : (n i : ℕ) → i < n → get_or (leaving n (register_on channel)) i false ≡ get_or cycle_bits ((place + i) % period) false

pub record OneCycle : Type 0 where
  pub size : length cycle_bits ≡ 127
  pub follows : (channel : ℕ) → channel ≤ 39 → Follows channel
  pub different : (c d : ℕ) → c ≤ 39 → d ≤ 39 → (f : Follows c) (g : Follows d) → f.place ≡ g.place → c ≡ d
  -- one only, so that no shorter cycle would do
  pub alone : (c : ℕ) (f g : Follows c) → f.place ≡ g.place

unfoldable pub kept_cycle : List ℕ
kept_cycle = octets_in_bits 154 (leaving 1232 (register_on 4))

unfoldable pub kept_places : List ℕ
kept_places =
    15 ∷ 14 ∷ 53 ∷ 36 ∷ 0 ∷ 12 ∷ 24 ∷ 3 ∷ 78 ∷ 27 ∷ 26 ∷ 73 ∷ 48 ∷ 96 ∷ 6 ∷ 65 ∷ 71 ∷ 90 ∷ 39 ∷ 13
    ∷ 85 ∷ 56 ∷ 58 ∷ 38 ∷ 77 ∷ 100 ∷ 7 ∷ 18 ∷ 17 ∷ 60 ∷ 108 ∷ 104 ∷ 43 ∷ 89 ∷ 112 ∷ 81 ∷ 30 ∷ 52 ∷ 28 ∷ 19 ∷ []

pub record Kept : Type 0 where
  pub at_most_200 : length kept_cycle + length kept_places ≤ 200
  pub each : (channel : ℕ) → channel ≤ 39 → part 42 kept_cycle (get_or kept_places channel 0) ≡ whitening channel
  pub bits : (f : Follows 4) (i : ℕ) → i < 1232 → get_or (bits_of kept_cycle) i false ≡ get_or cycle_bits ((f.place + i) % period) false
