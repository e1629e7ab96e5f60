-- What the code keeps: at most 200 octets, and each channel's whitening octets in one piece; bit by bit it is the cycle of `OneCycle`: `kept`. Assumes nothing.
use mathlib.Core.Path.{◌≡◌, ap, ◌∙◌}
use mathlib.Core.Bool.{Bool, false}
use mathlib.Core.List.{List}
use Prim.Native.Nat.{ℕ, ◌+◌, ◌%◌, ◌<◌}
use native.Mathlib.Omega.{arith}
use lib.ListN.{get_or}
use Rattle.whitening.specs.Bits.{bits_of}
use Rattle.whitening.specs.Kept.{period, cycle_bits, Follows, kept_cycle, kept_places, Kept}
use Rattle.whitening.specs.Whitening.{register_on, leaving}
use Rattle.whitening.proofs.Rows.{octets_of_length, part_is}
use Rattle.whitening.proofs.Twice.{heard_octets_of, leaving_on}

-- as it is heard: the cycle from the place of channel 4 on
kept_bits : (f : Follows 4) (i : ℕ) → i < 1232 → get_or (bits_of kept_cycle) i false ≡ get_or cycle_bits ((f.place + i) % period) false
unfolding kept_cycle
kept_bits f i h = ap (λ (l : List Bool). get_or l i false) (heard_octets_of 154 (leaving 1232 (register_on 4)) (leaving_on 1232 4)) ∙ f.bit 1232 i h

pub kept : Kept
unfolding kept_cycle kept_places
kept = record { at_most_200 = omega (arith, octets_of_length 154 (leaving 1232 (register_on 4))); each = λ channel h. part_is channel (omega arith); bits = kept_bits }
