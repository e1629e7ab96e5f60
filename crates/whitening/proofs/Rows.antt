-- From a channel's place on the cycle holds the channel's whitening octets: one computed test over all 1,680 of them. Assumes nothing.
use mathlib.Core.Path.{◌≡◌, refl, ap, ap₂, ◌∙◌}
use mathlib.Core.Bool.{Bool, xor}
use mathlib.Core.List.{List, [], ◌∷◌}
use Prim.Native.Nat.{ℕ, zero, suc, ◌+◌, ◌-◌, ◌≤◌, ◌<◌}
use native.Mathlib.Omega.{arith}
use lib.Bits.{bit_xor, xor_zero_l}
use lib.ListN.{length, get_or, take, drop, replicate}
use Rattle.channels.specs.Count.{count}
use Rattle.whitening.specs.Bits.{bits, number, octets_in_bits, added}
use Rattle.whitening.specs.Kept.{kept_cycle, kept_places}
use Rattle.whitening.specs.Whitening.{leaving, whitening, plus, whitened}
use Rattle.whitening.proofs.Values.{values, values_all, values_small}
use Rattle.whitening.proofs.Octets.{cycle, cycle_is}

abbrev pub place_of : ℕ → ℕ
place_of channel = get_or kept_places channel 0

code_part_is : (channel : ℕ) → channel < 40 → take 42 (drop (place_of channel) cycle) ≡ whitening channel
unfolding cycle kept_places values whitening leaving bits number octets_in_bits added xor
code_part_is = values_all (λ (c : ℕ). take 42 (drop (place_of c) cycle)) whitening 40 refl

pub part_is : (channel : ℕ) → channel < 40 → take 42 (drop (place_of channel) kept_cycle) ≡ whitening channel
part_is channel h = rw (← cycle_is) (code_part_is channel h)

-- none is cut
pub place_small : (channel : ℕ) → channel < 40 → place_of channel < 113
unfolding kept_places count
place_small = values_small place_of 113 40 refl

pub octets_of_length : (n : ℕ) (bs : List Bool) → length (octets_in_bits n bs) ≡ n
unfolding octets_in_bits
octets_of_length zero bs = refl
octets_of_length (suc n) bs = ap suc (octets_of_length n (drop 8 bs))

pub whitening_length : (channel : ℕ) → length (whitening channel) ≡ 42
unfolding whitening
whitening_length channel = octets_of_length 42 _

-- what is longer is cut
pub plus_cut : (packet octets : List ℕ) → plus packet (take (length packet) octets) ≡ plus packet octets
unfolding plus
plus_cut [] octets = refl
plus_cut (x ∷ packet) [] = refl
plus_cut (x ∷ packet) (y ∷ octets) = ap (λ (l : List ℕ). bit_xor x y ∷ l) (plus_cut packet octets)

plus_zeros : (n : ℕ) (octets : List ℕ) → length octets ≡ n → plus (replicate n 0) octets ≡ octets
unfolding plus
plus_zeros zero [] e = refl
plus_zeros zero (y ∷ octets) e = absurd (omega arith)
plus_zeros (suc n) [] e = absurd (omega arith)
plus_zeros (suc n) (y ∷ octets) e = ap₂ ◌∷◌ (xor_zero_l y) (plus_zeros n octets (omega arith))

-- a part of the cycle is a channel's
pub row_is : (channel : ℕ) → channel ≤ 39 → plus (replicate 42 0) (take (place_of channel + 42 - place_of channel) (drop (place_of channel) kept_cycle)) ≡ whitening channel
row_is channel h =
    let e : place_of channel + 42 - place_of channel ≡ 42 = omega arith in
    rw (e, part_is channel (omega arith)) (plus_zeros 42 (whitening channel) (whitening_length channel))

-- its front is what a packet is whitened with
pub plus_row : (channel : ℕ) (packet row : List ℕ) → row ≡ whitening channel → plus packet (take (length packet) row) ≡ whitened channel packet
unfolding whitened
plus_row channel packet row is = plus_cut packet row ∙ ap (plus packet) is
