-- The CRC as a number and as octets. Assumes nothing.
use mathlib.Core.Path.{◌≡◌, sym, ap, subst, ◌∙◌}
use mathlib.Core.Bool.{Bool}
use mathlib.Core.List.{List, [], ◌∷◌, reverse}
use Prim.Native.Nat.{ℕ, ◌/◌, ◌%◌, ◌^◌, ◌<◌}
use native.Mathlib.Omega.{arith}
use lib.ListN.{length}
use Rattle.whitening.specs.Bits.{bits, number, bits_of, octets_in_bits}
use Rattle.whitening.specs.Crc.{crc_start, crc_after, crc_register, crc_of, crc_octets}
use Rattle.whitening.specs.Number.{Register}
use Rattle.whitening.specs.Laws.{Numbers}
use Rattle.whitening.proofs.Bits.{bits_number, number_bits, number_small, bits_24}
use Rattle.whitening.proofs.Registers.{octets_of_bits}
use Rattle.whitening.proofs.Errors.{crc_after_length, crc_start_length}

register_length : (start : ℕ) (octets : List ℕ) → length (crc_register start octets) ≡ 24
register_length start octets = crc_after_length (crc_start start) (bits_of octets) (crc_start_length start)

pub numbers : (start : ℕ) (octets : List ℕ) → Numbers start octets
unfolding crc_of crc_octets
numbers start octets =
    let register = crc_register start octets in
    let v = number register in
    let e = register_length start octets in
    let back : bits 24 v ≡ register = ap (λ (n : ℕ). bits n v) (sym e) ∙ bits_number register in
    let high : v / 65536 ≡ v / 256 / 256 = omega arith in
    record {
      small = subst (λ (n : ℕ). number register < 2 ^ n) e (number_small register);
      sent = ap (octets_in_bits 3) (sym back) ∙ octets_of_bits v ∙ ap (λ (n : ℕ). v % 256 ∷ v / 256 % 256 ∷ n % 256 ∷ []) high;
      low_24 = ap (λ (bs : List Bool). number (crc_after (reverse bs) (bits_of octets))) (sym (bits_24 start));
    }

-- a register from the start on
pub started : (start : ℕ) (bs : List Bool) (first n : ℕ) → Register first (crc_start start) → Register n (crc_after (bits 24 first) bs) → Register n (crc_after (crc_start start) bs)
started start bs first n at_first is = subst (λ (r : List Bool). Register n (crc_after r bs)) at_first.same is

-- the number of a register is the CRC
pub crc_number_law : (start : ℕ) (octets : List ℕ) (n : ℕ) → Register n (crc_register start octets) → n ≡ crc_of start octets
unfolding crc_of
crc_number_law start octets n is = sym (ap number (sym is.same) ∙ number_bits 24 n is.small)

-- and its octets are those sent
pub crc_sent : (start : ℕ) (octets : List ℕ) (n : ℕ) → Register n (crc_register start octets) → n % 256 ∷ n / 256 % 256 ∷ n / 65536 % 256 ∷ [] ≡ crc_octets start octets
unfolding crc_octets
crc_sent start octets n is = sym (octets_of_bits n) ∙ ap (octets_in_bits 3) is.same
