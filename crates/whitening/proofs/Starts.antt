-- Where whitening starts: the number that `channels` gives for an index is the register. Assumes nothing.
use mathlib.Core.Path.{◌≡◌, sym, ap, ◌∙◌}
use Prim.Native.Nat.{ℕ, ◌/◌}
use native.Mathlib.Omega.{arith}
use Rattle.channels.specs.Phy.{index_of, whitening_start}
use Rattle.whitening.specs.Bits.{bits, number}
use Rattle.whitening.specs.Whitening.{register_on}
use Rattle.whitening.specs.Laws.{Starts}
use Rattle.whitening.proofs.Bits.{odd_bit, bits_number}

start_number_law : (channel : ℕ) → number (register_on channel) ≡ whitening_start channel
unfolding number bits
start_number_law x =
    omega (arith, odd_bit x, odd_bit (x / 2), odd_bit (x / 2 / 2), odd_bit (x / 2 / 2 / 2), odd_bit (x / 2 / 2 / 2 / 2), odd_bit (x / 2 / 2 / 2 / 2 / 2))

start_register : (channel : ℕ) → bits 7 (whitening_start channel) ≡ register_on channel
unfolding bits
start_register channel = ap (bits 7) (sym (start_number_law channel)) ∙ bits_number (register_on channel)

pub starts : Starts
starts = record {
  register = start_register;
  number_is = start_number_law;
  data_channels = λ c. start_register c.index;
  advertising_channels = λ c. start_register (index_of c);
}
