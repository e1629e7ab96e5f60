-- The worked values hold of the definitions. Computed. Assumes nothing.
use mathlib.Core.Path.{refl}
use mathlib.Core.Bool.{xor}
use Rattle.whitening.specs.Bits.{bits, number, bits_of, octets_in_bits, added}
use Rattle.whitening.specs.Whitening.{leaving, whitening, plus, whitened}
use Rattle.whitening.specs.Crc.{crc_after, crc_of, crc_octets, same, crc_good}
use Rattle.whitening.specs.Examples.{Examples}

pub examples : Examples
unfolding bits number bits_of octets_in_bits added leaving whitening plus whitened crc_after crc_of crc_octets same crc_good xor
examples = record {
  as_heard = refl;
  check_value = refl;
  check_octets = refl;
  beacon = refl;
  nothing = refl;
  start_bit_0 = refl;
  start_bit_23 = refl;
  octet_order = refl;
  low_24_bits = refl;
  longest = refl;
  longer = refl;
  whitening_0 = refl;
  whitening_0_end = refl;
  whitening_23 = refl;
  whitening_23_end = refl;
  whitening_37 = refl;
  whitening_37_end = refl;
  whitened_row = refl;
  heard_39 = refl;
  heard_38_changed = refl;
  heard_10 = refl;
  heard_10_other_start = refl;
  heard_header_of_63 = refl;
  heard_longest = refl;
  heard_longest_changed = refl;
  heard_36 = refl;
  heard_37 = refl;
  heard_37_started = refl;
  starts = refl;
  lengths = refl;
  no_channel = refl;
  flags = refl;
  kept = refl;
  left = refl;
}
