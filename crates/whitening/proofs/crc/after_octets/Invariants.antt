use mathlib.Core.Path.{◌≡◌}
use Prim.Native.Nat.{◌*◌, ◌<◌, ◌^◌}
use lib.ListN.{length, drop}
use Rattle.whitening.specs.Bits.{bits, bits_of}
use Rattle.whitening.specs.Crc.{crc_after}
use Rattle.whitening.proofs.Threes.{Taken}
use Rattle.whitening.proofs.crc.after_octets.Given as goal

abbrev pub invariant-loop-part : goal.invariant-loop-part
invariant-loop-part l =
    record {
      taken : Taken l.octets l.part-iterator.rest.now l.part-iterator.size (length l.yielded);
      small : l.reached < 2 ^ 24;
      so : crc_after (bits 24 l.reached) (bits_of (drop (3 * length l.yielded) l.octets)) ≡ crc_after (bits 24 l.register) (bits_of l.octets);
    }

abbrev pub invariant-loop-octet : goal.invariant-loop-octet
invariant-loop-octet l =
    record {
      small : l.reached < 2 ^ 24;
      so : crc_after (bits 24 l.reached) (bits_of (drop l.octet-index l.rest)) ≡ crc_after (bits 24 l.register) (bits_of l.octets);
    }
