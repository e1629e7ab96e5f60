-- The register after the octets, from that of the start value, is the CRC.
use Rattle.whitening.specs.Bits.{bits_of}
use Rattle.whitening.proofs.Numbers.{started, crc_number_law}
use Rattle.whitening.proofs.crc.crc.Goals as goal

pub returns : goal.returns
returns c =
    crc_number_law c.args.start c.args.octets.now c.after_octets.result
    (started c.args.start (bits_of c.args.octets.now) c.register_at.result c.after_octets.result c.register_at.ensures c.after_octets.ensures)
