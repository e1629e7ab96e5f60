-- The register after the octets, from that of the start value, octet by octet.
use Rattle.whitening.specs.Bits.{bits_of}
use Rattle.whitening.proofs.Numbers.{started, crc_sent}
use Rattle.whitening.proofs.crc.crc_octets.Goals as goal

pub returns : goal.returns
returns c =
    crc_sent c.args.start c.args.octets.now c.after_octets-register.result
    (started c.args.start (bits_of c.args.octets.now) c.register_at.result c.after_octets-register.result c.register_at.ensures c.after_octets-register.ensures)
