use Rattle.octets.proofs.Numbers.{full_uuid_law}
use Rattle.octets.proofs.uuid.Uuid128FromUuid32.from.Goals as goal

pub returns : goal.returns
returns c =
    rw (c.copy_octets.ensures, c.u32_to_be_bytes-first.ensures) (full_uuid_law c.args.uuid.0)
