use Rattle.records.proofs.Writing.{record_put}
use Rattle.records.proofs.ad_structure.put_record.Goals as goal

pub returns : goal.returns
returns c =
    let a = c.args in
    record_put a.len a.ty a.own.now a.«data».now a.out.now a.at c.requires.0 c.requires.1 c.put_octets.ensures c.put_octets-2.ensures
