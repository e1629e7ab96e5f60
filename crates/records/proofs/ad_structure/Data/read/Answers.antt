use Rattle.std.proofs.Common.{arith}
use Rattle.records_spec.specs.Record.{data_read}
use borrow.Author.Tests.{ne_eqb}
use Rattle.records.proofs.ad_structure.Data.read.Goals as goal

pub returns-in-1 : goal.returns-in-1
unfolding data_read
returns-in-1 c = simp c.in-1.is c.read_flags.ensures

pub returns-in-2 : goal.returns-in-2
unfolding data_read
returns-in-2 c = simp c.in-2.is c.read_uuids.ensures

pub returns-in-3 : goal.returns-in-3
unfolding data_read
returns-in-3 c = simp c.in-3.is c.read_uuids-in-3.ensures

pub returns-in_default : goal.returns-in_default
unfolding data_read
returns-in_default c =
    let ty = c.args.ty in
    simp (ne_eqb ty 1 (omega arith), ne_eqb ty 2 (omega arith), ne_eqb ty 3 (omega arith))
