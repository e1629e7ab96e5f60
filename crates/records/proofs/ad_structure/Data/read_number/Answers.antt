use Rattle.records_spec.specs.Record.{number_read}
use borrow.Author.Tests.{lt-ltb}
use Rattle.records_spec.proofs.Pairs.{number_is}
use Rattle.records.proofs.ad_structure.Data.read_number.Goals as goal

pub returns-then-self-lt2 : goal.returns-then-self-lt2
unfolding number_read
returns-then-self-lt2 c = simp (lt-ltb _ 2 c.if-self-lt2.true)

pub returns : goal.returns
returns c = number_is c.args.self.octets.now c.args.self.start c.if-self-lt2.false c.u16_from_le_bytes.ensures
