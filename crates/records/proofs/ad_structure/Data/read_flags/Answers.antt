use Rattle.records_spec.specs.Record.{flags_read}
use borrow.Author.Tests.{eq-eqb, ne_eqb}
use Rattle.records.proofs.ad_structure.Data.read_flags.Goals as goal

pub returns-then-self-ne1 : goal.returns-then-self-ne1
unfolding flags_read
returns-then-self-ne1 c = simp (ne_eqb _ _ c.if-self-ne1.true)

pub returns : goal.returns
unfolding flags_read
returns c = simp (eq-eqb _ _ c.if-self-ne1.false, ← c.from_bits_truncate.ensures)
