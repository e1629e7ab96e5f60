use Rattle.utf8.proofs.Sequences.{Reading}
use Rattle.utf8.proofs.is_utf8.Given as goal

abbrev pub invariant-loop-b : goal.invariant-loop-b
invariant-loop-b l = Reading l.s l.b-index l.lead.count l.lead.low l.lead.high
