use mathlib.Core.Path.{◌≡◌}
use Rattle.whitening.specs.Whitening.{plus}
use Rattle.whitening.proofs.Adding.{partly}
use Rattle.whitening.proofs.packet.add.Given as goal

abbrev pub invariant-loop-i : goal.invariant-loop-i
invariant-loop-i l = partly l.i l.packet l.octets ≡ plus l.initial.packet l.octets
