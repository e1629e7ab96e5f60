use Rattle.std.proofs.Common.{◌≡◌, take}
use Rattle.octets.specs.Bytes.{written}
use Rattle.records.proofs.ad_structure.put_octets.Given as goal

abbrev pub invariant-loop-i : goal.invariant-loop-i
invariant-loop-i l = l.out ≡ written (take l.i l.octets) l.initial.out l.at
