use mathlib.Core.Path.{◌≡◌}
use mathlib.Core.List.{reverse, reverse_aux}
use Prim.Native.Nat.{◌-◌, ◌<◌, ◌≤◌, ◌^◌}
use Rattle.whitening.specs.Bits.{bits}
use Rattle.whitening.proofs.crc.register_at.Given as goal

abbrev pub invariant-loop-k : goal.invariant-loop-k
invariant-loop-k l =
    (l.k ≤ 24) × ((l.register < 2 ^ l.k) × (reverse_aux (bits (24 - l.k) l.rest) (bits l.k l.register) ≡ reverse (bits 24 l.start)))

abbrev pub decreases-loop-k : goal.decreases-loop-k
decreases-loop-k l =
    24 - l.k
