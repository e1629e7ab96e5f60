use Rattle.std.proofs.Common.{◌≡◌, ◌≤◌, length, List, ℕ}
use Rattle.records_spec.specs.Record.{record_at}
use Rattle.records_spec.specs.Area.{front_of}
use mathlib.Core.Path.{refl, sym, ◌∙◌}
use native.Mathlib.Omega.{arith}
use Rattle.records_spec.proofs.Cuts.{here, at_here, stepped}
use Rattle.records_spec.proofs.Fronts.{front_more, front_end, front_bad}
use Rattle.records.proofs.area.read_front.Goals as goal
use Rattle.std.specs.Prelude.{Result, Option}
use Rattle.records_spec.specs.declared.ad_structure.AdStructure.{AdStructure}
use Rattle.octets.specs.declared.error.Error.{Error}

-- what a turn reads
turn : (s : List ℕ) (at : ℕ) {r : Result (Option (AdStructure × ℕ)) Error} → r ≡ record_at s at → at ≤ length s → here s at ≡ r
turn s at e inside = sym (e ∙ at_here _ _ inside)

-- src/area.rt:17:5
pub loop-next-init : goal.loop-next-init
unfolding front_of
loop-next-init c = (refl, omega arith, omega arith)

-- src/area.rt:17:5
pub loop-next-smaller : goal.loop-next-smaller
loop-next-smaller c = omega (arith, stepped _ _ (turn _ _ (rw c.in-Ok-Some.field-0-is at c.in-Ok-Some.ensures) c.loop-next.invariant.2))

-- src/area.rt:17:5
pub loop-next-preserved : goal.loop-next-preserved
loop-next-preserved c = (c.loop-next.invariant.0 ∙ front_more _ _ _ (turn _ _ (rw c.in-Ok-Some.field-0-is at c.in-Ok-Some.ensures) c.loop-next.invariant.2), omega (arith, stepped _ _ (turn _ _ (rw c.in-Ok-Some.field-0-is at c.in-Ok-Some.ensures) c.loop-next.invariant.2)), (stepped _ _ (turn _ _ (rw c.in-Ok-Some.field-0-is at c.in-Ok-Some.ensures) c.loop-next.invariant.2)).inside)

-- src/area.rt:24:17
pub returns-in-Ok-None : goal.returns-in-Ok-None
returns-in-Ok-None c = sym (c.loop-next.invariant.0 ∙ front_end _ _ _ (turn _ _ (rw c.in-Ok-None.field-0-is at c.in-Ok-None.ensures) c.loop-next.invariant.2))

-- src/area.rt:27:17
pub returns-in-Err : goal.returns-in-Err
returns-in-Err c = sym (c.loop-next.invariant.0 ∙ front_bad _ _ _ (turn _ _ c.in-Err.ensures c.loop-next.invariant.2))
