use Rattle.std.proofs.Common.{◌≡◌, ◌+◌, ◌-◌, length, drop, ℕ, true, false, List}
use Rattle.octets.specs.Bytes.{has}
use Rattle.records_spec.specs.Write.{IsOutline, lent_to, lent_after, written_to, written_after, Outline, may_write}
use mathlib.Core.Path.{refl, sym, ap, ◌∙◌}
use native.Mathlib.Omega.{arith}
use lib.ListN.{take}
use borrow.Author.Tests.{leb-true}
use Rattle.octets.specs.declared.error.Error.TheVariants.{Eof}
use Rattle.records_spec.specs.declared.ad_structure.AdStructure.{AdStructure}
use Rattle.records_spec.specs.Order.{Lends, lent_octets}
use Rattle.records_spec.proofs.Outlines.{written_by_outline}
use Rattle.records.proofs.ad_structure.write_record.Goals as goal
use Rattle.std.specs.Prelude.{Result, Err}
use Rattle.octets.specs.declared.bytes.ByteWriter.{ByteWriter}
use Rattle.octets.specs.declared.error.Error.{Error}

-- the answer and the octets of a write
abbrev Wrote : AdStructure → List ℕ → List ℕ → ℕ → Result ByteWriter Error → List ℕ → Type 0
Wrote a s out at r l = (r ≡ written_to a s out at) × (l ≡ written_after a s out at)

no-data : (a : AdStructure) (s out : List ℕ) (at : ℕ) {o : Outline} → IsOutline a o → has o.len s o.start ≡ false → Wrote a s out at (Err Eof) out
unfolding written_to written_after may_write
no-data a s out at is few = rw (← is.start, ← is.len, few) (refl, refl)

-- the lent part, as the code takes it
lent : (a : AdStructure) (s out : List ℕ) (at : ℕ) {o : Outline} {r : Result ByteWriter Error} {l : List ℕ} → IsOutline a o → has o.len s o.start ≡ true
    → (r ≡ lent_to o (take (o.start + o.len - o.start) (drop o.start s)) out at) × (l ≡ lent_after o (take (o.start + o.len - o.start) (drop o.start s)) out at)
    → Wrote a s out at r l
lent a s out at {o} is there wrote =
    let size : o.start + o.len - o.start ≡ o.len = omega arith in
    let octets : take (o.start + o.len - o.start) (drop o.start s) ≡ lent_octets a s = rw (size, is.start, is.len) in
    let lends : Lends a s = rw (← is.start, ← is.len) (leb-true (o.start + o.len) (length s) there) in
    let by = written_by_outline a o is in
    (wrote.0 ∙ ap (λ (d : List ℕ). lent_to o d out at) octets ∙ by.answers s out at lends, wrote.1 ∙ ap (λ (d : List ℕ). lent_after o d out at) octets ∙ by.after s out at lends)

-- src/ad_structure.rt:210:9
pub returns-then-has_octets : goal.returns-then-has_octets
returns-then-has_octets c =
    lent _ _ _ _ c.outline_of-outline.ensures (sym c.has_octets.ensures ∙ c.if-has_octets.true) c.write_lent.ensures

-- src/ad_structure.rt:202:1
pub returns : goal.returns
returns c = no-data _ _ _ _ c.outline_of-outline.ensures (sym c.has_octets.ensures ∙ c.if-has_octets.false)
