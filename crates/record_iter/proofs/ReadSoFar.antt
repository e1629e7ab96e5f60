-- What `read_through` keeps: the iterator goes over the area, which is what was read so far and what reading the rest finds. The lists' side of it is that of
-- `read_area`. Assumes nothing.
use mathlib.Core.Path.{◌≡◌, sym, ap, ◌∙◌}
use Prim.Native.Nat.{ℕ, ◌+◌, ◌≤◌, ◌<◌}
use mathlib.Core.List.{List}
use native.Mathlib.Omega.{arith}
use lib.ListN.{length, drop}
use Rattle.octets.specs.declared.error.Error.{Error}
use Rattle.records_spec.specs.declared.ad_structure.AdStructure.{AdStructure}
use Rattle.records_spec.specs.Record.{record_at}
use Rattle.records_spec.specs.Area.{records, reads, area_of, read_area}
use Rattle.records_spec.proofs.Cuts.{here, at_here, stepped, counting, counting_none, area_more, area_end, area_refused}
use Rattle.record_iter.specs.Iter.{at_next, onward}
use Rattle.record_iter.specs.declared.Records.{Records}
use Rattle.std.specs.Prelude.{Result, Ok, Option, Some, None, Err}

pub record ReadSoFar (s : List ℕ) (it : Records) (count : ℕ) : Type 0 where
  pub over : it.records.now ≡ s
  pub so_far : read_area s ≡ counting count (area_of (reads (records (drop it.at s)) it.at))
  pub few : count ≤ it.at
  pub inside : it.at ≤ length s

-- at the front
pub begins : (s : List ℕ) (it : Records) → it.records.now ≡ s → it.at ≡ 0 → ReadSoFar s it 0
unfolding read_area
begins s it over start =
    record {
      over = over;
      so_far = rw start (counting_none (read_area s));
      few = omega arith;
      inside = omega arith;
    }

-- what a turn reads
read_here : (s : List ℕ) (it : Records) (count : ℕ) {r : Result (Option (AdStructure × ℕ)) Error} → ReadSoFar s it count → r ≡ record_at it.records.now it.at → here s it.at ≡ r
read_here s it count t e = sym (e ∙ ap (λ (l : List ℕ). record_at l it.at) t.over ∙ at_here s it.at t.inside)

-- it reads a record: where the iterator is then
pub went : (it it' : Records) {a : AdStructure} {next : ℕ} → Ok (Some (a, next)) ≡ record_at it.records.now it.at → it' ≡ onward it → it'.at ≡ next
went it it' e m = ap (λ (i : Records). i.at) m ∙ ap (at_next it.at) (sym e)

pub steps : (s : List ℕ) (it it' : Records) (count : ℕ) {a : AdStructure} {next : ℕ} → ReadSoFar s it count → Ok (Some (a, next)) ≡ record_at it.records.now it.at → it' ≡ onward it → (it.at < it'.at) × (it'.at ≤ length s)
steps s it it' count t e m =
    let step = stepped s it.at (read_here s it count t e) in
    let there = went it it' e m in
    (omega (arith, step.later), omega (arith, step.inside))

pub goes_on : (s : List ℕ) (it it' : Records) (count : ℕ) {a : AdStructure} {next : ℕ} → ReadSoFar s it count → Ok (Some (a, next)) ≡ record_at it.records.now it.at → it' ≡ onward it → ReadSoFar s it' (count + 1)
goes_on s it it' count t e m =
    let on = steps s it it' count t e m in
    let there = went it it' e m in
    record {
      over = ap (λ (i : Records). i.records.now) m ∙ t.over;
      so_far = t.so_far ∙ area_more s it.at count (read_here s it count t e) ∙ (rw there);
      few = omega (arith, t.few, on.0);
      inside = on.1;
    }

-- it reads the end, or a record that is refused
pub ends : (s : List ℕ) (it : Records) (count : ℕ) → ReadSoFar s it count → Ok None ≡ record_at it.records.now it.at → Ok count ≡ read_area s
ends s it count t e = sym (t.so_far ∙ area_end s it.at count (read_here s it count t e))

pub refuses : (s : List ℕ) (it : Records) (count : ℕ) {e : Error} → ReadSoFar s it count → Err e ≡ record_at it.records.now it.at → Err e ≡ read_area s
refuses s it count t e = sym (t.so_far ∙ area_refused s it.at count (read_here s it count t e))
