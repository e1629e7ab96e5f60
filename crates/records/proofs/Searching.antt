-- The record that octets begin with: `none_first`, `taken_first`; how `find_record` goes on from record to record: `step_at`, `turn`, `onward`. Assumes nothing.
use mathlib.Core.Bool.{Bool, true, false, cond}
use mathlib.Core.List.{List, [], ◌∷◌}
use mathlib.Core.Path.{◌≡◌, refl, sym, ap, ◌∙◌}
use Prim.Native.Nat.{ℕ, suc, ◌+◌, ◌-◌, ◌<◌, ◌≤◌, min}
use native.Mathlib.Omega.{arith}
use lib.Dec.{leb}
use lib.ListN.{length, get_or, take, drop, length-drop, length-take, drop_of_length-le}
use lib.Seq.{take_all}
use borrow.Author.Tests.{leb-true, leb-false}
use Rattle.octets.specs.Bytes.{part}
use Rattle.octets.specs.declared.bytes.Part.{Part}
use Rattle.octets.proofs.Places.{front}
use Rattle.records_spec.specs.Area.{records}
use Rattle.records_spec.specs.Record.{first}
use Rattle.records_spec.specs.Search.{first_where, searched}
use Rattle.records_spec.proofs.Cuts.{Step, step_to}
use Rattle.records_spec.proofs.Search.{goes_on, at_end}
use Rattle.std.specs.Prelude.{Option, Some}

pub none_first : (rest : List ℕ) → length rest ≡ 0 → rest ≡ first rest
unfolding first
none_first [] none = refl
none_first (n ∷ rest) none = absurd (omega arith)

-- as many octets as there are
pub taken_first : (rest : List ℕ) {end : ℕ} → 0 < length rest → end ≡ min (length rest) (1 + get_or rest 0 0) → take end rest ≡ first rest
unfolding first
taken_first [] some is = absurd (omega arith)
taken_first (n ∷ rest) {end} some is = go (leb n (length rest)) refl
  where
    go : (b : Bool) → leb n (length rest) ≡ b → take end (n ∷ rest) ≡ n ∷ take n rest
    go true e =
        let fits : n ≤ length rest = leb-true n (length rest) e in
        let same : end ≡ suc n = omega arith in
        rw same
    go false e =
        let short : length rest < n = leb-false n (length rest) e in
        let same : end ≡ suc (length rest) = omega arith in
        rw same (ap (λ (l : List ℕ). n ∷ l) (take_all (length rest) rest (omega arith) ∙ sym (take_all n rest (omega arith))))

-- a record ends where its length octet says, or where the area ends
pub step_at : (s : List ℕ) (at : ℕ) {end : ℕ} → at < length s → end ≡ min (length s) (at + 1 + get_or s at 0) → Step s at end
unfolding first
step_at s at inside is =
    let octets : first (drop at s) ≡ get_or s at 0 ∷ take (get_or s at 0) (drop (at + 1) s) = rw (front s at inside) in
    let long : length (first (drop at s)) ≡ length (get_or s at 0 ∷ take (get_or s at 0) (drop (at + 1) s)) = ap length octets in
    step_to s at (omega (arith, long, length-take (get_or s at 0) (drop (at + 1) s), length-drop (at + 1) s)) (omega (arith, long, length-take (get_or s at 0) (drop (at + 1) s), length-drop (at + 1) s))

-- what is asked of the octets from a position on is asked of the record there
pub asked : (passes : List ℕ → Bool) (s : List ℕ) (at : ℕ) {b : Bool} {next : ℕ} → Step s at next → b ≡ passes (first (take (length s - at) (drop at s))) → b ≡ passes (part (next - at) s at)
asked passes s at step test =
    let all : take (length s - at) (drop at s) ≡ drop at s = take_all (length s - at) (drop at s) (omega (arith, length-drop at s)) in
    test ∙ ap (λ (l : List ℕ). passes (first l)) all ∙ ap passes step.octets

-- by whether the record at a position passes
pub turn : {s : List ℕ} {at next : ℕ} (passes : List ℕ → Bool) {b t : Bool} → searched passes s ≡ first_where passes (records (drop at s)) at → Step s at next → b ≡ passes (part (next - at) s at)
    → b ≡ t → searched passes s ≡ cond t (Some (record { start = at + 2; len = next - at - 2 })) (first_where passes (records (drop next s)) next)
turn {s} {at} {next} passes so_far step test came =
    so_far ∙ goes_on passes s at step ∙ ap (λ (b : Bool). cond {A = Option Part} b (Some (record { start = at + 2; len = next - at - 2 })) (first_where passes (records (drop next s)) next)) (sym test ∙ came)

-- past the area's end no record is left
pub onward : (passes : List ℕ → Bool) (s : List ℕ) (next : ℕ) {end : ℕ} → end ≡ min (length s) next → first_where passes (records (drop end s)) end ≡ first_where passes (records (drop next s)) next
onward passes s next {end} is = go (leb (length s) next) refl
  where
    go : (b : Bool) → leb (length s) next ≡ b → first_where passes (records (drop end s)) end ≡ first_where passes (records (drop next s)) next
    go true e =
        let far : length s ≤ next = leb-true (length s) next e in
        at_end passes s end (drop_of_length-le s {i = end} (omega arith)) ∙ sym (at_end passes s next (drop_of_length-le s {i = next} far))
    go false e =
        let near : next < length s = leb-false (length s) next e in
        let same : end ≡ next = omega arith in
        ap (λ (i : ℕ). first_where passes (records (drop i s)) i) same
