-- Going through the iterator from the front: `goes_through`; where its rest lies: `rest_placed`.
-- Assumes nothing.
use mathlib.Core.Path.{◌≡◌, refl, sym, ap, ◌∙◌, subst}
use Prim.Native.Nat.{ℕ, zero, suc, ◌+◌, ◌<◌, ◌≤◌}
use mathlib.Core.List.{List, [], ◌∷◌}
use native.Mathlib.Omega.{arith}
use native.Mathlib.Numerals.{add-one}
use lib.ListN.{length, drop, length-drop}
use denote.Ref.{Bor}
use Rattle.octets.specs.declared.error.Error.{Error}
use Rattle.records_spec.specs.declared.ad_structure.AdStructure.{AdStructure}
use Rattle.records_spec.specs.Record.{record_read, first, record_at}
use Rattle.records_spec.specs.Area.{cut, records, reads, with_first, area_of, read_area}
use Rattle.records_spec.proofs.Cuts.{Sized, sized, here, at_here, Step, stepped, ended}
use Rattle.record_iter.specs.Iter.{at_next}
use Rattle.record_iter.specs.Laws.{next_of, records_left, moved_by, answer_at, IsRecord, next_after, Through, AreaCounted, GoesThrough, RestPlaced}
use Rattle.record_iter.specs.declared.Records.{Records}
use Rattle.std.specs.Prelude.{Result, Ok, Option, Some, None, Err}

-- ---- the answers of a list of records that read so, and what the area is
record Ends (rs : List (Result (Option (AdStructure × ℕ)) Error)) (n : ℕ) (last : Result (Option (AdStructure × ℕ)) Error) : Type 0 where
  found : (k : ℕ) → k < n → IsRecord (answer_at rs k)
  then : answer_at rs n ≡ last

record Stops (rs : List (Result (Option (AdStructure × ℕ)) Error)) (e : Error) : Type 0 where
  count : ℕ
  ends : Ends rs count (Err e)

abbrev Closes : List (Result (Option (AdStructure × ℕ)) Error) → Result ℕ Error → Type 0
Closes rs (Ok n) = Ends rs n (Ok None)
Closes rs (Err e) = Stops rs e

-- one more record in front
ends_more : (rs : List (Result (Option (AdStructure × ℕ)) Error)) (a : AdStructure) (next n : ℕ) (last : Result (Option (AdStructure × ℕ)) Error) → Ends rs n last → Ends ((Ok (Some (a, next))) ∷ rs) (suc n) last
unfolding answer_at
ends_more rs a next n last e = record { found = found; then = e.then }
  where
    found : (k : ℕ) → k < suc n → IsRecord (answer_at ((Ok (Some (a, next))) ∷ rs) k)
    found zero h = tt
    found (suc k) h = e.found k (omega arith)

closes_more : (rs : List (Result (Option (AdStructure × ℕ)) Error)) (a : AdStructure) (next : ℕ) (area : Result ℕ Error) → Closes rs area → Closes ((Ok (Some (a, next))) ∷ rs) (with_first (Ok (Some (a, next))) area)
unfolding with_first
closes_more rs a next (Ok n) e = subst (λ (m : ℕ). Ends ((Ok (Some (a, next))) ∷ rs) m (Ok None)) (sym (add-one n)) (ends_more rs a next n (Ok None) e)
closes_more rs a next (Err k) e = record { count = suc e.count; ends = ends_more rs a next e.count (Err k) e.ends }

-- a record that is not empty does not read as the end
closes_read : (x : ℕ) (rest : List ℕ) (at : ℕ) (r : Result (Option (AdStructure × ℕ)) Error) → record_read (first (x ∷ rest)) at ≡ r → (rs : List (Result (Option (AdStructure × ℕ)) Error)) → Closes rs (area_of rs) → Closes (r ∷ rs) (with_first r (area_of rs))
unfolding first with_first answer_at
closes_read x rest at (Ok (Some (a, next))) e rs c = closes_more rs a next (area_of rs) c
closes_read x rest at (Ok None) e rs c =
    let empty : Sized (first (x ∷ rest)) at (Ok None) = subst (Sized (first (x ∷ rest)) at) e (sized (first (x ∷ rest)) at) in
    let z : ◌≡◌ {A = ℕ} 0 1 = cc in absurd (omega arith)
closes_read x rest at (Err k) e rs c = record { count = 0; ends = record { found = λ j h. absurd (omega arith); then = refl } }

closes : (l : List ℕ) (skip at : ℕ) → Closes (reads (cut l skip) at) (area_of (reads (cut l skip) at))
unfolding cut reads area_of answer_at
closes [] skip at = record { found = λ k h. absurd (omega arith); then = refl }
closes (x ∷ rest) zero at = closes_read x rest at (record_read (first (x ∷ rest)) at) refl (reads (cut rest x) (at + length (first (x ∷ rest)))) (closes rest x (at + length (first (x ∷ rest))))
closes (x ∷ rest) (suc skip) at = closes rest skip at

-- ---- the iterator over an area, at any position in it
module _ (area : Bor (List ℕ)) where
  abbrev s : List ℕ
  s = area.now

  abbrev iter : ℕ → Records
  iter i = record { records = area; at = i }

  -- what reading finds of the records from a position on
  abbrev from : ℕ → List (Result (Option (AdStructure × ℕ)) Error)
  from at = reads (records (drop at s)) at

  -- by the answer at a position: the answers from there on
  abbrev Answers : ℕ → Result (Option (AdStructure × ℕ)) Error → Type 0
  Answers at (Ok (Some (a, next))) = (from at ≡ (Ok (Some (a, next))) ∷ from next) × Step s at next
  Answers at (Ok None) = from at ≡ []
  Answers at (Err e) = (k : ℕ) → answer_at (from at) k ≡ Err e

  answers : (at : ℕ) (r : Result (Option (AdStructure × ℕ)) Error) → here s at ≡ r → Answers at r
  unfolding here record_read first cut reads answer_at
  answers at (Ok (Some (a, next))) e =
      let step : Step s at next = stepped s at e in
      (simp (step.cuts, e, step.ends) refl, step)
  answers at (Ok None) e = rw (ended s at e) refl
  answers at (Err k) e = go (drop at s) e
    where
      go : (l : List ℕ) → record_read (first l) at ≡ Err k → (j : ℕ) → answer_at (reads (records l) at) j ≡ Err k
      go [] e j = cc
      go (x ∷ rest) e zero = rw e refl
      go (x ∷ rest) e (suc j) = rw e refl

  -- the iterator moved on from a position, by the answer there
  onward_at : (k at : ℕ) {r : Result (Option (AdStructure × ℕ)) Error} → record_at s at ≡ r → moved_by (suc k) (iter at) ≡ moved_by k (iter (at_next at r))
  unfolding moved_by
  onward_at k at e = ap (λ (x : Result (Option (AdStructure × ℕ)) Error). moved_by k (iter (at_next at x))) e

  in_order : (k at : ℕ) → at ≤ length s → next_of (moved_by k (iter at)) ≡ answer_at (from at) k
  unfolding moved_by answer_at
  in_order zero at inside = start (here s at) (at_here s at inside) (answers at (here s at) refl)
    where
      start : (r : Result (Option (AdStructure × ℕ)) Error) → record_at s at ≡ r → Answers at r → record_at s at ≡ answer_at (from at) 0
      start (Ok (Some (a, next))) e w = e ∙ sym (ap (λ (rs : List (Result (Option (AdStructure × ℕ)) Error)). answer_at rs 0) w.0)
      start (Ok None) e w = e ∙ sym (ap (λ (rs : List (Result (Option (AdStructure × ℕ)) Error)). answer_at rs 0) w)
      start (Err k) e w = e ∙ sym (w 0)
  in_order (suc k) at inside = go (here s at) (at_here s at inside) (answers at (here s at) refl) (in_order k)
    where
      go : (r : Result (Option (AdStructure × ℕ)) Error) → record_at s at ≡ r → Answers at r → ((i : ℕ) → i ≤ length s → next_of (moved_by k (iter i)) ≡ answer_at (from i) k) → next_of (moved_by (suc k) (iter at)) ≡ answer_at (from at) (suc k)
      go (Ok (Some (a, next))) e w ih = ap next_of (onward_at k at e) ∙ ih next w.1.inside ∙ sym (ap (λ (rs : List (Result (Option (AdStructure × ℕ)) Error)). answer_at rs (suc k)) w.0)
      go (Ok None) e w ih = ap next_of (onward_at k at e) ∙ ih at inside ∙ ap (λ (rs : List (Result (Option (AdStructure × ℕ)) Error)). answer_at rs k) w ∙ sym (ap (λ (rs : List (Result (Option (AdStructure × ℕ)) Error)). answer_at rs (suc k)) w)
      go (Err x) e w ih = ap next_of (onward_at k at e) ∙ ih at inside ∙ w k ∙ sym (w (suc k))

  left : (k at : ℕ) → at ≤ length s → ((j : ℕ) → j < k → IsRecord (next_of (moved_by j (iter at)))) → records (records_left (moved_by k (iter at))) ≡ drop k (records (drop at s))
  unfolding moved_by
  left zero at inside found = refl
  left (suc k) at inside found = go (here s at) (at_here s at inside) (answers at (here s at) refl) (left k)
    where
      go : (r : Result (Option (AdStructure × ℕ)) Error) → record_at s at ≡ r → Answers at r
          → ((i : ℕ) → i ≤ length s → ((j : ℕ) → j < k → IsRecord (next_of (moved_by j (iter i)))) → records (records_left (moved_by k (iter i))) ≡ drop k (records (drop i s)))
          → records (records_left (moved_by (suc k) (iter at))) ≡ drop (suc k) (records (drop at s))
      go (Ok (Some (a, next))) e w ih =
          ap (λ (it : Records). records (records_left it)) (onward_at k at e)
          ∙ ih next w.1.inside (λ j h. subst IsRecord (ap next_of (onward_at j at e)) (found (suc j) (omega arith)))
          ∙ sym (ap (drop (suc k)) w.1.cuts)
      go (Ok None) e w ih = absurd (subst IsRecord e (found 0 (omega arith)))
      go (Err x) e w ih = absurd (subst IsRecord e (found 0 (omega arith)))

  from_front : (k : ℕ) → next_after area k ≡ answer_at (from 0) k
  from_front k = in_order k 0 (omega arith)

  through : (n : ℕ) (last : Result (Option (AdStructure × ℕ)) Error) → Ends (from 0) n last → Through area n last
  through n last e = record { found = λ k h. subst IsRecord (sym (from_front k)) (e.found k h); then = from_front n ∙ e.then }

  counts : (verdict : Result ℕ Error) → Closes (from 0) verdict → AreaCounted area verdict
  counts (Ok n) c = through n (Ok None) c
  counts (Err e) c = record { count = c.count; through = through c.count (Err e) c.ends }

pub goes_through : (area : Bor (List ℕ)) → GoesThrough area
unfolding read_area
goes_through area =
    record {
      in_order = from_front area;
      counted = counts area (read_area area.now) (closes area.now 0 0);
      left = λ k found. left area k 0 (omega arith) found;
    }

pub rest_placed : (s : Bor (List ℕ)) (at : ℕ) → RestPlaced s at
rest_placed s at = record { same_area = refl; same_end = rw length-drop (omega arith) }
