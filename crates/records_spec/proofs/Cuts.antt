-- How an area falls into records, and what reading at a position says of the cut.
-- Assumes nothing.
use mathlib.Core.Path.{◌≡◌, refl, sym, ap, ◌∙◌, subst}
use mathlib.Core.Bool.{Bool, true, false, cond}
use mathlib.Core.List.{List, [], ◌∷◌}
use Prim.Native.Nat.{ℕ, zero, suc, ◌+◌, ◌-◌, ◌<◌, ◌≤◌}
use native.Mathlib.Omega.{arith}
use lib.ListN.{length, get_or, take, drop, length-take, length-drop}
use lib.Seq.{drop-drop}
use lib.Dec.{ltb, eqb}
use borrow.Author.Tests.{le-ltb}
use Rattle.records_spec.specs.declared.ad_structure.AdStructure.{AdStructure}
use Rattle.records_spec.specs.Record.{data_read, up_to, record_read, first, record_at}
use Rattle.records_spec.specs.Area.{cut, records, reads, with_first, area_of, AcceptedFrom}
use Rattle.octets.specs.declared.error.Error.{Error}
use Rattle.octets.specs.declared.error.Error.TheVariants.{Eof, InvalidLength}
use Rattle.records_spec.proofs.Lists.{drop_length_take, take_length_take}
use Rattle.std.specs.Prelude.{Result, Ok, Option, Some, None, Err}

-- octets that are still to pass are dropped
pub cut_skip : (l : List ℕ) (skip : ℕ) → cut l skip ≡ records (drop skip l)
unfolding cut
cut_skip [] zero = refl
cut_skip [] (suc skip) = refl
cut_skip (x ∷ l) zero = refl
cut_skip (x ∷ l) (suc skip) = cut_skip l skip

-- the first record's octets are the first octets
first_take : (l : List ℕ) → first l ≡ take (length (first l)) l
unfolding first
first_take [] = refl
first_take (n ∷ rest) = ap (λ (l : List ℕ). n ∷ l) (sym (take_length_take n rest))

first_short : (l : List ℕ) → length (first l) ≤ length l
unfolding first
first_short [] = omega arith
first_short (n ∷ rest) = omega (arith, length-take n rest)

-- what a record's answer says: how long the record is
abbrev pub Sized : List ℕ → ℕ → Result (Option (AdStructure × ℕ)) Error → Type 0
Sized r at (Ok (Some (a, next))) = (next ≡ at + length r) × (0 < length r)
Sized r at (Ok None) = r ≡ []
Sized r at (Err e) = Unit {0}

pub sized : (r : List ℕ) (at : ℕ) → Sized r at (record_read r at)
unfolding record_read up_to
sized [] at = refl
sized (n ∷ body) at = go (eqb n 0) (ltb (length body) n) (data_read (get_or body 0 0) (drop 1 body) (at + 2))
  where
    go : (empty short : Bool) (p : Result AdStructure Error)
        → Sized (n ∷ body) at (cond empty (Err InvalidLength) (cond short (Err Eof) (up_to (at + length (n ∷ body)) p)))
    go true short p = tt
    go false true p = tt
    go false false (Ok a) = (refl, omega arith)
    go false false (Err e) = tt

-- the record at a position that does not lie past the end
unfoldable pub here : List ℕ → ℕ → Result (Option (AdStructure × ℕ)) Error
here s at = record_read (first (drop at s)) at

pub at_here : (s : List ℕ) (at : ℕ) → at ≤ length s → record_at s at ≡ here s at
unfolding record_at here
at_here s at h = simp (le-ltb (length s) at h)

-- the cut at a position where a record was read, up to `next`
pub record Step (s : List ℕ) (at next : ℕ) : Type 0 where
  pub later : at < next
  pub inside : next ≤ length s
  pub octets : first (drop at s) ≡ take (next - at) (drop at s)
  pub cuts : records (drop at s) ≡ first (drop at s) ∷ records (drop next s)
  pub ends : at + length (first (drop at s)) ≡ next

first_cut : (l : List ℕ) → 0 < length (first l) → records l ≡ first l ∷ records (drop (length (first l)) l)
unfolding first cut
first_cut [] h = absurd (omega arith)
first_cut (n ∷ rest) h = ap (λ (rs : List (List ℕ)). (n ∷ take n rest) ∷ rs) (cut_skip rest n ∙ ap records (sym (drop_length_take n rest)))

pub step_to : (s : List ℕ) (at : ℕ) {next : ℕ} → 0 < length (first (drop at s)) → next ≡ at + length (first (drop at s)) → Step s at next
step_to s at {next} some ends =
    let l : List ℕ = drop at s in
    let short : length (first l) ≤ length s - at = rw (← length-drop at s) (first_short l) in
    let long : next - at ≡ length (first l) = omega arith in
    record {
      later = omega arith;
      inside = omega arith;
      octets = rw long (first_take l);
      cuts = first_cut l some ∙ ap (λ (m : List ℕ). first l ∷ records m) (drop-drop (length (first l)) at s ∙ ap (λ (k : ℕ). drop k s) (sym ends));
      ends = sym ends;
    }

-- where reading finds a record, it ends after the record's octets
pub stepped : (s : List ℕ) (at : ℕ) {a : AdStructure} {next : ℕ} → here s at ≡ Ok (Some (a, next)) → Step s at next
unfolding here
stepped s at {a} {next} e =
    let size : Sized (first (drop at s)) at (Ok (Some (a, next))) = subst (Sized (first (drop at s)) at) e (sized (first (drop at s)) at) in
    step_to s at size.1 size.0

-- where reading finds the end, there are no octets
pub ended : (s : List ℕ) (at : ℕ) → here s at ≡ Ok None → drop at s ≡ []
unfolding here first
ended s at e = empty (drop at s) (subst (Sized (first (drop at s)) at) e (sized (first (drop at s)) at))
  where
    empty : (l : List ℕ) → first l ≡ [] → l ≡ []
    empty [] h = refl
    empty (n ∷ rest) h = cc

-- an area after n good records
unfoldable pub counting : ℕ → Result ℕ Error → Result ℕ Error
counting n (Ok m) = Ok (n + m)
counting n (Err e) = Err e

pub counting_none : (area : Result ℕ Error) → area ≡ counting 0 area
unfolding counting
counting_none (Ok m) = ap Ok (omega arith)
counting_none (Err e) = refl

-- an area at a position, by the answer there
pub area_more : (s : List ℕ) (at n : ℕ) {a : AdStructure} {next : ℕ} → here s at ≡ Ok (Some (a, next))
    → counting n (area_of (reads (records (drop at s)) at)) ≡ counting (n + 1) (area_of (reads (records (drop next s)) next))
unfolding here area_of reads with_first counting
area_more s at n {a} {next} e =
    let step : Step s at next = stepped s at e in
    simp (step.cuts, e, step.ends) (one_more (area_of (reads (records (drop next s)) next)))
  where
    one_more : (area : Result ℕ Error) → counting n (with_first (Ok (Some (a, next))) area) ≡ counting (n + 1) area
    one_more (Ok m) = ap Ok (omega arith)
    one_more (Err e) = refl

pub area_end : (s : List ℕ) (at n : ℕ) → here s at ≡ Ok None → counting n (area_of (reads (records (drop at s)) at)) ≡ Ok n
unfolding area_of reads cut counting
area_end s at n e = rw (ended s at e) (ap Ok (omega arith))

pub area_refused : (s : List ℕ) (at n : ℕ) {e : Error} → here s at ≡ Err e → counting n (area_of (reads (records (drop at s)) at)) ≡ Err e
unfolding here record_read area_of reads with_first cut first counting
area_refused s at n {e} = go (drop at s)
  where
    go : (l : List ℕ) → record_read (first l) at ≡ Err e → counting n (area_of (reads (records l) at)) ≡ Err e
    go [] is = cc
    go (x ∷ rest) is = rw is

-- an accepted area goes on after a record
pub accepted_more : (s : List ℕ) (at : ℕ) {a : AdStructure} {next : ℕ} → here s at ≡ Ok (Some (a, next)) → AcceptedFrom s at → AcceptedFrom s next
unfolding here area_of reads with_first
accepted_more s at {a} {next} e from =
    let step : Step s at next = stepped s at e in
    go (area_of (reads (records (drop next s)) next)) refl (simp (step.cuts, e, step.ends) at from.accepted)
  where
    go : (area : Result ℕ Error) → area_of (reads (records (drop next s)) next) ≡ area → with_first (Ok (Some (a, next))) area ≡ Ok from.count → AcceptedFrom s next
    go (Ok m) is later = record { count = m; accepted = is }
    go (Err e) is later = absurd (let z : ◌≡◌ {A = ℕ} 0 1 = cc in omega arith)

-- no record of it is refused
pub accepted_reads : (s : List ℕ) (at : ℕ) {e : Error} → here s at ≡ Err e → AcceptedFrom s at → ⊥
unfolding counting
accepted_reads s at e from =
    let refused = area_refused s at 0 e in
    let z : ◌≡◌ {A = ℕ} 0 1 = cc (refused, ap (counting 0) from.accepted) in omega arith
