-- The records of an area that is read, and what a search among them finds: `searching`; how a search goes on from record to record: `goes_on`, `at_end`. Assumes nothing.
use mathlib.Core.Bool.{Bool, true, false, cond}
use mathlib.Core.List.{List, [], ◌∷◌, ◌++◌, append_assoc, append-nil, flatten, nil≢cons, head-eq_of_cons-eq, tail-eq_of_cons-eq}
use mathlib.Core.Path.{◌≡◌, refl, sym, ap, ap₂, subst, ◌∙◌}
use Prim.Native.Nat.{ℕ, zero, suc, ◌+◌, ◌-◌, ◌≤◌, ◌<◌}
use native.Mathlib.Omega.{arith}
use lib.ListN.{length, get_or, take, drop, replicate, length-append}
use lib.Seq.{take_at, get_or-append-add}
use Rattle.octets.specs.Lists.{All}
use Rattle.octets.specs.Bytes.{part}
use Rattle.records_spec.specs.Accepted.{GoodRecord, Tiling}
use Rattle.records_spec.specs.Area.{cut, records}
use Rattle.records_spec.specs.HubReads.{Padding, PaddedVerdict}
use Rattle.records_spec.specs.HubReading.{unpadded}
use Rattle.records_spec.specs.Record.{first}
use Rattle.records_spec.specs.Search.{first_where, searched, IsRead, Stands, First, Nowhere, Told, Decides, Searching}
use Rattle.std.specs.Prelude.{Option, Some, None}
use Rattle.octets.specs.declared.bytes.Part.{Part}
use Rattle.records_spec.proofs.Accepted.{decided}
use Rattle.records_spec.proofs.Cuts.{Step}
use Rattle.records_spec.proofs.Fronts.{flatten_append, records_behind, good_parts}
use Rattle.records_spec.proofs.HubReads.{tiling_of, hub_reads, before}

-- a record passes the test, or the search goes on after it
pub goes_on : (test : List ℕ → Bool) (s : List ℕ) (at : ℕ) {next : ℕ} → Step s at next
    → first_where test (records (drop at s)) at ≡ cond (test (part (next - at) s at)) (Some (record { start = at + 2; len = next - at - 2 })) (first_where test (records (drop next s)) next)
unfolding first_where
goes_on test s at {next} step =
    let long : length (first (drop at s)) ≡ next - at = omega (arith, step.ends) in
    rw (step.cuts, step.ends, long, step.octets)

-- after the last record there is none
pub at_end : (test : List ℕ → Bool) (s : List ℕ) (at : ℕ) → drop at s ≡ [] → first_where test (records (drop at s)) at ≡ None
unfolding first_where cut
at_end test s at none = rw none

-- ---- the search
data Finds (test : List ℕ → Bool) (rs : List (List ℕ)) (at : ℕ) : Option Part → Type 0 where
  there : {start len : ℕ} (ps : List (List ℕ)) (r : List ℕ) (qs : List (List ℕ)) → rs ≡ ps ++ (r ∷ qs) → test r ≡ true → start ≡ at + length (flatten ps) + 2 → len ≡ length r - 2
      → Finds test rs at (Some (record { start = start; len = len }))
  nowhere : Finds test rs at None

search_of : (test : List ℕ → Bool) (rs : List (List ℕ)) (at : ℕ) → Finds test rs at (first_where test rs at)
unfolding first_where flatten
search_of test [] at = nowhere
search_of test (r ∷ rs) at = go (test r) refl (first_where test rs (at + length r)) (search_of test rs (at + length r))
  where
    go : (b : Bool) → test r ≡ b → (f : Option Part) → Finds test rs (at + length r) f → Finds test (r ∷ rs) at (cond b (Some (record { start = at + 2; len = length r - 2 })) f)
    go true e f o = there {start = at + 2} {len = length r - 2} [] r rs refl e (omega arith) refl
    go false e (Some f) (there ps x qs is passes begins long) =
        there {start = f.start} {len = f.len} (r ∷ ps) x qs (ap (λ (l : List (List ℕ)). r ∷ l) is) passes (omega (arith, length-append r (flatten ps))) long
    go false e None nowhere = nowhere

-- zero lengths begin no record that is found
abbrev NoLength : List ℕ → Type 0
NoLength r = get_or r 0 0 ≡ 0

zeros_cut : (k : ℕ) → All NoLength (records (replicate k 0))
unfolding cut first
zeros_cut zero = tt
zeros_cut (suc k) = (refl, zeros_cut k)

among_zeros : (zs ps : List (List ℕ)) (r : List ℕ) (qs : List (List ℕ)) → All NoLength zs → zs ≡ ps ++ (r ∷ qs) → get_or r 0 0 ≡ 0
among_zeros [] [] r qs all is = absurd (nil≢cons is)
among_zeros [] (p ∷ ps) r qs all is = absurd (nil≢cons is)
among_zeros (z ∷ zs) [] r qs all is = ap (λ (l : List ℕ). get_or l 0 0) (sym (head-eq_of_cons-eq is)) ∙ all.0
among_zeros (z ∷ zs) (p ∷ ps) r qs all is = among_zeros zs ps r qs all.1 (tail-eq_of_cons-eq is)

-- a record that passes is found, or one before it
abbrev FoundBy : ℕ → Option Part → Type 0
FoundBy last (Some f) = f.start ≤ last
FoundBy last None = ⊥

found_by : (test : List ℕ → Bool) (at : ℕ) (rs zs ps : List (List ℕ)) (r : List ℕ) (qs : List (List ℕ)) → All NoLength zs → 0 < get_or r 0 0 → test r ≡ true → rs ++ zs ≡ ps ++ (r ∷ qs)
    → FoundBy (at + length (flatten ps) + 2) (first_where test rs at)
unfolding first_where flatten
found_by test at [] zs ps r qs zeros some name is = absurd (omega (arith, among_zeros zs ps r qs zeros is))
found_by test at (x ∷ rs) zs [] r qs zeros some name is =
    let here : test x ≡ true = ap test (head-eq_of_cons-eq is) ∙ name in
    rw here (omega arith)
found_by test at (x ∷ rs) zs (p ∷ ps) r qs zeros some name is = go (test x) (first_where test rs (at + length x)) (found_by test (at + length x) rs zs ps r qs zeros some name (tail-eq_of_cons-eq is))
  where
    size : length p ≡ length x
    size = ap length (sym (head-eq_of_cons-eq is))

    later : (f : Option Part) → FoundBy (at + length x + length (flatten ps) + 2) f → FoundBy (at + length (p ++ flatten ps) + 2) f
    later (Some f) h = omega (arith, length-append p (flatten ps), size)
    later None h = h

    go : (b : Bool) (f : Option Part) → FoundBy (at + length x + length (flatten ps) + 2) f → FoundBy (at + length (p ++ flatten ps) + 2) (cond b (Some (record { start = at + 2; len = length x - 2 })) f)
    go true f h = omega arith
    go false f h = later f h

-- ---- an area that is read
module _ (s : List ℕ) (x : IsRead s) where
  padding : Padding s x.number x.taken
  padding = subst (PaddedVerdict s) x.accepted (hub_reads s).found

  tiling : Tiling padding.front x.number
  tiling = tiling_of padding.front padding.strict

  unpadded_is : unpadded s ≡ padding.front
  unpadded_is = before s x.number x.taken x.accepted ∙ ap (take x.taken) padding.made_up ∙ take_at padding.front (replicate padding.zeros 0) x.taken padding.size

  cut_front : records (unpadded s) ≡ tiling.pieces
  unfolding cut
  cut_front = ap records (unpadded_is ∙ sym tiling.tile ∙ sym (append-nil (flatten tiling.pieces))) ∙ records_behind tiling.pieces [] tiling.good ∙ append-nil tiling.pieces

  cut_whole : records s ≡ tiling.pieces ++ records (replicate padding.zeros 0)
  cut_whole =
      ap records (padding.made_up ∙ ap (λ (l : List ℕ). l ++ replicate padding.zeros 0) (sym tiling.tile))
      ∙ records_behind tiling.pieces (replicate padding.zeros 0) tiling.good

  module _ {test : List ℕ → Bool} {P : ℕ → List ℕ → Type 0} (decides : Decides test P) where
    -- what is found is a record that stands there
    stands : {start len : ℕ} → Finds test tiling.pieces 0 (Some (record { start = start; len = len })) → Stands P s start len
    unfolding flatten
    stands {start} {len} (there ps r qs is passes begins long) = go r is passes long (good_parts ps r qs (subst (All GoodRecord) is tiling.good))
      where
        go : (r : List ℕ) → tiling.pieces ≡ ps ++ (r ∷ qs) → test r ≡ true → len ≡ length r - 2 → All GoodRecord ps × All GoodRecord (r ∷ []) → Stands P s start len
        go [] is passes long good = absurd good.1.0
        go (n ∷ []) is passes long good = absurd (omega (arith, good.1.0.whole, good.1.0.some))
        go (n ∷ t ∷ d) is passes long good =
            let counts : n ≡ suc (length d) = sym good.1.0.whole in
            let behind : List ℕ = flatten qs ++ replicate padding.zeros 0 in
            let front : padding.front ≡ flatten ps ++ ((n ∷ t ∷ d) ++ flatten qs) = sym tiling.tile ∙ ap flatten is ∙ flatten_append ps ((n ∷ t ∷ d) ∷ qs) in
            record {
              before = flatten ps;
              type = t;
              octets = d;
              behind = behind;
              number = length ps;
              made_up =
                  padding.made_up ∙ ap (λ (l : List ℕ). l ++ replicate padding.zeros 0) front
                  ∙ append_assoc (flatten ps) ((n ∷ t ∷ d) ++ flatten qs) (replicate padding.zeros 0)
                  ∙ rw (append_assoc d (flatten qs) (replicate padding.zeros 0), counts);
              at_its_place = (decided (flatten ps)).accepted (record { pieces = ps; tile = refl; good = good.0; count = refl });
              is = decides.sound n t d passes;
              begins = omega arith;
              long = omega (arith, long);
            }

    -- a record that stands there is found, or one before it
    standing : (start len : ℕ) → Stands P s start len → FoundBy start (searched test (unpadded s))
    unfolding searched cut first
    standing start len n = go (tiling_of n.before n.at_its_place)
      where
        r : List ℕ
        r = suc (length n.octets) ∷ n.type ∷ take (length n.octets) (n.octets ++ n.behind)

        passes : test (suc (length n.octets) ∷ n.type ∷ take (length n.octets) (n.octets ++ n.behind)) ≡ true
        passes =
            ap (λ (l : List ℕ). test (suc (length n.octets) ∷ n.type ∷ l)) (take_at n.octets n.behind (length n.octets) refl)
            ∙ decides.complete (suc (length n.octets)) n.type n.octets n.is

        go : Tiling n.before n.number → FoundBy start (first_where test (records (unpadded s)) 0)
        go t =
            let cuts : tiling.pieces ++ records (replicate padding.zeros 0) ≡ t.pieces ++ (r ∷ cut (n.octets ++ n.behind) (length n.octets)) =
            sym cut_whole ∙ ap records (n.made_up ∙ ap (λ (l : List ℕ). l ++ (suc (length n.octets) ∷ n.type ∷ (n.octets ++ n.behind))) (sym t.tile))
            ∙ records_behind t.pieces (suc (length n.octets) ∷ n.type ∷ (n.octets ++ n.behind)) t.good in
            let last : 0 + length (flatten t.pieces) + 2 ≡ start = omega (arith, ap length t.tile, n.begins) in
            rw cut_front (subst (λ (k : ℕ). FoundBy k (first_where test tiling.pieces 0)) last
            (found_by test 0 tiling.pieces (records (replicate padding.zeros 0)) t.pieces r (cut (n.octets ++ n.behind) (length n.octets)) (zeros_cut padding.zeros) (omega arith) passes cuts))

    -- so a search tells the first, or that there is none
    told : Told P s (searched test (unpadded s))
    unfolding searched
    told = go (first_where test (records (unpadded s)) 0) (subst (λ (rs : List (List ℕ)). Finds test tiling.pieces 0 (first_where test rs 0)) (sym cut_front) (search_of test tiling.pieces 0)) standing
      where
        go : (f : Option Part) → Finds test tiling.pieces 0 f → ((start len : ℕ) → Stands P s start len → FoundBy start f) → Told P s f
        go (Some f) o by = record { stands = stands o; earliest = by }
        go None o by = by

    -- the length octet tells how many octets of data there are
    counted : (start len : ℕ) → Stands P s start len → get_or s (start - 2) 0 ≡ suc len
    counted start len n =
        let at : start - 2 ≡ length n.before + 0 = omega (arith, n.begins) in
        ap (λ (k : ℕ). get_or s k 0) at ∙ ap (λ (l : List ℕ). get_or l (length n.before + 0) 0) n.made_up
        ∙ get_or-append-add n.before (suc (length n.octets) ∷ n.type ∷ (n.octets ++ n.behind)) 0 0 ∙ ap suc (sym n.long)

    -- and no other place is told
    first_is : (start len : ℕ) → First P s start len → searched test (unpadded s) ≡ Some (record { start = start; len = len })
    first_is start len given = go (searched test (unpadded s)) told
      where
        go : (f : Option Part) → Told P s f → f ≡ Some (record { start = start; len = len })
        go (Some found) told =
            let same : found.start ≡ start = omega (arith, told.earliest start len given.stands, given.earliest found.start found.len told.stands) in
            let size : suc found.len ≡ suc len = sym (counted found.start found.len told.stands) ∙ ap (λ (k : ℕ). get_or s (k - 2) 0) same ∙ counted start len given.stands in
            ap₂ (λ (a b : ℕ). Some (record { start = a; len = b })) same (omega arith)
        go None told = absurd (told start len given.stands)

    none_is : Nowhere P s → searched test (unpadded s) ≡ None
    none_is none = go (searched test (unpadded s)) told
      where
        go : (f : Option Part) → Told P s f → f ≡ None
        go (Some f) told = absurd (none f.start f.len told.stands)
        go None told = refl

    pub searching : Searching test P s
    searching = record { told = told; first = first_is; none = none_is }
