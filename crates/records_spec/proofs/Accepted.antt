-- An area is accepted exactly if good records tile it, and refused exactly as its first bad record is: `decided`.
-- Assumes nothing.
use mathlib.Core.Path.{◌≡◌, refl, sym, ap, ◌∙◌}
use mathlib.Core.Logic.{inl, inr, ⊎_elim}
use mathlib.Core.Bool.{Bool, true, false, cond}
use mathlib.Core.List.{List, [], ◌∷◌, ◌++◌, append_assoc, append-nil, flatten}
use Prim.Native.Nat.{ℕ, zero, suc, ◌+◌, ◌-◌, ◌%◌, ◌≤◌, ◌<◌}
use native.Mathlib.Omega.{arith}
use lib.ListN.{length, get_or, take, drop, length-append, length-take, length-drop, take-append-drop}
use lib.Seq.{get_or-take, take_at, drop_at, take_all}
use lib.Dec.{ltb, eqb}
use borrow.Author.Tests.{eqb-true, eqb-false, ltb-true, ltb-false, ne_eqb, lt-ltb, le-ltb}
use Rattle.octets.specs.Lists.{All}
use Rattle.octets.specs.declared.error.Error.{Error}
use Rattle.octets.specs.declared.error.Error.TheVariants.{Eof, InvalidLength}
use Rattle.octets.specs.declared.uuid.UuidKind.TheVariants.{Uuid16}
use Rattle.records_spec.specs.declared.ad_structure.AdStructure.TheVariants as ad
use Rattle.records_spec.specs.Record.{flags_read, uuids_read, data_read, up_to, record_read, first}
use Rattle.flags.specs.Flags.{named}
use Rattle.records_spec.specs.Area.{cut, records, reads, with_first, area_of, read_area}
use Rattle.records_spec.specs.Accepted.{GoodRecord, IsList, Good, Bad, zero_length, too_few, wrong_flags, odd_list, Verdict, Decided}
use Rattle.records_spec.proofs.Cuts.{cut_skip, counting, counting_none}
use Rattle.std.specs.Prelude.{Result, Ok, Option, Some, None, Err}
use Rattle.records_spec.specs.declared.ad_structure.AdStructure.{AdStructure}

-- what a record's answer says of it, where `rest` follows its length octet n
abbrev pub Class : ℕ → List ℕ → Result (Option (AdStructure × ℕ)) Error → Type 0
Class n rest (Ok (Some (a, next))) = Good n (take n rest)
Class n rest (Ok None) = ⊥
Class n rest (Err e) = Bad (n ∷ rest) e

-- the same, of the answer of its data
abbrev DataClass : ℕ → List ℕ → Result AdStructure Error → Type 0
DataClass n rest (Ok a) = Good n (take n rest)
DataClass n rest (Err e) = Bad (n ∷ rest) e

module _ (n : ℕ) (rest : List ℕ) (some : 0 < n) (there : n ≤ length rest) where
  whole : length (take n rest) ≡ n
  whole = rw length-take (omega arith)

  size : length (drop 1 (take n rest)) ≡ n - 1
  size = rw (length-drop, whole)

  same_type : get_or (take n rest) 0 0 ≡ get_or rest 0 0
  same_type = get_or-take n rest 0 0 some

  flags_class : get_or rest 0 0 ≡ 1 → DataClass n rest (flags_read (drop 1 (take n rest)))
  unfolding flags_read
  flags_class is = go (eqb (length (drop 1 (take n rest))) 1) refl
    where
      go : (one : Bool) → eqb (length (drop 1 (take n rest))) 1 ≡ one
          → DataClass n rest (cond one (Ok (ad.Flags (record { bits = named (get_or (drop 1 (take n rest)) 0 0) }))) (Err InvalidLength))
      go true e =
          let two : n ≡ 2 = omega (arith, eqb-true (length (drop 1 (take n rest))) 1 e, size, some) in
          record { whole = whole; some = some; flags = λ t. two; list = ⊎_elim (λ t. absurd (omega (arith, same_type))) (λ t. absurd (omega (arith, same_type))) }
      go false e = wrong_flags some there is (λ two. eqb-false (length (drop 1 (take n rest))) 1 e (omega (arith, size)))

  list_class : (complete : Bool) (start : ℕ) → IsList (get_or rest 0 0) → DataClass n rest (uuids_read Uuid16 complete (drop 1 (take n rest)) start)
  unfolding uuids_read
  list_class complete start is = go (eqb (length (drop 1 (take n rest)) % 2) 0) refl
    where
      not_flags : IsList (get_or rest 0 0) → get_or (take n rest) 0 0 ≡ 1 → ⊥
      not_flags (inl two) one = omega (arith, same_type)
      not_flags (inr three) one = omega (arith, same_type)

      go : (pairs : Bool) → eqb (length (drop 1 (take n rest)) % 2) 0 ≡ pairs
          → DataClass n rest (cond pairs (Ok (ad.ServiceUuids16 complete start (length (drop 1 (take n rest))))) (Err Eof))
      go true e =
          let odd : n % 2 ≡ 1 = omega (arith, eqb-true (length (drop 1 (take n rest)) % 2) 0 e, size, some) in
          record { whole = whole; some = some; flags = λ t. absurd (not_flags is t); list = λ t. odd }
      go false e =
          let odd : length (drop 1 (take n rest)) % 2 ≡ 0 → ⊥ = eqb-false (length (drop 1 (take n rest)) % 2) 0 e in
          odd_list some there is (omega (arith, size, some))

  data_class : (start : ℕ) → DataClass n rest (data_read (get_or (take n rest) 0 0) (drop 1 (take n rest)) start)
  unfolding data_read
  data_class start = rw same_type (go (eqb ty 1) (eqb ty 2) (eqb ty 3) refl refl refl)
    where
      ty : ℕ
      ty = get_or rest 0 0

      d : List ℕ
      d = drop 1 (take n rest)

      go : (f i c : Bool) → eqb ty 1 ≡ f → eqb ty 2 ≡ i → eqb ty 3 ≡ c
          → DataClass n rest (cond f (flags_read d) (cond i (uuids_read Uuid16 false d start) (cond c (uuids_read Uuid16 true d start) (Ok (ad.Unknown ty start (length d))))))
      go true i c e₁ e₂ e₃ = flags_class (eqb-true ty 1 e₁)
      go false true c e₁ e₂ e₃ = list_class false start (inl (eqb-true ty 2 e₂))
      go false false true e₁ e₂ e₃ = list_class true start (inr (eqb-true ty 3 e₃))
      go false false false e₁ e₂ e₃ =
          record {
            whole = whole;
            some = some;
            flags = λ t. absurd (eqb-false ty 1 e₁ (sym same_type ∙ t));
            list = ⊎_elim (λ t. absurd (eqb-false ty 2 e₂ (sym same_type ∙ t))) (λ t. absurd (eqb-false ty 3 e₃ (sym same_type ∙ t)));
          }

pub class : (n : ℕ) (rest : List ℕ) (at : ℕ) → Class n rest (record_read (n ∷ take n rest) at)
unfolding record_read up_to
class n rest at = go (eqb n 0) (ltb (length (take n rest)) n) refl refl
  where
    next : ℕ
    next = at + length (n ∷ take n rest)

    upwards : (p : Result AdStructure Error) → DataClass n rest p → Class n rest (up_to next p)
    upwards (Ok a) c = c
    upwards (Err e) c = c

    go : (none few : Bool) → eqb n 0 ≡ none → ltb (length (take n rest)) n ≡ few
        → Class n rest (cond none (Err InvalidLength) (cond few (Err Eof) (up_to next (data_read (get_or (take n rest) 0 0) (drop 1 (take n rest)) (at + 2)))))
    go true few z f = rw (eqb-true n 0 z) zero_length
    go false true z f =
        let some : n ≡ 0 → ⊥ = eqb-false n 0 z in
        too_few {n = n} {rest = rest} (omega arith) (omega (arith, length-take n rest, ltb-true (length (take n rest)) n f))
    go false false z f =
        let some : n ≡ 0 → ⊥ = eqb-false n 0 z in
        upwards (data_read (get_or (take n rest) 0 0) (drop 1 (take n rest)) (at + 2)) (data_class n rest (omega arith) (omega (arith, length-take n rest, ltb-false (length (take n rest)) n f)) (at + 2))

-- an area whose first record is so, before an area that is so
verdict_before : (n : ℕ) (rest : List ℕ) (x : Result (Option (AdStructure × ℕ)) Error) (area : Result ℕ Error) → Class n rest x → Verdict (drop n rest) area → Verdict (n ∷ rest) (with_first x area)
unfolding with_first flatten
verdict_before n rest (Ok (Some (a, next))) (Ok m) good t =
    record {
      pieces = (n ∷ take n rest) ∷ t.pieces;
      tile = ap (λ (l : List ℕ). n ∷ l) (ap (λ (l : List ℕ). take n rest ++ l) t.tile ∙ take-append-drop n rest);
      good = (good, t.good);
      count = omega (arith, t.count);
    }
verdict_before n rest (Ok (Some (a, next))) (Err e) good f =
    record {
      pieces = (n ∷ take n rest) ∷ f.pieces;
      rest = f.rest;
      tile = ap (λ (l : List ℕ). n ∷ l) (append_assoc (take n rest) (flatten f.pieces) f.rest ∙ ap (λ (l : List ℕ). take n rest ++ l) f.tile ∙ take-append-drop n rest);
      good = (good, f.good);
      bad = f.bad;
    }
verdict_before n rest (Ok None) area none v = absurd none
verdict_before n rest (Err e) area bad v = record { pieces = []; rest = n ∷ rest; tile = refl; good = tt; bad = bad }

verdict_of : (l : List ℕ) (skip at : ℕ) → Verdict (drop skip l) (area_of (reads (cut l skip) at))
unfolding cut first reads area_of flatten
verdict_of [] zero at = record { pieces = []; tile = refl; good = tt; count = refl }
verdict_of [] (suc skip) at = record { pieces = []; tile = refl; good = tt; count = refl }
verdict_of (x ∷ rest) (suc skip) at = verdict_of rest skip at
verdict_of (n ∷ rest) zero at = verdict_before n rest (record_read (n ∷ take n rest) at) _ (class n rest at) (verdict_of rest n (at + length (n ∷ take n rest)))

-- no record is good and bad
exclusive : (n : ℕ) (rest : List ℕ) {e : Error} → Good n (take n rest) → Bad (n ∷ rest) e → ⊥
exclusive n rest g zero_length = omega (arith, g.some)
exclusive n rest g (too_few some few) = omega (arith, length-take n rest, g.whole)
exclusive n rest g (wrong_flags some there is other) = other (g.flags (same_type n rest some there ∙ is))
exclusive n rest g (odd_list some there (inl is) even) = omega (arith, g.list (inl (same_type n rest some there ∙ is)))
exclusive n rest g (odd_list some there (inr is) even) = omega (arith, g.list (inr (same_type n rest some there ∙ is)))

-- a good record adds one to the area after it
good_before : (n : ℕ) (rest : List ℕ) (x : Result (Option (AdStructure × ℕ)) Error) (area : Result ℕ Error) → Class n rest x → Good n (take n rest) → with_first x area ≡ counting 1 area
unfolding with_first counting
good_before n rest (Ok (Some (a, next))) (Ok m) c g = ap Ok (omega arith)
good_before n rest (Ok (Some (a, next))) (Err e) c g = refl
good_before n rest (Ok None) area c g = absurd c
good_before n rest (Err e) area c g = absurd (exclusive n rest g c)

counting_more : (k : ℕ) (area : Result ℕ Error) → counting 1 (counting k area) ≡ counting (suc k) area
unfolding counting
counting_more k (Ok m) = ap Ok (omega arith)
counting_more k (Err e) = refl

-- good records add their number to the area after them
behind : (rs : List (List ℕ)) (rest : List ℕ) (at : ℕ) → All GoodRecord rs
    → area_of (reads (records (flatten rs ++ rest)) at) ≡ counting (length rs) (area_of (reads (records rest) (at + length (flatten rs))))
unfolding cut first reads area_of flatten
behind [] rest at g =
    let same : at + 0 ≡ at = omega arith in
    rw same (counting_none (area_of (reads (records rest) at)))
behind ([] ∷ rs) rest at g = absurd g.0
behind ((n ∷ body) ∷ rs) rest at g =
    let more : List ℕ = flatten rs ++ rest in
    let next : ℕ = at + suc (length body) in
    let long : length body ≡ n = g.0.whole in
    let whole : take n body ≡ body = take_all n body (omega arith) in
    let read : Class n body (record_read (n ∷ body) at) = rw whole at (class n body at) in
    let good : Good n (take n body) = rw whole g.0 in
    let later : area_of (reads (records more) next) ≡ counting (length rs) (area_of (reads (records rest) (next + length (flatten rs)))) = behind rs rest next g.1 in
    let end : next + length (flatten rs) ≡ at + suc (length (body ++ flatten rs)) = rw length-append (omega arith) in
    rw (append_assoc body (flatten rs) rest, take_at body more n long, cut_skip (body ++ more) n, drop_at body more n long, good_before n body (record_read (n ∷ body) at) (area_of (reads (records more) next)) read good, later, end) (counting_more (length rs) _)

-- a bad record is refused so
bad_read : (n : ℕ) (rest : List ℕ) (at : ℕ) {e : Error} → Bad (n ∷ rest) e → record_read (n ∷ take n rest) at ≡ Err e
unfolding record_read data_read flags_read uuids_read up_to
bad_read n rest at zero_length = refl
bad_read n rest at (too_few some few) = simp (ne_eqb n 0 (omega arith), lt-ltb (length (take n rest)) n (rw length-take (omega arith)))
bad_read n rest at (wrong_flags some there is other) =
    simp (ne_eqb n 0 (omega arith), whole n rest some there, le-ltb n n (omega arith), same_type n rest some there, is, ne_eqb (length (drop 1 (take n rest))) 1 (rw (size n rest some there) (omega arith)))
bad_read n rest at (odd_list some there is even) = go is
  where
    odd : eqb (length (drop 1 (take n rest)) % 2) 0 ≡ false
    odd = ne_eqb (length (drop 1 (take n rest)) % 2) 0 (rw (size n rest some there) (omega arith))

    go : IsList (get_or rest 0 0) → record_read (n ∷ take n rest) at ≡ Err Eof
    go (inl is) = simp (ne_eqb n 0 (omega arith), whole n rest some there, le-ltb n n (omega arith), same_type n rest some there, is, odd)
    go (inr is) = simp (ne_eqb n 0 (omega arith), whole n rest some there, le-ltb n n (omega arith), same_type n rest some there, is, odd)

-- where a record is bad, there is one
abbrev Begun : List ℕ → Type 0
Begun [] = ⊥
Begun (n ∷ rest) = Unit {0}

begun : {l : List ℕ} {e : Error} → Bad l e → Begun l
begun zero_length = tt
begun (too_few some few) = tt
begun (wrong_flags some there is other) = tt
begun (odd_list some there is even) = tt

bad_area : (rest : List ℕ) (at : ℕ) {e : Error} → Bad rest e → area_of (reads (records rest) at) ≡ Err e
unfolding cut first reads area_of with_first
bad_area [] at bad = absurd (begun bad)
bad_area (n ∷ rest) at bad = rw (bad_read n rest at bad)

pub decided : (s : List ℕ) → Decided s
unfolding read_area counting cut reads area_of
decided s =
    record {
      verdict = verdict_of s 0 0;
      accepted = λ t. let none : length t.pieces + 0 ≡ length t.pieces = omega arith in
          rw (← t.tile, ← t.count, ← append-nil (flatten t.pieces)) (behind t.pieces [] 0 t.good ∙ ap Ok none);
      refused = λ f. rw (← f.tile) (behind f.pieces f.rest 0 f.good ∙ ap (counting (length f.pieces)) (bad_area f.rest _ f.bad));
    }
