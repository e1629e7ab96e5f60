-- Good records one after the other, and what reading finds after them; what `front_of` tells: `fronted`. Assumes nothing.
use mathlib.Core.Path.{◌≡◌, refl, sym, ap, ap₂, ◌∙◌, subst}
use mathlib.Core.List.{List, [], ◌∷◌, ◌++◌, append_assoc, append-nil, flatten}
use Prim.Native.Nat.{ℕ, zero, suc, ◌+◌, ◌-◌, ◌≤◌}
use native.Mathlib.Omega.{arith}
use lib.ListN.{length, take, drop, length-append, length-drop, take-append-drop}
use lib.Seq.{take-add, take_all, take_at, drop_at}
use Rattle.octets.specs.Lists.{All}
use Rattle.octets.proofs.Lists.{all_append}
use Rattle.octets.specs.declared.error.Error.{Error}
use Rattle.records_spec.specs.declared.ad_structure.AdStructure.{AdStructure}
use Rattle.records_spec.specs.Record.{record_read, first}
use Rattle.records_spec.specs.Area.{cut, records, front_at, front_from, front_of}
use Rattle.records_spec.specs.Accepted.{GoodRecord, Good, Tiling, Bad, FirstBad, FrontOf, Fronted}
use Rattle.records_spec.proofs.Accepted.{Class, class}
use Rattle.records_spec.proofs.Cuts.{cut_skip, here, Step, stepped, ended}
use Rattle.std.specs.Prelude.{Result, Ok, Err, Option, Some, None}

pub flatten_append : (rs ts : List (List ℕ)) → flatten (rs ++ ts) ≡ flatten rs ++ flatten ts
unfolding flatten
flatten_append [] ts = refl
flatten_append (r ∷ rs) ts = ap (λ (l : List ℕ). r ++ l) (flatten_append rs ts) ∙ sym (append_assoc r (flatten rs) (flatten ts))

-- good records before other octets are cut apart as they are
pub records_behind : (rs : List (List ℕ)) (l : List ℕ) → All GoodRecord rs → records (flatten rs ++ l) ≡ rs ++ records l
unfolding cut first flatten
records_behind [] l all = refl
records_behind ([] ∷ rs) l all = absurd all.0
records_behind ((n ∷ body) ∷ rs) l all =
    let more : List ℕ = flatten rs ++ l in
    let long : length body ≡ n = all.0.whole in
    rw (append_assoc body (flatten rs) l, take_at body more n long, cut_skip (body ++ more) n, drop_at body more n long, records_behind rs l all.1)

-- of records that are all good, those before one, and that one, are
pub good_parts : (ps : List (List ℕ)) (r : List ℕ) (qs : List (List ℕ)) → All GoodRecord (ps ++ (r ∷ qs)) → All GoodRecord ps × All GoodRecord (r ∷ [])
good_parts [] [] qs all = absurd all.0
good_parts [] (n ∷ body) qs all = (tt, (all.0, tt))
good_parts ([] ∷ ps) r qs all = absurd all.0
good_parts ((n ∷ body) ∷ ps) r qs all =
    let later = good_parts ps r qs all.1 in
    ((all.0, later.0), later.1)

-- a record that is read after good records is one more
pub one_more : (s : List ℕ) (at : ℕ) {count : ℕ} {a : AdStructure} {next : ℕ} → here s at ≡ Ok (Some (a, next)) → Tiling (take at s) count → Tiling (take next s) (count + 1)
unfolding here record_read first flatten
one_more s at {count} {a} {next} e t = go (drop at s) refl
  where
    step : Step s at next
    step = stepped s at e

    -- the octets up to the next place
    up_to : take at s ++ first (drop at s) ≡ take next s
    up_to =
        let far : at + (next - at) ≡ next = omega (arith, step.later) in
        ap (λ (l : List ℕ). take at s ++ l) step.octets ∙ sym (take-add at (next - at) s) ∙ ap (λ (k : ℕ). take k s) far

    go : (l : List ℕ) → drop at s ≡ l → Tiling (take next s) (count + 1)
    go [] is = absurd (let none : (Ok None) ≡ (Ok (Some (a, next))) = ap (λ (l : List ℕ). record_read (first l) at) (sym is) ∙ e in let z : ◌≡◌ {A = ℕ} 0 1 = cc in omega arith)
    go (n ∷ rest) is =
        let good : Good n (take n rest) = subst (Class n rest) (ap (λ (l : List ℕ). record_read (first l) at) (sym is) ∙ e) (class n rest at) in
        record {
          pieces = t.pieces ++ ((n ∷ take n rest) ∷ []);
          tile = flatten_append t.pieces ((n ∷ take n rest) ∷ []) ∙ ap₂ (λ (x y : List ℕ). x ++ y) t.tile (append-nil (n ∷ take n rest) ∙ ap first (sym is)) ∙ up_to;
          good = all_append GoodRecord t.pieces ((n ∷ take n rest) ∷ []) t.good (good, tt);
          count = length-append t.pieces ((n ∷ take n rest) ∷ []) ∙ ap (λ (k : ℕ). k + 1) t.count;
        }

-- none at the beginning
pub none_yet : (s : List ℕ) → Tiling (take 0 s) 0
unfolding flatten
none_yet s = record { pieces = []; tile = refl; good = tt; count = refl }

-- where nothing follows, the records are the whole area
pub all_of_it : (s : List ℕ) (at : ℕ) {count : ℕ} → here s at ≡ Ok None → Tiling (take at s) count → Tiling s count
all_of_it s at {count} e t =
    let past : length s - at ≡ 0 = sym (length-drop at s) ∙ ap length (ended s at e) in
    subst (λ (l : List ℕ). Tiling l count) (take_all at s (omega arith)) t

-- a record that is refused is bad
pub bad_at : (s : List ℕ) (at : ℕ) {e : Error} → here s at ≡ Err e → Bad (drop at s) e
unfolding here record_read first
bad_at s at {e} is = go (drop at s) refl
  where
    go : (l : List ℕ) → drop at s ≡ l → Bad l e
    go [] none = absurd (let no : (Ok None) ≡ Err e = ap (λ (l : List ℕ). record_read (first l) at) (sym none) ∙ is in let z : ◌≡◌ {A = ℕ} 0 1 = cc in omega arith)
    go (n ∷ rest) some = subst (Class n rest) (ap (λ (l : List ℕ). record_read (first l) at) (sym some) ∙ is) (class n rest at)

pub first_bad : (s : List ℕ) (at : ℕ) {count : ℕ} {e : Error} → Tiling (take at s) count → Bad (drop at s) e → FirstBad s e
first_bad s at t bad =
    record { pieces = t.pieces; rest = drop at s; tile = ap (λ (l : List ℕ). l ++ drop at s) t.tile ∙ take-append-drop at s; good = t.good; bad = bad }

-- ---- what an area begins with, at a position, by the answer there
module _ (s : List ℕ) (at count : ℕ) where
  pub front_more : {a : AdStructure} {next : ℕ} → here s at ≡ Ok (Some (a, next)) → front_from (records (drop at s)) count at ≡ front_from (records (drop next s)) (count + 1) next
  unfolding here front_from front_at
  front_more {a} {next} e =
      let step : Step s at next = stepped s at e in
      simp (step.cuts, e, step.ends)

  pub front_end : here s at ≡ Ok None → front_from (records (drop at s)) count at ≡ Ok count
  unfolding front_from cut
  front_end e = rw (ended s at e)

  pub front_bad : {e : Error} → here s at ≡ Err e → front_from (records (drop at s)) count at ≡ Err (record { count = count; at = at; error = e })
  unfolding here record_read front_from front_at cut first
  front_bad {e} = go (drop at s)
    where
      go : (l : List ℕ) → record_read (first l) at ≡ Err e → front_from (records l) count at ≡ Err (record { count = count; at = at; error = e })
      go [] is = cc
      go (x ∷ rest) is = rw is

  -- by the answer at `at`, from what is told after a record there
  from_here : (r : Result (Option (AdStructure × ℕ)) Error) → here s at ≡ r → Tiling (take at s) count → ((a : AdStructure) (next : ℕ) → here s at ≡ Ok (Some (a, next)) → FrontOf s (front_from (records (drop next s)) (count + 1) next))
      → FrontOf s (front_from (records (drop at s)) count at)
  from_here (Ok (Some (a, next))) e t later = subst (FrontOf s) (sym (front_more e)) (later a next e)
  from_here (Ok None) e t later = subst (FrontOf s) (sym (front_end e)) (all_of_it s at e t)
  from_here (Err k) e t later = subst (FrontOf s) (sym (front_bad e)) (t, bad_at s at e)

told_from : (fuel : ℕ) (s : List ℕ) (at count : ℕ) → length s - at ≤ fuel → Tiling (take at s) count → FrontOf s (front_from (records (drop at s)) count at)
told_from zero s at count few t =
    from_here s at count (here s at) refl t (λ a next e. let step : Step s at next = stepped s at e in absurd (omega (arith, step.later, step.inside)))
told_from (suc fuel) s at count few t =
    from_here s at count (here s at) refl t
    (λ a next e. let step : Step s at next = stepped s at e in told_from fuel s next (count + 1) (omega (arith, step.later, step.inside)) (one_more s at e t))

pub fronted : (s : List ℕ) → Fronted s
unfolding front_of
fronted s = record { told = told_from (length s) s 0 0 (omega arith) (none_yet s) }
