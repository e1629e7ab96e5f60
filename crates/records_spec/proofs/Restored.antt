-- Rewriting an area restores its octets, save the bits of Flags that have no name, or is refused: `rewriting`.
-- Assumes nothing.
use mathlib.Core.Path.{◌≡◌, refl, sym, ap, ◌∙◌, subst}
use mathlib.Core.List.{List, [], ◌∷◌, ◌++◌, map}
use Prim.Native.Nat.{ℕ, zero, suc, ◌+◌, ◌-◌, ◌%◌, ◌≤◌, ◌<◌}
use native.Mathlib.Omega.{arith}
use native.Mathlib.Decide.{dec_le}
use lib.ListN.{length, get_or, take, drop, length-append, length-drop, get_or-append}
use lib.Seq.{get_or-take, get_or-drop, get_or-append-add, drop-drop, drop_at, take_at}
use borrow.Author.Tests.{lt-ltb, le-ltb}
use Rattle.records_spec.specs.Record.{record_read, first, record_at}
use Rattle.records_spec.specs.Area.{cut, records, AcceptedFrom, read_area, clean, rewritten, may_rewrite, rewritten_to, rewritten_after}
use Rattle.records_spec.specs.Accepted.{Good}
use Rattle.records_spec.specs.RoundTrip.{Begins, at_the_front, behind_one, FlagsOctet, ReadAt, Restores, Rewriting}
use Rattle.octets.proofs.Places.{front}
use Rattle.records_spec.proofs.Cuts.{here, at_here, Step, stepped, ended, accepted_more, accepted_reads}
use Rattle.records_spec.proofs.Accepted.{Class, class}
use Rattle.records_spec.proofs.Rewritten.{clean_length, rewritten_step, rewritten_length}
use Rattle.records_spec.proofs.RoundTrip.{reads_clean, cleans, round_trip}
use Rattle.std.specs.Prelude.{Result, Ok, Option, Some, None, Err}
use Rattle.records_spec.specs.declared.ad_structure.AdStructure.{AdStructure}
use Rattle.octets.specs.declared.error.Error.{Error}

-- the position after the record at p
abbrev pub next : List ℕ → ℕ → ℕ
next s p = p + 1 + get_or s p 0

-- where an accepted area goes on, there is a good record, and the area goes on after it
pub record WholeTo (s : List ℕ) (p : ℕ) : Type 0 where
  pub good : Good (get_or s p 0) (take (get_or s p 0) (drop (p + 1) s))
  pub step : Step s p (next s p)
  pub read : ReadAt s p
  pub onward : AcceptedFrom s (next s p)

pub whole_at : (s : List ℕ) (p : ℕ) → AcceptedFrom s p → p < length s → WholeTo s p
unfolding here first
whole_at s p from inside = go (here s p) refl
  where
    n : ℕ
    n = get_or s p 0

    octets : first (drop p s) ≡ n ∷ take n (drop (p + 1) s)
    octets = rw (front s p inside)

    go : (r : Result (Option (AdStructure × ℕ)) Error) → here s p ≡ r → WholeTo s p
    go (Ok (Some (a, q))) e =
        let good : Good n (take n (drop (p + 1) s)) = subst (Class n (drop (p + 1) s)) (ap (λ (l : List ℕ). record_read l p) (sym octets) ∙ e) (class n (drop (p + 1) s) p) in
        let step : Step s p q = stepped s p e in
        let ends : p + length (first (drop p s)) ≡ q = step.ends in
        let size : length (first (drop p s)) ≡ suc (length (take n (drop (p + 1) s))) = ap length octets in
        let is : q ≡ p + 1 + n = omega (arith, good.whole) in
        record { good = good; step = subst (Step s p) is step; read = record { structure = a; reads = at_here s p (omega arith) ∙ e ∙ ap (λ (k : ℕ). Ok (Some (a, k))) is }; onward = subst (AcceptedFrom s) is (accepted_more s p e from) }
    go (Ok None) e = let none : length s - p ≡ 0 = sym (length-drop p s) ∙ ap length (ended s p e) in absurd (omega arith)
    go (Err k) e = absurd (accepted_reads s p e from)

-- where a record begins, the octets after are those that rewriting from there on writes
record Placed (s : List ℕ) (p : ℕ) : Type 0 where
  inside : p < length s
  whole : WholeTo s p
  rest : drop p (rewritten s) ≡ rewritten (drop p s)

placed : (s : List ℕ) (p : ℕ) → AcceptedFrom s 0 → Begins s p → Placed s p
placed s p from (at_the_front some) = record { inside = some; whole = whole_at s 0 from some; rest = refl }
placed s _ from (behind_one {p} b more) =
    let w = placed s p from b in
    let r : List ℕ = clean (first (drop p s)) in
    let size : p + length r ≡ next s p = rw clean_length w.whole.step.ends in
    let same : drop (length r) (rewritten (drop p s)) ≡ rewritten (drop (next s p) s) = rw (rewritten_step w.whole.step) (drop_at r (rewritten (drop (next s p) s)) (length r) refl) in
    record {
      inside = more;
      whole = whole_at s (next s p) w.whole.onward more;
      rest = rw (← size) (sym (drop-drop (length r) p (rewritten s))) ∙ ap (drop (length r)) w.rest ∙ same;
    }

-- octet j of the record that begins at p, in the area and in what is written
module _ (s : List ℕ) (p : ℕ) (w : Placed s p) where
  size : length (first (drop p s)) ≡ suc (get_or s p 0)
  size = omega (arith, w.whole.step.ends)

  in_area : (j : ℕ) → j < suc (get_or s p 0) → get_or (first (drop p s)) j 0 ≡ get_or s (p + j) 0
  in_area j inside =
      let long : j < next s p - p = omega arith in
      rw (w.whole.step.octets, get_or-take (next s p - p) (drop p s) j 0 long, get_or-drop)

  in_written : (j : ℕ) → j < suc (get_or s p 0) → get_or (rewritten s) (p + j) 0 ≡ get_or (clean (first (drop p s))) j 0
  in_written j inside =
      let r : List ℕ = clean (first (drop p s)) in
      rw (← get_or-drop p (rewritten s) j 0, w.rest, rewritten_step w.whole.step) (get_or-append r (rewritten (drop (next s p) s)) 0 j (rw (clean_length, size) inside))

  record_same : record_at (rewritten s) p ≡ record_at s p
  unfolding here cut first
  record_same =
      let inside : p ≤ length s = omega (arith, w.inside) in
      let inside' : p ≤ length (rewritten s) = rw (rewritten_length s) inside in
      let cuts : records (rewritten (drop p s)) ≡ clean (first (drop p s)) ∷ map clean (records (drop (next s p) s)) =
      (round_trip (drop p s)).records_again ∙ ap (map clean) w.whole.step.cuts in
      rw (at_here (rewritten s) p inside', at_here s p inside, w.rest, head (rewritten (drop p s)) cuts) (reads_clean (first (drop p s)) p)
    where
      head : (l : List ℕ) {x : List ℕ} {xs : List (List ℕ)} → records l ≡ x ∷ xs → first l ≡ x
      head [] e = cc
      head (n ∷ rest) e = cc

-- the record that holds octet i
record Holds (s : List ℕ) (i : ℕ) : Type 0 where
  start : ℕ
  begins : Begins s start
  low : start ≤ i
  high : i < next s start

holds_from : (s : List ℕ) (i k p : ℕ) → i < length s → Begins s p → p ≤ i → i < p + k → Holds s i
holds_from s i zero p inside b low far = absurd (omega arith)
holds_from s i (suc k) p inside b low far = go (dec_le (next s p) i) (holds_from s i k (next s p) inside)
  where
    go : Dec (next s p ≤ i) → (Begins s (next s p) → next s p ≤ i → i < next s p + k → Holds s i) → Holds s i
    go (yes h) later = later (behind_one b (omega arith)) h (omega arith)
    go (no h) later = record { start = p; begins = b; low = low; high = omega arith }

holds : (s : List ℕ) (i : ℕ) → i < length s → Holds s i
holds s i inside = holds_from s i (suc i) 0 inside (at_the_front (omega arith)) (omega arith) (omega arith)

module _ (s : List ℕ) (from : AcceptedFrom s 0) where
  -- a Flags record has one octet of data
  flags_length : (i : ℕ) (f : FlagsOctet s i) → get_or s f.start 0 ≡ 2
  flags_length i f =
      let p = f.start in
      let good = (placed s p from f.begins).whole.good in
      let body : get_or (take (get_or s p 0) (drop (p + 1) s)) 0 0 ≡ 1 =
      get_or-take (get_or s p 0) (drop (p + 1) s) 0 0 good.some ∙ get_or-drop (p + 1) s 0 0 ∙ ap (λ (k : ℕ). get_or s k 0) (omega arith) ∙ f.type in
      good.flags body

  flags_inside : (i : ℕ) → FlagsOctet s i → i < length s
  flags_inside i f = omega (arith, flags_length i f, f.place, (placed s f.start from f.begins).whole.step.inside)

  flags_octet : (i : ℕ) → FlagsOctet s i → get_or (rewritten s) i 0 ≡ get_or s i 0 % 32
  flags_octet i f =
      let p = f.start in
      let w = placed s p from f.begins in
      let two : get_or s p 0 ≡ 2 = flags_length i f in
      let type : get_or (first (drop p s)) 1 0 ≡ 1 = in_area s p w 1 (omega arith) ∙ f.type in
      rw (f.place, in_written s p w 2 (omega arith), (cleans (first (drop p s))).flags type (rw (size s p w) (omega arith)), in_area s p w 2 (omega arith))

  other_octet : (i : ℕ) → i < length s → (FlagsOctet s i → ⊥) → get_or (rewritten s) i 0 ≡ get_or s i 0
  other_octet i inside other =
      let h = holds s i inside in
      let p = h.start in
      let j = i - p in
      let w = placed s p from h.begins in
      let is : i ≡ p + j = omega (arith, h.low) in
      let within : j < suc (get_or s p 0) = omega (arith, h.low, h.high) in
      let some : 0 < get_or s p 0 = w.whole.good.some in
      let no-flags : get_or (first (drop p s)) 1 0 ≡ 1 → j ≡ 2 → ⊥ =
      λ type two. other (record { start = p; begins = h.begins; type = sym (in_area s p w 1 (omega arith)) ∙ type; place = omega arith }) in
      ap (λ (k : ℕ). get_or (rewritten s) k 0) is ∙ in_written s p w j within ∙ (cleans (first (drop p s))).kept j no-flags ∙ in_area s p w j within ∙ ap (λ (k : ℕ). get_or s k 0) (sym is)

-- what is written of an accepted area where there is room
module _ (s out : List ℕ) {n : ℕ} (is : read_area s ≡ Ok n) (room : length s ≤ length out) where
  after_is : rewritten_after s out ≡ rewritten s ++ drop (length s) out
  unfolding rewritten_after may_rewrite
  after_is = let none : 0 + length s ≡ length s = omega arith in rw (is, le-ltb (length out) (length s) room, rewritten_length s, none)

  to_is : rewritten_to s out ≡ Ok (record { at = length s })
  unfolding rewritten_to may_rewrite
  to_is = let none : 0 + length s ≡ length s = omega arith in rw (is, le-ltb (length out) (length s) room, rewritten_length s, none)

  in_front : (i : ℕ) → i < length s → get_or (rewritten_after s out) i 0 ≡ get_or (rewritten s) i 0
  in_front i inside = rw after_is (get_or-append (rewritten s) (drop (length s) out) 0 i (rw (rewritten_length s) inside))

  front_is : take (length s) (rewritten_after s out) ≡ rewritten s
  front_is = rw after_is (take_at (rewritten s) (drop (length s) out) (length s) (rewritten_length s))

  kept_behind : (i : ℕ) → length s ≤ i → get_or (rewritten_after s out) i 0 ≡ get_or out i 0
  kept_behind i past =
      let j = i - length s in
      let at : i ≡ length (rewritten s) + j = rw (rewritten_length s) (omega arith) in
      let at' : i ≡ length s + j = omega arith in
      ap (λ (l : List ℕ). get_or l i 0) after_is ∙ ap (λ (k : ℕ). get_or (rewritten s ++ drop (length s) out) k 0) at ∙ get_or-append-add (rewritten s) (drop (length s) out) j 0
      ∙ get_or-drop (length s) out j 0 ∙ ap (λ (k : ℕ). get_or out k 0) (sym at')

  restores : Restores s out
  unfolding read_area
  restores =
      let from : AcceptedFrom s 0 = record { count = n; accepted = is } in
      record {
        answers = to_is;
        as_long = rw (after_is, length-append, rewritten_length s, length-drop) (omega arith);
        restored = λ i inside other. in_front i inside ∙ other_octet s from i inside other;
        flags = λ i f. in_front i (flags_inside s from i f) ∙ flags_octet s from i f;
        behind = kept_behind;
        area_again = ap read_area front_is ∙ (round_trip s).area_again;
        found = λ p b. (placed s p from b).whole.read;
        record_again = λ p b. ap (λ (l : List ℕ). record_at l p) front_is ∙ record_same s p (placed s p from b);
      }

pub rewriting : (s out : List ℕ) → Rewriting s out
unfolding rewritten_to rewritten_after may_rewrite
rewriting s out =
    record {
      restores = λ n is room. restores s out is room;
      bad = λ e is. record { answers = rw is; kept = rw is };
      no_room = λ n is few. record { answers = rw (is, lt-ltb (length out) (length s) few); kept = rw (is, lt-ltb (length out) (length s) few) };
    }
