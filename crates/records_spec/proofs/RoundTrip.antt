-- An area and what rewriting it writes: `round_trip`; a record that is read and written again: `read_and_rewritten`.
-- Assumes nothing.
use mathlib.Core.Path.{◌≡◌, refl, sym, ap, ◌∙◌}
use mathlib.Core.Bool.{Bool, true, false, cond}
use mathlib.Core.List.{List, [], ◌∷◌, ◌++◌, map, flatten, append-nil}
use Prim.Native.Nat.{ℕ, zero, suc, ◌+◌, ◌%◌, ◌≤◌, ◌<◌}
use native.Mathlib.Omega.{arith}
use native.Mathlib.Decide.{dec_le}
use lib.ListN.{length, get_or, set, take, drop, length-take, drop_of_length-le}
use lib.Seq.{take_at, drop_at, take_all, set-get_or, get_or-set_same, get_or-set_other}
use lib.Dec.{ltb, eqb}
use borrow.Author.Tests.{ltb-false, eqb-true}
use Rattle.octets.specs.Lists.{All}
use Rattle.octets.specs.declared.error.Error.TheVariants.{Eof}
use Rattle.records_spec.specs.declared.ad_structure.AdStructure.{AdStructure}
use Rattle.records_spec.specs.Record.{flags_read, data_read, record_read, first, record_at}
use Rattle.flags.specs.Flags.{named}
use Rattle.records_spec.specs.Write.{written_to, written_after}
use Rattle.records_spec.specs.Area.{cut, records, reads, area_of, read_area, clean, rewritten}
use Rattle.records_spec.specs.RoundTrip.{Cleans, NamedOnly, RoundTrip, ReadAndRewritten}
use Rattle.octets.proofs.Laws.{octet_at}
use Rattle.records_spec.proofs.Cuts.{cut_skip, here, at_here, Step, stepped}
use Rattle.records_spec.proofs.Again.{named_twice, written_again}
use Rattle.records_spec.proofs.Rewritten.{clean_length, tile, rewritten_length}
use Rattle.octets.proofs.Places.{cond_same}
use Rattle.std.specs.Prelude.{Ok, Some, Err}

-- a record reads the same when it is written again
pub reads_clean : (r : List ℕ) (at : ℕ) → record_read (clean r) at ≡ record_read r at
unfolding clean record_read data_read flags_read
reads_clean [] at = refl
reads_clean (n ∷ []) at = refl
reads_clean (n ∷ ty ∷ []) at = ap (λ (r : List ℕ). record_read r at) (cond_same (eqb ty 1) (n ∷ ty ∷ []))
reads_clean (n ∷ ty ∷ b ∷ d) at = go (eqb ty 1) refl
  where
    go : (flags : Bool) → eqb ty 1 ≡ flags → record_read (cond flags (n ∷ ty ∷ named b ∷ d) (n ∷ ty ∷ b ∷ d)) at ≡ record_read (n ∷ ty ∷ b ∷ d) at
    go true is = simp (is, named_twice)
    go false is = refl

reads_cleaned : (rs : List (List ℕ)) (at : ℕ) → reads (map clean rs) at ≡ reads rs at
unfolding reads
reads_cleaned [] at = refl
reads_cleaned (r ∷ rs) at = rw (reads_clean r at, clean_length r, reads_cleaned rs (at + length r))

-- a body b of as many octets as n, or of fewer where nothing follows, ends after n octets
ends : (n : ℕ) (b follows : List ℕ) → length b ≤ n → (length b < n → follows ≡ []) → (take n (b ++ follows) ≡ b) × (drop n (b ++ follows) ≡ follows)
ends n b follows short last = go (dec_le n (length b))
  where
    go : Dec (n ≤ length b) → (take n (b ++ follows) ≡ b) × (drop n (b ++ follows) ≡ follows)
    go (yes h) = (take_at b follows n (omega arith), drop_at b follows n (omega arith))
    go (no h) =
        let none : follows ≡ [] = last (omega arith) in
        (rw (none, append-nil) (take_all n b short), rw (none, append-nil) (drop_of_length-le b short))

-- what is written again keeps the length octet
clean_cons : (n : ℕ) (b : List ℕ) → clean (n ∷ b) ≡ n ∷ drop 1 (clean (n ∷ b))
unfolding clean
clean_cons n b = go (eqb (get_or b 0 0) 1)
  where
    go : (flags : Bool)
        → cond flags (n ∷ set b 1 (named (get_or b 1 0))) (n ∷ b) ≡ n ∷ drop 1 (cond flags (n ∷ set b 1 (named (get_or b 1 0))) (n ∷ b))
    go true = refl
    go false = refl

-- one record of an area that is written again, before others that are
step : (n : ℕ) (rest b : List ℕ) → clean (n ∷ take n rest) ≡ n ∷ b → records (flatten (map clean (cut rest n))) ≡ map clean (cut rest n)
    → records (clean (n ∷ take n rest) ++ flatten (map clean (cut rest n))) ≡ clean (n ∷ take n rest) ∷ map clean (cut rest n)
unfolding cut flatten first
step n rest b kept later =
    let follows : List ℕ = flatten (map clean (cut rest n)) in
    let size : suc (length b) ≡ suc (length (take n rest)) = sym (ap length kept) ∙ clean_length (n ∷ take n rest) in
    let none : length b < n → follows ≡ [] =
    λ h. rw (cut_skip rest n, drop_of_length-le rest {i = n} (omega (arith, length-take n rest))) in
    let end = ends n b follows (omega (arith, length-take n rest)) none in
    rw kept (simp (end.0, cut_skip (b ++ follows) n, end.1, later))

-- so it is cut off where it was
again : (l : List ℕ) (skip : ℕ) → records (flatten (map clean (cut l skip))) ≡ map clean (cut l skip)
unfolding cut flatten first
again [] skip = refl
again (x ∷ rest) (suc skip) = again rest skip
again (n ∷ rest) zero =
    let follows : List ℕ = flatten (map clean (cut rest n)) in
    let later : records follows ≡ map clean (cut rest n) = again rest n in
    let kept : clean (n ∷ take n rest) ≡ n ∷ drop 1 (clean (n ∷ take n rest)) = clean_cons n (take n rest) in
    step n rest (drop 1 (clean (n ∷ take n rest))) kept later

-- `clean` by whether a record is one of Flags
pub cleans : (r : List ℕ) → Cleans r
unfolding clean named
cleans r =
    record {
      as_long = clean_length r;
      kept = λ i other. go (eqb (get_or r 1 0) 1) refl i other;
      flags = λ is inside. simp is (get_or-set_same r 2 (get_or r 2 0 % 32) 0 inside);
    }
  where
    go : (b : Bool) → eqb (get_or r 1 0) 1 ≡ b → (i : ℕ) → (get_or r 1 0 ≡ 0x01 → i ≡ 2 → ⊥)
        → get_or (cond b (set r 2 (get_or r 2 0 % 32)) r) i 0 ≡ get_or r i 0
    go true e i other = get_or-set_other r 2 i (get_or r 2 0 % 32) 0 (other (eqb-true (get_or r 1 0) 1 e))
    go false e i other = refl

-- records of named bits alone are clean
named_clean : (rs : List (List ℕ)) → All NamedOnly rs → map clean rs ≡ rs
unfolding clean named
named_clean [] only = refl
named_clean (r ∷ rs) only = ap (λ (l : List (List ℕ)). clean r ∷ l) (named_clean rs only.1) ∙ ap (λ (x : List ℕ). x ∷ rs) (go (eqb (get_or r 1 0) 1) refl)
  where
    go : (b : Bool) → eqb (get_or r 1 0) 1 ≡ b → cond b (set r 2 (get_or r 2 0 % 32)) r ≡ r
    go true e =
        let small : get_or r 2 0 < 32 = only.0 (eqb-true (get_or r 1 0) 1 e) in
        let same : get_or r 2 0 % 32 ≡ get_or r 2 0 = omega arith in
        rw same (set-get_or r 2 0)
    go false e = refl

pub round_trip : (s : List ℕ) → RoundTrip s
unfolding rewritten read_area
round_trip s =
    let cut_again = again s 0 in
    let read_again : reads (records (rewritten s)) 0 ≡ reads (records s) 0 = rw cut_again (reads_cleaned (records s) 0) in
    record {
      tiles = tile s 0;
      as_long = rewritten_length s;
      same = λ only. rw (named_clean (records s) only) (tile s 0);
      records_again = cut_again;
      reads_again = read_again;
      area_again = ap area_of read_again;
    }

-- a position at which a record is read does not lie past the end
not_past : (s : List ℕ) (at : ℕ) {a : AdStructure} {next : ℕ} → record_at s at ≡ Ok (Some (a, next)) → at ≤ length s
unfolding record_at
not_past s at {a} {next} = go (ltb (length s) at) refl
  where
    go : (past : Bool) → ltb (length s) at ≡ past → cond past (Err Eof) (record_read (first (drop at s)) at) ≡ Ok (Some (a, next)) → at ≤ length s
    go true is e = absurd (let z : ◌≡◌ {A = ℕ} 0 1 = cc in omega arith)
    go false is e = ltb-false (length s) at is

pub read_and_rewritten : ReadAndRewritten
unfolding written_to written_after
read_and_rewritten s out at a next octets e room =
    let found : here s at ≡ (Ok (Some (a, next))) = sym (at_here s at (not_past s at e)) ∙ e in
    let step : Step s at next = stepped s at found in
    let again = written_again s out at found (octet_at s at octets (omega (arith, step.later, step.inside))) room in
    let ends : at + length (clean (first (drop at s))) ≡ next = rw clean_length step.ends in
    record { answers = rw (again.may, again.octets, ends); writes = rw (again.may, again.octets) }
