-- `is_utf8` says of octets that they are whole sequences of the table, one after the other.
-- Assumes nothing.
use mathlib.Core.Path.{◌≡◌, refl, ap}
use mathlib.Core.Bool.{Bool, true, false, ◌&&◌}
use Rattle.std.specs.Prelude.{Option, None, Some}
use mathlib.Core.List.{List, [], ◌∷◌, ◌++◌}
use Prim.Native.Nat.{ℕ, zero, suc, ◌<◌, ◌≤◌}
use native.Mathlib.Omega.{arith}
use lib.ListN.{length, get_or}
use lib.Dec.{leb, ltb}
use borrow.Author.Tests.{leb-true, ltb-true}
use Rattle.utf8.specs.Utf8.{Range, within, table, row_in, utf8_after, is_utf8, Sequence, WellFormed, nothing, and_then, Utf8Is}
use Rattle.octets.proofs.Places.{both_true}
use Rattle.utf8.proofs.Sequences.{over, above_range}

within_low : (b : ℕ) (r : Range) → within b r ≡ true → r.low ≤ b
within_low b r e = leb-true r.low b (both_true (leb r.low b) (leb b r.high) e).0

-- a row of the table, by its number, begins with b
record Row (rows : List (List Range)) (b : ℕ) (rest : List Range) : Type 0 where
  k : ℕ
  first : Range
  listed : k < length rows
  is : get_or rows k [] ≡ first ∷ rest
  begins : within b first ≡ true

row_later : {rows : List (List Range)} {b : ℕ} {rest : List Range} (row : List Range) → Row rows b rest → Row (row ∷ rows) b rest
row_later row r = record { k = suc r.k; first = r.first; listed = omega (arith, r.listed); is = r.is; begins = r.begins }

-- the row that is found begins with b
row_found : (rows : List (List Range)) (b : ℕ) (rest : List Range) → row_in rows b ≡ Some rest → Row rows b rest
unfolding row_in
row_found [] b rest e = absurd (let z : ◌≡◌ {A = ℕ} 0 1 = cc in omega arith)
row_found ([] ∷ rows) b rest e = row_later [] (row_found rows b rest e)
row_found ((r ∷ row) ∷ rows) b rest e = go (within b r) refl (row_found rows b rest)
  where
    go : (t : Bool) → within b r ≡ t → (row_in rows b ≡ Some rest → Row rows b rest) → Row ((r ∷ row) ∷ rows) b rest
    go true is later =
        let same : row ≡ rest = cc (simp is at e) in
        record { k = 0; first = r; listed = omega arith; is = ap (λ (l : List Range). r ∷ l) same; begins = is }
    go false is later = row_later (r ∷ row) (later (simp is at e))

-- the rows begin with ranges that ascend, so that b begins one row at most
unfoldable separate : List (List Range) → Bool
separate [] = true
separate ([] ∷ rows) = separate rows
separate ((r ∷ row) ∷ rows) = over r.high rows && separate rows

begins_above : (rows : List (List Range)) (high : ℕ) → over high rows ≡ true → (k : ℕ) (first : Range) (rest : List Range) → get_or rows k [] ≡ first ∷ rest → high < first.low
begins_above [] high t k first rest is = absurd (let z : ◌≡◌ {A = ℕ} 0 1 = cc in omega arith)
begins_above ([] ∷ rows) high t zero first rest is = absurd (let z : ◌≡◌ {A = ℕ} 0 1 = cc in omega arith)
begins_above ([] ∷ rows) high t (suc k) first rest is = begins_above rows high t k first rest is
begins_above ((r ∷ row) ∷ rows) high t zero first rest is =
    let same : r ≡ first = cc in
    rw (← same) (ltb-true high r.low (both_true (ltb high r.low) (over high rows) t).0)
begins_above ((r ∷ row) ∷ rows) high t (suc k) first rest is = begins_above rows high (both_true (ltb high r.low) (over high rows) t).1 k first rest is

-- the row that begins with b is the one that is found
row_is : (rows : List (List Range)) (b : ℕ) → separate rows ≡ true → (k : ℕ) (first : Range) (rest : List Range) → get_or rows k [] ≡ first ∷ rest → within b first ≡ true
    → row_in rows b ≡ Some rest
unfolding row_in separate
row_is [] b t k first rest is begins = absurd (let z : ◌≡◌ {A = ℕ} 0 1 = cc in omega arith)
row_is ([] ∷ rows) b t zero first rest is begins = absurd (let z : ◌≡◌ {A = ℕ} 0 1 = cc in omega arith)
row_is ([] ∷ rows) b t (suc k) first rest is begins = row_is rows b t k first rest is begins
row_is ((r ∷ row) ∷ rows) b t zero first rest is begins =
    let same : r ≡ first = cc in
    let others : row ≡ rest = cc in
    rw (same, begins, others)
row_is ((r ∷ row) ∷ rows) b t (suc k) first rest is begins =
    let parts = both_true (over r.high rows) (separate rows) t in
    let low = begins_above rows r.high parts.0 k first rest is in
    rw (above_range r.low r.high b (omega (arith, within_low b first begins))) (row_is rows b parts.1 k first rest is begins)

-- s is octets that finish a sequence, of which these ranges are left, and then whole sequences
record Finishes (s : List ℕ) (ranges : List Range) : Type 0 where
  octets : List ℕ
  rest : List ℕ
  split : s ≡ octets ++ rest
  sequence : Sequence ranges octets
  more : WellFormed rest

finishes : (s : List ℕ) (ranges : List Range) → utf8_after s ranges ≡ true → Finishes s ranges
unfolding utf8_after
finishes [] [] e = record { octets = []; rest = []; split = refl; sequence = tt; more = nothing }
finishes [] (r ∷ ranges) e = absurd (let z : ◌≡◌ {A = ℕ} 0 1 = cc in omega arith)
finishes (b ∷ s) [] e = go (row_in table b) refl (finishes s)
  where
    go : (found : Option (List Range)) → row_in table b ≡ found → ((ranges : List Range) → utf8_after s ranges ≡ true → Finishes s ranges) → Finishes (b ∷ s) []
    go None is later = absurd (let z : ◌≡◌ {A = ℕ} 0 1 = cc (simp is at e) in omega arith)
    go (Some row) is later =
        let r = row_found table b row is in
        let f = later row (simp is at e) in
        record {
          octets = [];
          rest = b ∷ s;
          split = refl;
          sequence = tt;
          more = and_then r.k (b ∷ f.octets) f.rest (ap (λ (l : List ℕ). b ∷ l) f.split) r.listed (rw r.is (r.begins, f.sequence)) f.more;
        }
finishes (b ∷ s) (r ∷ ranges) e =
    let parts = both_true (within b r) (utf8_after s ranges) e in
    let f = finishes s ranges parts.1 in
    record { octets = b ∷ f.octets; rest = f.rest; split = ap (λ (l : List ℕ). b ∷ l) f.split; sequence = (parts.0, f.sequence); more = f.more }

-- octets that finish a sequence, before octets that are read to the end
finished : (octets rest : List ℕ) (ranges : List Range) → Sequence ranges octets → utf8_after rest [] ≡ true → utf8_after (octets ++ rest) ranges ≡ true
unfolding utf8_after
finished [] rest [] sequence e = e
finished [] rest (r ∷ ranges) sequence e = absurd sequence
finished (b ∷ octets) rest [] sequence e = absurd sequence
finished (b ∷ octets) rest (r ∷ ranges) sequence e = rw sequence.0 (finished octets rest ranges sequence.1 e)

-- a sequence of the table, before octets that are read to the end
sequence_read : (k : ℕ) (octets rest : List ℕ) (row : List Range) → get_or table k [] ≡ row → k < length table → Sequence row octets → utf8_after rest [] ≡ true
    → utf8_after (octets ++ rest) [] ≡ true
unfolding utf8_after separate
sequence_read k [] rest [] is listed sequence e = e
sequence_read k [] rest (r ∷ row) is listed sequence e = absurd sequence
sequence_read k (b ∷ octets) rest [] is listed sequence e = absurd sequence
sequence_read k (b ∷ octets) rest (r ∷ row) is listed sequence e = rw (row_is table b refl k r row is sequence.0) (finished octets rest row sequence.1 e)

complete : (s : List ℕ) → WellFormed s → is_utf8 s ≡ true
unfolding utf8_after
complete s nothing = refl
complete s (and_then k octets rest split listed sequence more) = rw split (sequence_read k octets rest (get_or table k []) refl listed sequence (complete rest more))

-- where nothing is left to finish, the rest is all
ended : (octets rest s : List ℕ) → Sequence [] octets → s ≡ octets ++ rest → WellFormed rest → WellFormed s
ended [] rest s sequence split more = rw split more
ended (b ∷ octets) rest s sequence split more = absurd sequence

sound : (s : List ℕ) → is_utf8 s ≡ true → WellFormed s
sound s e =
    let f = finishes s [] e in
    ended f.octets f.rest s f.sequence f.split f.more

pub utf8_is : (s : List ℕ) → Utf8Is s
utf8_is s = record { sound = sound s; complete = complete s }
