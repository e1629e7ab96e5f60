-- Laws of the table of UTF-8 sequences and of reading by it, octet by octet.
-- Assumes nothing.
use mathlib.Core.Path.{◌≡◌, refl, sym, ◌∙◌}
use mathlib.Core.Bool.{Bool, true, false, ◌&&◌}
use Rattle.std.specs.Prelude.{Option, Some, None}
use mathlib.Core.List.{List, [], ◌∷◌}
use Prim.Native.Nat.{ℕ, zero, suc, ◌+◌, ◌-◌, ◌≤◌, ◌<◌}
use native.Mathlib.Numerals.{sub-one}
use native.Mathlib.Omega.{arith}
use lib.ListN.{length, get_or, take, drop, drop_of_length-le}
use lib.Dec.{leb, ltb, eqb, eqb-suc-zero}
use borrow.Author.Tests.{le-leb, lt-leb, ltb-true}
use Rattle.utf8.specs.Utf8.{Range, ◌to◌, within, table, row_in, following, utf8_after, pending, is_utf8, row_from}
use Rattle.utf8.specs.declared.Lead.{Lead}
use Rattle.octets.proofs.Places.{both_true, front}

-- b lies in a range, below it or above it
pub in_range : (l h b : ℕ) → l ≤ b → b ≤ h → within b (l to h) ≡ true
in_range l h b low high = simp (le-leb _ _ low, le-leb _ _ high)

pub below_range : (l h b : ℕ) → b < l → within b (l to h) ≡ false
below_range l h b low = simp (lt-leb _ _ low)

pub above_range : (l h b : ℕ) → h < b → within b (l to h) ≡ false
above_range l h b high = go (leb l b)
  where
    go : (t : Bool) → (t && leb b h) ≡ false
    go true = lt-leb _ _ high
    go false = refl

-- all rows begin below `low`; all rows begin above `high`
abbrev under : ℕ → List (List Range) → Bool
under low [] = true
under low ([] ∷ rows) = under low rows
under low ((r ∷ rest) ∷ rows) = ltb r.high low && under low rows

abbrev pub over : ℕ → List (List Range) → Bool
over high [] = true
over high ([] ∷ rows) = over high rows
over high ((r ∷ rest) ∷ rows) = ltb high r.low && over high rows

-- rows that begin below b are passed over
past : (n : ℕ) (rows : List (List Range)) (low b : ℕ) → under low (take n rows) ≡ true → low ≤ b → row_in rows b ≡ row_in (drop n rows) b
unfolding row_in
past zero rows low b t h = refl
past (suc n) [] low b t h = refl
past (suc n) ([] ∷ rows) low b t h = past n rows low b t h
past (suc n) ((r ∷ rest) ∷ rows) low b t h =
    let parts = both_true (ltb r.high low) (under low (take n rows)) t in
    let later = past n rows low b parts.1 h in
    rw (above_range r.low r.high b (omega (arith, ltb-true r.high low parts.0))) later

-- no row begins with b where all begin above it
ahead : (rows : List (List Range)) (high b : ℕ) → over high rows ≡ true → b ≤ high → row_in rows b ≡ None
unfolding row_in
ahead [] high b t h = refl
ahead ([] ∷ rows) high b t h = ahead rows high b t h
ahead ((r ∷ rest) ∷ rows) high b t h =
    let parts = both_true (ltb high r.low) (over high rows) t in
    let later = ahead rows high b parts.1 h in
    rw (below_range r.low r.high b (omega (arith, ltb-true high r.low parts.0))) later

-- row k, from l to h, is the one that begins with b
pub row : (k l h b : ℕ) {rest : List Range} {rows : List (List Range)} → drop k table ≡ (l to h ∷ rest) ∷ rows → under l (take k table) ≡ true → l ≤ b → b ≤ h
    → Some rest ≡ row_in table b
unfolding row_in
row k l h b {rest} is t low high = sym (past k table l b t low ∙ (rw (is, in_range l h b low high)))

-- no row begins with b, which lies between those before row k and the others
pub no_row : (k l h b : ℕ) → under l (take k table) ≡ true → over h (drop k table) ≡ true → l ≤ b → b ≤ h → None ≡ row_in table b
no_row k l h b before after low high = sym (past k table l b before low ∙ ahead (drop k table) h b after high)

-- a loop over s is at position i, and `count` octets are still to follow, the next of them from `low` to `high`
pub record Reading (s : List ℕ) (i count low high : ℕ) : Type 0 where
  pub same : utf8_after (drop i s) (pending count low high) ≡ is_utf8 s

-- a lead octet
pub led : {s : List ℕ} {i count low high : ℕ} (r : Option Lead) → Reading s i count low high → i < length s → count ≡ 0 → row_from r ≡ row_in table (get_or s i 0)
    → following (row_from r) (utf8_after (drop (i + 1) s)) ≡ is_utf8 s
unfolding utf8_after
led {s} {i} r at h no_more e = rw e (simp (no_more, front s i h) at at.same)

-- an octet that follows, in its range or not
pub followed : {s : List ℕ} {i count low high : ℕ} {t : Bool} → Reading s i count low high → i < length s → (count ≡ 0 → ⊥) → within (get_or s i 0) (low to high) ≡ t
    → (t && utf8_after (drop (i + 1) s) (pending (count - 1) 0x80 0xBF)) ≡ is_utf8 s
unfolding utf8_after
followed {s} {i} {count} {low} {high} {t} at h more e = rw (← e) (go count more ∙ at.same)
  where
    go : (n : ℕ) → (n ≡ 0 → ⊥) → (within (get_or s i 0) (low to high) && utf8_after (drop (i + 1) s) (pending (n - 1) 0x80 0xBF)) ≡ utf8_after (drop i s) (pending n low high)
    go zero more = absurd (more refl)
    go (suc zero) more = rw (front s i h)
    go (suc (suc n)) more = rw (front s i h, sub-one)

-- at the end nothing may be left to follow
pub done : {s : List ℕ} {i count low high : ℕ} → Reading s i count low high → length s ≤ i → eqb count 0 ≡ is_utf8 s
unfolding utf8_after
done {s} {i} {count} {low} {high} at h = go count ∙ (rw (drop_of_length-le s h) at at.same)
  where
    go : (n : ℕ) → eqb n 0 ≡ utf8_after [] (pending n low high)
    go zero = refl
    go (suc n) = eqb-suc-zero n
