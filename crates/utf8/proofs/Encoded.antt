-- `is_utf8` says of octets that they are the encodings of scalar values: a sequence of the table is the encoding of one, and each encoding is such a
-- sequence. Assumes nothing.
use mathlib.Core.Path.{◌≡◌, refl, ◌∙◌}
use mathlib.Core.Logic.{inl, inr, ⊎_elim}
use mathlib.Core.Bool.{Bool, true, false}
use mathlib.Core.List.{List, [], ◌∷◌, ◌++◌, map, flatten}
use Prim.Native.Nat.{ℕ, zero, suc, ◌+◌, ◌-◌, ◌*◌, ◌/◌, ◌≤◌, ◌<◌}
use native.Mathlib.Omega.{arith}
use lib.ListN.{length, get_or}
use lib.Dec.{leb}
use borrow.Author.Tests.{le-leb, lt-leb, leb-true, leb-false}
use Rattle.octets.specs.Lists.{All}
use Rattle.utf8.specs.Utf8.{Range, ◌to◌, within, tail, table, Sequence, WellFormed, nothing, and_then}
use Rattle.utf8.specs.Encoding.{IsScalar, trailing, encoded, Encodes, Utf8Encodes}
use Rattle.octets.proofs.Places.{both_true}
use Rattle.utf8.proofs.Sequences.{in_range}
use Rattle.utf8.proofs.WellFormed.{utf8_is}

bounds : (b l h : ℕ) → within b (l to h) ≡ true → (l ≤ b) × (b ≤ h)
bounds b l h e =
    let parts = both_true (leb l b) (leb b h) e in
    (leb-true l b parts.0, leb-true b h parts.1)

-- the octets are the encoding of a scalar value
record Encoding (octets : List ℕ) : Type 0 where
  value : ℕ
  scalar : IsScalar value
  is : encoded value ≡ octets

-- every sequence of the row is
abbrev Encodings : List Range → Type 0
Encodings row = (octets : List ℕ) → Sequence row octets → Encoding octets

-- A row whose sequences have one, two, three or four octets: the lead octets from l to h, and of the longer ones the second octets from m to n and the
-- scalar values from `low` to `high`.
one : (l h : ℕ) → h ≤ 0x7F → Encodings (l to h ∷ [])
one l h row [] sequence = absurd sequence
one l h row (a ∷ []) sequence =
    let x = bounds a l h sequence.0 in
    record { value = a; scalar = inl (omega arith); is = simp (le-leb a 0x7F (omega arith)) }
one l h row (a ∷ b ∷ octets) sequence = absurd sequence.1

two : (l h : ℕ) → (0xC2 ≤ l) × (h ≤ 0xDF) → Encodings (l to h ∷ tail ∷ [])
two l h row [] sequence = absurd sequence
two l h row (a ∷ []) sequence = absurd sequence.1
two l h row (a ∷ b ∷ []) sequence =
    let x = bounds a l h sequence.0 in
    let y = bounds b 0x80 0xBF sequence.1.0 in
    let v : ℕ = a * 64 + b - (0xC0 * 64 + 0x80) in
    let first : 0xC0 + v / 64 ≡ a = omega arith in
    let second : trailing v ≡ b = omega arith in
    record { value = v; scalar = inl (omega arith); is = simp (lt-leb v 0x7F (omega arith), le-leb v 0x7FF (omega arith), first, second) }
two l h row (a ∷ b ∷ c ∷ octets) sequence = absurd sequence.1.1

abbrev Three : ℕ → ℕ → ℕ → ℕ → ℕ → ℕ → Type 0
Three l h m n low high =
    ((0x80 ≤ m) × (n ≤ 0xBF))
    × (((0x800 ≤ low) × (high ≤ 0xFFFF))
    × ((0xE0 * 4096 + 0x80 * 64 + low ≤ l * 4096 + m * 64) × (h * 4096 + n * 64 + 63 ≤ 0xE0 * 4096 + 0x80 * 64 + high)))

three : (l h m n low high : ℕ) → Three l h m n low high → ((v : ℕ) → low ≤ v → v ≤ high → IsScalar v) → Encodings (l to h ∷ m to n ∷ tail ∷ [])
three l h m n low high row scalar [] sequence = absurd sequence
three l h m n low high row scalar (a ∷ []) sequence = absurd sequence.1
three l h m n low high row scalar (a ∷ b ∷ []) sequence = absurd sequence.1.1
three l h m n low high row scalar (a ∷ b ∷ c ∷ []) sequence =
    let x = bounds a l h sequence.0 in
    let y = bounds b m n sequence.1.0 in
    let z = bounds c 0x80 0xBF sequence.1.1.0 in
    let v : ℕ = a * 4096 + b * 64 + c - (0xE0 * 4096 + 0x80 * 64 + 0x80) in
    let first : 0xE0 + v / 4096 ≡ a = omega arith in
    let second : trailing (v / 64) ≡ b = omega arith in
    let third : trailing v ≡ c = omega arith in
    record {
      value = v;
      scalar = scalar v (omega arith) (omega arith);
      is = simp (lt-leb v 0x7F (omega arith), lt-leb v 0x7FF (omega arith), le-leb v 0xFFFF (omega arith), first, second, third);
    }
three l h m n low high row scalar (a ∷ b ∷ c ∷ d ∷ octets) sequence = absurd sequence.1.1.1

abbrev Four : ℕ → ℕ → ℕ → ℕ → ℕ → ℕ → Type 0
Four l h m n low high =
    ((0x80 ≤ m) × (n ≤ 0xBF))
    × (((0x10000 ≤ low) × (high ≤ 0x10FFFF))
    × ((0xF0 * 262144 + 0x80 * 4096 + low ≤ l * 262144 + m * 4096) × (h * 262144 + n * 4096 + 4095 ≤ 0xF0 * 262144 + 0x80 * 4096 + high)))

four : (l h m n low high : ℕ) → Four l h m n low high → Encodings (l to h ∷ m to n ∷ tail ∷ tail ∷ [])
four l h m n low high row [] sequence = absurd sequence
four l h m n low high row (a ∷ []) sequence = absurd sequence.1
four l h m n low high row (a ∷ b ∷ []) sequence = absurd sequence.1.1
four l h m n low high row (a ∷ b ∷ c ∷ []) sequence = absurd sequence.1.1.1
four l h m n low high row (a ∷ b ∷ c ∷ d ∷ []) sequence =
    let x = bounds a l h sequence.0 in
    let y = bounds b m n sequence.1.0 in
    let z = bounds c 0x80 0xBF sequence.1.1.0 in
    let w = bounds d 0x80 0xBF sequence.1.1.1.0 in
    let v : ℕ = a * 262144 + b * 4096 + c * 64 + d - (0xF0 * 262144 + 0x80 * 4096 + 0x80 * 64 + 0x80) in
    let first : 0xF0 + v / 262144 ≡ a = omega arith in
    let second : trailing (v / 4096) ≡ b = omega arith in
    let third : trailing (v / 64) ≡ c = omega arith in
    let fourth : trailing v ≡ d = omega arith in
    record {
      value = v;
      scalar = inr (omega arith, omega arith);
      is = simp (lt-leb v 0x7F (omega arith), lt-leb v 0x7FF (omega arith), lt-leb v 0xFFFF (omega arith), first, second, third, fourth);
    }
four l h m n low high row (a ∷ b ∷ c ∷ d ∷ e ∷ octets) sequence = absurd sequence.1.1.1.1

-- so for each row
infixr 60 ◌also◌
data EachEncodings : List (List Range) → Type 0 where
  all_told : EachEncodings []
  ◌also◌ : {row : List Range} {rows : List (List Range)} → Encodings row → EachEncodings rows → EachEncodings (row ∷ rows)

each : {rows : List (List Range)} → EachEncodings rows → (k : ℕ) → k < length rows → Encodings (get_or rows k [])
each all_told k listed = absurd (omega arith)
each (row also rows) zero listed = row
each (row also rows) (suc k) listed = each rows k (omega arith)

-- (with its number the row is known where the numbers are proved)
of_row : (k : ℕ) → Encodings (get_or table k []) → Encodings (get_or table k [])
of_row k encodings = encodings

table_encodings : EachEncodings table
table_encodings =
    of_row 0 (one _ _ (omega arith))
    also of_row 1 (two _ _ (omega arith))
    also of_row 2 (three _ _ _ _ 0x800 0xFFF (omega arith) (λ v low high. inl (omega arith)))
    also of_row 3 (three _ _ _ _ 0x1000 0xCFFF (omega arith) (λ v low high. inl (omega arith)))
    also of_row 4 (three _ _ _ _ 0xD000 0xD7FF (omega arith) (λ v low high. inl (omega arith)))
    also of_row 5 (three _ _ _ _ 0xE000 0xFFFF (omega arith) (λ v low high. inr (omega arith, omega arith)))
    also of_row 6 (four _ _ _ _ 0x10000 0x3FFFF (omega arith))
    also of_row 7 (four _ _ _ _ 0x40000 0xFFFFF (omega arith))
    also of_row 8 (four _ _ _ _ 0x100000 0x10FFFF (omega arith))
    also all_told

and_more : {s : List ℕ} (octets rest : List ℕ) → s ≡ octets ++ rest → Encoding octets → (vs : List ℕ) × Encodes vs rest → (vs : List ℕ) × Encodes vs s
unfolding flatten
and_more octets rest split first more =
    (first.value ∷ more.0, record { scalar = (first.scalar, more.1.scalar); octets = split ∙ rw (← first.is, more.1.octets) })

sound : (s : List ℕ) → WellFormed s → (vs : List ℕ) × Encodes vs s
unfolding flatten
sound s nothing = ([], record { scalar = tt; octets = refl })
sound s (and_then k octets rest split listed sequence more) = and_more octets rest split (each table_encodings k listed octets sequence) (sound rest more)

-- The other way: the encoding of a scalar value is a sequence of the table.
record Row (v : ℕ) : Type 0 where
  k : ℕ
  listed : k < length table
  sequence : Sequence (get_or table k []) (encoded v)

row : (k v : ℕ) → k < length table → Sequence (get_or table k []) (encoded v) → Row v
row k v listed sequence = record { k = k; listed = listed; sequence = sequence }

up_to : (v high : ℕ) → (v ≤ high → Row v) → (high < v → Row v) → Row v
up_to v high here beyond = go (leb v high) refl
  where
    go : (b : Bool) → leb v high ≡ b → Row v
    go true e = here (leb-true v high e)
    go false e = beyond (leb-false v high e)

trails : (v : ℕ) → within (trailing v) tail ≡ true
trails v = in_range 0x80 0xBF (trailing v) (omega arith) (omega arith)

-- of one, two, three or four octets, by the row's ranges
in_one : {l h : ℕ} (v : ℕ) → v ≤ 0x7F → (l ≤ v) × (v ≤ h) → Sequence (l to h ∷ []) (encoded v)
in_one {l} {h} v high first = rw (le-leb v 0x7F high) (in_range l h v first.0 first.1, tt)

in_two : {l h : ℕ} (v : ℕ) → 0x7F < v → v ≤ 0x7FF → (l ≤ 0xC0 + v / 64) × (0xC0 + v / 64 ≤ h) → Sequence (l to h ∷ tail ∷ []) (encoded v)
in_two {l} {h} v low high first = rw (lt-leb v 0x7F low, le-leb v 0x7FF high) (in_range l h (0xC0 + v / 64) first.0 first.1, (trails v, tt))

in_three : {l h m n : ℕ} (v : ℕ) → 0x7FF < v → v ≤ 0xFFFF → (l ≤ 0xE0 + v / 4096) × (0xE0 + v / 4096 ≤ h) → (m ≤ trailing (v / 64)) × (trailing (v / 64) ≤ n)
    → Sequence (l to h ∷ m to n ∷ tail ∷ []) (encoded v)
in_three {l} {h} {m} {n} v low high first second =
    rw (lt-leb v 0x7F (omega arith), lt-leb v 0x7FF low, le-leb v 0xFFFF high)
    (in_range l h (0xE0 + v / 4096) first.0 first.1, (in_range m n (trailing (v / 64)) second.0 second.1, (trails v, tt)))

in_four : {l h m n : ℕ} (v : ℕ) → 0xFFFF < v → (l ≤ 0xF0 + v / 262144) × (0xF0 + v / 262144 ≤ h) → (m ≤ trailing (v / 4096)) × (trailing (v / 4096) ≤ n)
    → Sequence (l to h ∷ m to n ∷ tail ∷ tail ∷ []) (encoded v)
in_four {l} {h} {m} {n} v low first second =
    rw (lt-leb v 0x7F (omega arith), lt-leb v 0x7FF (omega arith), lt-leb v 0xFFFF low)
    (in_range l h (0xF0 + v / 262144) first.0 first.1, (in_range m n (trailing (v / 4096)) second.0 second.1, (trails (v / 64), (trails v, tt))))

-- the scalar values up to D7FF, those from E000 on, and all
lower : (v : ℕ) → v ≤ 0xD7FF → Row v
lower v high =
    up_to v 0x7F (λ h. row 0 v (omega arith) (in_one v h (omega arith))) λ l.
    up_to v 0x7FF (λ h. row 1 v (omega arith) (in_two v l h (omega arith))) λ l.
    up_to v 0xFFF (λ h. row 2 v (omega arith) (in_three v l (omega arith) (omega arith) (omega arith))) λ l.
    up_to v 0xCFFF (λ h. row 3 v (omega arith) (in_three v (omega arith) (omega arith) (omega arith) (omega arith))) λ l.
    row 4 v (omega arith) (in_three v (omega arith) (omega arith) (omega arith) (omega arith))

upper : (v : ℕ) → 0xE000 ≤ v → v ≤ 0x10FFFF → Row v
upper v low high =
    up_to v 0xFFFF (λ h. row 5 v (omega arith) (in_three v (omega arith) h (omega arith) (omega arith))) λ l.
    up_to v 0x3FFFF (λ h. row 6 v (omega arith) (in_four v l (omega arith) (omega arith))) λ l.
    up_to v 0xFFFFF (λ h. row 7 v (omega arith) (in_four v (omega arith) (omega arith) (omega arith))) λ l.
    row 8 v (omega arith) (in_four v (omega arith) (omega arith) (omega arith))

in_table : (v : ℕ) → IsScalar v → Row v
in_table v scalar = ⊎_elim (lower v) (λ h. upper v h.0 h.1) scalar

all_in_table : (vs : List ℕ) → All IsScalar vs → WellFormed (flatten (map encoded vs))
unfolding flatten
all_in_table [] scalar = nothing
all_in_table (v ∷ vs) scalar =
    let first = in_table v scalar.0 in
    and_then first.k (encoded v) (flatten (map encoded vs)) refl first.listed first.sequence (all_in_table vs scalar.1)

pub utf8_encodes : (s : List ℕ) → Utf8Encodes s
utf8_encodes s =
    record {
      sound = λ e. sound s ((utf8_is s).sound e);
      complete = λ vs e. (utf8_is s).complete (rw e.octets (all_in_table vs e.scalar));
    }
