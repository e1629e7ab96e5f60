-- A row's numbers are read again exactly if each fits its column: `row`. Assumes nothing.
use mathlib.Core.Path.{◌≡◌, refl, ap, ◌∙◌}
use mathlib.Core.Logic.{◌⊎◌, inl, inr}
use mathlib.Core.Bool.{Bool, true, false}
use mathlib.Core.List.{List, [], ◌∷◌, ◌++◌, append_assoc}
use Prim.Native.Nat.{ℕ, zero, suc, ◌+◌, ◌-◌, ◌/◌, ◌%◌, ◌^◌, ◌<◌, ◌≤◌}
use native.Mathlib.Omega.{arith}
use native.Mathlib.Nat.{pow-succ'}
use lib.ListN.{length, replicate, length-append}
use lib.Seq.{take_at, drop_at}
use lib.Dec.{ltb}
use borrow.Author.Tests.{ne_eqb, ltb-true, ltb-false}
use Rattle.octets.specs.Lists.{total, All}
use Rattle.columns.specs.Column.{column, digits, read_decimal, IsDigit}
use Rattle.columns.specs.Row.{row_of, read_column, read_row, Fits, Row}
use Rattle.columns.proofs.Widths.{column_length}
use Rattle.columns.proofs.Justified.{justified, decimal, read_snoc}

read_spaces : (m : ℕ) (s : List ℕ) → read_column (replicate m 32 ++ s) ≡ read_column s
unfolding read_column
read_spaces zero s = refl
read_spaces (suc m) s = read_spaces m s

-- digits are no spaces
read_digits : (s : List ℕ) → All IsDigit s → read_column s ≡ read_decimal 0 s
unfolding read_column read_decimal
read_digits [] all = refl
read_digits (c ∷ s) all = rw (ne_eqb c 32 (λ e. omega (arith, all.0.0))) refl

-- a number below 10 ^ w has so many digits, and no fewer hold it
record Digits (w n : ℕ) : Type 0 where
  more : ℕ
  inside : more < w
  small : n < 10 ^ suc more
  fewest : (more ≡ 0) ⊎ (10 ^ more ≤ n)

digits_of : (w n : ℕ) → n < 10 ^ suc w → Digits (suc w) n
digits_of zero n small = record { more = 0; inside = omega arith; small = small; fewest = inl refl }
digits_of (suc w) n small = go (ltb n (10 ^ suc w)) refl (digits_of w n)
  where
    go : (b : Bool) → ltb n (10 ^ suc w) ≡ b → (n < 10 ^ suc w → Digits (suc w) n) → Digits (suc (suc w)) n
    go true e later =
        let fewer = later (ltb-true n (10 ^ suc w) e) in
        record { more = fewer.more; inside = omega (arith, fewer.inside); small = fewer.small; fewest = fewer.fewest }
    go false e later = record { more = suc w; inside = omega arith; small = small; fewest = inr (ltb-false n (10 ^ suc w) e) }

column_read : (w n : ℕ) → n < 10 ^ w → read_column (column w n) ≡ n
unfolding column read_column
column_read zero n small = omega arith
column_read (suc w) n small =
    let size = digits_of w n small in
    let k : ℕ = size.more in
    ap read_column ((justified (suc w) n).right k size.inside size.small size.fewest)
    ∙ read_spaces (suc w - suc k) (digits (suc k) n)
    ∙ read_digits (digits (suc k) n) (decimal (suc k) n).each
    ∙ (decimal (suc k) n).number size.small

-- w digits are a number below 10 ^ w
digits_small : (w n : ℕ) → read_decimal 0 (digits w n) < 10 ^ w
unfolding digits read_decimal
digits_small zero n = omega arith
digits_small (suc w) n = rw (read_snoc 0 (digits w (n / 10)) (48 + n % 10), pow-succ') (omega (arith, digits_small w (n / 10)))

column_small : (w n : ℕ) → read_column (column w n) ≡ n → n < 10 ^ w
column_small w n is = go (ltb n (10 ^ w)) refl
  where
    go : (b : Bool) → ltb n (10 ^ w) ≡ b → n < 10 ^ w
    go true e = ltb-true n (10 ^ w) e
    go false e =
        let long = ltb-false n (10 ^ w) e in
        let read : read_column (column w n) ≡ read_decimal 0 (digits w n) = ap read_column ((justified w n).long long) ∙ read_digits (digits w n) (decimal w n).each in
        absurd (omega (arith, is, read, digits_small w n))

row_size : (ws ns : List ℕ) → Fits ws ns → length (row_of ws ns) ≡ total ws + 1
unfolding row_of
row_size [] [] fit = refl
row_size [] (n ∷ ns) fit = absurd fit
row_size (w ∷ ws) [] fit = absurd fit
row_size (w ∷ ws) (n ∷ ns) fit = simp (length-append, column_length, row_size ws ns fit.1) (omega arith)

row_back : (ws ns : List ℕ) → Fits ws ns → (rest : List ℕ) → read_row ws (row_of ws ns ++ rest) ≡ ns
unfolding row_of read_row
row_back [] [] fit rest = refl
row_back [] (n ∷ ns) fit rest = absurd fit
row_back (w ∷ ws) [] fit rest = absurd fit
row_back (w ∷ ws) (n ∷ ns) fit rest =
    rw (append_assoc, take_at (column w n) (row_of ws ns ++ rest) w (column_length w n), drop_at (column w n) (row_of ws ns ++ rest) w (column_length w n), column_read w n fit.0, row_back ws ns fit.1 rest)
    refl

row_only : (ws ns : List ℕ) → read_row ws (row_of ws ns) ≡ ns → Fits ws ns
unfolding row_of read_row
row_only [] [] is = tt
row_only [] (n ∷ ns) is = omega (arith, ap length is)
row_only (w ∷ ws) [] is = omega (arith, ap length is)
row_only (w ∷ ws) (n ∷ ns) is =
    let cut : read_column (column w n) ∷ read_row ws (row_of ws ns) ≡ n ∷ ns =
    rw (take_at (column w n) (row_of ws ns) w (column_length w n), drop_at (column w n) (row_of ws ns) w (column_length w n)) at is in
    let first : read_column (column w n) ≡ n = cc in
    let later : read_row ws (row_of ws ns) ≡ ns = cc in
    (column_small w n first, row_only ws ns later)

pub row : (ws ns : List ℕ) → Row ws ns
row ws ns = record { size = row_size ws ns; back = row_back ws ns; only = row_only ws ns }
