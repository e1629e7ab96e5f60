-- Numbers in a row of columns, and read from it again: cut by the columns' widths, and not at spaces.
--
--     | number, right-justified | number, right-justified | .. | 0A |
--
--   row_of ws ns         == the numbers ns in columns of the widths ws, one after the other, and the octet 0A
--   read_column s        == the number in a column: spaces before its digits are passed over
--   read_row ws s        == the numbers in columns of these widths, which s begins with
--   Fits ws ns          == there are as many numbers as columns, and none is too long for its column
--   Row ws ns           == numbers that fit are read again, and no others (Rows.row)
use Rattle.std.specs.Prelude.{◌≡◌, cond, List, [], ◌∷◌, ◌++◌, ℕ, ◌+◌, ◌^◌, ◌<◌, eqb, length, take, drop}
use Rattle.octets.specs.Lists.{total}
use Rattle.columns.specs.Column.{column, read_decimal}

unfoldable pub row_of : List ℕ → List ℕ → List ℕ
row_of [] ns = 10 ∷ []
row_of (w ∷ ws) [] = 10 ∷ []
row_of (w ∷ ws) (n ∷ ns) = column w n ++ row_of ws ns

unfoldable pub read_column : List ℕ → ℕ
read_column [] = 0
read_column (c ∷ s) = cond (eqb c 32) (read_column s) (read_decimal 0 (c ∷ s))

unfoldable pub read_row : List ℕ → List ℕ → List ℕ
read_row [] s = []
read_row (w ∷ ws) s = read_column (take w s) ∷ read_row ws (drop w s)

-- w columns, one or more, hold w decimal digits: the numbers below 10 ^ w
abbrev pub Fits : List ℕ → List ℕ → Type 0
Fits [] [] = Unit {0}
Fits [] (n ∷ ns) = ⊥
Fits (w ∷ ws) [] = ⊥
Fits (w ∷ ws) (n ∷ ns) = (n < 10 ^ w) × Fits ws ns

-- Numbers that fit are read again, whatever stands after the row; and numbers that are read again fit.
pub record Row (ws ns : List ℕ) : Type 0 where
  pub size : Fits ws ns → length (row_of ws ns) ≡ total ws + 1
  pub back : Fits ws ns → (rest : List ℕ) → read_row ws (row_of ws ns ++ rest) ≡ ns
  pub only : read_row ws (row_of ws ns) ≡ ns → Fits ws ns
