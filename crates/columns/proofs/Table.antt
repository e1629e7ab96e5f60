-- The columns of an octet stand in the table of all octets at their place: `copied`. Assumes nothing.
use mathlib.Core.Path.{◌≡◌, refl}
use mathlib.Core.List.{List, ◌++◌}
use Prim.Native.Nat.{ℕ, zero, suc, ◌+◌, ◌-◌, ◌*◌, ◌<◌, ◌≤◌}
use native.Mathlib.Omega.{arith}
use lib.ListN.{length, take, drop, length-append}
use lib.Seq.{drop-drop, drop_at}
use Rattle.columns.specs.Column.{leading, column}
use Rattle.columns.specs.Table.{columns_from, octet_columns, Copied}
use Rattle.columns.proofs.Widths.{column_length}

-- past n numbers stands the next, before the others
entry : (n count from : ℕ) → n < count → drop (4 * n) (columns_from count from) ≡ column 4 (from + n) ++ columns_from (count - suc n) (from + n + 1)
unfolding columns_from
entry n zero from more = absurd (omega arith)
entry zero (suc count) from more =
    let same : from + 0 ≡ from = omega arith in
    let left : suc count - 1 ≡ count = omega arith in
    rw (same, left) refl
entry (suc n) (suc count) from more =
    let far : 4 + 4 * n ≡ 4 * suc n = omega arith in
    let next : from + 1 + n ≡ from + suc n = omega arith in
    let left : suc count - suc (suc n) ≡ count - suc n = omega arith in
    rw (← far, ← drop-drop (4 * n) 4 (column 4 from ++ columns_from count (from + 1)), drop_at (column 4 from) (columns_from count (from + 1)) 4 (column_length 4 from), left, ← next)
    (entry n count (from + 1) (omega arith))

-- the last of four columns
last_columns : (width n : ℕ) (rest : List ℕ) → width ≤ 4 → take width (drop (4 - width) (column 4 n ++ rest)) ≡ column width n
unfolding leading column
last_columns zero n rest few = refl
last_columns (suc zero) n rest few = refl
last_columns (suc (suc zero)) n rest few = refl
last_columns (suc (suc (suc zero))) n rest few = refl
last_columns (suc (suc (suc (suc zero)))) n rest few = refl
last_columns (suc (suc (suc (suc (suc width))))) n rest few = absurd (omega arith)

from_length : (count from : ℕ) → length (columns_from count from) ≡ 4 * count
unfolding columns_from
from_length zero from = refl
from_length (suc count) from = simp (length-append, column_length, from_length count (from + 1)) (omega arith)

module _ (n : ℕ) (octet : n < 256) where
  in_table : drop (4 * n) octet_columns ≡ column 4 n ++ columns_from (256 - suc n) (n + 1)
  unfolding octet_columns
  in_table =
      let same : 0 + n ≡ n = omega arith in
      rw same at (entry n 256 0 octet)

  pub copied : Copied n
  unfolding octet_columns
  copied =
      record {
        columns =
            λ width few.
            let place : 4 * n + (4 - width) ≡ 4 * n + 4 - width = omega arith in
            rw (← place, ← drop-drop (4 - width) (4 * n) octet_columns, in_table) (last_columns width n (columns_from (256 - suc n) (n + 1)) few);
        inside = omega (arith, from_length 256 0);
      }
