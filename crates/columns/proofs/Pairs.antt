-- Columns two by two: a number in columns is what stands before its last two digits, and these. Assumes nothing.
use mathlib.Core.Path.{◌≡◌, refl}
use mathlib.Core.List.{[], ◌∷◌, ◌++◌, append_assoc}
use Prim.Native.Nat.{ℕ, zero, suc, ◌+◌, ◌/◌, ◌%◌, ◌≤◌}
use native.Mathlib.Omega.{arith}
use borrow.Author.Tests.{ne_eqb}
use Rattle.columns.specs.Column.{leading_octet, leading, column}
use Rattle.columns.specs.Table.{octet_like}

pub column_pair : (w n : ℕ) → column (suc (suc w)) n ≡ leading w (n / 100) ++ column 2 n
unfolding leading column
column_pair w n =
    let left : n / 10 / 10 ≡ n / 100 = omega arith in
    rw left (append_assoc (leading w (n / 100)) (leading_octet (n / 10) ∷ []) ((48 + n % 10) ∷ []))

-- a number that is not 0 has no blank last column
pub leading_some : (w n : ℕ) → (n ≡ 0 → ⊥) → leading w n ≡ column w n
unfolding leading column
leading_some zero n some = refl
leading_some (suc w) n some = rw (ne_eqb n 0 some)

-- the last two columns of a number from 100 on are those of another
pub pair_same : (n : ℕ) → 100 ≤ n → column 2 (octet_like n) ≡ column 2 n
unfolding leading column
pair_same n many =
    let tens : octet_like n / 10 % 10 ≡ n / 10 % 10 = omega arith in
    let ones : octet_like n % 10 ≡ n % 10 = omega arith in
    rw (ne_eqb (octet_like n / 10) 0 (λ e. omega arith), ne_eqb (n / 10) 0 (λ e. omega arith), tens, ones)
