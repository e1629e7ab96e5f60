-- All octets in columns, one after the other, from which the columns of single ones are copied; and what is copied from any table that is lent.
--
--     | 0, in 4 columns | 1, in 4 columns | .. | 255, in 4 columns |
--
--   columns_from count n       == `count` numbers from n on, in four columns each
--   octet_columns              == the octets 0 to 255 so
--   Copied n                  == where the columns of an octet n stand there (Table.copied)
--   entry_octet t n back       == what stands `back` columns before the last one of entry n of a table t; a space before its four
--   octet_from t w n           == the last w columns of entry n
--   octet_like n               == an octet of three digits whose last two are those of n
--   ends_as n                  == an octet that ends as n does; n itself where that is an octet
--   number_from t w n          == n in w columns, an octet at a time
--   octets_from t os out       == each of the octets os in the next four columns of `out`, as far as there are four
--   Octets os              == these are octets
--   Printed                   == from `octet_columns` all this is copied as `column` says (Printed.printed)
use Rattle.std.specs.Prelude.{◌≡◌, ℕ, zero, suc, ◌+◌, ◌-◌, ◌*◌, ◌/◌, ◌%◌, ◌<◌, ◌≤◌, cond, leb, ltb, length, get_or, take, drop}
use mathlib.Core.List.{List, [], ◌∷◌, ◌++◌, map, flatten}
use Rattle.octets.specs.Laws.{Octets}
use Rattle.columns.specs.Column.{column}

unfoldable pub columns_from : ℕ → ℕ → List ℕ
columns_from zero n = []
columns_from (suc count) n = column 4 n ++ columns_from count (n + 1)

unfoldable pub octet_columns : List ℕ
octet_columns = columns_from 256 0

-- Of the four columns of n the last ones are n in fewer columns.
pub record Copied (n : ℕ) : Type 0 where
  pub columns : (width : ℕ) → width ≤ 4 → take width (drop (4 * n + 4 - width) octet_columns) ≡ column width n
  pub inside : 4 * n + 4 ≤ length octet_columns

abbrev pub entry_octet : List ℕ → ℕ → ℕ → ℕ
entry_octet t n back = cond (ltb back 4) (get_or t (4 * n + 3 - back) 0) 32

unfoldable pub octet_from : List ℕ → ℕ → ℕ → List ℕ
octet_from t zero n = []
octet_from t (suc w) n = entry_octet t n w ∷ octet_from t w n

abbrev pub octet_like : ℕ → ℕ
octet_like n = 100 + n % 100

abbrev pub ends_as : ℕ → ℕ
ends_as n = cond (ltb n 256) n (octet_like n)

-- the last two digits, and before them those that are left; an octet is copied whole
unfoldable pub number_from : List ℕ → ℕ → ℕ → List ℕ
number_from t zero n = []
number_from t (suc zero) n = octet_from t 1 (ends_as n)
number_from t (suc (suc w)) n = cond (ltb n 256) (octet_from t (suc (suc w)) (ends_as n)) (number_from t w (n / 100) ++ octet_from t 2 (ends_as n))

unfoldable pub octets_from : List ℕ → List ℕ → List ℕ → List ℕ
octets_from t [] out = out
octets_from t (o ∷ os) out = cond (leb 4 (length out)) (octet_from t 4 o ++ octets_from t os (drop 4 out)) out

pub record Printed : Type 0 where
  pub octet : (w n : ℕ) → n < 256 → octet_from octet_columns w n ≡ column w n
  pub number : (w n : ℕ) → number_from octet_columns w n ≡ column w n
  pub octets : (os out : List ℕ) → Octets os → length out ≡ 4 * length os → octets_from octet_columns os out ≡ flatten (map (column 4) os)
