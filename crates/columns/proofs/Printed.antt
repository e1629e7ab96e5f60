-- What is copied from the table of all octets is as `column` says: `printed`. Assumes nothing.
use mathlib.Core.Path.{◌≡◌, refl, sym, ap, ◌∙◌}
use mathlib.Core.Bool.{Bool, true, false, cond}
use mathlib.Core.List.{List, [], ◌∷◌, ◌++◌, append_assoc, map, flatten}
use Prim.Native.Nat.{ℕ, zero, suc, ◌+◌, ◌-◌, ◌*◌, ◌/◌, ◌%◌, ◌<◌, ◌≤◌}
use native.Mathlib.Omega.{arith}
use lib.Dec.{ltb}
use lib.ListN.{length, get_or, take, drop, replicate, length-drop}
use lib.Seq.{drop-cons}
use borrow.Author.Tests.{lt-ltb, le-ltb, le-leb, ltb-true, ltb-false}
use Rattle.octets.specs.Laws.{Octets}
use Rattle.columns.specs.Column.{leading, column}
use Rattle.columns.specs.Table.{octet_columns, octet_from, octet_like, number_from, octets_from, Printed}
use Rattle.columns.proofs.Pairs.{leading_some, pair_same, column_pair}
use Rattle.columns.proofs.Justified.{leading_blank}
use Rattle.columns.proofs.Table.{copied}

pub octet_length : (t : List ℕ) (w n : ℕ) → length (octet_from t w n) ≡ w
unfolding octet_from
octet_length t zero n = refl
octet_length t (suc w) n = ap suc (octet_length t w n)

-- up to four columns are the end of an entry
few_columns : (t : List ℕ) (w n : ℕ) → w ≤ 4 → 4 * n + 4 ≤ length t → octet_from t w n ≡ take w (drop (4 * n + 4 - w) t)
unfolding octet_from
few_columns t zero n few there = refl
few_columns t (suc w) n few there =
    let place : 4 * n + 4 - suc w ≡ 4 * n + 3 - w = omega arith in
    let next : suc (4 * n + 3 - w) ≡ 4 * n + 4 - w = omega arith in
    let inside : 4 * n + 3 - w < length t = omega arith in
    rw (place, drop-cons t (4 * n + 3 - w) 0 inside, next, lt-ltb w 4 (omega arith))
    (ap (λ (l : List ℕ). get_or t (4 * n + 3 - w) 0 ∷ l) (few_columns t w n (omega arith) there))

-- before them stand spaces
more_columns : (t : List ℕ) (k n : ℕ) → octet_from t (suc (suc (suc (suc k)))) n ≡ replicate k 32 ++ octet_from t 4 n
unfolding octet_from
more_columns t zero n = refl
more_columns t (suc k) n = rw (le-ltb (suc (suc (suc (suc k)))) 4 (omega arith)) (ap (λ (l : List ℕ). 32 ∷ l) (more_columns t k n))

octet_blank : (k n : ℕ) → n < 256 → column (suc (suc (suc (suc k)))) n ≡ replicate k 32 ++ column 4 n
unfolding column leading
octet_blank k n small =
    let none_left : n / 10 / 10 / 10 / 10 ≡ 0 = omega arith in
    rw (none_left, leading_blank k) (simp append_assoc)

pub octet : (w n : ℕ) → n < 256 → octet_from octet_columns w n ≡ column w n
octet w n small = go (ltb 4 w) refl
  where
    go : (b : Bool) → ltb 4 w ≡ b → octet_from octet_columns w n ≡ column w n
    go false e =
        few_columns octet_columns w n (ltb-false 4 w e) (copied n small).inside ∙ (copied n small).columns w (ltb-false 4 w e)
    go true e =
        let more : w ≡ suc (suc (suc (suc (w - 4)))) = omega (arith, ltb-true 4 w e) in
        let four : octet_from octet_columns 4 n ≡ column 4 n = few_columns octet_columns 4 n (omega arith) (copied n small).inside ∙ (copied n small).columns 4 (omega arith) in
        ap (λ (k : ℕ). octet_from octet_columns k n) more
        ∙ more_columns octet_columns (w - 4) n
        ∙ ap (λ (l : List ℕ). replicate (w - 4) 32 ++ l) four
        ∙ sym (octet_blank (w - 4) n small)
        ∙ ap (λ (k : ℕ). column k n) (sym more)

one_column : (n : ℕ) (b : Bool) → ltb n 256 ≡ b → octet_from octet_columns 1 (cond b n (octet_like n)) ≡ column 1 n
unfolding leading column
one_column n true e = octet 1 n (ltb-true n 256 e)
one_column n false e =
    let same : octet_like n % 10 ≡ n % 10 = omega arith in
    octet 1 (octet_like n) (omega arith) ∙ ap (λ (d : ℕ). (48 + d) ∷ []) same

two_columns : (w n : ℕ) → number_from octet_columns w (n / 100) ≡ column w (n / 100) → (b : Bool) → ltb n 256 ≡ b
    → cond b (octet_from octet_columns (suc (suc w)) (cond b n (octet_like n))) (number_from octet_columns w (n / 100) ++ octet_from octet_columns 2 (cond b n (octet_like n))) ≡ column (suc (suc w)) n
two_columns w n front true e = octet (suc (suc w)) n (ltb-true n 256 e)
two_columns w n front false e =
    let many : 256 ≤ n = ltb-false n 256 e in
    let two : octet_from octet_columns 2 (octet_like n) ≡ column 2 n = octet 2 (octet_like n) (omega arith) ∙ pair_same n (omega arith) in
    rw (front, two, column_pair w n, leading_some w (n / 100) (λ z. omega arith))

number : (w n : ℕ) → number_from octet_columns w n ≡ column w n
unfolding number_from column
number zero n = refl
number (suc zero) n = one_column n (ltb n 256) refl
number (suc (suc w)) n = two_columns w n (number w (n / 100)) (ltb n 256) refl

octets : (os out : List ℕ) → Octets os → length out ≡ 4 * length os → octets_from octet_columns os out ≡ flatten (map (column 4) os)
unfolding octets_from flatten
octets [] [] all long = refl
octets [] (x ∷ out) all long = absurd (omega arith)
octets (o ∷ os) out all long =
    let rest : length (drop 4 out) ≡ 4 * length os = rw length-drop (omega arith) in
    rw (le-leb 4 (length out) (omega arith), octet 4 o all.0, octets os (drop 4 out) all.1 rest)

pub printed : Printed
printed = record { octet = octet; number = number; octets = octets }
