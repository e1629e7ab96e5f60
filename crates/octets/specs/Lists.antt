-- Of any list: whether each of its members is as a statement says, and the sum of its numbers.
--   All P xs  == P holds of each of xs
--   total ns  == the sum of these numbers
use Rattle.std.specs.Prelude.{ℕ, ◌+◌, List, [], ◌∷◌}

abbrev pub All : {A : Type 0} → (A → Type 0) → List A → Type 0
All P [] = Unit {0}
All P (x ∷ xs) = P x × All P xs

abbrev pub total : List ℕ → ℕ
total [] = 0
total (n ∷ ns) = n + total ns
