-- Laws of lists that several proofs cite.
-- Assumes nothing.
use mathlib.Core.Path.{◌≡◌, refl, ap}
use mathlib.Core.List.{List, [], ◌∷◌}
use Prim.Native.Nat.{ℕ, zero, suc}
use lib.ListN.{length, take, drop}

-- a part that is cut short leaves the same after it
pub drop_length_take : (n : ℕ) (l : List ℕ) → drop (length (take n l)) l ≡ drop n l
drop_length_take zero l = refl
drop_length_take (suc n) [] = refl
drop_length_take (suc n) (x ∷ l) = drop_length_take n l

pub take_length_take : (n : ℕ) (l : List ℕ) → take (length (take n l)) l ≡ take n l
take_length_take zero l = refl
take_length_take (suc n) [] = refl
take_length_take (suc n) (x ∷ l) = ap (λ (r : List ℕ). x ∷ r) (take_length_take n l)
