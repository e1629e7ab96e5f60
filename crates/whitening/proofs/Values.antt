-- A test of each of the numbers below n, in one computed equation: that two values are the same, `values_all`, or that one is small, `values_small`. Assumes nothing.
use mathlib.Core.Path.{◌≡◌, ap}
use mathlib.Core.List.{List, [], ◌∷◌}
use Prim.Native.Nat.{ℕ, zero, suc, ◌<◌}
use native.Mathlib.Omega.{arith}
use borrow.Author.Count.{below_more}
use borrow.Author.Tests.{ltb-true}
use lib.Dec.{ltb}
use lib.ListN.{get_or, drop}
use Rattle.channels.specs.Count.{count}
use Rattle.channels.proofs.Counting.{count_all}

module _ {A : Type 0} where
  -- the values at the numbers below n, the highest first
  unfoldable pub values : (ℕ → A) → ℕ → List A
  values f zero = []
  values f (suc n) = f n ∷ values f n

  pub values_all : (f g : ℕ → A) (n : ℕ) → values f n ≡ values g n → (i : ℕ) → i < n → f i ≡ g i
  unfolding values
  values_all f g zero e i h = absurd (omega arith)
  values_all f g (suc n) e i h =
      below_more (λ (k : ℕ). f k ≡ g k) n (values_all f g n (ap (drop 1) e)) (ap (λ (l : List A). get_or l 0 (f n)) e) i (omega arith)

pub values_small : (f : ℕ → ℕ) (bound n : ℕ) → count (λ (k : ℕ). ltb (f k) bound) n ≡ n → (i : ℕ) → i < n → f i < bound
values_small f bound n e i h = ltb-true (f i) bound (count_all (λ (k : ℕ). ltb (f k) bound) n e i h)
