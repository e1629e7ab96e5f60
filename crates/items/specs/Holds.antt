-- Holds (Holding.holds): all laws of this crate, with what they assume.
use Rattle.std.specs.Prelude.{List, ℕ}
use Rattle.items.specs.Item.{Falls, Cut}
use Rattle.items.specs.Examples.{Examples}

pub record Holds : Type 0 where
  pub falls : (n : ℕ) (s : List ℕ) → Falls n s
  pub cut : (n : ℕ) (s : List ℕ) → Cut n s
  pub examples : Examples
