-- Holds (Holding.holds): all laws of this crate, with what they assume.
use Rattle.std.specs.Prelude.{List, ℕ, ◌<◌}
use Rattle.columns.specs.Column.{Decimal, Justified}
use Rattle.columns.specs.Row.{Row}
use Rattle.columns.specs.Table.{Copied, Printed}
use Rattle.columns.specs.Examples.{Examples}

pub record Holds : Type 0 where
  pub decimal : (k n : ℕ) → Decimal k n
  pub justified : (w n : ℕ) → Justified w n
  pub row : (ws ns : List ℕ) → Row ws ns
  pub copied : (n : ℕ) → n < 256 → Copied n
  pub printed : Printed
  pub examples : Examples
