-- Holds (Holding.holds): all laws of this crate, with what they assume.
use Rattle.std.specs.Prelude.{List, ℕ}
use Rattle.utf8.specs.Utf8.{Utf8Is}
use Rattle.utf8.specs.Encoding.{Utf8Encodes}
use Rattle.utf8.specs.Examples.{Examples}

pub record Holds : Type 0 where
  pub utf8_is : (s : List ℕ) → Utf8Is s
  pub utf8_encodes : (s : List ℕ) → Utf8Encodes s
  pub examples : Examples
