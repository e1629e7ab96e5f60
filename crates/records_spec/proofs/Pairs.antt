-- Data that begin with a number of two octets: `number_is`.
-- Assumes nothing.
use mathlib.Core.Path.{◌≡◌}
use mathlib.Core.List.{List, [], ◌∷◌}
use Prim.Native.Nat.{ℕ, ◌+◌, ◌-◌, ◌≤◌}
use lib.ListN.{length, get_or}
use borrow.Author.Tests.{le-ltb}
use Rattle.octets.specs.Bytes.{le}
use Rattle.octets.proofs.Places.{part_octets}
use Rattle.records_spec.specs.Record.{number_read}
use Rattle.std.specs.Prelude.{Ok}

pub number_is : (d : List ℕ) (start : ℕ) {v : ℕ} → 2 ≤ length d → v ≡ le (get_or d 0 0 ∷ get_or d 1 0 ∷ []) → Ok (v, record { start = start + 2; len = length d - 2 }) ≡ number_read d start
unfolding number_read
number_is d start two is = rw (le-ltb (length d) 2 two, part_octets 1 d 0 two, is)
