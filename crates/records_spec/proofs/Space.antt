-- What may be written has space, and a length octet holds its length: `space_fine`.
-- Assumes nothing.
use mathlib.Core.Path.{◌≡◌, refl}
use mathlib.Core.Bool.{Bool, true, false, cond}
use Prim.Native.Nat.{ℕ, ◌+◌, ◌≤◌}
use native.Mathlib.Omega.{arith}
use lib.Dec.{leb, ltb}
use borrow.Author.Tests.{leb-true, ltb-false}
use Rattle.octets.specs.declared.error.Error.TheVariants.{Eof, RecordLength}
use Rattle.records_spec.specs.Write.{space_in, and_then}
use Rattle.std.specs.Prelude.{Result, Ok, Err}
use Rattle.octets.specs.declared.error.Error.{Error}

pub space_fine : (check : Result (Unit {0}) Error) (n size at : ℕ) → and_then check (space_in n size at) ≡ Ok tt → (check ≡ Ok tt) × (at + (n + 2) ≤ size) × (n + 1 ≤ 255)
space_fine check n size at = go check (leb (at + (n + 2)) size) (ltb 255 (n + 1)) refl refl
  where
    go : (check : Result (Unit {0}) Error) (fits long : Bool) → leb (at + (n + 2)) size ≡ fits → ltb 255 (n + 1) ≡ long
        → and_then check (cond fits (cond long (Err RecordLength) (Ok tt)) (Err Eof)) ≡ Ok tt
        → (check ≡ Ok tt) × (at + (n + 2) ≤ size) × (n + 1 ≤ 255)
    go (Err k) fits long f l e = absurd (let z : ◌≡◌ {A = ℕ} 0 1 = cc in omega arith)
    go (Ok tt) false false f l e = absurd (let z : ◌≡◌ {A = ℕ} 0 1 = cc in omega arith)
    go (Ok tt) false true f l e = absurd (let z : ◌≡◌ {A = ℕ} 0 1 = cc in omega arith)
    go (Ok tt) true true f l e = absurd (let z : ◌≡◌ {A = ℕ} 0 1 = cc in omega arith)
    go (Ok tt) true false f l e = (refl, leb-true _ _ f, ltb-false _ _ l)
