-- What is read where data passed a check, or did not. Assumes nothing.
use mathlib.Core.Bool.{Bool, true, false, cond}
use mathlib.Core.Path.{◌≡◌, refl}
use Prim.Native.Nat.{ℕ}
use native.Mathlib.Omega.{arith}
use Rattle.octets.specs.declared.error.Error.{Error}
use Rattle.std.specs.Prelude.{Result, Ok, Err}

pub passed : {A : Type 0} (b : Bool) (x : A) (e : Error) → Ok tt ≡ cond {A = Result (Unit {0}) Error} b (Ok tt) (Err e) → Ok x ≡ cond {A = Result A Error} b (Ok x) (Err e)
passed true x e is = refl
passed false x e is = absurd (let z : ◌≡◌ {A = ℕ} 0 1 = cc in omega arith)

pub refused : {A : Type 0} (b : Bool) (x : A) (e : Error) {k : Error} → Err k ≡ cond {A = Result (Unit {0}) Error} b (Ok tt) (Err e) → Err k ≡ cond {A = Result A Error} b (Ok x) (Err e)
refused true x e is = absurd (let z : ◌≡◌ {A = ℕ} 0 1 = cc in omega arith)
refused false x e {k} is = let same : k ≡ e = cc in rw same
