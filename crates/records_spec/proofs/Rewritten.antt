-- What writing the records of an area again gives.
-- Assumes nothing.
use mathlib.Core.Path.{◌≡◌, refl, ap, ◌∙◌}
use mathlib.Core.Bool.{Bool, true, false, cond}
use mathlib.Core.List.{List, [], ◌∷◌, ◌++◌, map, flatten}
use Prim.Native.Nat.{ℕ, zero, suc}
use lib.ListN.{length, get_or, set, take, drop, length-set, length-append, take-append-drop}
use lib.Dec.{eqb}
use Rattle.records_spec.specs.Record.{first}
use Rattle.flags.specs.Flags.{named}
use Rattle.records_spec.specs.Area.{cut, records, clean, rewritten}
use Rattle.records_spec.proofs.Cuts.{Step}

pub clean_length : (r : List ℕ) → length (clean r) ≡ length r
unfolding clean
clean_length r = either (eqb (get_or r 1 0) 1)
  where
    either : (b : Bool) → length (cond b (set r 2 (named (get_or r 2 0))) r) ≡ length r
    either true = length-set r 2 (named (get_or r 2 0))
    either false = refl

pub rewritten_step : {s : List ℕ} {at next : ℕ} → Step s at next → rewritten (drop at s) ≡ clean (first (drop at s)) ++ rewritten (drop next s)
unfolding rewritten flatten
rewritten_step step = rw step.cuts

-- the records tile what is left of the octets
pub tile : (l : List ℕ) (skip : ℕ) → flatten (cut l skip) ≡ drop skip l
unfolding cut flatten first
tile [] zero = refl
tile [] (suc skip) = refl
tile (n ∷ rest) zero = ap (λ (l : List ℕ). n ∷ l) (ap (λ (l : List ℕ). take n rest ++ l) (tile rest n) ∙ take-append-drop n rest)
tile (x ∷ rest) (suc skip) = tile rest skip

cleaned_length : (rs : List (List ℕ)) → length (flatten (map clean rs)) ≡ length (flatten rs)
unfolding flatten
cleaned_length [] = refl
cleaned_length (r ∷ rs) = simp (length-append, clean_length, cleaned_length rs)

pub rewritten_length : (s : List ℕ) → length (rewritten s) ≡ length s
unfolding rewritten
rewritten_length s = cleaned_length (records s) ∙ ap length (tile s 0)
