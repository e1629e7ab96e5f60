-- Octets that are put one after the other: `begun`, `one_more`, `stored`, `record_put`. Assumes nothing.
use mathlib.Core.Path.{◌≡◌, refl, sym, ap, ◌∙◌}
use mathlib.Core.List.{List, [], ◌∷◌, ◌++◌}
use Prim.Native.Nat.{ℕ, suc, ◌+◌, ◌≤◌, ◌<◌}
use native.Mathlib.Omega.{arith}
use lib.ListN.{length, get_or, set, take, length-append, length-set, take-append-drop}
use lib.Seq.{take-suc}
use Rattle.std.proofs.Common.{add-one, length-take-le}
use Rattle.octets.specs.Bytes.{written}
use Rattle.octets.proofs.Laws.{written_keeps, set_written, written_written}
use Rattle.records_spec.specs.Record.{record_of}

pub begun : (out : List ℕ) (at : ℕ) → out ≡ written [] out at
begun out at = let here : at + 0 ≡ at = omega arith in rw here (sym (take-append-drop at out))

-- after i octets, the next one
pub one_more : (xs out₀ : List ℕ) (at i : ℕ) {out : List ℕ} → at + length xs ≤ length out₀ → i < length xs → out ≡ written (take i xs) out₀ at → set out (at + i) (get_or xs i 0) ≡ written (take (i + 1) xs) out₀ at
one_more xs out₀ at i {out} fits inside so_far =
    let size : length (take i xs) ≡ i = length-take-le i xs (omega arith) in
    let long : length out ≡ length out₀ = ap length so_far ∙ (written_keeps (take i xs) out₀ at (omega (arith, size))).as_long in
    let more : take i xs ++ (get_or xs i 0 ∷ []) ≡ take (i + 1) xs = rw add-one (sym (take-suc xs i 0 inside)) in
    let next : at + i ≡ at + length (take i xs) = omega (arith, size) in
    set_written (get_or xs i 0) out (at + i) (omega (arith, long)) ∙ ap (λ (o : List ℕ). written (get_or xs i 0 ∷ []) o (at + i)) so_far
    ∙ written_written (take i xs) (get_or xs i 0 ∷ []) out₀ at (at + i) next (omega arith) ∙ ap (λ (ys : List ℕ). written ys out₀ at) more

-- what stands after two stores
stored : (n ty : ℕ) (out : List ℕ) (at : ℕ) → at + 2 ≤ length out → set (set out at n) (at + 1) ty ≡ written (n ∷ ty ∷ []) out at
stored n ty out at h =
    let first = set_written n out at (omega arith) in
    set_written ty (set out at n) (at + 1) (simp length-set (omega arith)) ∙ ap (λ (l : List ℕ). written (ty ∷ []) l (at + 1)) first ∙ written_written (n ∷ []) (ty ∷ []) out at (at + 1) refl (omega arith)

-- the stores and what is put after them are one record
pub record_put : (len ty : ℕ) (own d out : List ℕ) (at : ℕ) {before after : List ℕ} → at + 2 + length own + length d ≤ length out → len ≡ 1 + length own + length d
    → before ≡ written own (set (set out at len) (at + 1) ty) (at + 2) → after ≡ written d before (at + 2 + length own) → after ≡ written (record_of ty (own ++ d)) out at
unfolding record_of
record_put len ty own d out at {before} {after} fits size put then =
    let one : before ≡ written (len ∷ ty ∷ own) out at =
    put ∙ ap (λ (o : List ℕ). written own o (at + 2)) (stored len ty out at (omega arith)) ∙ written_written (len ∷ ty ∷ []) own out at (at + 2) refl (omega arith) in
    let starts : at + 2 + length own ≡ at + length (len ∷ ty ∷ own) = omega arith in
    let count : len ≡ suc (length (own ++ d)) = rw length-append (omega arith) in
    then ∙ ap (λ (o : List ℕ). written d o (at + 2 + length own)) one ∙ written_written (len ∷ ty ∷ own) d out at (at + 2 + length own) starts (omega arith)
    ∙ ap (λ (n : ℕ). written (n ∷ ty ∷ (own ++ d)) out at) count
