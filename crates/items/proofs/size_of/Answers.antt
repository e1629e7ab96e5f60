use Rattle.std.proofs.Common.{◌≡◌, refl, ap, ◌∙◌, ℕ, ◌+◌, ◌<◌, ◌≤◌, arith, get_or, List, [], ◌∷◌, Option, Some, None, unwrap_or}
use Rattle.std.specs.List.{slice_get}
use Rattle.std.proofs.lemmas.Option.{none-some}
use borrow.Author.Tests.{ne_eqb, lt-ltb, le-ltb}
use Rattle.items.specs.Item.{payload_size, size_of}
use Rattle.items.proofs.size_of.Goals as goal

nothing : (s : List ℕ) → None ≡ slice_get s 0 → None ≡ size_of s
unfolding size_of
nothing [] is = refl
nothing (first ∷ rest) is = absurd (none-some _ is)

other : (s : List ℕ) (first : ℕ) → Some first ≡ slice_get s 0 → 2 < first → None ≡ size_of s
unfolding size_of
other [] first is high = cc
other (x ∷ rest) first is high =
    let same : x ≡ first = cc in
    rw (ne_eqb x 0 (λ e. omega arith), lt-ltb 2 x (omega arith)) refl

tick : (s : List ℕ) (first : ℕ) → Some first ≡ slice_get s 0 → first ≡ 0 → Some 1 ≡ size_of s
unfolding size_of
tick [] first is zero = cc
tick (x ∷ rest) first is zero =
    let same : x ≡ 0 = cc in
    rw same refl

packet : (s : List ℕ) (first h1 : ℕ) → Some first ≡ slice_get s 0 → 0 < first → first ≤ 2 → h1 ≡ get_or s 2 0 → Some (3 + payload_size h1) ≡ size_of s
unfolding size_of
packet [] first h1 is some low second = cc
packet (x ∷ rest) first h1 is some low second =
    let same : x ≡ first = cc in
    rw (ne_eqb x 0 (λ e. omega arith), le-ltb 2 x (omega arith), second) refl

pub returns-in-0 : goal.returns-in-0
returns-in-0 c = tick c.args.s.now _ c.in_ok-first.ensures.value (omega arith)

pub returns-in-1 : goal.returns-in-1
returns-in-1 c =
    let second : c.unwrap_or-h1.result ≡ get_or c.args.s.now 2 0 = c.unwrap_or-h1.ensures ∙ ap (λ (o : Option ℕ). unwrap_or o 0) c.copied.ensures ∙ c.get.ensures.lookup.4 (omega arith) 0 in
    packet c.args.s.now _ _ c.in_ok-first.ensures.value (omega arith) (omega arith) second

pub returns-in_err-first : goal.returns-in_err-first
returns-in_err-first c = rw c.from_residual.ensures (nothing c.args.s.now c.in_err-first.ensures.value)

pub returns-in_default : goal.returns-in_default
returns-in_default c = other c.args.s.now _ c.in_ok-first.ensures.value (omega arith)
