-- What was read stands after what was left over. Assumes nothing.
use mathlib.Core.Path.{◌≡◌, refl, sym, ap, ◌∙◌}
use mathlib.Core.Bool.{Bool, true, false}
use mathlib.Core.List.{List, ◌++◌}
use Prim.Native.Nat.{ℕ, ◌-◌, ◌≤◌}
use native.Mathlib.Omega.{arith}
use lib.ListN.{length, take, drop, length-take, length-drop, take-append-drop}
use lib.Seq.{take-take}
use lib.Dec.{eqb}
use borrow.Author.Tests.{eq-eqb, ne_eqb, eqb-true, eqb-false}
use Rattle.hub_spec.specs.Log.{octets_left, block_lines, block_of}
use Rattle.hub_spec.specs.Reads.{NextBlock}
use Rattle.hub_spec.specs.State.{Hub, Block}

-- a read that brings nothing, as the code tells it
nothing : (filled kept n : ℕ) → kept ≤ filled → n ≡ filled - kept → eqb filled kept ≡ eqb n 0
nothing filled kept n more is = go (eqb filled kept) refl
  where
    go : (b : Bool) → eqb filled kept ≡ b → b ≡ eqb n 0
    go true e = sym (eq-eqb n 0 (omega (arith, eqb-true filled kept e)))
    go false e = sym (ne_eqb n 0 (λ z. eqb-false filled kept e (omega arith)))

pub read_on : (t : Block) (h : Hub) (buf buf' left out : List ℕ) {kept filled n : ℕ} → take kept buf' ≡ take kept buf → kept ≤ filled → filled ≤ length buf'
    → t ≡ block_of h (take filled buf') (eqb filled kept)
    → left ≡ octets_left h (take filled buf')
    → (n ≡ t.written) × (take n out ≡ block_lines h (take filled buf') (eqb filled kept))
    → NextBlock h (take kept buf) t left out n
read_on t h buf buf' left out {kept} {filled} same more inside is is_left written =
    let read : List ℕ = drop kept (take filled buf') in
    let all : take filled buf' ≡ take kept buf ++ read =
    sym (ap (λ (l : List ℕ). l ++ read) (sym same ∙ sym (take-take kept filled buf' more)) ∙ take-append-drop kept (take filled buf')) in
    let end : eqb filled kept ≡ eqb (length read) 0 = nothing filled kept (length read) more (simp (length-drop, length-take) (omega arith)) in
    record {
      read = read;
      block = is ∙ (λ i. block_of h (all i) (end i));
      left_over_law = is_left ∙ ap (octets_left h) all;
      lines = written.1 ∙ (λ i. block_lines h (all i) (end i));
      written = written.0;
    }
