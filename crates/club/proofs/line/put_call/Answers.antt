use mathlib.Core.Path.{◌≡◌, sym, ◌∙◌}
use mathlib.Core.List.{List, [], ◌∷◌, ◌++◌, append_assoc}
use Prim.Native.Nat.{ℕ, ◌+◌, ◌≤◌}
use native.Mathlib.Omega.{arith}
use lib.ListN.{length, set, length-append}
use Rattle.octets.specs.Bytes.{written, at_front}
use Rattle.columns.proofs.Widths.{column_length}
use Rattle.columns.specs.Column.{column}
use Rattle.columns.specs.Row.{row_of}
use Rattle.hub_spec.proofs.Pieces.{nothing_yet, front_written, then_piece, then_octet}
use Rattle.club.proofs.line.put_call.Goals as goal

-- as the calls write it
whole_row : (first refusal number width : ℕ) (out : List ℕ) {out₁ : List ℕ} {end : ℕ} → width + 6 ≤ length out
    → (end ≡ 2 + 3 + width) × (out₁ ≡ at_front (column 2 first ++ (column 3 refusal ++ column width number)) out)
    → (width + 6 ≡ length (row_of (2 ∷ 3 ∷ width ∷ []) (first ∷ refusal ∷ number ∷ []))) × (set out₁ end 10 ≡ at_front (row_of (2 ∷ 3 ∷ width ∷ []) (first ∷ refusal ∷ number ∷ [])) out)
unfolding row_of
whole_row first refusal number width out room e =
    let front : List ℕ = column 2 first ++ (column 3 refusal ++ column width number) in
    let size : length front ≡ 2 + 3 + width = simp (length-append, column_length) (omega arith) in
    let w₁ = then_piece (nothing_yet out 0) (omega arith) front size (omega (arith, e.0), e.1 ∙ front_written front out) in
    let w₂ = then_octet w₁ (omega (arith, e.0)) 10 (omega (arith, e.0)) in
    let row : List ℕ = row_of (2 ∷ 3 ∷ width ∷ []) (first ∷ refusal ∷ number ∷ []) in
    let whole : _ ≡ written row out 0 = w₂.contents ∙ simp append_assoc in
    (simp (length-append, column_length) (omega arith), whole ∙ sym (front_written row out))

pub returns : goal.returns
returns c =
    let a = c.args in
    whole_row a.first a.refusal a.number a.width a.out.now c.requires c.put_front-end.ensures
