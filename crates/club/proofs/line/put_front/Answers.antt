-- One column is written after the other.
use mathlib.Core.Path.{◌≡◌, refl, ◌∙◌}
use mathlib.Core.List.{List, ◌++◌, append_assoc}
use Prim.Native.Nat.{ℕ, ◌+◌, ◌-◌, ◌≤◌}
use native.Mathlib.Omega.{arith}
use lib.ListN.{length, take, drop}
use borrow.Rule.Slice.PartMut.{put_mid}
use Rattle.octets.specs.Bytes.{written, at_front}
use Rattle.columns.specs.Column.{column}
use Rattle.hub_spec.proofs.Pieces.{nothing_yet, then_put}
use Rattle.club.proofs.line.put_front.Goals as goal

module _ (first a wide b width : ℕ) where
  abbrev front : List ℕ
  front = column 2 first ++ (column wide a ++ column width b)

  -- as the calls write them
  all_columns : (out : List ℕ) {p₁ p₂ p₃ : List ℕ} → 2 + wide + width ≤ length out
      → p₁ ≡ column (length (take 2 out)) first
      → let out₁ = put_mid 0 2 out p₁ in
      p₂ ≡ column (length (take (2 + wide - 2) (drop 2 out₁))) a
      → let out₂ = put_mid 2 (2 + wide - 2) out₁ p₂ in
      p₃ ≡ column (length (take (2 + wide + width - (2 + wide)) (drop (2 + wide) out₂))) b
      → put_mid (2 + wide) (2 + wide + width - (2 + wide)) out₂ p₃ ≡ at_front front out
  all_columns out fits e₁ e₂ e₃ =
      let w₁ = then_put (nothing_yet out 0) (omega arith) 2 first (omega arith) e₁ in
      let w₂ = then_put w₁ (omega arith) wide a (omega arith) e₂ in
      let w₃ = then_put w₂ (omega arith) width b (omega arith) e₃ in
      let start : 0 + length front ≡ length front = omega arith in
      let whole : _ ≡ written front out 0 = w₃.contents ∙ simp append_assoc in
      whole ∙ rw start

pub returns : goal.returns
returns c =
    let a = c.args in
    (refl, all_columns a.first a.a a.wide a.b a.width a.out.now c.requires c.put_octet.ensures c.put_column.ensures c.put_column-2.ensures)
