-- One column is written after the other.
use mathlib.Core.Path.{◌≡◌, ◌∙◌}
use mathlib.Core.List.{List, [], ◌∷◌, append_assoc, append-nil}
use Prim.Native.Nat.{ℕ, ◌+◌, ◌≤◌}
use native.Mathlib.Omega.{arith}
use lib.ListN.{length, set, take, drop, length-append, drop_of_length-le}
use borrow.Rule.Slice.PartMut.{put_mid}
use Rattle.octets.specs.Bytes.{written}
use Rattle.columns.proofs.Widths.{column_length}
use Rattle.columns.specs.Column.{column}
use Rattle.columns.specs.Row.{row_of}
use Rattle.hub_spec.specs.Log.{left_over}
use Rattle.hub_spec.proofs.Pieces.{nothing_yet, then_put, then_octet}
use Rattle.club_spec.specs.Log.{end_widths}
use Rattle.club.proofs.line.put_last.Goals as goal

module _ (turn left : ℕ) where
  abbrev row : List ℕ
  row = row_of end_widths (turn ∷ left_over left ∷ [])

  row_length : length row ≡ 9
  unfolding row_of
  row_length = simp (length-append, column_length)

  -- as the calls write them
  all_columns : (out : List ℕ) {flag : ℕ} {p₁ p₂ : List ℕ} → length out ≡ 9 → flag ≡ left_over left
      → p₁ ≡ column (length (take 6 out)) turn
      → let out₁ = put_mid 0 6 out p₁ in
      p₂ ≡ column (length (take 2 (drop 6 out₁))) flag
      → set (put_mid 6 2 out₁ p₂) 8 10 ≡ row
  unfolding row_of
  all_columns out {flag} room is-flag e₁ e₂ =
      let w₁ = then_put (nothing_yet out 0) (omega arith) 6 turn (omega arith) e₁ in
      let w₂ = then_put w₁ (omega arith) 2 flag (omega arith) e₂ in
      let w₃ = then_octet w₂ (omega arith) 10 (omega arith) in
      let end : length out ≤ 0 + length row = omega (arith, row_length) in
      let whole : _ ≡ written row out 0 = w₃.contents ∙ simp (append_assoc, is-flag) in
      whole ∙ rw (drop_of_length-le out end) (append-nil row)

pub returns : goal.returns
returns c = all_columns c.args.turn c.args.left c.args.out.now c.requires c.left_over.ensures c.put_column.ensures c.put_column-2.ensures
