-- One column is written after the other.
use Rattle.std.proofs.Common.{◌≡◌, ◌∙◌, List, append_assoc, ℕ, ◌+◌, ◌≤◌, arith, length, take, drop}
use mathlib.Core.List.{append-nil}
use lib.ListN.{set, drop_of_length-le}
use borrow.Rule.Slice.PartMut.{put_mid}
use Rattle.octets.specs.Bytes.{written}
use Rattle.columns.specs.Column.{column}
use Rattle.hub_spec.specs.Line.{last_size}
use Rattle.hub_spec.specs.Log.{left_over, last_line}
use Rattle.hub_spec.specs.State.{Hub}
use Rattle.hub_spec.proofs.Pieces.{last_length, nothing_yet, then_put, then_octet}
use Rattle.hub.specs.State.{hub_state}
use Rattle.hub.proofs.log.put_last_line.Goals as goal

-- as the calls write them
all_columns : (h : Hub) (kept : ℕ) (out : List ℕ) {flag : ℕ} {p₁ p₂ p₃ : List ℕ} → length out ≡ last_size → flag ≡ left_over kept
    → p₁ ≡ column (length (take 6 out)) h.items
    → let out₁ = put_mid 0 6 out p₁ in
    p₂ ≡ column (length (take 6 (drop 6 out₁))) h.reports
    → let out₂ = put_mid 6 6 out₁ p₂ in
    p₃ ≡ column (length (take 2 (drop 12 out₂))) flag
    → set (put_mid 12 2 out₂ p₃) 14 10 ≡ last_line h kept
unfolding last_line
all_columns h kept out {flag} room is-flag e₁ e₂ e₃ =
    let w₁ = then_put (nothing_yet out 0) (omega arith) 6 h.items (omega arith) e₁ in
    let w₂ = then_put w₁ (omega arith) 6 h.reports (omega arith) e₂ in
    let w₃ = then_put w₂ (omega arith) 2 flag (omega arith) e₃ in
    let w₄ = then_octet w₃ (omega arith) 10 (omega arith) in
    let end : length out ≤ 0 + length (last_line h kept) = omega (arith, last_length h kept) in
    let whole : _ ≡ written (last_line h kept) out 0 = w₄.contents ∙ simp (append_assoc, is-flag) in
    whole ∙ rw (drop_of_length-le out end) (append-nil (last_line h kept))

pub returns : goal.returns
returns c =
    all_columns (hub_state c.args.hub) c.args.kept c.args.out.now c.requires c.left_over.ensures c.put_column.ensures c.put_column-2.ensures c.put_column-3.ensures
