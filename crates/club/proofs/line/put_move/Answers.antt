-- One column is written after the other.
use mathlib.Core.Path.{◌≡◌, refl, sym, ap, ◌∙◌}
use mathlib.Core.List.{List, [], ◌∷◌, ◌++◌, map, flatten, append_assoc}
use Prim.Native.Nat.{ℕ, zero, suc, ◌+◌, ◌-◌, ◌<◌, ◌≤◌}
use native.Mathlib.Omega.{arith}
use lib.ListN.{length, get_or, set, take, drop, replicate, length-append}
use borrow.Author.Rules.{rules}
use borrow.Rule.Slice.PartMut.{put_mid}
use Rattle.octets.proofs.Lists.{all_at}
use Rattle.octets.specs.Bytes.{written, at_front}
use Rattle.columns.proofs.Widths.{column_length}
use Rattle.columns.specs.Column.{column}
use Rattle.columns.specs.Row.{row_of}
use Rattle.columns.specs.Table.{octet_columns, octets_from}
use Rattle.hub_spec.proofs.Pieces.{octets_length, nothing_yet, front_written, then_piece, then_octet, then_octets}
use Rattle.club_spec.specs.Log.{move_widths}
use Rattle.club.proofs.line.put_move.Goals as goal

-- the octets of a move, in four columns each
octets_row : (k : ℕ) (octets : List ℕ) → length octets ≡ k → row_of (replicate k 4) octets ≡ flatten (map (column 4) octets) ++ (10 ∷ [])
unfolding row_of flatten
octets_row zero [] e = refl
octets_row zero (x ∷ octets) e = absurd (omega arith)
octets_row (suc k) [] e = refl
octets_row (suc k) (x ∷ octets) e = rw (octets_row k octets (omega arith)) (sym (append_assoc (column 4 x) (flatten (map (column 4) octets)) (10 ∷ [])))

module _ (first n len : ℕ) (octets : List ℕ) (twenty : length octets ≡ 20) where
  abbrev row : List ℕ
  row = row_of move_widths (first ∷ n ∷ len ∷ octets)

  row_is : row ≡ column 2 first ++ (column 4 n ++ (column 3 len ++ (flatten (map (column 4) octets) ++ (10 ∷ []))))
  unfolding row_of
  row_is = ap (λ (l : List ℕ). column 2 first ++ (column 4 n ++ (column 3 len ++ l))) (octets_row 20 octets twenty)

  row_length : 90 ≡ length row
  row_length = rw row_is (simp (length-append, column_length, octets_length, twenty))

  -- as the calls write them
  all_columns : (out : List ℕ) {out₁ p₂ : List ℕ} {n₁ : ℕ} → ((i : ℕ) → i < length octets → get_or octets i 0 < 256) → 90 ≤ length out
      → (n₁ ≡ 9) × (out₁ ≡ at_front (column 2 first ++ (column 4 n ++ column 3 len)) out)
      → p₂ ≡ octets_from octet_columns octets (take (n₁ + 80 - n₁) (drop n₁ out₁))
      → set (put_mid n₁ (n₁ + 80 - n₁) out₁ p₂) (n₁ + 80) 10 ≡ at_front row out
  all_columns out all fits e₁ e₂ =
      let front : List ℕ = column 2 first ++ (column 4 n ++ column 3 len) in
      let nine : length front ≡ 9 = simp (length-append, column_length) in
      let w₁ = then_piece (nothing_yet out 0) (omega arith) front nine (omega (arith, e₁.0), e₁.1 ∙ front_written front out) in
      let w₂ = then_octets w₁ (omega (arith, e₁.0)) octets 80 (all_at (λ (x : ℕ). x < 256) octets all) (omega (arith, twenty)) (omega (arith, e₁.0)) e₂ in
      let w₃ = then_octet w₂ (omega (arith, e₁.0)) 10 (omega (arith, e₁.0)) in
      let whole : _ ≡ written row out 0 = w₃.contents ∙ rw row_is (simp append_assoc) in
      whole ∙ sym (front_written row out)

pub returns : goal.returns
returns c =
    let a = c.args in
    let octets : List ℕ = a.played.octets in
    let twenty : length octets ≡ 20 = search rules in
    (row_length a.first a.n a.played.len octets twenty, all_columns a.first a.n a.played.len octets twenty a.out.now (λ i inside. search rules) c.requires c.put_front-front.ensures c.put_octets.ensures)
