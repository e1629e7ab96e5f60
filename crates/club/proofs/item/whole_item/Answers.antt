-- At each `return` the tests that led there say which case of `club_size` holds.
use mathlib.Core.Path.{◌≡◌, refl, sym, ◌∙◌}
use Rattle.std.specs.Prelude.{Option, None, Some}
use mathlib.Core.List.{List}
use Prim.Native.Nat.{ℕ, ◌+◌, ◌-◌, ◌<◌, ◌≤◌}
use lib.ListN.{length, get_or, drop, length-drop, drop_of_length-le}
use Rattle.octets.proofs.Places.{front}
use Rattle.items.specs.Item.{whole_size}
use Rattle.club_spec.specs.Item.{own_size, club_size, whole_item}
use Rattle.club_spec.proofs.Items.{whole_is, whole_not, heard_size, own_is}
use Rattle.club.proofs.item.whole_item.Goals as goal

module _ (s : List ℕ) (at : ℕ) where
  at_end : length s ≤ at → None ≡ whole_item (drop at s)
  unfolding whole_item club_size
  at_end end = rw (drop_of_length-le s end)

  hub_item : {n : Option ℕ} → at < length s → get_or s at 0 ≤ 2 → n ≡ whole_size (drop at s) → n ≡ whole_item (drop at s)
  hub_item inside low is = is ∙ rw (front s at inside) (sym (heard_size (get_or s at 0) (drop (at + 1) s) low))

  own : at < length s → 2 < get_or s at 0 → club_size (drop at s) ≡ own_size (get_or s at 0)
  own inside high = rw (front s at inside) (own_is (get_or s at 0) (drop (at + 1) s) high)

  fits : {n : ℕ} → at < length s → 2 < get_or s at 0 → Some n ≡ own_size (get_or s at 0) → n ≤ length s - at → Some n ≡ whole_item (drop at s)
  fits inside high is room = sym (whole_is (drop at s) (own inside high ∙ sym is) (rw length-drop room))

  cut_short : {n : ℕ} → at < length s → 2 < get_or s at 0 → Some n ≡ own_size (get_or s at 0) → length s - at < n → None ≡ whole_item (drop at s)
  cut_short inside high is room = sym (whole_not (drop at s) (own inside high ∙ sym is) (rw length-drop room))

  none : at < length s → 2 < get_or s at 0 → None ≡ own_size (get_or s at 0) → None ≡ whole_item (drop at s)
  unfolding whole_item
  none inside high is = rw (own inside high, ← is) refl

pub returns-then-s-at : goal.returns-then-s-at
returns-then-s-at c = at_end _ _ c.if-s-at.true

pub returns-then-s-at-le-CRC_BAD : goal.returns-then-s-at-le-CRC_BAD
returns-then-s-at-le-CRC_BAD c = hub_item _ _ c.if-s-at.false c.if-s-at-le-CRC_BAD.true c.whole_size.ensures

pub returns-in_err-size : goal.returns-in_err-size
returns-in_err-size c = rw c.from_residual.ensures (none c.args.s.now c.args.at c.if-s-at.false c.if-s-at-le-CRC_BAD.false c.in_err-size.ensures)

pub returns-then-size-s : goal.returns-then-size-s
returns-then-size-s c = fits _ _ c.if-s-at.false c.if-s-at-le-CRC_BAD.false c.in_ok-size.ensures c.if-size-s.true

pub returns-else-size-s : goal.returns-else-size-s
returns-else-size-s c = cut_short _ _ c.if-s-at.false c.if-s-at-le-CRC_BAD.false c.in_ok-size.ensures c.if-size-s.false
