use mathlib.Core.Path.{◌≡◌, refl, sym, ap, ◌∙◌, subst}
use mathlib.Core.List.{List}
use Prim.Native.Nat.{ℕ, ◌+◌, ◌-◌, ◌≤◌}
use native.Mathlib.Omega.{arith}
use lib.ListN.{length, take, drop, length-drop}
use Rattle.std.specs.Prelude.{Option, None, Some}
use Rattle.octets.specs.Bytes.{at_front}
use Rattle.beacon_spec.specs.State.{BeaconScanner}
use Rattle.hub_spec.specs.Log.{scanner_after}
use Rattle.book_spec.specs.State.{Book}
use Rattle.club_spec.specs.Item.{whole_item, IsClubItem}
use Rattle.club_spec.specs.Log.{calls_for, club_line, club_after, item_line, item_taken}
use Rattle.club_spec.specs.State.{Club, TakenItem}
use Rattle.club_spec.proofs.Items.{whole_fits, whole_some, is_item}
use Rattle.club_spec.proofs.Taking.{taken_is, line_is, none_taken, no_line}
use Rattle.club.specs.State.{club_state}
use Rattle.club.proofs.Answering.{Answered}
use Rattle.club.proofs.log.take_at.Goals as goal

module _ (k : Club) (l : List ℕ) (out : List ℕ) where
  -- what the contract says
  Takes : Option TakenItem → List ℕ → Type 0
  Takes r out' = (r ≡ item_taken k l) × (out' ≡ at_front (item_line k l) out)

  none : whole_item l ≡ None → Takes None out
  unfolding Takes
  none is = rw (none_taken k l is, no_line k l is) (refl, refl)

  one : {size : ℕ} → whole_item l ≡ Some size → {b' : Book} {s' : BeaconScanner} {item out' : List ℕ} {n : ℕ} → item ≡ take size l
      → Answered k.book (calls_for k.scanner item) item b' n out' out → s' ≡ scanner_after k.scanner item
      → Takes (Some (record { club = record { book = b'; scanner = s' }; size = size; written = n })) out'
  unfolding Takes club_after club_line
  one {size} some {b'} {s'} {item} {out'} {n} is answers listens =
      let a = subst (λ (it : List ℕ). Answered k.book (calls_for k.scanner it) it b' n out' out) is answers in
      let s = listens ∙ ap (scanner_after k.scanner) is in
      ((λ i. Some (record { club = record { book = a.0 i; scanner = s i }; size = size; written = a.1.0 i })) ∙ sym (taken_is k l some), a.1.1 ∙ ap (λ (x : List ℕ). at_front x out) (sym (line_is k l some)))

-- the item as the code lends it
within : (s : List ℕ) (from : ℕ) {size : ℕ} → whole_item (drop from s) ≡ Some size → from + size ≤ length s
within s from is = omega (arith, whole_fits (drop from s) is, whole_some (drop from s) is, length-drop from s)

lent : (s : List ℕ) (from size : ℕ) → take (from + size - from) (drop from s) ≡ take size (drop from s)
lent s from size =
    let width : from + size - from ≡ size = omega arith in
    ap (λ (n : ℕ). take n (drop from s)) width

pub returns-in_err-size : goal.returns-in_err-size
unfolding Takes
returns-in_err-size c =
    let a = c.args in
    rw c.from_residual.ensures (none (club_state a.club) (drop a.from a.s.now) a.out.now (sym c.in_err-size.ensures))

pub overflow_add-item : goal.overflow_add-item
overflow_add-item c = omega (arith, within c.args.s.now c.args.from (sym c.in_ok-size.ensures))

pub slice_bounds-item-end : goal.slice_bounds-item-end
slice_bounds-item-end c = within c.args.s.now c.args.from (sym c.in_ok-size.ensures)

pub answer-answered-requires : goal.answer-answered-requires
answer-answered-requires c =
    let a = c.args in
    (subst IsClubItem (sym (lent a.s.now a.from c.in_ok-size.size)) (is_item _ (sym c.in_ok-size.ensures)), c.requires)

pub returns : goal.returns
unfolding Takes
returns c =
    let a = c.args in
    one (club_state a.club) (drop a.from a.s.now) a.out.now (sym c.in_ok-size.ensures) (lent a.s.now a.from c.in_ok-size.size) c.answer-answered.ensures c.listen-scanner.ensures
