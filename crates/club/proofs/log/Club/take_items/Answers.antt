use mathlib.Core.Path.{◌≡◌, sym, ap, ◌∙◌}
use mathlib.Core.List.{List, []}
use Prim.Native.Nat.{ℕ, ◌+◌, ◌-◌, ◌<◌, ◌≤◌}
use native.Mathlib.Omega.{arith}
use lib.ListN.{length, take, drop}
use borrow.Rule.Slice.PartMut.{put_mid}
use mathlib.Core.Logic.{⊎_elim}
use Rattle.std.specs.Prelude.{None, Some}
use Rattle.std.proofs.lemmas.Option.{none-some, same_Some}
use Rattle.octets.specs.Bytes.{written, at_front}
use Rattle.hub_spec.proofs.Pieces.{nothing_yet, tail_written}
use Rattle.club_spec.specs.Item.{whole_item}
use Rattle.club_spec.specs.Log.{item_line, item_taken}
use Rattle.club_spec.specs.State.{Club, TakenItem}
use Rattle.club_spec.proofs.Items.{at_front_law, whole_some}
use Rattle.club_spec.proofs.Taking.{no_room, no_item, taken_is, none_taken, no_line}
use Rattle.club.proofs.Progress.{Progress, begins, long_out, advance, finish}
use Rattle.club.proofs.log.Club.take_items.Goals as goal

-- what is taken, or none, is a whole item
some_item : (k : Club) (l : List ℕ) {r : TakenItem} → Some r ≡ item_taken k l → (size : ℕ) × (whole_item l ≡ Some size)
some_item k l {r} is =
    ⊎_elim
    (λ none. absurd (none-some r (sym (is ∙ none_taken k l none))))
    (λ item. item)
    (at_front_law l)

nothing : (k : Club) (l : List ℕ) → None ≡ item_taken k l → whole_item l ≡ None
nothing k l is =
    ⊎_elim
    (λ none. none)
    (λ item. absurd (none-some _ (is ∙ taken_is k l item.1)))
    (at_front_law l)

taken_some : (k : Club) (l : List ℕ) {r : TakenItem} → Some r ≡ item_taken k l → 0 < r.size
taken_some k l {r} is =
    let item = some_item k l is in
    let same = same_Some _ _ (is ∙ taken_is k l item.1) in
    rw same (whole_some l item.1)

-- the progress after an item
after : {k : Club} {s out₀ out : List ℕ} {k' : Club} {at to : ℕ} → Progress k s out₀ out k' at to → {r : TakenItem} {part : List ℕ} → 90 ≤ length out - to
    → (Some r ≡ item_taken k' (drop at s)) × (part ≡ at_front (item_line k' (drop at s)) (take (length out - to) (drop to out)))
    → Progress k s out₀ (put_mid to (length out - to) out part) r.club (at + r.size) (to + r.written)
after {k} {s} {out₀} {out} {k'} {at} {to} p enough e =
    let item = some_item k' (drop at s) e.0 in
    advance p item.0 item.1 (omega (arith, enough, long_out p)) e.0 e.1

pub loop-out-init : goal.loop-out-init
loop-out-init c = begins _ _ _

pub loop-out-preserved : goal.loop-out-preserved
loop-out-preserved c = after c.loop-out.invariant c.loop-out-test.true c.in-Some.ensures

less : (n at size : ℕ) → 0 < size → at + size ≤ n → n - (at + size) < n - at
less n at size some inside = omega arith

pub overflow_add-at : goal.overflow_add-at
overflow_add-at c = let p = after c.loop-out.invariant c.loop-out-test.true c.in-Some.ensures in omega (arith, p.inside)

pub overflow_add-written : goal.overflow_add-written
overflow_add-written c = let p = after c.loop-out.invariant c.loop-out-test.true c.in-Some.ensures in omega (arith, p.within)

pub loop-out-smaller : goal.loop-out-smaller
loop-out-smaller c =
    let p = after c.loop-out.invariant c.loop-out-test.true c.in-Some.ensures in
    less _ _ _ (taken_some _ _ c.in-Some.ensures.0) p.inside

-- no line is written
nothing_written : (out : List ℕ) (to : ℕ) {xs part : List ℕ} → to ≤ length out → part ≡ at_front xs (take (length out - to) (drop to out)) → xs ≡ []
    → put_mid to (length out - to) out part ≡ out
nothing_written out to {xs} inside is none = tail_written xs out to inside is ∙ ap (λ (l : List ℕ). written l out to) none ∙ sym (nothing_yet out to).contents

pub returns-in_default : goal.returns-in_default
returns-in_default c =
    let p = c.loop-out.invariant in
    let e = c.in_default.ensures in
    let none = nothing _ _ e.0 in
    let done = finish p (no_item _ _ _ _ none) in
    (done.0, nothing_written c.loop-out.out c.loop-out.written (omega (arith, p.within, long_out p)) e.1 (no_line _ _ none) ∙ done.1)

pub returns-after-loop-out : goal.returns-after-loop-out
returns-after-loop-out c =
    let p = c.loop-out.invariant in
    finish p (no_room _ _ _ _ (omega (arith, c.loop-out-test.false, long_out p)))
