-- The lines fit, and so do the items.
use Rattle.std.proofs.Common.{◌≡◌, sym, ap, ◌+◌, ◌-◌, ◌≤◌, ℕ, List, length, take, drop, length-take, length-drop, arith, rules}
use lib.Seq.{length-take-le}
use Rattle.club_spec.specs.Log.{items_taken}
use Rattle.club_spec.specs.State.{Club, TakenItems}
use Rattle.club_spec.proofs.Taking.{items_inside, lines_inside}
use Rattle.turnbook.proofs.print.Goals as goal

lines_fit : (k : Club) (s out : List ℕ) (out' : List ℕ) {r : TakenItems} → length out' ≡ length out → r ≡ items_taken k s (length out) → r.written ≤ length out'
lines_fit k s out out' long is = omega (arith, long, ap (λ (r : TakenItems). r.written) is, lines_inside k s (length out))

items_fit : (k : Club) (s out : List ℕ) {r : TakenItems} → r ≡ items_taken k s (length out) → r.taken ≤ length s
items_fit k s out is = omega (arith, ap (λ (r : TakenItems). r.taken) is, items_inside k s (length out))

within : (k : Club) (s out : List ℕ) (at : ℕ) {r : TakenItems} → at ≤ length s → r ≡ items_taken k (take (length s - at) (drop at s)) (length out) → at + r.taken ≤ length s
within k s out at inside is =
    omega (arith, items_fit k (take (length s - at) (drop at s)) out is, length-take (length s - at) (drop at s), length-drop at s)

pub slice_bounds-write_on-end : goal.slice_bounds-write_on-end
slice_bounds-write_on-end g c = lines_fit _ _ c.loop-at.out c.take_items-done.new.out (search rules) c.take_items-done.ensures.0

pub slice_bounds-write_on-end-in-loop-at : goal.slice_bounds-write_on-end-in-loop-at
slice_bounds-write_on-end-in-loop-at g c = sym (length-take-le _ _ (slice_bounds-write_on-end g c))

pub overflow_add-at : goal.overflow_add-at
overflow_add-at g c = omega (arith, within _ c.args.s.now c.loop-at.out c.loop-at.at c.loop-at.invariant c.take_items-done.ensures.0)

pub loop-at-preserved : goal.loop-at-preserved
loop-at-preserved g c = within _ c.args.s.now c.loop-at.out c.loop-at.at c.loop-at.invariant c.take_items-done.ensures.0
