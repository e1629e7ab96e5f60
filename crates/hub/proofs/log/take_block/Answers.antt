-- What is left over of the octets is what the items do not take, and the last line stands after their lines.
use Rattle.std.proofs.Common.{◌≡◌, refl, sym, ap, ◌∙◌, Bool, cond, ◌||◌, List, [], ◌++◌, ℕ, ◌+◌, ◌-◌, ◌≤◌, arith, length, take, drop, length-append, length-drop}
use lib.ListN.{length-take}
use Rattle.std.specs.List.{copy_within}
use Rattle.octets.specs.Bytes.{written, at_front}
use Rattle.items.specs.Item.{after_items}
use Rattle.hub_spec.specs.Line.{last_size, room_for}
use Rattle.hub_spec.specs.Log.{most_items, items_for, lines_of, hub_of, octets_left, last_line, is_stuck, logged_of, is_last, block_lines, block_of, rest_in, lines_in}
use Rattle.hub_spec.specs.State.{Hub, Logged}
use Rattle.items.proofs.Items.{items_fit}
use Rattle.hub_spec.proofs.AnyReads.{lines_room}
use Rattle.hub_spec.proofs.Pieces.{Wrote, as_long, then_piece}
use Rattle.hub.specs.State.{hub_state, logged_step}
use Rattle.hub.proofs.log.take_block.Goals as goal
use Rattle.octets.proofs.Places.{drop_take}

module _ (h : Hub) (buf : List ℕ) (filled : ℕ) (g : Logged) (inside : filled ≤ length buf) (is : g ≡ logged_of h (take filled buf)) where
  filled_long : length (take filled buf) ≡ filled
  filled_long = simp length-take (omega arith)

  taken_short : g.taken ≤ filled
  taken_short = omega (arith, ap (λ (x : Logged). x.taken) is, items_fit (most_items - h.items) (take filled buf), filled_long)

  -- as the code lends it
  left : List ℕ
  left = take (filled - g.taken) (drop g.taken buf)

  left_over : left ≡ octets_left h (take filled buf)
  unfolding left after_items
  left_over = sym (drop_take g.taken filled buf) ∙ ap (λ (x : Logged). drop x.taken (take filled buf)) is

  left_long : filled - g.taken ≡ length (octets_left h (take filled buf))
  unfolding left
  left_long = sym (simp (length-take, length-drop) (omega arith)) ∙ ap length left_over

  -- the lines of the items, and then the last line or nothing
  module _ (out₀ : List ℕ) {out : List ℕ} (is-out : out ≡ lines_in h (take filled buf) out₀) (enough : room_for filled + last_size ≤ length out₀) where
    lines_fit : length (lines_of h (take filled buf)) ≤ room_for filled
    lines_fit = omega (arith, lines_room h (items_for h (take filled buf)), items_fit (most_items - h.items) (take filled buf), filled_long)

    wrote : Wrote out₀ 0 (lines_of h (take filled buf)) out (length (lines_of h (take filled buf)))
    wrote =
        let place : 0 + length (lines_of h (take filled buf)) ≡ length (lines_of h (take filled buf)) = omega arith in
        record { size = sym place; contents = is-out ∙ rw place refl }

    fits : g.written + last_size ≤ length out
    fits = omega (arith, lines_fit, as_long wrote (omega (arith, lines_fit)), ap (λ (x : Logged). x.written) is)

    answer : (isEnd : Bool) {stopped : Bool} {out' : List ℕ} {n : ℕ} → stopped ≡ isEnd || is_stuck g.hub.items left
        → (n ≡ g.written + length (cond stopped (last_line g.hub (filled - g.taken)) [])) × (out' ≡ written (cond stopped (last_line g.hub (filled - g.taken)) []) out g.written)
        → (record { hub = g.hub; written = n; kept = filled - g.taken; is_stopped = stopped } ≡ block_of h (take filled buf) isEnd)
        × (out' ≡ at_front (block_lines h (take filled buf) isEnd) out₀)
    answer isEnd {stopped} {out'} {n} is-stopped e =
        let s : List ℕ = take filled buf in
        let stop : stopped ≡ is_last h s isEnd = is-stopped ∙ (λ i. isEnd || is_stuck (is i).hub.items (left_over i)) in
        let end : List ℕ = cond (is_last h s isEnd) (last_line (hub_of h s) (length (octets_left h s))) [] in
        let is-end : cond stopped (last_line g.hub (filled - g.taken)) [] ≡ end = λ i. cond (stop i) (last_line (is i).hub (left_long i)) [] in
        let size : n ≡ length (block_lines h s isEnd) = e.0 ∙ (λ i. (is i).written + length (is-end i)) ∙ sym (length-append (lines_of h s) end) in
        let both : Wrote out₀ 0 (lines_of h s ++ end) out' (length (lines_of h s) + length end) =
        then_piece wrote (omega (arith, lines_fit)) end refl (refl, e.1 ∙ (λ i. written (is-end i) out (is i).written)) in
        let place : 0 + length (block_lines h s isEnd) ≡ length (block_lines h s isEnd) = omega arith in
        (λ i. record { hub = (is i).hub; written = size i; kept = left_long i; is_stopped = stop i }, both.contents ∙ rw place refl)

  moved : {buf' : List ℕ} → buf' ≡ copy_within buf g.taken filled 0 → buf' ≡ rest_in h buf filled
  unfolding left
  moved is-buf =
      let first : 0 + (filled - g.taken) ≡ filled - g.taken = omega arith in
      is-buf ∙ ap (λ (n : ℕ). left ++ drop n buf) first ∙ (λ i. left_over i ++ drop (left_long i) buf)

pub slice_bounds-is_last-count : goal.slice_bounds-is_last-count
slice_bounds-is_last-count c =
    taken_short (hub_state c.args.hub) c.args.buf.now c.args.filled (logged_step c.log_items-logged.result) c.requires.1.0 c.log_items-logged.ensures.0

pub slice_bounds-is_last-start : goal.slice_bounds-is_last-start
slice_bounds-is_last-start c =
    let short : c.log_items-logged.result.taken ≤ c.args.filled =
    taken_short (hub_state c.args.hub) c.args.buf.now c.args.filled (logged_step c.log_items-logged.result) c.requires.1.0 c.log_items-logged.ensures.0
    in
    omega (arith, short, c.requires.1.0)

pub copy_within-requires-clause-start_le_end : goal.copy_within-requires-clause-start_le_end
copy_within-requires-clause-start_le_end c =
    taken_short (hub_state c.args.hub) c.args.buf.now c.args.filled (logged_step c.log_items-logged.result) c.requires.1.0 c.log_items-logged.ensures.0

pub overflow_sub-kept : goal.overflow_sub-kept
overflow_sub-kept c =
    taken_short (hub_state c.args.hub) c.args.buf.now c.args.filled (logged_step c.log_items-logged.result) c.requires.1.0 c.log_items-logged.ensures.0

pub put_end-written-requires : goal.put_end-written-requires
put_end-written-requires c =
    let e = c.log_items-logged.ensures in
    fits (hub_state c.args.hub) c.args.buf.now c.args.filled (logged_step c.log_items-logged.result) c.requires.1.0 e.0 c.args.out.now e.1 c.requires.1.1

pub returns : goal.returns
unfolding left
returns c =
    let a = c.args in
    let e = c.log_items-logged.ensures in
    let g = logged_step c.log_items-logged.result in
    let all = answer (hub_state a.hub) a.buf.now a.filled g c.requires.1.0 e.0 a.out.now e.1 c.requires.1.1 a.is_end c.is_last-is_stopped.ensures c.put_end-written.ensures in
    (all.0, (moved (hub_state a.hub) a.buf.now a.filled g c.requires.1.0 e.0 c.copy_within.ensures.after, all.1))
