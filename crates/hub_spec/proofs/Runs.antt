-- A run of reads, as a program's loop goes through it: what holds before each read (`Running`), what a block makes of it (`goes_on`, `ends`), and that there
-- are no more reads than items have octets (`fewer_left`). Assumes nothing.
use mathlib.Core.Path.{◌≡◌, refl, sym, ap, ◌∙◌}
use mathlib.Core.Logic.{⊎_elim}
use mathlib.Core.Bool.{Bool, true, false}
use mathlib.Core.List.{List, [], ◌∷◌, ◌++◌, flatten}
use Prim.Native.Nat.{ℕ, zero, suc, ◌+◌, ◌-◌, ◌*◌, ◌<◌, ◌≤◌}
use native.Mathlib.Omega.{arith}
use lib.ListN.{length, drop, length-append, length-take}
use Rattle.items.specs.Item.{size_of, whole_size, items, after_items}
use Rattle.items.proofs.Items.{none_whole, one_whole, at_front_law, whole_inv, size_bounds}
use Rattle.hub_spec.specs.Line.{line_size, last_size}
use Rattle.hub_spec.specs.Log.{most_items, after_item, after_all, printed_all, items_for, lines_of, hub_of, octets_left, fresh_hub, last_line, log_of, is_last, block_lines, RunCounts}
use Rattle.hub_spec.specs.Reads.{Ended}
use Rattle.hub_spec.specs.State.{Hub}
use Rattle.hub_spec.proofs.AnyReads.{counted, lines_more, hub_more, rest_more, items_most, printed_size, rest_all, lines_go_on, lines_end, block_taken}
use Rattle.hub_spec.proofs.Pieces.{last_length}

-- Before a read: the hub after all that was read, what is left over of it, and how many octets were written.
pub record Running (h : Hub) (kept : List ℕ) (n : ℕ) : Type 0 where
  pub input : List ℕ
  pub hub : h ≡ hub_of fresh_hub input
  pub left : kept ≡ octets_left fresh_hub input
  pub written : n ≡ length (lines_of fresh_hub input)

pub begins : Running fresh_hub [] 0
unfolding size_of whole_size after_all printed_all after_items flatten
begins =
    let no_items : items most_items [] ≡ [] = none_whole most_items [] refl in
    record {
      input = [];
      hub = sym (ap (after_all fresh_hub) no_items);
      left = sym (ap (λ (its : List (List ℕ)). after_items its []) no_items);
      written = sym (ap (λ (its : List (List ℕ)). length (printed_all fresh_hub its)) no_items);
    }

-- every report has a line
lines_long : (h : Hub) (its : List (List ℕ)) → length (printed_all h its) + line_size * h.reports ≡ line_size * (after_all h its).reports
unfolding printed_all after_all after_item
lines_long h [] = omega arith
lines_long h (item ∷ its) = rw length-append (omega (arith, printed_size h item, lines_long (after_item h item) its))

-- so few octets that no sum of them overflows
lines_few : (input : List ℕ) → length (lines_of fresh_hub input) ≤ line_size * most_items
lines_few input =
    let all = (block_taken fresh_hub input false).counted (omega arith, omega arith) in
    omega (arith, lines_long fresh_hub (items_for fresh_hub input), all.0, all.1)

pub log_few : (input : List ℕ) → length (log_of input) ≤ line_size * most_items + last_size
unfolding log_of
log_few input = rw length-append (omega (arith, lines_few input, last_length (hub_of fresh_hub input) (length (octets_left fresh_hub input))))

module _ {h : Hub} {kept : List ℕ} {n : ℕ} (run : Running h kept n) where
  pub counts : RunCounts h
  counts = rw run.hub ((block_taken fresh_hub run.input false).counted (omega arith, omega arith))

  pub few : n ≤ line_size * most_items
  few = omega (arith, run.written, lines_few run.input)

  module _ (read : List ℕ) where
    next_hub : hub_of h (kept ++ read) ≡ hub_of fresh_hub (run.input ++ read)
    next_hub = (λ i. hub_of (run.hub i) (run.left i ++ read)) ∙ sym (hub_more fresh_hub run.input read)

    next_left : octets_left h (kept ++ read) ≡ octets_left fresh_hub (run.input ++ read)
    next_left = (λ i. octets_left (run.hub i) (run.left i ++ read)) ∙ sym (rest_more fresh_hub run.input read)

    next_lines : n + length (lines_of h (kept ++ read)) ≡ length (lines_of fresh_hub (run.input ++ read))
    next_lines =
        (λ i. run.written i + length (lines_of (run.hub i) (run.left i ++ read)))
        ∙ sym (ap length (lines_more fresh_hub run.input read) ∙ length-append (lines_of fresh_hub run.input) _)

    module _ (isEnd : Bool) where
      pub goes_on : is_last h (kept ++ read) isEnd ≡ false → Running (hub_of h (kept ++ read)) (octets_left h (kept ++ read)) (n + length (block_lines h (kept ++ read) isEnd))
      goes_on e =
          record {
            input = run.input ++ read;
            hub = next_hub;
            left = next_left;
            written = ap (λ (l : List ℕ). n + length l) (lines_go_on h (kept ++ read) isEnd e) ∙ next_lines;
          }

      pub ends : is_last h (kept ++ read) isEnd ≡ true → Ended (hub_of h (kept ++ read)) (n + length (block_lines h (kept ++ read) isEnd))
      unfolding log_of
      ends e =
          let all : List ℕ = run.input ++ read in
          let last : ℕ = length (last_line (hub_of h (kept ++ read)) (length (octets_left h (kept ++ read)))) in
          let here : length (block_lines h (kept ++ read) isEnd) ≡ length (lines_of h (kept ++ read)) + last =
          ap length (lines_end h (kept ++ read) isEnd e) ∙ length-append (lines_of h (kept ++ read)) _ in
          let there : length (log_of all) ≡ length (lines_of fresh_hub all) + last_size =
          length-append (lines_of fresh_hub all) _ ∙ ap (λ (k : ℕ). length (lines_of fresh_hub all) + k) (last_length (hub_of fresh_hub all) (length (octets_left fresh_hub all))) in
          record {
            input = all;
            hub = next_hub;
            written = omega (arith, here, there, next_lines, last_length (hub_of h (kept ++ read)) (length (octets_left h (kept ++ read))));
          }

-- An item has at most 66 octets, so each octet that is read brings a run nearer to its end.
octets_most : (n : ℕ) (s : List ℕ) → length (flatten (items n s)) ≤ 66 * length (items n s)
unfolding items flatten
octets_most zero s = omega arith
octets_most (suc n) s =
    ⊎_elim
    (λ no_item. rw (none_whole (suc n) s no_item) (omega arith))
    (λ item. rw (one_whole n s item.1, length-append) (omega (arith, size_bounds s (whole_inv s item.1).0, length-take item.0 s, octets_most n (drop item.0 s))))
    (at_front_law s)

-- how many octets at most are still to be read
abbrev pub to_read : Hub → ℕ → ℕ
to_read h kept = 66 * (most_items - h.items) + (66 - kept)

pub fewer_left : (h : Hub) (kept read : List ℕ) (isEnd : Bool) → length kept < 66 → h.items ≤ most_items → (length read ≡ 0 → ⊥) → is_last h (kept ++ read) isEnd ≡ false
    → to_read (hub_of h (kept ++ read)) (length (octets_left h (kept ++ read))) < to_read h (length kept)
fewer_left h kept read isEnd short items-fewer some e =
    omega
    (arith, counted h (items_for h (kept ++ read)), items_most (most_items - h.items) (kept ++ read), octets_most (most_items - h.items) (kept ++ read), rest_all h (kept ++ read), length-append kept read, (block_taken h (kept ++ read) isEnd).short e)
