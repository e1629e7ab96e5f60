-- However an input is cut into reads, the log of the input is written: `any_reads`; and what a block leaves for the next: `block_taken`. Assumes nothing.
use mathlib.Core.Path.{◌≡◌, refl, sym, ap, ◌∙◌}
use mathlib.Core.Logic.{⊎_elim}
use mathlib.Core.Bool.{Bool, true, false, cond, true≢false, ◌&&◌, ◌||◌}
use mathlib.Core.List.{List, [], ◌∷◌, ◌++◌, append_assoc, append-nil, append_cancel_left, flatten}
use Prim.Native.Nat.{ℕ, zero, suc, ◌+◌, ◌-◌, ◌*◌, ◌<◌, ◌≤◌}
use native.Mathlib.Omega.{arith}
use lib.ListN.{length, take, drop, length-append, length-drop}
use lib.Seq.{take-append_seam, drop_at}
use lib.Dec.{leb, ltb, eqb-suc-zero}
use borrow.Author.Tests.{le-leb, leb-true, leb-false, ltb-true, ltb-false}
use Rattle.hub_spec.specs.State.{Hub}
use Rattle.hub_spec.specs.Line.{line_size, last_size, reports_in, room_for}
use Rattle.octets.proofs.Places.{both_true}
use Rattle.items.specs.Item.{items, after_items}
use Rattle.hub_spec.specs.Log.{most_items, heard_in, after_item, after_all, printed, printed_all, items_for, lines_of, hub_of, octets_left, is_stuck, fresh_hub, last_line, log_of, is_last, block_lines, is_ready}
use Rattle.hub_spec.specs.Reads.{written_for, AnyReads, Ready, BlockTaken}
use Rattle.items.proofs.Items.{none_whole, one_whole, none_left, none_more, no_size, begun, at_front_law, items_fit, items_more, behind_more}
use Rattle.hub_spec.proofs.Pieces.{last_length}
use Rattle.hub_spec.proofs.Reports.{line_size_law, line_room, one_report}

-- what many items do, in two parts
after_all_append : (h : Hub) (a b : List (List ℕ)) → after_all h (a ++ b) ≡ after_all (after_all h a) b
unfolding after_all
after_all_append h [] b = refl
after_all_append h (item ∷ a) b = after_all_append (after_item h item) a b

printed_all_append : (h : Hub) (a b : List (List ℕ)) → printed_all h (a ++ b) ≡ printed_all h a ++ printed_all (after_all h a) b
unfolding after_all printed_all
printed_all_append h [] b = refl
printed_all_append h (item ∷ a) b = simp (printed_all_append (after_item h item) a b, append_assoc)

pub counted : (h : Hub) (its : List (List ℕ)) → (after_all h its).items ≡ h.items + length its
unfolding after_all after_item
counted h [] = omega arith
counted h (item ∷ its) = counted (after_item h item) its ∙ omega arith

-- the log of octets that a hub hears
log_from : Hub → List ℕ → List ℕ
log_from h s = lines_of h s ++ last_line (hub_of h s) (length (octets_left h s))

module _ (h : Hub) (s : List ℕ) where
  left : most_items - h.items - length (items_for h s) ≡ most_items - (hub_of h s).items
  left = omega (arith, counted h (items_for h s))

  -- the items of more octets are those of the first part, and those of what it leaves over with the others
  items_for_more : (more : List ℕ) → items_for h (s ++ more) ≡ items_for h s ++ items_for (hub_of h s) (octets_left h s ++ more)
  items_for_more more = items_more (most_items - h.items) s more ∙ ap (λ (n : ℕ). items_for h s ++ items n (octets_left h s ++ more)) left

  -- so nothing that is left over is a whole item
  nothing_more : items_for (hub_of h s) (octets_left h s) ≡ []
  nothing_more =
      append_cancel_left (items_for h s) (items_for (hub_of h s) (octets_left h s)) []
      (ap (λ (l : List ℕ). items_for h s ++ items_for (hub_of h s) l) (sym (append-nil (octets_left h s))) ∙ sym (items_for_more []) ∙ ap (items_for h) (append-nil s) ∙ sym (append-nil (items_for h s)))

  pub lines_more : (more : List ℕ) → lines_of h (s ++ more) ≡ lines_of h s ++ lines_of (hub_of h s) (octets_left h s ++ more)
  lines_more more = ap (printed_all h) (items_for_more more) ∙ printed_all_append h (items_for h s) (items_for (hub_of h s) (octets_left h s ++ more))

  pub hub_more : (more : List ℕ) → hub_of h (s ++ more) ≡ hub_of (hub_of h s) (octets_left h s ++ more)
  hub_more more = ap (after_all h) (items_for_more more) ∙ after_all_append h (items_for h s) (items_for (hub_of h s) (octets_left h s ++ more))

  pub rest_more : (more : List ℕ) → octets_left h (s ++ more) ≡ octets_left (hub_of h s) (octets_left h s ++ more)
  rest_more more = behind_more (most_items - h.items) s more ∙ ap (λ (n : ℕ). after_items (items n (octets_left h s ++ more)) (octets_left h s ++ more)) left

  log_more : (more : List ℕ) → log_from h (s ++ more) ≡ lines_of h s ++ log_from (hub_of h s) (octets_left h s ++ more)
  unfolding log_from
  log_more more = simp (lines_more more, hub_more more, rest_more more, append_assoc)

-- where nothing is a whole item, only the last line is left
log_none : (h : Hub) (s : List ℕ) → items_for h s ≡ [] → log_from h s ≡ last_line h (length s)
unfolding log_from printed_all after_all after_items flatten
log_none h s no_items = simp no_items

-- where the hub is stuck, nothing is a whole item, whatever follows
stuck_none : (h : Hub) (s more : List ℕ) → is_stuck h.items s ≡ true → items_for h (s ++ more) ≡ []
unfolding is_stuck
stuck_none h [] more e = absurd (true≢false (sym e))
stuck_none h (first ∷ rest) more stuck = go (leb most_items h.items) refl stuck
  where
    go : (most : Bool) → leb most_items h.items ≡ most → cond most true (ltb 2 first) ≡ true → items_for h ((first ∷ rest) ++ more) ≡ []
    go true e is = none_more (most_items - h.items) ((first ∷ rest) ++ more) (omega (arith, leb-true most_items h.items e))
    go false e is = none_whole (most_items - h.items) ((first ∷ rest) ++ more) (no_size first (rest ++ more) (ltb-true 2 first is))

-- and the last line says so already
stuck_last : (h : Hub) (s more : List ℕ) → is_stuck h.items s ≡ true → last_line h (length s) ≡ last_line h (length (s ++ more))
unfolding is_stuck last_line
stuck_last h [] more e = absurd (true≢false (sym e))
stuck_last h (first ∷ rest) more e = simp (eqb-suc-zero (length rest), eqb-suc-zero (length (rest ++ more)))

reads_log : (reads : List (List ℕ)) (h : Hub) (kept : List ℕ) → written_for h kept reads ≡ log_from h (kept ++ flatten reads)
unfolding written_for flatten log_from
reads_log [] h kept = sym (ap (log_from h) (append-nil kept))
reads_log (read ∷ reads) h kept =
    go (is_stuck heard.items rest) refl (reads_log reads heard rest)
    ∙ sym (ap (log_from h) (sym (append_assoc kept read (flatten reads))) ∙ log_more h (kept ++ read) (flatten reads))
  where
    heard : Hub
    heard = hub_of h (kept ++ read)

    rest : List ℕ
    rest = octets_left h (kept ++ read)

    lines : List ℕ
    lines = lines_of h (kept ++ read)

    go : (stop : Bool) → is_stuck heard.items rest ≡ stop → written_for heard rest reads ≡ log_from heard (rest ++ flatten reads)
        → (lines ++ cond stop (last_line heard (length rest)) []) ++ cond stop [] (written_for heard rest reads) ≡ lines ++ log_from heard (rest ++ flatten reads)
    go true e later =
        append-nil (lines ++ last_line heard (length rest))
        ∙ ap (λ (l : List ℕ). lines ++ l) (stuck_last heard rest (flatten reads) e ∙ sym (log_none heard (rest ++ flatten reads) (stuck_none heard rest (flatten reads) e)))
    go false e later = ap (λ (l : List ℕ). l ++ written_for heard rest reads) (append-nil lines) ∙ ap (λ (l : List ℕ). lines ++ l) later

pub any_reads : AnyReads
unfolding log_from log_of
any_reads reads = reads_log reads fresh_hub []

-- octets of which an item may still come, and none has
short : (count first : ℕ) (rest : List ℕ) → is_stuck count (first ∷ rest) ≡ false → items (most_items - count) (first ∷ rest) ≡ [] → length (first ∷ rest) < 66
unfolding is_stuck
short count first rest = go (leb most_items count) (ltb 2 first) refl refl
  where
    go : (most high : Bool) → leb most_items count ≡ most → ltb 2 first ≡ high → cond most true high ≡ false → items (most_items - count) (first ∷ rest) ≡ []
        → length (first ∷ rest) < 66
    go true high m e is no_items = absurd (true≢false is)
    go false true m e is no_items = absurd (true≢false is)
    go false false m e is no_items =
        let left : most_items - count ≡ suc (most_items - count - 1) = omega (arith, leb-false most_items count m) in
        begun first rest (ltb-false 2 first e) (none_left (most_items - count - 1) (first ∷ rest) (rw left at no_items))

pub kept_short : (h : Hub) (s : List ℕ) → is_stuck (hub_of h s).items (octets_left h s) ≡ false → length (octets_left h s) < 66
kept_short h s = go (octets_left h s) (nothing_more h s)
  where
    go : (rest : List ℕ) → items_for (hub_of h s) rest ≡ [] → is_stuck (hub_of h s).items rest ≡ false → length rest < 66
    go [] no_items e = omega arith
    go (first ∷ rest) no_items e = short (hub_of h s).items first rest e no_items

-- what many items count and print
pub items_most : (n : ℕ) (s : List ℕ) → length (items n s) ≤ n
unfolding items
items_most zero s = omega arith
items_most (suc n) s =
    ⊎_elim
    (λ no_item. rw (none_whole (suc n) s no_item) (omega arith))
    (λ item. rw (one_whole n s item.1) (omega (arith, items_most n (drop item.0 s))))
    (at_front_law s)

fewer_reports : (h : Hub) (its : List (List ℕ)) → h.reports ≤ h.items → (after_all h its).reports ≤ (after_all h its).items
unfolding after_all after_item
fewer_reports h [] fewer = fewer
fewer_reports h (item ∷ its) fewer = fewer_reports (after_item h item) its (omega (arith, one_report (heard_in h.scanner item)))

pub printed_size : (h : Hub) (item : List ℕ) → length (printed h item) ≡ line_size * reports_in (heard_in h.scanner item)
unfolding printed
printed_size h item = line_size_law _ h.scanner item

pub lines_room : (h : Hub) (its : List (List ℕ)) → length (printed_all h its) ≤ room_for (length (flatten its))
unfolding printed_all flatten
lines_room h [] = omega arith
lines_room h (item ∷ its) = simp length-append (omega (arith, printed_size h item, line_room h.scanner item, lines_room (after_item h item) its))

rest_fits : (h : Hub) (s : List ℕ) → length (octets_left h s) ≤ length s
unfolding after_items
rest_fits h s = rw length-drop (omega arith)

module _ (h : Hub) (buf : List ℕ) (filled : ℕ) (out : List ℕ) where
  ready : Ready h buf filled out → is_ready h filled (length buf) (length out) ≡ true
  ready all =
      simp (le-leb h.items most_items all.0.0, le-leb h.reports h.items all.0.1, le-leb filled (length buf) all.1.0, le-leb (room_for filled + last_size) (length out) all.1.1)

  pub all_ready : is_ready h filled (length buf) (length out) ≡ true → Ready h buf filled out
  all_ready e =
      let items = both_true (leb h.items most_items) (leb h.reports h.items && (leb filled (length buf) && leb (room_for filled + last_size) (length out))) e in
      let reports = both_true (leb h.reports h.items) (leb filled (length buf) && leb (room_for filled + last_size) (length out)) items.1 in
      let size = both_true (leb filled (length buf)) (leb (room_for filled + last_size) (length out)) reports.1 in
      ((leb-true h.items most_items items.0, leb-true h.reports h.items reports.0), (leb-true filled (length buf) size.0, leb-true (room_for filled + last_size) (length out) size.1))

  unready : (Ready h buf filled out → ⊥) → is_ready h filled (length buf) (length out) ≡ false
  unready not-all = go (is_ready h filled (length buf) (length out)) refl
    where
      go : (b : Bool) → is_ready h filled (length buf) (length out) ≡ b → b ≡ false
      go true e = absurd (not-all (all_ready e))
      go false e = refl

pub rest_all : (h : Hub) (s : List ℕ) → length (flatten (items_for h s)) + length (octets_left h s) ≡ length s
unfolding after_items
rest_all h s = rw length-drop (omega (arith, items_fit (most_items - h.items) s))

-- the lines of a block, and the last line after them where reading stops
module _ (h : Hub) (s : List ℕ) (isEnd : Bool) where
  pub lines_go_on : is_last h s isEnd ≡ false → block_lines h s isEnd ≡ lines_of h s
  lines_go_on e = ap (λ (b : Bool). lines_of h s ++ cond b (last_line (hub_of h s) (length (octets_left h s))) []) e ∙ append-nil (lines_of h s)

  pub lines_end : is_last h s isEnd ≡ true → block_lines h s isEnd ≡ lines_of h s ++ last_line (hub_of h s) (length (octets_left h s))
  lines_end e = ap (λ (b : Bool). lines_of h s ++ cond b (last_line (hub_of h s) (length (octets_left h s))) []) e

  block_room : length (block_lines h s isEnd) ≤ room_for (length s) + last_size
  block_room = rw length-append (omega (arith, lines_room h (items_for h s), items_fit (most_items - h.items) s, end (is_last h s isEnd)))
    where
      end : (b : Bool) → length (cond b (last_line (hub_of h s) (length (octets_left h s))) []) ≤ last_size
      end true = omega (arith, last_length (hub_of h s) (length (octets_left h s)))
      end false = omega arith

not_stuck : (isEnd b : Bool) → isEnd || b ≡ false → b ≡ false
not_stuck true b e = absurd (true≢false e)
not_stuck false b e = e

pub block_taken : (h : Hub) (s : List ℕ) (isEnd : Bool) → BlockTaken h s isEnd
block_taken h s isEnd =
    record {
      accepted = λ buf filled out all. simp (ready h buf filled out all);
      refused = λ buf filled out not-all. let is = unready h buf filled out not-all in (simp is, (simp is, simp is));
      left = λ buf filled out all.
          let rest : List ℕ = octets_left h (take filled buf) in
          rw (ready h buf filled out all) (take-append_seam rest (drop (length rest) buf), drop_at rest (drop (length rest) buf) (length rest) refl);
      lines = λ buf filled out all.
          let these : List ℕ = block_lines h (take filled buf) isEnd in
          rw (ready h buf filled out all) (take-append_seam these (drop (length these) out), drop_at these (drop (length these) out) (length these) refl);
      goes_on = lines_go_on h s isEnd;
      ends = lines_end h s isEnd;
      logged = (refl, (refl, rest_all h s));
      counted = λ before. (omega (arith, before.0, counted h (items_for h s), items_most (most_items - h.items) s), fewer_reports h (items_for h s) before.1);
      room = block_room h s isEnd;
      kept = rest_fits h s;
      short = λ e. kept_short h s (not_stuck isEnd (is_stuck (hub_of h s).items (octets_left h s)) e);
    }
