-- What `take_items` has done after some items, with what the items that fit from `at` on give, is what all give: the invariant of its loop. Assumes nothing.
use mathlib.Core.Path.{◌≡◌, refl, sym, ap, ◌∙◌, subst}
use mathlib.Core.List.{List, [], ◌∷◌, ◌++◌, append-nil, append_assoc, flatten}
use Prim.Native.Nat.{ℕ, zero, suc, ◌+◌, ◌-◌, ◌≤◌}
use native.Mathlib.Omega.{arith}
use lib.ListN.{length, take, drop, length-append, length-drop}
use lib.Seq.{drop-drop, length-take-le}
use borrow.Rule.Slice.PartMut.{put_mid}
use Rattle.std.specs.Prelude.{Some}
use Rattle.std.proofs.lemmas.Option.{same_Some}
use Rattle.octets.specs.Bytes.{written, at_front}
use Rattle.hub_spec.proofs.Pieces.{Wrote, nothing_yet, as_long, then_piece, tail_written}
use Rattle.club_spec.specs.Item.{whole_item}
use Rattle.club_spec.specs.Log.{club_line, club_after, club_lines, club_after_all, item_line, item_taken, items_fitting, fitting_in, items_taken}
use Rattle.club_spec.specs.State.{Club, TakenItem}
use Rattle.club_spec.proofs.Items.{whole_fits, whole_some}
use Rattle.club_spec.proofs.Taking.{line_sizes, an_item, taken_is, line_is}

pub record Progress (k : Club) (s out₀ out : List ℕ) (k' : Club) (at to : ℕ) : Type 0 where
  pub lines : List ℕ
  pub left : ℕ
  pub inside : at ≤ length s
  pub enough : length s ≤ at + left
  pub within : to ≤ length out₀
  pub wrote : Wrote out₀ 0 lines out to
  pub all_lines : lines ++ club_lines k' (items_fitting left k' (drop at s) (length out₀ - to)) ≡ club_lines k (fitting_in k s (length out₀))
  pub all_items : club_after_all k' (items_fitting left k' (drop at s) (length out₀ - to)) ≡ club_after_all k (fitting_in k s (length out₀))
  pub all_octets : at + length (flatten (items_fitting left k' (drop at s) (length out₀ - to))) ≡ length (flatten (fitting_in k s (length out₀)))

pub begins : (k : Club) (s out : List ℕ) → Progress k s out out k 0 0
begins k s out =
    let all : length out - 0 ≡ length out = omega arith in
    record {
      lines = [];
      left = length s;
      inside = omega arith;
      enough = omega arith;
      within = omega arith;
      wrote = nothing_yet out 0;
      all_lines = ap (λ (n : ℕ). club_lines k (items_fitting (length s) k s n)) all;
      all_items = ap (λ (n : ℕ). club_after_all k (items_fitting (length s) k s n)) all;
      all_octets = rw all (omega arith);
    }

module _ {k : Club} {s out₀ out : List ℕ} {k' : Club} {at to : ℕ} (p : Progress k s out₀ out k' at to) where
  pub long_out : length out ≡ length out₀
  long_out = as_long p.wrote p.within

  module _ (size : ℕ) (some : whole_item (drop at s) ≡ Some size) (room : 90 ≤ length out₀ - to) where
    abbrev item : List ℕ
    item = take size (drop at s)

    abbrev more : ℕ
    more = length (club_line k' item)

    next : at + size ≤ length s
    next = omega (arith, whole_fits (drop at s) some, length-drop at s, p.inside)

    goes_on : {out' : List ℕ} → out' ≡ written (club_line k' item) out to → (left : ℕ) → p.left ≡ left → Progress k s out₀ out' (club_after k' item) (at + size) (to + more)
    unfolding club_lines club_after_all flatten
    goes_on wrote zero is = absurd (omega (arith, whole_fits (drop at s) some, whole_some (drop at s) some, length-drop at s, p.enough, is))
    goes_on wrote (suc n) is =
        let its : List (List ℕ) = items_fitting n (club_after k' item) (drop (at + size) s) (length out₀ - (to + more)) in
        let less : length out₀ - to - more ≡ length out₀ - (to + more) = omega arith in
        let same : items_fitting p.left k' (drop at s) (length out₀ - to) ≡ item ∷ its =
        ap (λ (n : ℕ). items_fitting n k' (drop at s) (length out₀ - to)) is ∙ an_item n k' (drop at s) (length out₀ - to) some room
        ∙ (λ i. item ∷ items_fitting n (club_after k' item) (drop-drop (size) at s i) (less i)) in
        let octets : length (flatten (item ∷ its)) ≡ size + length (flatten its) =
        length-append item (flatten its) ∙ ap (λ (n : ℕ). n + length (flatten its)) (length-take-le (size) (drop at s) (whole_fits (drop at s) some)) in
        let sum : at + length (flatten (item ∷ its)) ≡ length (flatten (fitting_in k s (length out₀))) = ap (λ (l : List (List ℕ)). at + length (flatten l)) (sym same) ∙ p.all_octets in
        record {
          lines = p.lines ++ club_line k' item;
          left = n;
          inside = next;
          enough = omega (arith, p.enough, is, whole_some (drop at s) some);
          within = omega (arith, line_sizes k' item);
          wrote = then_piece p.wrote p.within (club_line k' item) refl (refl, wrote);
          all_lines = append_assoc p.lines (club_line k' item) (club_lines (club_after k' item) its) ∙ ap (λ (l : List (List ℕ)). p.lines ++ club_lines k' l) (sym same) ∙ p.all_lines;
          all_items = ap (club_after_all k') (sym same) ∙ p.all_items;
          all_octets = omega (arith, octets, sum);
        }

    -- as the call answers, to the octets after the lines
    pub advance : {r : TakenItem} {part : List ℕ} → Some r ≡ item_taken k' (drop at s) → part ≡ at_front (item_line k' (drop at s)) (take (length out - to) (drop to out))
        → Progress k s out₀ (put_mid to (length out - to) out part) r.club (at + r.size) (to + r.written)
    advance {r} {part} is wrote =
        let same : r ≡ record { club = club_after k' item; size = size; written = more } = same_Some _ _ (is ∙ taken_is k' (drop at s) some) in
        let lent : put_mid to (length out - to) out part ≡ written (club_line k' item) out to =
        tail_written (club_line k' item) out to (omega (arith, p.within, long_out)) (wrote ∙ ap (λ (l : List ℕ). at_front l (take (length out - to) (drop to out))) (line_is k' (drop at s) some)) in
        subst (λ (r : TakenItem). Progress k s out₀ (put_mid to (length out - to) out part) r.club (at + r.size) (to + r.written)) (sym same) (goes_on lent p.left refl)

  -- no item fits any more
  pub finish : items_fitting p.left k' (drop at s) (length out₀ - to) ≡ []
      → (record { club = k'; taken = at; written = to } ≡ items_taken k s (length out₀)) × (out ≡ at_front (club_lines k (fitting_in k s (length out₀))) out₀)
  unfolding items_taken club_lines club_after_all flatten
  finish none =
      let lines : p.lines ≡ club_lines k (fitting_in k s (length out₀)) =
      sym (append-nil p.lines) ∙ ap (λ (l : List (List ℕ)). p.lines ++ club_lines k' l) (sym none) ∙ p.all_lines in
      let club : k' ≡ club_after_all k (fitting_in k s (length out₀)) = ap (club_after_all k') (sym none) ∙ p.all_items in
      let octets : at ≡ length (flatten (fitting_in k s (length out₀))) = omega (arith, ap (λ (l : List (List ℕ)). at + length (flatten l)) none, p.all_octets) in
      let size : to ≡ length (club_lines k (fitting_in k s (length out₀))) = omega (arith, p.wrote.size, ap length lines) in
      let place : 0 + length p.lines ≡ length p.lines = omega arith in
      ((λ i. record { club = club i; taken = octets i; written = size i }), p.wrote.contents ∙ rw (place, lines))
