-- What is found in an input are the items of document 01, and no item is passed over: `falls`. Assumes nothing.
use mathlib.Core.Path.{◌≡◌, refl, sym, ap, ◌∙◌}
use mathlib.Core.Logic.{◌⊎◌, inl, inr, ⊎_elim}
use mathlib.Core.Bool.{Bool, true, false, cond}
use mathlib.Core.List.{List, [], ◌∷◌, ◌++◌}
use Prim.Native.Nat.{ℕ, zero, suc, ◌+◌, ◌≤◌}
use native.Mathlib.Omega.{arith}
use native.Mathlib.Nat.{eq-or-lt_of_le}
use lib.ListN.{length, take, drop, length-append, take-append-drop}
use lib.Seq.{take-append_seam, drop_at}
use lib.Dec.{ltb, eqb}
use borrow.Author.Tests.{ne_eqb, le-ltb, eqb-true, eqb-false, ltb-false}
use Rattle.std.specs.Prelude.{None, Some}
use Rattle.std.proofs.lemmas.Option.{none-some, same_Some}
use Rattle.octets.specs.Lists.{All}
use Rattle.items.specs.Item.{payload_size, size_of, whole_size, items, after_items, IsItem, tick, packet, Falls}
use Rattle.items.proofs.Items.{whole_is, none_whole, one_whole, at_front_law, item_whole, ends}

-- an item at the front is whole, and as long as it is
size_of_law : (item rest : List ℕ) → IsItem item → size_of (item ++ rest) ≡ Some (length item)
unfolding size_of
size_of_law item rest tick = refl
size_of_law item rest (packet first h0 h1 payload which counted) =
    let low : (first ≡ 0 → ⊥) × (first ≤ 2) = ⊎_elim (λ good. (λ none_there. omega arith, omega arith)) (λ bad. (λ none_there. omega arith, omega arith)) which in
    rw (ne_eqb first 0 low.0, le-ltb 2 first low.1) (ap Some (omega (arith, counted)))

size_whole : (item rest : List ℕ) → IsItem item → whole_size (item ++ rest) ≡ Some (length item)
size_whole item rest is = whole_is (item ++ rest) (size_of_law item rest is) (rw length-append (omega arith))

found : (n : ℕ) (item rest : List ℕ) → IsItem item → items (suc n) (item ++ rest) ≡ item ∷ items n rest
found n item rest is = one_whole n (item ++ rest) (size_whole item rest is) ∙ rw (take-append_seam item rest, drop_at item rest (length item) refl)

-- what is as long as its first octets say is an item
is_item : (item : List ℕ) → size_of item ≡ Some (length item) → IsItem item
unfolding size_of
is_item [] whole = absurd (none-some 0 whole)
is_item (first ∷ []) whole = go (eqb first 0) (ltb 2 first) refl whole
  where
    go : (t high : Bool) → eqb first 0 ≡ t → cond t (Some 1) (cond high None (Some (3 + payload_size 0))) ≡ Some 1 → IsItem (first ∷ [])
    go true high e whole = rw (eqb-true first 0 e) tick
    go false true e whole = absurd (none-some 1 whole)
    go false false e whole = absurd (omega (arith, same_Some _ _ whole))
is_item (first ∷ h0 ∷ []) whole = go (eqb first 0) (ltb 2 first) whole
  where
    go : (t high : Bool) → cond t (Some 1) (cond high None (Some (3 + payload_size 0))) ≡ Some 2 → IsItem (first ∷ h0 ∷ [])
    go true high whole = absurd (omega (arith, same_Some _ _ whole))
    go false true whole = absurd (none-some 2 whole)
    go false false whole = absurd (omega (arith, same_Some _ _ whole))
is_item (first ∷ h0 ∷ h1 ∷ payload) whole = go (eqb first 0) (ltb 2 first) refl refl whole
  where
    one_or_two : (first ≡ 0 → ⊥) → first ≤ 2 → (first ≡ 1) ⊎ (first ≡ 2)
    one_or_two some low = ⊎_elim (λ two. inr two) (λ less. inl (omega arith)) (eq-or-lt_of_le low)

    go : (t high : Bool) → eqb first 0 ≡ t → ltb 2 first ≡ high → cond t (Some 1) (cond high None (Some (3 + payload_size h1))) ≡ Some (length (first ∷ h0 ∷ h1 ∷ payload)) → IsItem (first ∷ h0 ∷ h1 ∷ payload)
    go true high e l whole = absurd (omega (arith, same_Some _ _ whole))
    go false true e l whole = absurd (none-some (length (first ∷ h0 ∷ h1 ∷ payload)) whole)
    go false false e l whole = packet first h0 h1 payload (one_or_two (eqb-false first 0 e) (ltb-false 2 first l)) (omega (arith, same_Some _ _ whole))

each : (n : ℕ) (s : List ℕ) → All IsItem (items n s)
unfolding items
each zero s = tt
each (suc n) s =
    ⊎_elim
    (λ no_item. rw (none_whole (suc n) s no_item) tt)
    (λ item. rw (one_whole n s item.1) (is_item (take item.0 s) (item_whole s item.1), each n (drop item.0 s)))
    (at_front_law s)

stops : (n : ℕ) (s : List ℕ) → (length (items n s) ≡ n) ⊎ ((item more : List ℕ) → IsItem item → after_items (items n s) s ≡ item ++ more → ⊥)
stops n s =
    ⊎_elim
    (λ all. inl all)
    (λ no_item. inr (λ item more is split. none-some (length item) (sym no_item ∙ ap whole_size split ∙ size_whole item more is)))
    (ends n s)

no_size : (s : List ℕ) → ((item rest : List ℕ) → IsItem item → s ≡ item ++ rest → ⊥) → whole_size s ≡ None
no_size s none_there =
    ⊎_elim
    (λ no_item. no_item)
    (λ item. absurd (none_there (take item.0 s) (drop item.0 s) (is_item (take item.0 s) (item_whole s item.1)) (sym (take-append-drop item.0 s))))
    (at_front_law s)

pub falls : (n : ℕ) (s : List ℕ) → Falls n s
falls n s = record { each = each n s; found = found n; size = size_whole; no_size = no_size s; stops = stops n s }
