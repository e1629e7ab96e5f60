-- How octets fall into items: `cut`, and the items of more octets. Assumes nothing.
use mathlib.Core.Path.{◌≡◌, refl, sym, ap, ◌∙◌}
use mathlib.Core.Logic.{◌⊎◌, inl, inr, ⊎_elim}
use mathlib.Core.Bool.{Bool, true, false, cond}
use mathlib.Core.List.{List, [], ◌∷◌, ◌++◌, append_assoc, cons≢nil, flatten}
use Prim.Native.Nat.{ℕ, zero, suc, ◌+◌, ◌-◌, ◌<◌, ◌≤◌}
use native.Mathlib.Omega.{arith}
use lib.ListN.{length, get_or, take, drop, length-append, take-append-drop, length-take, length-drop, get_or-append}
use lib.Seq.{get_or-take, length-take-le, take-append-le, drop-append-le, drop-drop}
use lib.Dec.{leb, ltb, eqb}
use borrow.Author.Tests.{le-leb, lt-leb, ne_eqb, leb-true, leb-false, lt-ltb, le-ltb}
use Rattle.std.specs.Prelude.{Option, None, Some, IsSomeAnd, option_and_then}
use Rattle.std.proofs.lemmas.Option.{none-some, same_Some, cond_some}
use Rattle.octets.specs.Lists.{All}
use Rattle.items.specs.Item.{payload_size, size_of, whole_size, items, after_items, HasItsSize, Cut}

pub whole_is : (s : List ℕ) {n : ℕ} → size_of s ≡ Some n → n ≤ length s → whole_size s ≡ Some n
unfolding whole_size
whole_is s {n} is fits = simp (is, le-leb n (length s) fits)

pub whole_not : (s : List ℕ) {n : ℕ} → size_of s ≡ Some n → length s < n → whole_size s ≡ None
unfolding whole_size
whole_not s {n} is short = simp (is, lt-leb n (length s) short)

-- a whole item is all that its first octets say, and lies within the octets
pub whole_inv : (s : List ℕ) {size : ℕ} → whole_size s ≡ Some size → (size_of s ≡ Some size) × (size ≤ length s)
unfolding whole_size
whole_inv s {size} = go (size_of s)
  where
    go : (o : Option ℕ) → option_and_then (λ n. cond (leb n (length s)) (Some n) None) o ≡ Some size → (o ≡ Some size) × (size ≤ length s)
    go None is = absurd (none-some size is)
    go (Some n) is =
        let fits = cond_some (leb n (length s)) n size is in
        (ap Some fits.1, omega (arith, leb-true n (length s) fits.0, fits.1))

pub whole_fits : (s : List ℕ) {size : ℕ} → whole_size s ≡ Some size → size ≤ length s
whole_fits s is = (whole_inv s is).1

-- the items, by what stands at the front
pub none_whole : (n : ℕ) (s : List ℕ) → whole_size s ≡ None → items n s ≡ []
unfolding items
none_whole zero s no_item = refl
none_whole (suc n) s no_item = rw no_item

pub one_whole : (n : ℕ) (s : List ℕ) {size : ℕ} → whole_size s ≡ Some size → items (suc n) s ≡ take size s ∷ items n (drop size s)
unfolding items
one_whole n s item = rw item

-- no more are wanted
pub none_more : (n : ℕ) (s : List ℕ) → n ≡ 0 → items n s ≡ []
unfolding items
none_more n s is = rw is

-- no item begins with this octet
pub no_size : (first : ℕ) (rest : List ℕ) → 2 < first → whole_size (first ∷ rest) ≡ None
unfolding whole_size size_of
no_size first rest high = rw (ne_eqb first 0 (λ e. omega arith), lt-ltb 2 first high)

-- a whole item stands at the front, or none does
pub at_front_law : (s : List ℕ) → (whole_size s ≡ None) ⊎ ((size : ℕ) × (whole_size s ≡ Some size))
at_front_law s = go (whole_size s) refl
  where
    go : (o : Option ℕ) → whole_size s ≡ o → (whole_size s ≡ None) ⊎ ((size : ℕ) × (whole_size s ≡ Some size))
    go None is = inl is
    go (Some size) is = inr (size, is)

-- an item has an octet at least, and 66 at most
size_low : (first : ℕ) (rest : List ℕ) → first ≤ 2 → size_of (first ∷ rest) ≡ Some (cond (eqb first 0) 1 (3 + payload_size (get_or rest 1 0)))
unfolding size_of
size_low first rest low = rw (le-ltb 2 first low) (go (eqb first 0))
  where
    go : (tick : Bool) → cond tick (Some 1) (Some (3 + payload_size (get_or rest 1 0))) ≡ Some (cond tick 1 (3 + payload_size (get_or rest 1 0)))
    go true = refl
    go false = refl

pub size_bounds : (s : List ℕ) {n : ℕ} → size_of s ≡ Some n → (0 < n) × (n ≤ 66)
unfolding size_of
size_bounds [] {n} is = absurd (none-some n is)
size_bounds (first ∷ rest) {n} is = go (eqb first 0) (ltb 2 first) is
  where
    go : (tick high : Bool) → cond tick (Some 1) (cond high None (Some (3 + payload_size (get_or rest 1 0)))) ≡ Some n → (0 < n) × (n ≤ 66)
    go true high is = (omega (arith, same_Some _ _ is), omega (arith, same_Some _ _ is))
    go false true is = absurd (none-some n is)
    go false false is = (omega (arith, same_Some _ _ is), omega (arith, same_Some _ _ is))

pub whole_some : (s : List ℕ) {size : ℕ} → whole_size s ≡ Some size → 0 < size
whole_some s item = (size_bounds s (whole_inv s item).0).0

-- an item that has begun and is not whole
pub begun : (first : ℕ) (rest : List ℕ) → first ≤ 2 → whole_size (first ∷ rest) ≡ None → length (first ∷ rest) < 66
begun first rest low none_there = go (leb size (length (first ∷ rest))) refl
  where
    size : ℕ
    size = cond (eqb first 0) 1 (3 + payload_size (get_or rest 1 0))

    go : (fits : Bool) → leb size (length (first ∷ rest)) ≡ fits → length (first ∷ rest) < 66
    go true e = absurd (none-some size (sym none_there ∙ whole_is (first ∷ rest) (size_low first rest low) (leb-true size (length (first ∷ rest)) e)))
    go false e = omega (arith, leb-false size (length (first ∷ rest)) e, (size_bounds (first ∷ rest) (size_low first rest low)).1)

-- where nothing is taken, nothing is whole
pub none_left : (n : ℕ) (s : List ℕ) → items (suc n) s ≡ [] → whole_size s ≡ None
none_left n s no_items =
    ⊎_elim
    (λ no_item. no_item)
    (λ item. absurd (cons≢nil (sym (one_whole n s item.1) ∙ no_items)))
    (at_front_law s)

-- octets that follow a whole item do not change it
size_more : (s more : List ℕ) {size : ℕ} → size_of s ≡ Some size → size ≤ length s → size_of (s ++ more) ≡ Some size
unfolding size_of
size_more [] more {size} is fits = absurd (none-some size is)
size_more (first ∷ rest) more {size} is fits = go (eqb first 0) (ltb 2 first) is
  where
    go : (tick high : Bool) → cond tick (Some 1) (cond high None (Some (3 + payload_size (get_or rest 1 0)))) ≡ Some size
        → cond tick (Some 1) (cond high None (Some (3 + payload_size (get_or (rest ++ more) 1 0)))) ≡ Some size
    go true high is = is
    go false true is = is
    go false false is = rw (get_or-append rest more 0 1 (omega (arith, same_Some _ _ is))) is

pub whole_more : (s more : List ℕ) {size : ℕ} → whole_size s ≡ Some size → whole_size (s ++ more) ≡ Some size
whole_more s more item =
    let all = whole_inv s item in
    whole_is (s ++ more) (size_more s more all.0 all.1) (omega (arith, all.1, length-append s more))

flatten_append : (a b : List (List ℕ)) → flatten (a ++ b) ≡ flatten a ++ flatten b
unfolding flatten
flatten_append [] b = refl
flatten_append (l ∷ a) b = simp (flatten_append a b, append_assoc)

-- what lies after the first item and some others
behind_cons : (s : List ℕ) (size : ℕ) (its : List (List ℕ)) → size ≤ length s → after_items (take size s ∷ its) s ≡ after_items its (drop size s)
unfolding after_items flatten
behind_cons s size its inside =
    let long : length (take size s ++ flatten its) ≡ size + length (flatten its) = simp (length-append, length-take) (omega arith) in
    rw long (sym (drop-drop (length (flatten its)) size s))

-- the items lie within the octets
pub items_fit : (n : ℕ) (s : List ℕ) → length (flatten (items n s)) ≤ length s
unfolding items flatten
items_fit zero s = omega arith
items_fit (suc n) s =
    ⊎_elim
    (λ no_item. rw (none_whole (suc n) s no_item) (omega arith))
    (λ item.
    rw (one_whole n s item.1, length-append)
    (omega (arith, length-take item.0 s, items_fit n (drop item.0 s), length-drop item.0 s, whole_fits s item.1)))
    (at_front_law s)

-- the items of more octets: those at the front, and those of what is after them with what follows
abbrev More : ℕ → List ℕ → List ℕ → Type 0
More n s more = items n (s ++ more) ≡ items n s ++ items (n - length (items n s)) (after_items (items n s) s ++ more)

more_than_one : (n : ℕ) (s more : List ℕ) (size : ℕ) → whole_size s ≡ Some size → More n (drop size s) more → More (suc n) s more
more_than_one n s more size item later =
    let inside : size ≤ length s = whole_fits s item in
    let left : suc n - suc (length (items n (drop size s))) ≡ n - length (items n (drop size s)) = omega arith in
    let front : items (suc n) (s ++ more) ≡ take size s ∷ items n (drop size s ++ more) =
    one_whole n (s ++ more) (whole_more s more item) ∙ simp (take-append-le size s more inside, drop-append-le size s more inside) in
    front ∙ ap (λ (its : List (List ℕ)). take size s ∷ its) later ∙ sym (rw (one_whole n s item, left, behind_cons s size (items n (drop size s)) inside))

pub items_more : (n : ℕ) (s more : List ℕ) → More n s more
unfolding items after_items flatten
items_more zero s more = refl
items_more (suc n) s more =
    ⊎_elim
    (λ no_item. let all : suc n - 0 ≡ suc n = omega arith in rw (none_whole (suc n) s no_item) (simp all))
    (λ item. more_than_one n s more item.0 item.1 (items_more n (drop item.0 s) more))
    (at_front_law s)

-- what is after the items of more octets
pub behind_more : (n : ℕ) (s more : List ℕ) → let rest = after_items (items n s) s ++ more in
    after_items (items n (s ++ more)) (s ++ more) ≡ after_items (items (n - length (items n s)) rest) rest
unfolding after_items
behind_more n s more =
    let its : List (List ℕ) = items n s in
    let rest : List ℕ = drop (length (flatten its)) s ++ more in
    let later : List (List ℕ) = items (n - length its) rest in
    rw (items_more n s more, flatten_append its later, length-append (flatten its) (flatten later), ← drop-drop (length (flatten later)) (length (flatten its)) (s ++ more), drop-append-le (length (flatten its)) s more (items_fit n s))

-- How an input falls into items, in the paper's words
size_alone : (s : List ℕ) {n : ℕ} → size_of s ≡ Some n → size_of (take n s) ≡ Some n
unfolding size_of
size_alone [] {n} is = absurd (none-some n is)
size_alone (first ∷ rest) {n = zero} is = absurd (omega (arith, size_bounds (first ∷ rest) is))
size_alone (first ∷ rest) {n = suc n} is = go (eqb first 0) (ltb 2 first) is
  where
    go : (tick high : Bool) → cond tick (Some 1) (cond high None (Some (3 + payload_size (get_or rest 1 0)))) ≡ Some (suc n)
        → cond tick (Some 1) (cond high None (Some (3 + payload_size (get_or (take n rest) 1 0)))) ≡ Some (suc n)
    go true high is = is
    go false true is = is
    go false false is = rw (get_or-take n rest 1 0 (omega (arith, same_Some _ _ is))) is

pub item_whole : (s : List ℕ) {size : ℕ} → whole_size s ≡ Some size → size_of (take size s) ≡ Some (length (take size s))
item_whole s {size} item =
    let all = whole_inv s item in
    size_alone s all.0 ∙ ap Some (sym (length-take-le size s all.1))

tiles : (n : ℕ) (s : List ℕ) → flatten (items n s) ++ after_items (items n s) s ≡ s
unfolding items after_items flatten
tiles zero s = refl
tiles (suc n) s =
    ⊎_elim
    (λ no_item. rw (none_whole (suc n) s no_item))
    (λ item. one item.0 item.1 (tiles n (drop item.0 s)))
    (at_front_law s)
  where
    one : (size : ℕ) → whole_size s ≡ Some size → flatten (items n (drop size s)) ++ after_items (items n (drop size s)) (drop size s) ≡ drop size s
        → flatten (items (suc n) s) ++ after_items (items (suc n) s) s ≡ s
    one size item later =
        rw (one_whole n s item, behind_cons s size (items n (drop size s)) (whole_fits s item))
        (append_assoc (take size s) (flatten (items n (drop size s))) (after_items (items n (drop size s)) (drop size s))
        ∙ ap (λ (l : List ℕ). take size s ++ l) later
        ∙ take-append-drop size s)

all_whole : (n : ℕ) (s : List ℕ) → All HasItsSize (items n s)
unfolding items
all_whole zero s = tt
all_whole (suc n) s =
    ⊎_elim
    (λ no_item. rw (none_whole (suc n) s no_item) tt)
    (λ item. rw (one_whole n s item.1) (item_whole s item.1, all_whole n (drop item.0 s)))
    (at_front_law s)

-- no whole item stands after the items, unless there are n
pub ends : (n : ℕ) (s : List ℕ) → (length (items n s) ≡ n) ⊎ (whole_size (after_items (items n s) s) ≡ None)
unfolding items after_items flatten
ends zero s = inl refl
ends (suc n) s =
    ⊎_elim
    (λ no_item. inr (rw (none_whole (suc n) s no_item) no_item))
    (λ item.
    rw (one_whole n s item.1, behind_cons s item.0 (items n (drop item.0 s)) (whole_fits s item.1))
    (⊎_elim (λ all. inl (ap suc all)) (λ no_item. inr no_item) (ends n (drop item.0 s))))
    (at_front_law s)

not_whole : (s : List ℕ) → whole_size s ≡ None → (size_of s ≡ None) ⊎ IsSomeAnd (size_of s) (λ size. length s < size)
unfolding whole_size
not_whole s = go (size_of s)
  where
    go : (o : Option ℕ) → option_and_then (λ n. cond (leb n (length s)) (Some n) None) o ≡ None → (o ≡ None) ⊎ IsSomeAnd o (λ size. length s < size)
    go None is = inl refl
    go (Some n) is = inr (short (leb n (length s)) refl is)
      where
        short : (fits : Bool) → leb n (length s) ≡ fits → cond fits (Some n) None ≡ None → length s < n
        short true e is = absurd (none-some n (sym is))
        short false e is = leb-false n (length s) e

pub cut : (n : ℕ) (s : List ℕ) → Cut n s
cut n s = record { tiles = tiles n s; whole = all_whole n s; ends = go (after_items (items n s) s) (ends n s) }
  where
    go : (rest : List ℕ) → (length (items n s) ≡ n) ⊎ (whole_size rest ≡ None)
        → (rest ≡ []) ⊎ ((length (items n s) ≡ n) ⊎ ((size_of rest ≡ None) ⊎ IsSomeAnd (size_of rest) (λ size. length rest < size)))
    go [] why = inl refl
    go (first ∷ rest) why = inr (⊎_elim (λ all. inl all) (λ no_item. inr (not_whole (first ∷ rest) no_item)) why)
