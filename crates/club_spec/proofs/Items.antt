-- How a club's octets fall into items: `club_falls`. Assumes nothing.
use mathlib.Core.Path.{◌≡◌, refl, sym, ap, ◌∙◌}
use mathlib.Core.Logic.{◌⊎◌, inl, inr, ⊎_elim}
use mathlib.Core.Bool.{Bool, true, false, cond}
use mathlib.Core.List.{List, [], ◌∷◌, ◌++◌, append_assoc, flatten}
use Prim.Native.Nat.{ℕ, zero, suc, ◌+◌, ◌<◌, ◌≤◌}
use native.Mathlib.Omega.{arith}
use native.Mathlib.Nat.{eq-or-lt_of_le}
use lib.ListN.{length, take, drop, length-append, take-append-drop, length-take}
use lib.Seq.{take-append_seam, drop_at, drop-drop, length-take-le}
use lib.Dec.{leb, eqb}
use borrow.Author.Tests.{le-leb, lt-leb, leb-true, leb-false, eqb-true, eqb-false}
use Rattle.std.specs.Prelude.{Option, None, Some, option_and_then}
use Rattle.std.proofs.lemmas.Option.{none-some, same_Some, cond_some}
use Rattle.octets.specs.Lists.{All}
use Rattle.items.specs.Item.{size_of, whole_size, items, IsItem, tick, packet}
use Rattle.items.proofs.Items as heard-items
use Rattle.items.proofs.Falling.{falls}
use Rattle.club_spec.specs.Item.{own_size, club_size, whole_item, club_items, after_club, IsClubItem, heard, seats, closes, reads, ClubFalls}

-- The size of the item at the front

pub whole_is : (s : List ℕ) {n : ℕ} → club_size s ≡ Some n → n ≤ length s → whole_item s ≡ Some n
unfolding whole_item
whole_is s {n} is fits = simp (is, le-leb n (length s) fits)

pub whole_not : (s : List ℕ) {n : ℕ} → club_size s ≡ Some n → length s < n → whole_item s ≡ None
unfolding whole_item
whole_not s {n} is short = simp (is, lt-leb n (length s) short)

-- by its first octet: one of the hub's items, or one of the club's own
pub heard_size : (first : ℕ) (rest : List ℕ) → first ≤ 2 → whole_item (first ∷ rest) ≡ whole_size (first ∷ rest)
unfolding whole_item club_size whole_size
heard_size first rest low = rw (le-leb first 2 low) refl

pub own_is : (first : ℕ) (rest : List ℕ) → 2 < first → club_size (first ∷ rest) ≡ own_size first
unfolding club_size
own_is first rest high = simp (lt-leb first 2 high)

-- a whole item is all that its first octet says, and lies within the octets
whole_inv : (s : List ℕ) {size : ℕ} → whole_item s ≡ Some size → (club_size s ≡ Some size) × (size ≤ length s)
unfolding whole_item
whole_inv s {size} = go (club_size s)
  where
    go : (o : Option ℕ) → option_and_then (λ n. cond (leb n (length s)) (Some n) None) o ≡ Some size → (o ≡ Some size) × (size ≤ length s)
    go None is = absurd (none-some size is)
    go (Some n) is =
        let fits = cond_some (leb n (length s)) n size is in
        (ap Some fits.1, omega (arith, leb-true n (length s) fits.0, fits.1))

pub whole_fits : (s : List ℕ) {size : ℕ} → whole_item s ≡ Some size → size ≤ length s
whole_fits s is = (whole_inv s is).1

-- and has an octet at least
own_some : (first : ℕ) {n : ℕ} → own_size first ≡ Some n → 0 < n
unfolding own_size
own_some first {n} = go (leb first 4) (eqb first 5) (leb first 7)
  where
    go : (sits shuts asks : Bool) → cond sits (Some 7) (cond shuts (Some 1) (cond asks (Some 2) None)) ≡ Some n → 0 < n
    go true shuts asks is = omega (arith, same_Some _ _ is)
    go false true asks is = omega (arith, same_Some _ _ is)
    go false false true is = omega (arith, same_Some _ _ is)
    go false false false is = absurd (none-some n is)

pub whole_some : (s : List ℕ) {size : ℕ} → whole_item s ≡ Some size → 0 < size
unfolding club_size
whole_some [] {size} item = absurd (none-some size (whole_inv [] item).0)
whole_some (first ∷ rest) {size} item = go (leb first 2) (whole_inv (first ∷ rest) item).0
  where
    go : (low : Bool) → cond low (size_of (first ∷ rest)) (own_size first) ≡ Some size → 0 < size
    go true is = (heard-items.size_bounds (first ∷ rest) is).0
    go false is = own_some first is

-- a whole item stands at the front, or none does
pub at_front_law : (s : List ℕ) → (whole_item s ≡ None) ⊎ ((size : ℕ) × (whole_item s ≡ Some size))
at_front_law s = go (whole_item s) refl
  where
    go : (o : Option ℕ) → whole_item s ≡ o → (whole_item s ≡ None) ⊎ ((size : ℕ) × (whole_item s ≡ Some size))
    go None is = inl is
    go (Some size) is = inr (size, is)

pub none_whole : (n : ℕ) (s : List ℕ) → whole_item s ≡ None → club_items n s ≡ []
unfolding club_items
none_whole zero s no_item = refl
none_whole (suc n) s no_item = rw no_item

pub one_whole : (n : ℕ) (s : List ℕ) {size : ℕ} → whole_item s ≡ Some size → club_items (suc n) s ≡ take size s ∷ club_items n (drop size s)
unfolding club_items
one_whole n s item = rw item

-- An item in the words of the figure has its size, and what has its size is one

pub some_octet : (item : List ℕ) → IsClubItem item → 0 < length item
some_octet item (heard tick) = omega arith
some_octet item (heard (packet first h0 h1 payload which counted)) = omega arith
some_octet item (seats first address which six) = omega arith
some_octet item closes = omega arith
some_octet item (reads first n which) = omega arith

own_whole : (first : ℕ) (item rest : List ℕ) → 2 < first → own_size first ≡ Some (suc (length item)) → whole_item (first ∷ (item ++ rest)) ≡ Some (suc (length item))
own_whole first item rest high is = whole_is (first ∷ (item ++ rest)) (own_is first (item ++ rest) high ∙ is) (omega (arith, length-append item rest))

size_whole : (item rest : List ℕ) → IsClubItem item → whole_item (item ++ rest) ≡ Some (length item)
unfolding own_size
size_whole item rest (heard tick) = heard_size 0 rest (omega arith) ∙ (falls 0 []).size (0 ∷ []) rest tick
size_whole item rest (heard (packet first h0 h1 payload which counted)) =
    heard_size first (h0 ∷ h1 ∷ (payload ++ rest)) (⊎_elim (λ good. omega arith) (λ bad. omega arith) which)
    ∙ (falls 0 []).size (first ∷ h0 ∷ h1 ∷ payload) rest (packet first h0 h1 payload which counted)
size_whole item rest (seats first address which six) =
    let place : (2 < first) × (first ≤ 4) = ⊎_elim (λ public. (omega arith, omega arith)) (λ random. (omega arith, omega arith)) which in
    own_whole first address rest place.0 (rw (le-leb first 4 place.1, six) refl)
size_whole item rest closes = own_whole 5 [] rest (omega arith) refl
size_whole item rest (reads first n which) =
    ⊎_elim (λ is_open. rw is_open (own_whole 6 (n ∷ []) rest (omega arith) refl)) (λ is-closed. rw is-closed (own_whole 7 (n ∷ []) rest (omega arith) refl)) which

found : (n : ℕ) (item rest : List ℕ) → IsClubItem item → club_items (suc n) (item ++ rest) ≡ item ∷ club_items n rest
found n item rest is = one_whole n (item ++ rest) (size_whole item rest is) ∙ rw (take-append_seam item rest, drop_at item rest (length item) refl)

-- one of the club's own, by the size that its first octet says
own_item : (first : ℕ) (item : List ℕ) → 2 < first → own_size first ≡ Some (suc (length item)) → IsClubItem (first ∷ item)
unfolding own_size
own_item first item high = go (leb first 4) (eqb first 5) (leb first 7) refl refl refl
  where
    short : (item : List ℕ) → length item ≡ 0 → item ≡ []
    short [] e = refl
    short (x ∷ item) e = absurd (omega arith)

    one : (item : List ℕ) → length item ≡ 1 → (first ≡ 6) ⊎ (first ≡ 7) → IsClubItem (first ∷ item)
    one [] e which = absurd (omega arith)
    one (n ∷ []) e which = reads first n which
    one (n ∷ x ∷ item) e which = absurd (omega arith)

    go : (sits shuts asks : Bool) → leb first 4 ≡ sits → eqb first 5 ≡ shuts → leb first 7 ≡ asks
        → cond sits (Some 7) (cond shuts (Some 1) (cond asks (Some 2) None)) ≡ Some (suc (length item)) → IsClubItem (first ∷ item)
    go true shuts asks l e m is =
        let low = leb-true first 4 l in
        seats first item (⊎_elim (λ four. inr four) (λ less. inl (omega arith)) (eq-or-lt_of_le low)) (omega (arith, same_Some _ _ is))
    go false true asks l e m is = rw (eqb-true first 5 e, short item (omega (arith, same_Some _ _ is))) closes
    go false false true l e m is =
        let low = leb-true first 7 m in
        let high = leb-false first 4 l in
        let other = eqb-false first 5 e in
        one item (omega (arith, same_Some _ _ is)) (⊎_elim (λ seven. inr seven) (λ less. inl (six (omega arith) (omega arith) other)) (eq-or-lt_of_le low))
      where
        six : 4 < first → first < 7 → (first ≡ 5 → ⊥) → first ≡ 6
        six above below not-5 = omega arith
    go false false false l e m is = absurd (none-some (suc (length item)) is)

-- what is whole at the front is an item
pub is_item : (s : List ℕ) {size : ℕ} → whole_item s ≡ Some size → IsClubItem (take size s)
unfolding club_size
is_item [] {size} item = absurd (none-some size (whole_inv [] item).0)
is_item (first ∷ rest) {size} item = go (leb first 2) refl
  where
    hub_item : first ≤ 2 → IsClubItem (take size (first ∷ rest))
    hub_item low =
        let all : All IsItem (items 1 (first ∷ rest)) = (falls 1 (first ∷ rest)).each in
        let is = rw (heard-items.one_whole 0 (first ∷ rest) (sym (heard_size first rest low) ∙ item)) at all in
        heard is.0

    own : 2 < first → (n : ℕ) → own_size first ≡ Some n → n ≤ length (first ∷ rest) → IsClubItem (take n (first ∷ rest))
    own high zero is fits = absurd (omega (arith, own_some first is))
    own high (suc n) is fits = own_item first (take n rest) high (is ∙ ap (λ (k : ℕ). Some (suc k)) (sym (length-take-le n rest (omega arith))))

    go : (b : Bool) → leb first 2 ≡ b → IsClubItem (take size (first ∷ rest))
    go true e = hub_item (leb-true first 2 e)
    go false e =
        let high = leb-false first 2 e in
        own high size (sym (own_is first rest high) ∙ (whole_inv (first ∷ rest) item).0) (whole_fits (first ∷ rest) item)

each : (n : ℕ) (s : List ℕ) → All IsClubItem (club_items n s)
unfolding club_items
each zero s = tt
each (suc n) s =
    ⊎_elim
    (λ no_item. rw (none_whole (suc n) s no_item) tt)
    (λ item. rw (one_whole n s item.1) (is_item s item.1, each n (drop item.0 s)))
    (at_front_law s)

no_size : (s : List ℕ) → ((item rest : List ℕ) → IsClubItem item → s ≡ item ++ rest → ⊥) → whole_item s ≡ None
no_size s none_there =
    ⊎_elim
    (λ no_item. no_item)
    (λ item. absurd (none_there (take item.0 s) (drop item.0 s) (is_item s item.1) (sym (take-append-drop item.0 s))))
    (at_front_law s)

-- what lies after the first item and some others
pub behind_cons : (s : List ℕ) (size : ℕ) (its : List (List ℕ)) → size ≤ length s → after_club (take size s ∷ its) s ≡ after_club its (drop size s)
unfolding after_club flatten
behind_cons s size its inside =
    let long : length (take size s ++ flatten its) ≡ size + length (flatten its) = simp (length-append, length-take) (omega arith) in
    rw long (sym (drop-drop (length (flatten its)) size s))

tiles : (n : ℕ) (s : List ℕ) → flatten (club_items n s) ++ after_club (club_items n s) s ≡ s
unfolding club_items after_club flatten
tiles zero s = refl
tiles (suc n) s =
    ⊎_elim
    (λ no_item. rw (none_whole (suc n) s no_item))
    (λ item. one item.0 item.1 (tiles n (drop item.0 s)))
    (at_front_law s)
  where
    one : (size : ℕ) → whole_item s ≡ Some size → flatten (club_items n (drop size s)) ++ after_club (club_items n (drop size s)) (drop size s) ≡ drop size s
        → flatten (club_items (suc n) s) ++ after_club (club_items (suc n) s) s ≡ s
    one size item later =
        rw (one_whole n s item, behind_cons s size (club_items n (drop size s)) (whole_fits s item))
        (append_assoc (take size s) (flatten (club_items n (drop size s))) (after_club (club_items n (drop size s)) (drop size s))
        ∙ ap (λ (l : List ℕ). take size s ++ l) later
        ∙ take-append-drop size s)

pub club_falls : (n : ℕ) (s : List ℕ) → ClubFalls n s
club_falls n s = record { each = each n s; found = found n; size = size_whole; no_size = no_size s; tiles = tiles n s }
