-- What is taken of a club's octets, and the lines of it: `fitted`, `line_sizes`. Assumes nothing.
use mathlib.Core.Path.{◌≡◌, refl, sym, ap, ◌∙◌}
use mathlib.Core.Logic.{◌⊎◌, inl, inr, ⊎_elim}
use mathlib.Core.Bool.{Bool, true, false, cond}
use mathlib.Core.List.{List, [], ◌∷◌, ◌++◌, flatten}
use Prim.Native.Nat.{ℕ, zero, suc, ◌+◌, ◌-◌, ◌<◌, ◌≤◌}
use native.Mathlib.Omega.{arith}
use lib.ListN.{length, get_or, take, drop, length-append, length-drop}
use lib.Dec.{ltb, eqb}
use borrow.Author.Tests.{lt-ltb, le-ltb, ltb-true, ltb-false}
use Rattle.std.specs.Prelude.{None, Some}
use Rattle.octets.specs.Error.{outcome_number}
use Rattle.octets.specs.Lists.{total}
use Rattle.records_spec.proofs.Fronts.{flatten_append}
use Rattle.columns.specs.Row.{row_of}
use Rattle.columns.proofs.Widths.{column_length}
use Rattle.book_spec.specs.History.{BookCall, BookReply, seated, called, seat_is, move_is, number_is, next_book, reply_of}
use Rattle.book_spec.specs.State.{Book}
use Rattle.club_spec.specs.Item.{whole_item, club_items, after_club}
use Rattle.club_spec.specs.Laws.{Fitted, LineSizes}
use Rattle.club_spec.specs.Log.{calls_for, seat_widths, seat_refusal, seat_number, close_widths, move_widths, reply_line, call_line, club_line, club_after, club_lines, end_line, longest_line, items_fitting, fitting_in, item_line, item_taken, items_taken}
use Rattle.club_spec.specs.State.{Club}
use Rattle.club_spec.proofs.Items.{whole_fits, whole_some, at_front_law, none_whole, one_whole, behind_cons, club_falls}

-- a row has no more octets than its columns and the octet 0A
row_most : (ws ns : List ℕ) → length (row_of ws ns) ≤ total ws + 1
unfolding row_of
row_most [] ns = omega arith
row_most (w ∷ ws) [] = omega arith
row_most (w ∷ ws) (n ∷ ns) = rw (length-append, column_length) (omega (arith, row_most ws ns))

reply_size_law : (first n : ℕ) (r : BookReply) (turn : ℕ) → length (reply_line first n r turn) ≤ longest_line
unfolding reply_line
reply_size_law first n (seated s) turn = omega (arith, row_most seat_widths (first ∷ seat_refusal s ∷ seat_number s ∷ []))
reply_size_law first n (called o) turn = go (eqb first 5) _ (row_most close_widths (first ∷ outcome_number o ∷ turn ∷ []))
  where
    go : (b : Bool) (l : List ℕ) → length l ≤ 12 → length (cond b l []) ≤ longest_line
    go true l few = omega arith
    go false l few = omega arith
reply_size_law first n (move_is m) turn = row_most move_widths (first ∷ n ∷ m.len ∷ m.octets)
reply_size_law first n (seat_is read) turn = omega arith
reply_size_law first n (number_is k) turn = omega arith

call_size : (item : List ℕ) (b : Book) (cs : List BookCall) → length (call_line item b cs) ≤ longest_line
call_size item b [] = omega arith
call_size item b (c ∷ cs) = reply_size_law (get_or item 0 0) (get_or item 1 0) (reply_of b c) (next_book b c).turn

pub line_sizes : (k : Club) (item : List ℕ) → LineSizes k item
unfolding club_line
line_sizes k item = call_size item k.book (calls_for k.scanner item)

pub end_length : (k : Club) (n : ℕ) → length (end_line k n) ≡ 9
unfolding end_line row_of
end_length k n = simp (length-append, column_length)

-- The items that are taken

pub no_room : (n : ℕ) (k : Club) (s : List ℕ) (room : ℕ) → room < longest_line → items_fitting n k s room ≡ []
unfolding items_fitting
no_room zero k s room short = refl
no_room (suc n) k s room short = rw (lt-ltb room longest_line short) refl

pub no_item : (n : ℕ) (k : Club) (s : List ℕ) (room : ℕ) → whole_item s ≡ None → items_fitting n k s room ≡ []
unfolding items_fitting
no_item zero k s room none_there = refl
no_item (suc n) k s room none_there = rw none_there (go (ltb room longest_line) [] refl)
  where
    go : (b : Bool) (l : List (List ℕ)) → l ≡ [] → cond b [] l ≡ []
    go true l is = refl
    go false l is = is

pub an_item : (n : ℕ) (k : Club) (s : List ℕ) (room : ℕ) {size : ℕ} → whole_item s ≡ Some size → longest_line ≤ room
    → items_fitting (suc n) k s room ≡ take size s ∷ items_fitting n (club_after k (take size s)) (drop size s) (room - length (club_line k (take size s)))
unfolding items_fitting
an_item n k s room item enough = rw (le-ltb room longest_line enough, item) refl

-- `Fitted` of so many octets, or fewer
record Fits (n : ℕ) (k : Club) (s : List ℕ) (room : ℕ) : Type 0 where
  more : List (List ℕ)
  first : club_items n s ≡ items_fitting n k s room ++ more
  room_kept : length (club_lines k (items_fitting n k s room)) ≤ room
  stops : (whole_item (after_club (items_fitting n k s room) s) ≡ None) ⊎ (room < length (club_lines k (items_fitting n k s room)) + 90)

module _ (n : ℕ) (k : Club) (s : List ℕ) (room : ℕ) where
  none_there : whole_item s ≡ None → Fits n k s room
  unfolding club_lines after_club flatten
  none_there is =
      let none = no_item n k s room is in
      record { more = []; first = rw none (none_whole n s is); room_kept = rw none (omega arith); stops = inl (rw none is) }

  none_fits : room < longest_line → Fits n k s room
  unfolding club_lines
  none_fits short =
      let none = no_room n k s room short in
      record { more = club_items n s; first = rw none refl; room_kept = rw none (omega arith); stops = inr (rw none (omega arith)) }

  one_fits : (size : ℕ) → whole_item s ≡ Some size → longest_line ≤ room
      → Fits n (club_after k (take size s)) (drop size s) (room - length (club_line k (take size s))) → Fits (suc n) k s room
  unfolding club_lines
  one_fits size item enough later =
      let one = an_item n k s room item enough in
      let its : List (List ℕ) = items_fitting n (club_after k (take size s)) (drop size s) (room - length (club_line k (take size s))) in
      let few = line_sizes k (take size s) in
      record {
        more = later.more;
        first = rw one (one_whole n s item ∙ ap (λ (l : List (List ℕ)). take size s ∷ l) later.first);
        room_kept = rw (one, length-append) (omega (arith, few, later.room_kept));
        stops = rw (one, length-append, behind_cons s size its (whole_fits s item)) (⊎_elim (λ none. inl none) (λ short. inr (omega (arith, few, short))) later.stops);
      }

nothing_whole : (s : List ℕ) → length s ≤ 0 → whole_item s ≡ None
nothing_whole s none =
    ⊎_elim
    (λ no_item. no_item)
    (λ item. absurd (omega (arith, whole_some s item.1, whole_fits s item.1)))
    (at_front_law s)

fits : (n : ℕ) (k : Club) (s : List ℕ) (room : ℕ) → length s ≤ n → Fits n k s room
fits zero k s room few = none_there zero k s room (nothing_whole s few)
fits (suc n) k s room few =
    ⊎_elim
    (λ none. none_there (suc n) k s room none)
    (λ item. go (ltb room longest_line) refl item.0 item.1 (fits n _ (drop item.0 s) _ (rw length-drop (omega (arith, whole_fits s item.1, whole_some s item.1)))))
    (at_front_law s)
  where
    go : (b : Bool) → ltb room longest_line ≡ b → (size : ℕ) → whole_item s ≡ Some size
        → Fits n (club_after k (take size s)) (drop size s) (room - length (club_line k (take size s))) → Fits (suc n) k s room
    go true e size item later = none_fits (suc n) k s room (ltb-true room longest_line e)
    go false e size item later = one_fits n k s room size item (ltb-false room longest_line e) later

pub fitted : (k : Club) (s : List ℕ) (room : ℕ) → Fitted k s room
unfolding after_club
fitted k s room =
    let f = fits (length s) k s room (omega arith) in
    record { more = f.more; first = f.first; room_kept = f.room_kept; stops = f.stops }

-- What taking an item answers, where one stands at the front

pub taken_is : (k : Club) (s : List ℕ) {size : ℕ} → whole_item s ≡ Some size
    → item_taken k s ≡ Some (record { club = club_after k (take size s); size = size; written = length (club_line k (take size s)) })
unfolding item_taken
taken_is k s item = rw item refl

pub line_is : (k : Club) (s : List ℕ) {size : ℕ} → whole_item s ≡ Some size → item_line k s ≡ club_line k (take size s)
unfolding item_line
line_is k s item = rw item refl

pub none_taken : (k : Club) (s : List ℕ) → whole_item s ≡ None → item_taken k s ≡ None
unfolding item_taken
none_taken k s none = rw none refl

pub no_line : (k : Club) (s : List ℕ) → whole_item s ≡ None → item_line k s ≡ []
unfolding item_line
no_line k s none = rw none refl

-- the items that are taken lie within the octets
pub items_inside : (k : Club) (s : List ℕ) (room : ℕ) → (items_taken k s room).taken ≤ length s
unfolding items_taken
items_inside k s room =
    let f = fitted k s room in
    let its : List (List ℕ) = fitting_in k s room in
    let all : flatten (its ++ f.more) ++ after_club (club_items (length s) s) s ≡ s =
    ap (λ (l : List (List ℕ)). flatten l ++ after_club (club_items (length s) s) s) (sym f.first) ∙ (club_falls (length s) s).tiles in
    omega (arith, sym (ap length all), length-append (flatten (its ++ f.more)) (after_club (club_items (length s) s) s), ap length (flatten_append its f.more), length-append (flatten its) (flatten f.more))

pub lines_inside : (k : Club) (s : List ℕ) (room : ℕ) → (items_taken k s room).written ≤ room
unfolding items_taken
lines_inside k s room = (fitted k s room).room_kept
