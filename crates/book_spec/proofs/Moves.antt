-- The test of a move record, the move that is heard in an area, and a move of its octets: `move_test`, `hears_move`, `move_made`. Assumes nothing.
use mathlib.Core.Bool.{◌&&◌}
use mathlib.Core.List.{List, ◌∷◌, ◌++◌}
use mathlib.Core.Path.{◌≡◌, refl, ap, ◌∙◌}
use Prim.Native.Nat.{ℕ, suc, ◌+◌, ◌-◌}
use native.Mathlib.Omega.{arith}
use lib.Dec.{eqb, leb}
use lib.ListN.{length, drop, length-append, length-drop}
use lib.Seq.{length-take-le}
use borrow.Author.Tests.{eqb-true, eq-eqb, leb-true, le-leb}
use Rattle.octets.specs.Bytes.{part}
use Rattle.octets.proofs.Places.{both_true}
use Rattle.records_spec.specs.HubReading.{unpadded}
use Rattle.records_spec.specs.Search.{searched, IsRead, First, Searching}
use Rattle.records_spec.specs.Types.{manufacturer_type}
use Rattle.std.specs.Prelude.{Some}
use Rattle.records_spec.proofs.Search.{searching}
use Rattle.book_spec.specs.Laws.{MoveTest, HearsMove, MoveMade}
use Rattle.book_spec.specs.Moves.{move_of, is_move, move_in, heard_at, number_at}
use Rattle.book_spec.specs.TurnBook.{MoveRecord, IsMoveOf}

pub move_test : (company : ℕ) → MoveTest company
unfolding is_move
move_test company =
    record {
      sound = λ n ty octets passes.
          let r : List ℕ = n ∷ ty ∷ octets in
          let long = both_true (leb 7 (length r)) (leb (length r) 26 && (eqb ty manufacturer_type && eqb (number_at r 2) company)) passes in
          let short = both_true (leb (length r) 26) (eqb ty manufacturer_type && eqb (number_at r 2) company) long.1 in
          let rest = both_true (eqb ty manufacturer_type) (eqb (number_at r 2) company) short.1 in
          record {
            type = eqb-true ty manufacturer_type rest.0;
            some = omega (arith, leb-true 7 (length r) long.0);
            few = omega (arith, leb-true (length r) 26 short.0);
            number = omega (arith, eqb-true (number_at r 2) company rest.1);
          };
      complete = λ n ty octets is.
          let r : List ℕ = n ∷ ty ∷ octets in
          rw (le-leb 7 (length r) (omega (arith, is.some)), le-leb (length r) 26 (omega (arith, is.few)), eq-eqb ty manufacturer_type is.type, eq-eqb (number_at r 2) company (omega (arith, is.number)));
    }

pub move_made : (octets : List ℕ) → MoveMade octets
unfolding move_of
move_made octets some few = record { some = some; few = few; number = refl; octets_are = refl }

module _ (company : ℕ) (s : List ℕ) (start len : ℕ) (f : First (MoveRecord company) s start len) where
  -- the move's octets stand in the area
  inside : length (part (len - 4) s (start + 4)) ≡ len - 4
  inside =
      let n = f.stands in
      let size : length s ≡ length n.before + suc (suc (length (n.octets ++ n.behind))) = ap length n.made_up ∙ length-append n.before (suc (length n.octets) ∷ n.type ∷ (n.octets ++ n.behind)) in
      let after = length-append n.octets n.behind in
      length-take-le (len - 4) (drop (start + 4) s) (omega (arith, length-drop (start + 4) s, size, after, n.begins, n.long, n.is.some))

  its_move : IsMoveOf (move_of (part (len - 4) s (start + 4))) (part (len - 4) s (start + 4))
  its_move =
      let n = f.stands in
      move_made (part (len - 4) s (start + 4)) (omega (arith, inside, n.long, n.is.some)) (omega (arith, inside, n.long, n.is.few))

pub hears_move : (company : ℕ) (s : List ℕ) → IsRead s → HearsMove company s
unfolding move_in heard_at
hears_move company s x =
    record {
      turn = λ start len f.
          let next : start + 2 + 1 ≡ start + 3 = omega arith in
          rw (at start len f, next) (omega arith);
      played = λ start len f. rw (at start len f) (its_move company s start len f);
      found = λ start len f. rw (at start len f);
      none = λ n. rw (search.none n);
    }
  where
    search : Searching (is_move company) (MoveRecord company) s
    search = searching s x (move_test company)

    at : (start len : ℕ) → First (MoveRecord company) s start len → searched (is_move company) (unpadded s) ≡ Some (record { start = start; len = len })
    at start len f = search.first start len f
