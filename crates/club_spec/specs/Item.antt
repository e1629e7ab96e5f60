-- How a club's input falls into items: hublog's three (document 01), and five of its own (docs/TURNBOOK.md).
--
--     tick                        | 00       |
--     packet                      | 01 or 02 | header 2 | as many octets as the header counts |
--     seat, of a public address   | 03       | address 6 |
--     seat, of a random address   | 04       | address 6 |
--     close                       | 05       |
--     open move of a seat         | 06       | seat 1 |
--     closed move of a seat       | 07       | seat 1 |
--
--   own_size first       == how many octets an item of the club's own has that begins so, if one does
--   club_size s          == how many octets the item has that begins so, if one does
--   whole_item s         == the same where s has so many octets
--   club_items n s       == the whole items at the front of s, at most n of them
--   after_club its s     == what is left of s after these items
--   IsClubItem item     == an item, in the words of the figure
--   ClubFalls n s       (Items.club_falls)   what `club_items` finds are items, and no item is passed over
use Rattle.std.specs.Prelude.{◌≡◌, ◌⊎◌, cond, ℕ, zero, suc, leb, eqb, length, take, drop, Option, None, Some, option_and_then}
use Rattle.std.specs.Option.{option_map_or}
use mathlib.Core.List.{List, [], ◌∷◌, ◌++◌, flatten}
use Rattle.octets.specs.Lists.{All}
use Rattle.items.specs.Item.{size_of, IsItem}

unfoldable pub own_size : ℕ → Option ℕ
own_size first = cond (leb first 4) (Some 7) (cond (eqb first 5) (Some 1) (cond (leb first 7) (Some 2) None))

unfoldable pub club_size : List ℕ → Option ℕ
club_size [] = None
club_size (first ∷ rest) = cond (leb first 2) (size_of (first ∷ rest)) (own_size first)

unfoldable pub whole_item : List ℕ → Option ℕ
whole_item s = option_and_then (λ size. cond (leb size (length s)) (Some size) None) (club_size s)

unfoldable pub club_items : ℕ → List ℕ → List (List ℕ)
club_items zero s = []
club_items (suc n) s = option_map_or (λ size. take size s ∷ club_items n (drop size s)) (whole_item s) []

unfoldable pub after_club : List (List ℕ) → List ℕ → List ℕ
after_club its s = drop (length (flatten its)) s

pub data IsClubItem : List ℕ → Type 0 where
  heard : {item : List ℕ} → IsItem item → IsClubItem item
  seats : (first : ℕ) (address : List ℕ) → (first ≡ 0x03) ⊎ (first ≡ 0x04) → length address ≡ 6 → IsClubItem (first ∷ address)
  closes : IsClubItem (0x05 ∷ [])
  reads : (first n : ℕ) → (first ≡ 0x06) ⊎ (first ≡ 0x07) → IsClubItem (first ∷ n ∷ [])

pub record ClubFalls (n : ℕ) (s : List ℕ) : Type 0 where
  pub each : All IsClubItem (club_items n s)
  pub found : (item rest : List ℕ) → IsClubItem item → club_items (suc n) (item ++ rest) ≡ item ∷ club_items n rest
  pub size : (item rest : List ℕ) → IsClubItem item → whole_item (item ++ rest) ≡ Some (length item)
  pub no_size : ((item rest : List ℕ) → IsClubItem item → s ≡ item ++ rest → ⊥) → whole_item s ≡ None
  -- the items and the octets after them are the input
  pub tiles : flatten (club_items n s) ++ after_club (club_items n s) s ≡ s
