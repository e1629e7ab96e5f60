-- How the hub's input falls into items (document 01, hublog).
--
--     tick      | 00       |
--     packet    | 01 or 02 | header 2 | as many octets as the header counts |
--
--   payload_size h1      == how many octets a packet's header counts, h1 being its second octet
--   size_of s            == how many octets the item has that begins so, if one does
--   whole_size s         == the same where s has so many octets
--   items n s           == the whole items at the front of s, at most n of them
--   after_items its s    == what is left of s after these items
--   IsItem item         == an item, in the paper's words
--   HasItsSize item     == an item is as long as its own octets say
--   Falls n s, Cut n s  (Falling.falls, Items.cut)  what `items` finds is just that
use Rattle.std.specs.Prelude.{◌≡◌, ◌⊎◌, ℕ, zero, suc, ◌+◌, ◌%◌, ◌<◌, cond, length, get_or, take, drop, leb, ltb, eqb, Option, None, Some, IsSomeAnd, option_and_then}
use Rattle.std.specs.Option.{option_map_or}
use mathlib.Core.List.{List, [], ◌∷◌, ◌++◌, flatten}
use Rattle.octets.specs.Lists.{All}

-- the header's bits 8 to 13
abbrev pub payload_size : ℕ → ℕ
payload_size h1 = h1 % 64

unfoldable pub size_of : List ℕ → Option ℕ
size_of [] = None
size_of (first ∷ rest) = cond (eqb first 0) (Some 1) (cond (ltb 2 first) None (Some (3 + payload_size (get_or rest 1 0))))

unfoldable pub whole_size : List ℕ → Option ℕ
whole_size s = option_and_then (λ size. cond (leb size (length s)) (Some size) None) (size_of s)

unfoldable pub items : ℕ → List ℕ → List (List ℕ)
items zero s = []
items (suc n) s = option_map_or (λ size. take size s ∷ items n (drop size s)) (whole_size s) []

unfoldable pub after_items : List (List ℕ) → List ℕ → List ℕ
after_items its s = drop (length (flatten its)) s

-- What that means, in the paper's words. "00 is a tick; 01 (CRC good) or 02 (bad) is followed by header and as many octets as it counts"
pub data IsItem : List ℕ → Type 0 where
  tick : IsItem (0x00 ∷ [])
  packet : (first h0 h1 : ℕ) (payload : List ℕ) → (first ≡ 0x01) ⊎ (first ≡ 0x02) → length payload ≡ h1 % 64 → IsItem (first ∷ h0 ∷ h1 ∷ payload)

pub record Falls (n : ℕ) (s : List ℕ) : Type 0 where
  -- what is found are items, and an item at the front is found
  pub each : All IsItem (items n s)
  pub found : (item rest : List ℕ) → IsItem item → items (suc n) (item ++ rest) ≡ item ∷ items n rest
  -- what `whole_size` answers: how long the item at the front is, or none where none stands
  pub size : (item rest : List ℕ) → IsItem item → whole_size (item ++ rest) ≡ Some (length item)
  pub no_size : ((item rest : List ℕ) → IsItem item → s ≡ item ++ rest → ⊥) → whole_size s ≡ None
  -- reading ends after n items, or where no item stands
  pub stops : (length (items n s) ≡ n) ⊎ ((item more : List ℕ) → IsItem item → after_items (items n s) s ≡ item ++ more → ⊥)

abbrev pub HasItsSize : List ℕ → Type 0
HasItsSize item = size_of item ≡ Some (length item)

pub record Cut (n : ℕ) (s : List ℕ) : Type 0 where
  -- the items and the octets after them are the input, and each item is whole
  pub tiles : flatten (items n s) ++ after_items (items n s) s ≡ s
  pub whole : All HasItsSize (items n s)
  -- reading ends at the end, at the item after n, at another first octet, or at an item that is cut short
  pub ends :
      (after_items (items n s) s ≡ [])
      ⊎ ((length (items n s) ≡ n) ⊎ ((size_of (after_items (items n s) s) ≡ None) ⊎ IsSomeAnd (size_of (after_items (items n s) s)) (λ size. length (after_items (items n s) s) < size)))
