-- Worked evenings of a club of company 0x59, and how octets fall into its items, by computation.
--   ada_octets, bo_octets                     == the octets of two addresses
--   sent_item first kind sender records == a packet that is a beacon, by its item's first octet and its header's: 42 has a random sender, 02 a public one
--   short_evening, long_evening   == items, as in docs/TURNBOOK.md and examples/club; and with what does not count among them
--   Examples                    (Examples.examples)
use Rattle.std.specs.Prelude.{◌≡◌, ℕ, ◌+◌, length, replicate, None, Some}
use mathlib.Core.List.{List, [], ◌∷◌, ◌++◌, map, flatten}
use Rattle.columns.specs.Text.{lines}
use Rattle.book_spec.specs.Examples.{move_row}
use Rattle.club_spec.specs.Item.{whole_item, club_items, after_club}
use Rattle.club_spec.specs.Log.{club_log}

abbrev pub ada_octets : List ℕ
ada_octets = 0x01 ∷ 0x02 ∷ 0x03 ∷ 0x04 ∷ 0x05 ∷ 0xC6 ∷ []

abbrev pub bo_octets : List ℕ
bo_octets = 0x0A ∷ 0x0B ∷ 0x0C ∷ 0x0D ∷ 0x0E ∷ 0x0F ∷ []

abbrev pub sent_item : ℕ → ℕ → List ℕ → List ℕ → List ℕ
sent_item first kind sender records = first ∷ kind ∷ (6 + length records) ∷ (sender ++ records)

-- two seats, a move of the first, its open move read, the turn closed, and both closed moves read
abbrev pub short_evening : List (List ℕ)
short_evening =
    (0x04 ∷ ada_octets)
    ∷ (0x03 ∷ bo_octets)
    ∷ sent_item 0x01 0x42 ada_octets (move_row 0x59 0 (7 ∷ 8 ∷ 9 ∷ []))
    ∷ (0x06 ∷ 1 ∷ [])
    ∷ (0x05 ∷ [])
    ∷ (0x07 ∷ 1 ∷ [])
    ∷ (0x07 ∷ 2 ∷ [])
    ∷ []

-- a seat given twice; ticks; packets that are CRC-bad, of another kind of address, of another company and of another turn; a move with zeros after it; a second move
abbrev pub long_evening : List (List ℕ)
long_evening =
    (0x04 ∷ ada_octets)
    ∷ (0x04 ∷ ada_octets)
    ∷ (0x00 ∷ [])
    ∷ sent_item 0x02 0x42 ada_octets (move_row 0x59 0 (1 ∷ []))
    ∷ sent_item 0x01 0x02 ada_octets (move_row 0x59 0 (2 ∷ []))
    ∷ sent_item 0x01 0x42 ada_octets (move_row 0x58 0 (3 ∷ []))
    ∷ sent_item 0x01 0x42 ada_octets (move_row 0x59 1 (4 ∷ []))
    ∷ (0x06 ∷ 1 ∷ [])
    ∷ sent_item 0x01 0x42 ada_octets (move_row 0x59 0 (255 ∷ []) ++ (0 ∷ 0 ∷ []))
    ∷ (0x00 ∷ [])
    ∷ sent_item 0x01 0x42 ada_octets (move_row 0x59 0 (6 ∷ []))
    ∷ (0x06 ∷ 1 ∷ [])
    ∷ (0x07 ∷ 1 ∷ [])
    ∷ (0x05 ∷ [])
    ∷ (0x06 ∷ 1 ∷ [])
    ∷ (0x07 ∷ 1 ∷ [])
    ∷ (0x06 ∷ 64 ∷ [])
    ∷ []

pub record Examples : Type 0 where
  pub short :
      club_log 0x59 (flatten short_evening)
      ≡ lines
      (" 4  0  1"
      ∷ " 3  0  2"
      ∷ " 6   1  3   7   8   9   0   0   0   0   0   0   0   0   0   0   0   0   0   0   0   0   0"
      ∷ " 5  0     1"
      ∷ " 7   1  3   7   8   9   0   0   0   0   0   0   0   0   0   0   0   0   0   0   0   0   0"
      ∷ " 7   2  0   0   0   0   0   0   0   0   0   0   0   0   0   0   0   0   0   0   0   0   0"
      ∷ "     1 0"
      ∷ [])
  -- a broken item at the end
  pub long :
      club_log 0x59 (flatten long_evening ++ (0x08 ∷ []))
      ≡ lines
      (" 4  0  1"
      ∷ " 4 13  0"
      ∷ " 6   1  0   0   0   0   0   0   0   0   0   0   0   0   0   0   0   0   0   0   0   0   0"
      ∷ " 6   1  1 255   0   0   0   0   0   0   0   0   0   0   0   0   0   0   0   0   0   0   0"
      ∷ " 7   1  0   0   0   0   0   0   0   0   0   0   0   0   0   0   0   0   0   0   0   0   0"
      ∷ " 5  0     1"
      ∷ " 6   1  0   0   0   0   0   0   0   0   0   0   0   0   0   0   0   0   0   0   0   0   0"
      ∷ " 7   1  1 255   0   0   0   0   0   0   0   0   0   0   0   0   0   0   0   0   0   0   0"
      ∷ " 6  64  0   0   0   0   0   0   0   0   0   0   0   0   0   0   0   0   0   0   0   0   0"
      ∷ "     1 1"
      ∷ [])
  pub empty : club_log 0x59 [] ≡ lines ("     0 0" ∷ [])
  -- whole items of each kind, with an octet more; each cut short by an octet, and an octet that begins none
  pub whole :
      map whole_item (map (λ (n : ℕ). n ∷ replicate 8 0) (0 ∷ 1 ∷ 2 ∷ 3 ∷ 4 ∷ 5 ∷ 6 ∷ 7 ∷ 8 ∷ 255 ∷ []))
      ≡ Some 1 ∷ Some 3 ∷ Some 3 ∷ Some 7 ∷ Some 7 ∷ Some 1 ∷ Some 2 ∷ Some 2 ∷ None ∷ None ∷ []
  pub cut_short : map whole_item ([] ∷ (0x01 ∷ 0 ∷ []) ∷ (0x03 ∷ replicate 5 0) ∷ (0x04 ∷ replicate 5 0) ∷ (0x06 ∷ []) ∷ (0x07 ∷ []) ∷ []) ≡ None ∷ None ∷ None ∷ None ∷ None ∷ None ∷ []
  pub left_over_law : after_club (club_items 9 (0x05 ∷ 0x06 ∷ 1 ∷ 0x07 ∷ [])) (0x05 ∷ 0x06 ∷ 1 ∷ 0x07 ∷ []) ≡ 0x07 ∷ []
