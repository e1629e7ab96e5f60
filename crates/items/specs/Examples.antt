-- Worked values of how octets fall into items (document 01, hublog).
use Rattle.std.specs.Prelude.{◌≡◌, [], ◌∷◌, map, replicate, None, Some}
use Rattle.items.specs.Item.{size_of, whole_size, items, after_items}

pub record Examples : Type 0 where
  -- a tick, a CRC-good and a CRC-bad packet, and other first octets
  pub first_octet : map size_of ((0x00 ∷ []) ∷ (0x01 ∷ 0x42 ∷ 0x09 ∷ []) ∷ (0x02 ∷ 0x42 ∷ 0x09 ∷ []) ∷ (0x03 ∷ 0x42 ∷ 0x09 ∷ []) ∷ (0xFF ∷ []) ∷ [] ∷ []) ≡ Some 1 ∷ Some 12 ∷ Some 12 ∷ None ∷ None ∷ None ∷ []
  -- the length has six bits: 0, 1, 32, 63, and with the bits above them
  pub six_bits : map (λ h1. size_of (0x01 ∷ 0x00 ∷ h1 ∷ [])) (0x00 ∷ 0x01 ∷ 0x20 ∷ 0x3F ∷ 0x40 ∷ 0x7F ∷ 0xC0 ∷ 0xFF ∷ []) ≡ Some 3 ∷ Some 4 ∷ Some 35 ∷ Some 66 ∷ Some 3 ∷ Some 66 ∷ Some 3 ∷ Some 66 ∷ []
  -- the header's second octet counts, and not its first
  pub second_octet : size_of (0x01 ∷ 0x09 ∷ 0x06 ∷ []) ≡ Some 9
  -- cut short: in the header, and by one octet; whole; and with an octet more
  pub cut_short : map whole_size ((0x01 ∷ []) ∷ (0x01 ∷ 0x42 ∷ []) ∷ (0x01 ∷ 0x42 ∷ 0x09 ∷ []) ∷ (0x01 ∷ 0x42 ∷ 0x09 ∷ replicate 8 0) ∷ []) ≡ None ∷ None ∷ None ∷ None ∷ []
  pub whole : map whole_size ((0x00 ∷ []) ∷ (0x01 ∷ 0x42 ∷ 0x00 ∷ []) ∷ (0x01 ∷ 0x42 ∷ 0x09 ∷ replicate 9 0) ∷ (0x01 ∷ 0x42 ∷ 0x09 ∷ replicate 10 0) ∷ []) ≡ Some 1 ∷ Some 3 ∷ Some 12 ∷ Some 12 ∷ []
  -- a tick, a packet of no octets, and what is left over: another first octet, or what is beyond n items
  pub until_broken : items 9 (0x00 ∷ 0x02 ∷ 0x00 ∷ 0x00 ∷ 0x03 ∷ 0x00 ∷ []) ≡ (0x00 ∷ []) ∷ (0x02 ∷ 0x00 ∷ 0x00 ∷ []) ∷ []
  pub left_over_law : after_items ((0x00 ∷ []) ∷ (0x02 ∷ 0x00 ∷ 0x00 ∷ []) ∷ []) (0x00 ∷ 0x02 ∷ 0x00 ∷ 0x00 ∷ 0x03 ∷ 0x00 ∷ []) ≡ 0x03 ∷ 0x00 ∷ []
  pub at_most : map (λ n. items n (0x00 ∷ 0x00 ∷ [])) (0 ∷ 1 ∷ 2 ∷ 3 ∷ []) ≡ [] ∷ ((0x00 ∷ []) ∷ []) ∷ ((0x00 ∷ []) ∷ (0x00 ∷ []) ∷ []) ∷ ((0x00 ∷ []) ∷ (0x00 ∷ []) ∷ []) ∷ []
