-- The encoding form UTF-8 of the Unicode Standard (3.9: D76, D92 and Table 3-6), with no word of the ranges of octets.
--
--     0 to 7F             | 0xxxxxxx |
--     80 to 7FF           | 110yyyyy | 10xxxxxx |
--     800 to FFFF         | 1110zzzz | 10yyyyyy | 10xxxxxx |
--     10000 to 10FFFF     | 11110uuu | 10zzzzzz | 10yyyyyy | 10xxxxxx |
--
--   IsScalar v    == v is a scalar value
--   trailing v    == the octet 10xxxxxx with the lowest six bits of v
--   encoded v     == the octets of v in UTF-8
--   Encodes vs s  == s is the encodings of the scalar values vs, one after the other
--   Utf8Encodes s (Encoded.utf8_encodes)  `is_utf8 s` says that there are such values
use Rattle.std.specs.Prelude.{◌≡◌, ◌⊎◌, true, cond, ℕ, ◌+◌, ◌/◌, ◌%◌, ◌≤◌, leb}
use mathlib.Core.List.{List, [], ◌∷◌, map, flatten}
use Rattle.octets.specs.Lists.{All}
use Rattle.utf8.specs.Utf8.{is_utf8}

abbrev pub IsScalar : ℕ → Type 0
IsScalar v = (v ≤ 0xD7FF) ⊎ ((0xE000 ≤ v) × (v ≤ 0x10FFFF))

-- 10xxxxxx, with the lowest six bits
abbrev pub trailing : ℕ → ℕ
trailing v = 0x80 + v % 64

abbrev pub encoded : ℕ → List ℕ
encoded v =
    cond (leb v 0x7F) (v ∷ [])
    (cond (leb v 0x7FF) ((0xC0 + v / 64) ∷ trailing v ∷ [])
    (cond (leb v 0xFFFF) ((0xE0 + v / 4096) ∷ trailing (v / 64) ∷ trailing v ∷ [])
    ((0xF0 + v / 262144) ∷ trailing (v / 4096) ∷ trailing (v / 64) ∷ trailing v ∷ [])))

pub record Encodes (vs s : List ℕ) : Type 0 where
  pub scalar : All IsScalar vs
  pub octets : s ≡ flatten (map encoded vs)

pub record Utf8Encodes (s : List ℕ) : Type 0 where
  pub sound : is_utf8 s ≡ true → (vs : List ℕ) × Encodes vs s
  pub complete : (vs : List ℕ) → Encodes vs s → is_utf8 s ≡ true
