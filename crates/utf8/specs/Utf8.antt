-- Well-formed UTF-8: the table of well-formed byte sequences of the Unicode Standard (Table 3-7).
--   Range, ◌to◌            == a range of octets, and the one from an octet to another
--   within b r             == the octet b lies in the range r
--   tail                   == the range 80 to BF
--   table                  == the rows, each with the range of every octet of a sequence
--   row_in rows b           == the ranges that follow in the row that begins with the octet b, if there is one
--   following rest after   == whether these ranges pass `after`; not where there are none
--   utf8_after s rest       == the octets s finish a sequence of which these ranges are left, and go on with whole sequences
--   is_utf8 s               == s is read, octet by octet, as whole sequences of the table
--   Sequence row s         == the octets s lie in the ranges of the row, one by one
--   WellFormed s           == s is whole sequences of the table, one after the other
--   Utf8Is s               (WellFormed.utf8_is)  `is_utf8 s` says just this
--   pending count low high == the ranges of `count` octets, the first of them from `low` to `high`
--   row_from lead           == the ranges that follow a lead octet by what the code answers for it, if it begins a sequence
use Rattle.std.specs.Prelude.{◌≡◌, ℕ, zero, suc, ◌<◌, Bool, true, false, cond, ◌&&◌, List, [], ◌∷◌, ◌++◌, length, get_or, replicate, leb, Option, Some, None}
use Rattle.utf8.specs.declared.Lead.{Lead}

infix 80 ◌to◌
-- the octets from `low` to `high`
pub record Range : Type 0 where
  pub low : ℕ
  pub high : ℕ

abbrev pub ◌to◌ : ℕ → ℕ → Range
l to h = record { low = l; high = h }

abbrev pub within : ℕ → Range → Bool
within b r = leb r.low b && leb b r.high

abbrev pub tail : Range
tail = 0x80 to 0xBF

-- a row has the range of each octet of a sequence
abbrev pub table : List (List Range)
table =
    -- U+0000 to U+007F
    (0x00 to 0x7F ∷ [])
    -- U+0080 to U+07FF
    ∷ (0xC2 to 0xDF ∷ tail ∷ [])
    -- U+0800 to U+0FFF: a second octet below A0 would be overlong
    ∷ (0xE0 to 0xE0 ∷ 0xA0 to 0xBF ∷ tail ∷ [])
    -- U+1000 to U+CFFF
    ∷ (0xE1 to 0xEC ∷ tail ∷ tail ∷ [])
    -- U+D000 to U+D7FF: a second octet above 9F would be a surrogate
    ∷ (0xED to 0xED ∷ 0x80 to 0x9F ∷ tail ∷ [])
    -- U+E000 to U+FFFF
    ∷ (0xEE to 0xEF ∷ tail ∷ tail ∷ [])
    -- U+10000 to U+3FFFF: a second octet below 90 would be overlong
    ∷ (0xF0 to 0xF0 ∷ 0x90 to 0xBF ∷ tail ∷ tail ∷ [])
    -- U+40000 to U+FFFFF
    ∷ (0xF1 to 0xF3 ∷ tail ∷ tail ∷ tail ∷ [])
    -- U+100000 to U+10FFFF: a second octet above 8F would be past the last code point
    ∷ (0xF4 to 0xF4 ∷ 0x80 to 0x8F ∷ tail ∷ tail ∷ [])
    ∷ []

-- what follows b in the row that begins with it
unfoldable pub row_in : List (List Range) → ℕ → Option (List Range)
row_in [] b = None
row_in ([] ∷ rows) b = row_in rows b
row_in ((first ∷ rest) ∷ rows) b = cond (within b first) (Some rest) (row_in rows b)

-- the octets after a lead octet, by what its row has left; none where it begins no row
abbrev pub following : Option (List Range) → (List Range → Bool) → Bool
following None after = false
following (Some rest) after = after rest

-- the octets finish a sequence, of which these ranges are left, and go on with whole sequences
unfoldable pub utf8_after : List ℕ → List Range → Bool
utf8_after [] [] = true
utf8_after [] (r ∷ rest) = false
utf8_after (b ∷ s) [] = following (row_in table b) (utf8_after s)
utf8_after (b ∷ s) (r ∷ rest) = within b r && utf8_after s rest

abbrev pub is_utf8 : List ℕ → Bool
is_utf8 s = utf8_after s []

-- the octets of a sequence lie in the ranges of a row, one by one
abbrev pub Sequence : List Range → List ℕ → Type 0
Sequence [] [] = Unit {0}
Sequence [] (b ∷ s) = ⊥
Sequence (r ∷ row) [] = ⊥
Sequence (r ∷ row) (b ∷ s) = (within b r ≡ true) × Sequence row s

pub data WellFormed : List ℕ → Type 0 where
  nothing : WellFormed []
  -- a sequence of row k, then the rest
  and_then : {s : List ℕ} (k : ℕ) (octets rest : List ℕ) → s ≡ octets ++ rest → k < length table → Sequence (get_or table k []) octets → WellFormed rest → WellFormed s

pub record Utf8Is (s : List ℕ) : Type 0 where
  pub sound : is_utf8 s ≡ true → WellFormed s
  pub complete : WellFormed s → is_utf8 s ≡ true

-- `count` octets, the first of them from `low` to `high`
abbrev pub pending : ℕ → ℕ → ℕ → List Range
pending zero low high = []
pending (suc count) low high = low to high ∷ replicate count tail

abbrev pub row_from : Option Lead → Option (List Range)
row_from (Some lead) = Some (pending lead.count lead.low lead.high)
row_from None = None
