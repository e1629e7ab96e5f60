-- Worked values: columns in the widths of document 01's lines and of document 02's Note 7, their characters in ASCII, and rows read again.
use Rattle.std.specs.Prelude.{◌≡◌, [], ◌∷◌, map}
use Rattle.columns.specs.Column.{column, digits}
use Rattle.columns.specs.Row.{row_of, read_column, read_row}
use Rattle.columns.specs.Table.{octet_columns, octets_from}
use Rattle.columns.specs.Text.{ascii, lines}

pub record Examples : Type 0 where
  pub characters : ascii " 0123456789" ≡ 32 ∷ 48 ∷ 49 ∷ 50 ∷ 51 ∷ 52 ∷ 53 ∷ 54 ∷ 55 ∷ 56 ∷ 57 ∷ []
  pub text_lines : lines ("1" ∷ "" ∷ "20" ∷ []) ≡ 49 ∷ 10 ∷ 10 ∷ 50 ∷ 48 ∷ 10 ∷ []
  pub kind : map (column 2) (0 ∷ 1 ∷ []) ≡ map ascii (" 0" ∷ " 1" ∷ [])
  pub octet : map (column 4) (0 ∷ 9 ∷ 10 ∷ 99 ∷ 100 ∷ 198 ∷ 255 ∷ []) ≡ map ascii ("   0" ∷ "   9" ∷ "  10" ∷ "  99" ∷ " 100" ∷ " 198" ∷ " 255" ∷ [])
  pub records : map (column 3) (1 ∷ 9 ∷ 10 ∷ []) ≡ map ascii ("  1" ∷ "  9" ∷ " 10" ∷ [])
  pub number : map (column 6) (1 ∷ 100000 ∷ 999999 ∷ []) ≡ map ascii ("     1" ∷ "100000" ∷ "999999" ∷ [])
  -- of a number that is too long, the last digits
  pub too_long : map (column 2) (99 ∷ 100 ∷ 123 ∷ []) ≡ map ascii ("99" ∷ "00" ∷ "23" ∷ [])
  pub no_width : column 0 7 ≡ []
  pub ten : digits 10 1234567890 ≡ ascii "1234567890"
  pub row : row_of (6 ∷ 3 ∷ 2 ∷ []) (2 ∷ 38 ∷ 1 ∷ []) ≡ lines ("     2 38 1" ∷ [])
  -- the last one spaces alone
  pub read : map (λ t. read_column (ascii t)) ("  0" ∷ " 38" ∷ "100" ∷ "   " ∷ []) ≡ 0 ∷ 38 ∷ 100 ∷ 0 ∷ []
  -- the largest numbers that two and three columns hold, which stand directly after each other; and one more, which lose their first digits
  pub full : read_row (2 ∷ 3 ∷ []) (row_of (2 ∷ 3 ∷ []) (99 ∷ 999 ∷ [])) ≡ 99 ∷ 999 ∷ []
  pub lost : read_row (2 ∷ 3 ∷ []) (row_of (2 ∷ 3 ∷ []) (100 ∷ 1000 ∷ [])) ≡ 0 ∷ 0 ∷ []
  -- octets from the table: in all of the room, as far as there are four columns, and with columns left over
  pub octets : map (λ t. octets_from octet_columns (1 ∷ 20 ∷ []) (ascii t)) ("........" ∷ "......." ∷ "...." ∷ "..." ∷ ".........." ∷ []) ≡ map ascii ("   1  20" ∷ "   1..." ∷ "   1" ∷ "..." ∷ "   1  20.." ∷ [])
