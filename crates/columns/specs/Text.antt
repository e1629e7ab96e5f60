-- Text as octets, so that what is printed stands in worked values as it is read.
--   ascii t     == the characters of t by their numbers, which are octets where the text is ASCII
--   lines ts    == lines of text, each ended by the octet 0A
use Rattle.std.specs.Prelude.{List, [], ◌∷◌, ◌++◌, ℕ}
use Prim.Native.Char.{code}
use Prim.Native.String.{String, [] as empty, ◌∷◌ as ◌then◌}

unfoldable pub ascii : String → List ℕ
ascii empty = []
ascii (c then t) = code c ∷ ascii t

unfoldable pub lines : List String → List ℕ
lines [] = []
lines (t ∷ ts) = ascii t ++ (10 ∷ lines ts)
