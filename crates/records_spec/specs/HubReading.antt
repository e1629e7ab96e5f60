-- What the hub's reading of an area finds (document 02, Note 3; the Core, Vol 3 Part C, 11: a zero length ends the records). specs/HubReads says it in the
-- Note's words.
--   before_zero rs         == the records before the first whose length is zero
--   unpadded s            == their octets; a record among them may be bad
--   is_zeros l             == no octet of l is another than zero
--   ended_by a taken zeros == the answer for records that are read as a and took `taken` octets, where zeros alone follow them, or not
--   read_padded s          == the number of records and the octets that they took, or the refusal of the first fault
--   area_in a              == the same without the octets taken
use Rattle.std.specs.Prelude.{Bool, true, false, cond, ◌&&◌, ℕ, eqb, length, get_or, drop, Result, Ok, Err}
use mathlib.Core.List.{List, [], ◌∷◌, flatten}
use Rattle.octets.specs.declared.error.Error.TheVariants.{InvalidLength}
use Rattle.records_spec.specs.Area.{records, read_area}
use Rattle.octets.specs.declared.error.Error.{Error}

unfoldable pub before_zero : List (List ℕ) → List (List ℕ)
before_zero [] = []
before_zero (r ∷ rs) = cond (eqb (get_or r 0 0) 0) [] (r ∷ before_zero rs)

unfoldable pub unpadded : List ℕ → List ℕ
unpadded s = flatten (before_zero (records s))

unfoldable pub is_zeros : List ℕ → Bool
is_zeros [] = true
is_zeros (x ∷ l) = eqb x 0 && is_zeros l

-- records that are read so and took `taken` octets, where after them there are zeros alone, or not
unfoldable pub ended_by : Result ℕ Error → ℕ → Bool → Result (ℕ × ℕ) Error
ended_by (Ok n) taken true = Ok (n, taken)
ended_by (Ok n) taken false = Err InvalidLength
ended_by (Err e) taken zeros = Err e

-- the records before the padding are read strictly; "A nonzero octet after that point is 2."
unfoldable pub read_padded : List ℕ → Result (ℕ × ℕ) Error
read_padded s = ended_by (read_area (unpadded s)) (length (unpadded s)) (is_zeros (drop (length (unpadded s)) s))

unfoldable pub area_in : Result (ℕ × ℕ) Error → Result ℕ Error
area_in (Ok (n, taken)) = Ok n
area_in (Err e) = Err e
