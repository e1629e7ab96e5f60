-- What reading a whole area of records finds, and what writing its records again writes (the Core, Vol 3 Part C, 11; document 01, ad_structure.rs).
--   cut s skip              == the octets of each record, `skip` octets of the record before being still to pass
--   records s               == the octets of each record, the last cut short where s ends within it
--   reads rs at             == what reading each of these records finds, the first at position `at`
--   with_first r a           == what an area is read as whose first record is read as r, and whose rest as a
--   area_of answers          == what an area is read as whose records are read as these answers
--   read_area s              == the number of records, or the refusal of the first bad one
--   AcceptedFrom s at       == from position `at` on, s is an area that is accepted
--   front_at r rest count at == the front by the answer r for the record at `at`, before which `count` good ones stand: the refusal there, or `rest`
--   front_from rs count at   == the front of the records rs, the first at `at`, before which `count` good ones stand
--   front_of s               == the good records that s begins with, and where the first bad one stands, with its refusal
--   clean r                 == a record's octets, that of Flags without the bits that have no name
--   rewritten s             == these of each record
--   may_rewrite a s out      == whether the area s, read as a, may be written again to `out`
--   rewritten_to s out, rewritten_after s out == what writing them to the front of `out` answers, and what `out` then holds
use Rattle.std.specs.Prelude.{◌≡◌, ℕ, zero, suc, ◌+◌, cond, length, get_or, set, drop, ltb, eqb, Result, Ok, Err, Option, Some, None}
use mathlib.Core.List.{List, [], ◌∷◌, map, flatten}
use Rattle.octets.specs.declared.error.Error.TheVariants.{Eof}
use Rattle.records_spec.specs.declared.area.BadRecord.{BadRecord}
use Rattle.records_spec.specs.Record.{first, record_read}
use Rattle.flags.specs.Flags.{named}
use Rattle.records_spec.specs.Write.{checked_to, checked_after}
use Rattle.octets.specs.declared.bytes.ByteWriter.{ByteWriter}
use Rattle.octets.specs.declared.error.Error.{Error}
use Rattle.records_spec.specs.declared.ad_structure.AdStructure.{AdStructure}

-- the octets of each record, `skip` octets of the record before being still to pass
unfoldable pub cut : List ℕ → ℕ → List (List ℕ)
unfolding first
cut [] skip = []
cut (n ∷ rest) zero = first (n ∷ rest) ∷ cut rest n
cut (x ∷ rest) (suc skip) = cut rest skip

abbrev pub records : List ℕ → List (List ℕ)
records s = cut s 0

unfoldable pub reads : List (List ℕ) → ℕ → List (Result (Option (AdStructure × ℕ)) Error)
reads [] at = []
reads (r ∷ rs) at = record_read r at ∷ reads rs (at + length r)

-- an area by what reading its first record found, and the area after it
unfoldable pub with_first : Result (Option (AdStructure × ℕ)) Error → Result ℕ Error → Result ℕ Error
with_first (Ok (Some (a, next))) (Ok n) = Ok (n + 1)
with_first (Ok (Some (a, next))) (Err e) = Err e
with_first (Ok None) area = area
with_first (Err e) area = Err e

unfoldable pub area_of : List (Result (Option (AdStructure × ℕ)) Error) → Result ℕ Error
area_of [] = Ok 0
area_of (answer ∷ answers) = with_first answer (area_of answers)

unfoldable pub read_area : List ℕ → Result ℕ Error
read_area s = area_of (reads (records s) 0)

-- from position `at` on, s is an area that is accepted
pub record AcceptedFrom (s : List ℕ) (at : ℕ) : Type 0 where
  pub count : ℕ
  pub accepted : area_of (reads (records (drop at s)) at) ≡ Ok count

-- what an area begins with, from the answer for the record at `at`, before which `count` good ones stand, and what follows from the rest
unfoldable pub front_at : Result (Option (AdStructure × ℕ)) Error → Result ℕ BadRecord → ℕ → ℕ → Result ℕ BadRecord
front_at (Ok (Some (a, next))) rest count at = rest
front_at (Ok None) rest count at = rest
front_at (Err e) rest count at = Err (record { count = count; at = at; error = e })

unfoldable pub front_from : List (List ℕ) → ℕ → ℕ → Result ℕ BadRecord
front_from [] count at = Ok count
front_from (r ∷ rs) count at = front_at (record_read r at) (front_from rs (count + 1) (at + length r)) count at

unfoldable pub front_of : List ℕ → Result ℕ BadRecord
front_of s = front_from (records s) 0 0

unfoldable pub clean : List ℕ → List ℕ
clean r = cond (eqb (get_or r 1 0) 1) (set r 2 (named (get_or r 2 0))) r

unfoldable pub rewritten : List ℕ → List ℕ
rewritten s = flatten (map clean (records s))

-- whether an area may be written again to `out`, by what reading it found
unfoldable pub may_rewrite : Result ℕ Error → List ℕ → List ℕ → Result (Unit {0}) Error
may_rewrite (Ok n) s out = cond (ltb (length out) (length s)) (Err Eof) (Ok tt)
may_rewrite (Err e) s out = Err e

unfoldable pub rewritten_to : List ℕ → List ℕ → Result ByteWriter Error
rewritten_to s out = checked_to (may_rewrite (read_area s) s out) (rewritten s) 0

unfoldable pub rewritten_after : List ℕ → List ℕ → List ℕ
rewritten_after s out = checked_after (may_rewrite (read_area s) s out) (rewritten s) out 0
