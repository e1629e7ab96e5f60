-- Which areas are accepted, and what refuses the others, in document 01's words: "An area is accepted exactly if records of nonzero length
-- tile it, Flags length is 2 and list length odd. Otherwise its first bad record decides: zero length 2, too few octets 1, wrong Flags 2,
-- odd list data 1."
--   IsList ty    == the type octet is that of a list of 16-bit UUIDs
--   Good n body  == a good record: its length octet, and its octets of type and data
--   GoodRecord r == the octets r are a good record
--   Tiling s m   == m good records tile s
--   Bad l e      == the record that l begins with is bad, and refused with e
--   FirstBad s e == good records, and then a bad one, are what s begins with
--   Verdict s a  == the answer a of reading s is right: s is tiled, or its first bad record is refused so
--   Decided s    (Accepted.decided)  s is accepted exactly if it is tiled, and refused exactly as its first bad record is
--   FrontOf s f  == f tells the good records that s begins with, and the first bad one after them, if there is one
--   Fronted s    (Fronts.fronted)    `front_of` tells so
use Rattle.std.specs.Prelude.{◌≡◌, ◌⊎◌, ℕ, ◌≤◌, ◌<◌, ◌%◌, length, get_or, take, drop, Result, Ok, Err}
use mathlib.Core.List.{List, [], ◌∷◌, ◌++◌, flatten}
use Rattle.octets.specs.Lists.{All}
use Rattle.octets.specs.declared.error.Error.{Error}
use Rattle.octets.specs.declared.error.Error.TheVariants.{Eof, InvalidLength}
use Rattle.records_spec.specs.declared.area.BadRecord.{BadRecord}
use Rattle.records_spec.specs.Area.{read_area, front_of}
use Rattle.records_spec.specs.Types.{flags_type, incomplete16_type, complete16_type}

-- the type octet is that of a list of 16-bit UUIDs
abbrev pub IsList : ℕ → Type 0
IsList ty = (ty ≡ incomplete16_type) ⊎ (ty ≡ complete16_type)

pub record Good (n : ℕ) (body : List ℕ) : Type 0 where
  pub whole : length body ≡ n
  pub some : 0 < n
  pub flags : get_or body 0 0 ≡ flags_type → n ≡ 2
  pub list : IsList (get_or body 0 0) → n % 2 ≡ 1

abbrev pub GoodRecord : List ℕ → Type 0
GoodRecord [] = ⊥
GoodRecord (n ∷ body) = Good n body

pub record Tiling (s : List ℕ) (m : ℕ) : Type 0 where
  pub pieces : List (List ℕ)
  pub tile : flatten pieces ≡ s
  pub good : All GoodRecord pieces
  pub count : length pieces ≡ m

pub data Bad : List ℕ → Error → Type 0 where
  zero_length : {rest : List ℕ} → Bad (0 ∷ rest) InvalidLength
  too_few : {n : ℕ} {rest : List ℕ} → 0 < n → length rest < n → Bad (n ∷ rest) Eof
  wrong_flags : {n : ℕ} {rest : List ℕ} → 0 < n → n ≤ length rest → get_or rest 0 0 ≡ flags_type → (n ≡ 2 → ⊥) → Bad (n ∷ rest) InvalidLength
  odd_list : {n : ℕ} {rest : List ℕ} → 0 < n → n ≤ length rest → IsList (get_or rest 0 0) → n % 2 ≡ 0 → Bad (n ∷ rest) Eof

pub record FirstBad (s : List ℕ) (e : Error) : Type 0 where
  pub pieces : List (List ℕ)
  pub rest : List ℕ
  pub tile : flatten pieces ++ rest ≡ s
  pub good : All GoodRecord pieces
  pub bad : Bad rest e

abbrev pub Verdict : List ℕ → Result ℕ Error → Type 0
Verdict s (Ok m) = Tiling s m
Verdict s (Err e) = FirstBad s e

pub record Decided (s : List ℕ) : Type 0 where
  pub verdict : Verdict s (read_area s)
  pub accepted : {m : ℕ} → Tiling s m → read_area s ≡ Ok m
  pub refused : {e : Error} → FirstBad s e → read_area s ≡ Err e

abbrev pub FrontOf : List ℕ → Result ℕ BadRecord → Type 0
FrontOf s (Ok m) = Tiling s m
FrontOf s (Err bad) = Tiling (take bad.at s) bad.count × Bad (drop bad.at s) bad.error

pub record Fronted (s : List ℕ) : Type 0 where
  pub told : FrontOf s (front_of s)
