-- The hub's reading in the words of document 02's Note 3: "a second reading, used by the hub, that stops there and reports how many octets the records took.
-- A nonzero octet after that point is 2. Rewriting what it read gives the octets before the padding, save undefined Flags bits. .. the hub's differs from it
-- only in this".
--   Padding s m taken    == m records that are accepted strictly, in `taken` octets, and then zeros alone, perhaps none, make up s
--   Fault s e            == the first fault of s: a bad record before the first zero length, or after it an octet that is not zero
--   PaddedVerdict s a    == the answer a of reading s is right: s is padded so, or this is its first fault
--   HubReads s           (HubReads.hub_reads)     s is accepted exactly if it is padded so, and refused exactly as its first fault is
--   ZeroLength s         == a zero length stands in s after records that are accepted strictly, perhaps none: at a record's place
--   took_all a size       == an answer of the strict reading as one of the hub's: the records took the whole area
--   Differs s            (HubReads.differs)       where the two readings differ, and where they do not
--   WithoutSize          (HubReads.without_size)  an answer without the octets taken
--   Took s out m taken _ (HubReads.took)          what rewriting the octets taken writes
--   flags, blanks n      == a record of Flags, which is accepted, and n zeros
--   PaddedRows           (HubReads.rows)          worked values, on both sides of each limit
use Rattle.std.specs.Prelude.{◌≡◌, List, [], ◌∷◌, ◌++◌, map, ℕ, ◌≤◌, ◌<◌, length, get_or, take, replicate, Result, Ok, Err}
use Rattle.octets.specs.declared.error.Error.{Error}
use Rattle.octets.specs.declared.error.Error.TheVariants.{Eof, InvalidLength}
use Rattle.records_spec.specs.Accepted.{Bad}
use Rattle.records_spec.specs.Area.{read_area}
use Rattle.records_spec.specs.HubReading.{read_padded, area_in}
use Rattle.records_spec.specs.RoundTrip.{Restores, Unwritten}

pub record Padding (s : List ℕ) (m taken : ℕ) : Type 0 where
  pub front : List ℕ
  pub zeros : ℕ
  pub made_up : s ≡ front ++ replicate zeros 0
  pub strict : read_area front ≡ Ok m
  pub size : length front ≡ taken

pub data Fault (s : List ℕ) : Error → Type 0 where
  -- a record of another length than zero after records that are accepted, refused as in the strict reading
  bad_record : (front : List ℕ) (m n : ℕ) (rest : List ℕ) {e : Error} → s ≡ front ++ (n ∷ rest) → read_area front ≡ Ok m → 0 < n → Bad (n ∷ rest) e → Fault s e
  -- a zero length there, zeros, and an octet that is not
  not_zero : (front : List ℕ) (m zeros x : ℕ) (rest : List ℕ) → s ≡ front ++ (0 ∷ (replicate zeros 0 ++ (x ∷ rest))) → read_area front ≡ Ok m → 0 < x → Fault s InvalidLength

abbrev pub PaddedVerdict : List ℕ → Result (ℕ × ℕ) Error → Type 0
PaddedVerdict s (Ok (m, taken)) = Padding s m taken
PaddedVerdict s (Err e) = Fault s e

pub record HubReads (s : List ℕ) : Type 0 where
  pub found : PaddedVerdict s (read_padded s)
  pub accepted : {m taken : ℕ} → Padding s m taken → read_padded s ≡ Ok (m, taken)
  pub refused : {e : Error} → Fault s e → read_padded s ≡ Err e

pub record ZeroLength (s : List ℕ) : Type 0 where
  pub front : List ℕ
  pub rest : List ℕ
  pub number : ℕ
  pub made_up : s ≡ front ++ (0 ∷ rest)
  pub strict : read_area front ≡ Ok number

-- an answer of the strict reading as one of the hub's: the records took the whole area
abbrev pub took_all : Result ℕ Error → ℕ → Result (ℕ × ℕ) Error
took_all (Ok n) size = Ok (n, size)
took_all (Err e) size = Err e

pub record Differs (s : List ℕ) : Type 0 where
  -- no zero length at a record's place: both agree in number and refusal
  pub agree : (ZeroLength s → ⊥) → read_padded s ≡ took_all (read_area s) (length s)
  -- one there: the strict answer is 2, and the hub's the records before it where zeros alone follow, otherwise 2 as well
  pub strict : ZeroLength s → read_area s ≡ Err InvalidLength
  pub ended : (z : ZeroLength s) (zeros : ℕ) → z.rest ≡ replicate zeros 0 → read_padded s ≡ Ok (z.number, length z.front)
  pub unended : (z : ZeroLength s) → ((zeros : ℕ) → z.rest ≡ replicate zeros 0 → ⊥) → read_padded s ≡ Err InvalidLength
  -- so what the strict reading accepts the hub's accepts alike, and what the hub's refuses the strict one refuses with the same number
  pub accepts : (n : ℕ) → read_area s ≡ Ok n → read_padded s ≡ Ok (n, length s)
  pub refuses : (e : Error) → read_padded s ≡ Err e → read_area s ≡ Err e

abbrev pub WithoutSize : Type 0
WithoutSize = (a : Result ℕ Error) (size : ℕ) → area_in (took_all a size) ≡ a

-- An area that is accepted with m records in `taken` octets. "Rewriting what it read gives the octets before the padding, save undefined Flags bits": by `rewrite_area` over the octets taken.
pub record Took (s out : List ℕ) (m taken : ℕ) (accepted : read_padded s ≡ Ok (m, taken)) : Type 0 where
  pub inside : taken ≤ length s
  pub strictly : read_area (take taken s) ≡ Ok m
  pub zeros : (i : ℕ) → taken ≤ i → i < length s → get_or s i 0 ≡ 0
  pub restores : taken ≤ length out → Restores (take taken s) out
  pub no_room : length out < taken → Unwritten (take taken s) out Eof

-- one record, which is accepted
abbrev pub flags : List ℕ
flags = 0x02 ∷ 0x01 ∷ 0x06 ∷ []

abbrev pub blanks : ℕ → List ℕ
blanks n = replicate n 0x00

pub record PaddedRows : Type 0 where
  -- nothing, and zeros alone: no records, and no octets taken; the areas of 31 octets and of 57
  pub zeros_alone : map read_padded ([] ∷ blanks 1 ∷ blanks 31 ∷ blanks 57 ∷ [])
      ≡ (Ok (0, 0)) ∷ (Ok (0, 0)) ∷ (Ok (0, 0)) ∷ (Ok (0, 0)) ∷ []
  -- records that fill the area; one zero, or more, after them
  pub filling : read_padded flags ≡ Ok (1, 3)
  pub ended : map (λ (n : ℕ). read_padded (flags ++ (flags ++ blanks n))) (0 ∷ 1 ∷ 25 ∷ 51 ∷ [])
      ≡ (Ok (2, 6)) ∷ (Ok (2, 6)) ∷ (Ok (2, 6)) ∷ (Ok (2, 6)) ∷ []
  -- a zero that is no length: the record's own
  pub zeros_inside : read_padded (0x03 ∷ 0x0A ∷ 0x00 ∷ 0x00 ∷ []) ≡ Ok (1, 4)
  -- after the zero: a good record, and an octet that is not zero, in the next place and in the last
  pub behind : map (λ (l : List ℕ). read_padded (flags ++ (0x00 ∷ l))) (flags ∷ (0x01 ∷ []) ∷ (blanks 26 ++ (0x01 ∷ [])) ∷ (blanks 52 ++ (0xFF ∷ [])) ∷ [])
      ≡ (Err InvalidLength) ∷ (Err InvalidLength) ∷ (Err InvalidLength) ∷ (Err InvalidLength) ∷ []
  pub behind_the_first : map read_padded ((0x00 ∷ 0x01 ∷ []) ∷ (0x00 ∷ flags) ∷ []) ≡ (Err InvalidLength) ∷ (Err InvalidLength) ∷ []
  -- a bad record before the zero decides: odd list data 1, wrong Flags 2; too few octets 1, though they are zeros
  pub before : map read_padded ((0x02 ∷ 0x03 ∷ 0x0F ∷ blanks 3) ∷ (0x01 ∷ 0x01 ∷ blanks 3) ∷ (0x05 ∷ 0x0A ∷ blanks 3) ∷ [])
      ≡ (Err Eof) ∷ (Err InvalidLength) ∷ (Err Eof) ∷ []
  -- a bad record first, and an octet after a zero as well: the first decides
  pub both : read_padded (0x02 ∷ 0x03 ∷ 0x0F ∷ 0x00 ∷ 0x01 ∷ []) ≡ Err Eof
  -- the strict reading of padded areas is 2
  pub strict : map read_area (blanks 1 ∷ (flags ++ blanks 1) ∷ (flags ++ blanks 28) ∷ [])
      ≡ (Err InvalidLength) ∷ (Err InvalidLength) ∷ (Err InvalidLength) ∷ []
