-- What holds of an area and of what rewriting it writes, whatever its octets are; and of a record that is read and written again.
--   Cleans r                            (RoundTrip.cleans)              `clean r` is r but for the octet of Flags, which keeps its bits 0 to 4 alone
--   NamedOnly r                         == a record that is Flags has no bit without a name
--   RoundTrip s                         (RoundTrip.round_trip)          `rewritten s` is s with `clean` of each record in its place, and reads as s does
--   octets_at s at                       == the octets of the record at position `at` of s
--   WrittenAgain s out at a next        == writing a record of s at position `at`, as it was read there, writes `clean` of its octets
--   ReadAndRewritten                    (RoundTrip.read_and_rewritten)  this holds of every record that is read
--   ReadOnAgain ty start len s out at b == writing b at position `at` writes the record of type ty with these `len` octets of s, `clean`
--   ReadOnAndRewritten s                (ReadOn.read_on_and_rewritten)  what `read_known` finds of type and data is written as these were, `clean`
--   Begins s p, FlagsOctet s i          == a record of s begins at position p; octet i of s is the octet of a Flags record
--   ReadAt s p                          == a record is read there, up to where the next one begins
--   Restores s out                      == rewriting the area s to `out` restores its octets, save the bits of Flags that have no name
--   Unwritten s out e                   == rewriting s to `out` is refused with e, and leaves `out`
--   Rewriting s out                     (Restored.rewriting)            an accepted area with room is restored so, and what is refused
use Rattle.std.specs.Prelude.{◌≡◌, ℕ, ◌+◌, ◌%◌, ◌<◌, ◌≤◌, length, get_or, take, drop, Ok, Some, Err}
use mathlib.Core.List.{List, map, flatten}
use Rattle.octets.specs.Lists.{All}
use Rattle.octets.specs.declared.error.Error.{Error}
use Rattle.octets.specs.declared.error.Error.TheVariants.{Eof}
use Rattle.octets.specs.Bytes.{part, written}
use Rattle.octets.specs.Laws.{Octets}
use Rattle.records_spec.specs.declared.ad_structure.AdStructure.{AdStructure}
use Rattle.records_spec.specs.declared.ad_structure.AdStructure.TheVariants.{Unknown}
use Rattle.records_spec.specs.Record.{record_of, first, record_at, known_read}
use Rattle.records_spec.specs.Write.{written_to, written_after}
use Rattle.records_spec.specs.Area.{records, reads, read_area, clean, rewritten, rewritten_to, rewritten_after}

-- octets 0 and 1 of a record are its length and its type, and the octet of Flags is octet 2
pub record Cleans (r : List ℕ) : Type 0 where
  pub as_long : length (clean r) ≡ length r
  pub kept : (i : ℕ) → (get_or r 1 0 ≡ 0x01 → i ≡ 2 → ⊥) → get_or (clean r) i 0 ≡ get_or r i 0
  pub flags : get_or r 1 0 ≡ 0x01 → 2 < length r → get_or (clean r) 2 0 ≡ get_or r 2 0 % 32

abbrev pub NamedOnly : List ℕ → Type 0
NamedOnly r = get_or r 1 0 ≡ 0x01 → get_or r 2 0 < 32

pub record RoundTrip (s : List ℕ) : Type 0 where
  -- the records tile the area, and `rewritten s` has `clean` of each in its place
  pub tiles : flatten (records s) ≡ s
  pub as_long : length (rewritten s) ≡ length s
  -- so it is the area itself where no Flags octet has a bit without a name
  pub same : All NamedOnly (records s) → rewritten s ≡ s
  -- reading it gives the same records at the same positions
  pub records_again : records (rewritten s) ≡ map clean (records s)
  pub reads_again : reads (records (rewritten s)) 0 ≡ reads (records s) 0
  pub area_again : read_area (rewritten s) ≡ read_area s

-- the octets of the record that stands at a position
abbrev pub octets_at : List ℕ → ℕ → List ℕ
octets_at s at = first (drop at s)

pub record WrittenAgain (s out : List ℕ) (at : ℕ) (a : AdStructure) (next : ℕ) : Type 0 where
  pub answers : written_to a s out at ≡ Ok (record { at = next })
  pub writes : written_after a s out at ≡ written (clean (octets_at s at)) out at

-- as `rewrite_area` does with each record
abbrev pub ReadAndRewritten : Type 0
ReadAndRewritten = (s out : List ℕ) (at : ℕ) (a : AdStructure) (next : ℕ) → Octets s → record_at s at ≡ Ok (Some (a, next)) → next ≤ length out → WrittenAgain s out at a next

pub record ReadOnAgain (ty start len : ℕ) (s out : List ℕ) (at : ℕ) (b : AdStructure) : Type 0 where
  pub answers : written_to b s out at ≡ Ok (record { at = at + 2 + len })
  pub writes : written_after b s out at ≡ written (clean (record_of ty (part len s start))) out at

-- with `read_known`; a record that was not left as type and data stays as it is
pub record ReadOnAndRewritten (s : List ℕ) : Type 0 where
  pub again : Octets s → (ty start len : ℕ) (b : AdStructure) → known_read (Unknown ty start len) s ≡ Ok b → (out : List ℕ) (at : ℕ) → at + 2 + len ≤ length out → len < 255
      → ReadOnAgain ty start len s out at b
  pub same : (a : AdStructure) → ((ty start len : ℕ) → a ≡ Unknown ty start len → ⊥) → known_read a s ≡ Ok a

-- records lie one after the other: the length octet of a record counts the octets after it
pub data Begins (s : List ℕ) : ℕ → Type 0 where
  at_the_front : 0 < length s → Begins s 0
  behind_one : {p : ℕ} → Begins s p → p + 1 + get_or s p 0 < length s → Begins s (p + 1 + get_or s p 0)

pub record FlagsOctet (s : List ℕ) (i : ℕ) : Type 0 where
  pub start : ℕ
  pub begins : Begins s start
  pub type : get_or s (start + 1) 0 ≡ 0x01
  pub place : i ≡ start + 2

-- a record is read there, up to where the next one begins
pub record ReadAt (s : List ℕ) (p : ℕ) : Type 0 where
  pub structure : AdStructure
  pub reads : record_at s p ≡ Ok (Some (structure, p + 1 + get_or s p 0))

-- "Records read and rewritten restore their octets, save undefined Flags bits."
pub record Restores (s out : List ℕ) : Type 0 where
  pub answers : rewritten_to s out ≡ Ok (record { at = length s })
  pub as_long : length (rewritten_after s out) ≡ length out
  -- octet i of the buffer is octet i of the area
  pub restored : (i : ℕ) → i < length s → (FlagsOctet s i → ⊥) → get_or (rewritten_after s out) i 0 ≡ get_or s i 0
  -- unless it is the octet of a Flags record, which keeps its bits 0 to 4
  pub flags : (i : ℕ) → FlagsOctet s i → get_or (rewritten_after s out) i 0 ≡ get_or s i 0 % 32
  -- the octets after are the buffer's own
  pub behind : (i : ℕ) → length s ≤ i → get_or (rewritten_after s out) i 0 ≡ get_or out i 0
  -- reading what was written gives the same records at the same places
  pub area_again : read_area (take (length s) (rewritten_after s out)) ≡ read_area s
  pub found : (p : ℕ) → Begins s p → ReadAt s p
  pub record_again : (p : ℕ) → Begins s p → record_at (take (length s) (rewritten_after s out)) p ≡ record_at s p

-- a refused rewriting leaves `out`
pub record Unwritten (s out : List ℕ) (e : Error) : Type 0 where
  pub answers : rewritten_to s out ≡ Err e
  pub kept : rewritten_after s out ≡ out

-- a bad area is refused as reading it is, whatever the room; then too little room with 1
pub record Rewriting (s out : List ℕ) : Type 0 where
  pub restores : (n : ℕ) → read_area s ≡ Ok n → length s ≤ length out → Restores s out
  pub bad : (e : Error) → read_area s ≡ Err e → Unwritten s out e
  pub no_room : (n : ℕ) → read_area s ≡ Ok n → length out < length s → Unwritten s out Eof
