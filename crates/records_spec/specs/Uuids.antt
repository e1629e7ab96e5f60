-- The UUIDs of a list of 16-bit UUIDs, one by one (the Supplement, Part A, 1.1).
--   next16_from r  == the UUID that was read, and the position after it, or the refusal
--   uuid16_at d at == what stands at position `at` of the data d
--   uuids d       == the UUIDs that d is, as numbers
--   NextUuid d at n == n is right for position `at` of d: a UUID that those from there on begin with, the end of d, or 1
--   OneByOne d at (Uuids.one_by_one)  the UUID at position `at` is the first of those from there on, they go on where it ends, and the end is that of d
use Rattle.std.specs.Prelude.{◌≡◌, ℕ, ◌+◌, ◌*◌, ◌<◌, ◌≤◌, cond, List, [], ◌∷◌, length, get_or, drop, eqb, Result, Ok, Err, Option, Some, None}
use Rattle.octets.specs.Bytes.{le, u16_read}
use Rattle.octets.specs.declared.error.Error.TheVariants.{Eof}
use Rattle.octets.specs.Uuid.{uuid16_from}
use Rattle.octets.specs.declared.bytes.ByteReader.{ByteReader}
use Rattle.octets.specs.declared.error.Error.{Error}
use Rattle.octets.specs.declared.uuid.Uuid16.{Uuid16}

abbrev pub next16_from : Result (Uuid16 × ByteReader) Error → Result (Option (Uuid16 × ℕ)) Error
next16_from (Ok (uuid, next)) = Ok (Some (uuid, next.at))
next16_from (Err e) = Err e

unfoldable pub uuid16_at : List ℕ → ℕ → Result (Option (Uuid16 × ℕ)) Error
uuid16_at d at = cond (eqb (length d) at) (Ok None) (next16_from (uuid16_from (u16_read d at)))

abbrev pub uuids : List ℕ → List ℕ
uuids [] = []
uuids (x ∷ []) = []
uuids (x ∷ y ∷ rest) = le (x ∷ y ∷ []) ∷ uuids rest

-- by what was answered: a UUID, least significant octet first; the end of d; or 1 where one octet is left, or the position is past the end
abbrev pub NextUuid : List ℕ → ℕ → Result (Option (Uuid16 × ℕ)) Error → Type 0
NextUuid d at (Ok (Some (uuid, next))) = (uuid.0 ≡ get_or d at 0 + 256 * get_or d (at + 1) 0) × (at + 2 ≤ length d) × (uuids (drop at d) ≡ uuid.0 ∷ uuids (drop next d)) × (next ≡ at + 2)
NextUuid d at (Ok None) = (at ≡ length d) × (uuids (drop at d) ≡ [])
NextUuid d at (Err e) = (e ≡ Eof) × (length d < at + 2) × (at ≡ length d → ⊥)

abbrev pub OneByOne : List ℕ → ℕ → Type 0
OneByOne d at = NextUuid d at (uuid16_at d at)
