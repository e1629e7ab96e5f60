-- The UUIDs of a list, one by one: `one_by_one`; and that a UUID takes an octet at least.
-- Assumes nothing.
use mathlib.Core.Path.{◌≡◌, refl, sym}
use mathlib.Core.Bool.{Bool, true, false, cond}
use mathlib.Core.List.{List, [], ◌∷◌}
use Prim.Native.Nat.{ℕ, ◌+◌, ◌*◌, ◌≤◌, ◌<◌}
use native.Mathlib.Omega.{arith}
use lib.ListN.{length, get_or, drop, drop_of_length-le}
use lib.Dec.{eqb}
use borrow.Author.Tests.{eqb-true, eqb-false, leb-true, leb-false}
use Rattle.octets.specs.declared.error.Error.TheVariants.{Eof}
use Rattle.octets.specs.Bytes.{has, part, le}
use Rattle.octets.specs.declared.uuid.UuidKind.{UuidKind}
use Rattle.octets.specs.declared.uuid.UuidKind.TheVariants.{Uuid16, Uuid32, Uuid128}
use Rattle.octets.specs.Uuid.{uuid_size, uuid16_from}
use Rattle.octets.proofs.Places.{front, part_octets}
use Rattle.records_spec.specs.Uuids.{next16_from, uuid16_at, uuids, NextUuid, OneByOne}
use Rattle.std.specs.Prelude.{Ok, Err, None}

pub uuid_size_positive : (k : UuidKind) → 0 < uuid_size k
uuid_size_positive Uuid16 = omega arith
uuid_size_positive Uuid32 = omega arith
uuid_size_positive Uuid128 = omega arith

number : (d : List ℕ) (at : ℕ) → at + 2 ≤ length d → le (part 2 d at) ≡ get_or d at 0 + 256 * get_or d (at + 1) 0
number d at h = rw (part_octets 1 d at h) (omega arith)

-- the first UUID, and those after it
first_uuid : (d : List ℕ) (at : ℕ) → at + 2 ≤ length d → uuids (drop at d) ≡ le (part 2 d at) ∷ uuids (drop (at + 2) d)
first_uuid d at h =
    let next : at + 1 + 1 ≡ at + 2 = omega arith in
    rw (front d at (omega arith), front d (at + 1) (omega arith), next)

none_left : (d : List ℕ) (at : ℕ) → length d ≡ at → uuids (drop at d) ≡ []
none_left d at end = rw (drop_of_length-le d {i = at} (omega arith))

pub one_by_one : (d : List ℕ) (at : ℕ) → OneByOne d at
unfolding uuid16_at
one_by_one d at = go (eqb (length d) at) (has 2 d at) refl refl
  where
    go : (end two : Bool) → eqb (length d) at ≡ end → has 2 d at ≡ two
        → NextUuid d at (cond end (Ok None) (next16_from (uuid16_from (cond two (Ok (le (part 2 d at), record { at = at + 2 })) (Err Eof)))))
    go true two e t = (sym (eqb-true (length d) at e), none_left d at (eqb-true (length d) at e))
    go false true e t = let two : at + 2 ≤ length d = leb-true (at + 2) (length d) t in (number d at two, two, first_uuid d at two, refl)
    go false false e t = (refl, leb-false (at + 2) (length d) t, λ end. eqb-false (length d) at e (sym end))
