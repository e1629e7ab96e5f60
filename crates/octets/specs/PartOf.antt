-- What `part_of` hands on of a slice, and from where: PartOf s, proved by `part_is` of proofs/PartOf.antt.
use Rattle.std.specs.Prelude.{◌≡◌, ℕ, ◌+◌, ◌<◌, List, [], ◌++◌, length}
use Rattle.std.specs.Borrow.{Bor}
use Rattle.octets.specs.Bytes.{part_or, part_place}

pub record PartOf (s : Bor (List ℕ)) : Type 0 where
  -- octets xs that stand in s, after others: these, in their own place
  pub there : (before xs behind : List ℕ) → s.now ≡ before ++ (xs ++ behind)
      → (part_or (length xs) s.now (length before) ≡ xs) × (part_place (length xs) s (length before) ≡ (s.ref_ptr.0, s.ref_ptr.1 + length before))
  -- fewer than are asked for: none, at the start of s
  pub fewer : (n at : ℕ) → length s.now < at + n → (part_or n s.now at ≡ []) × (part_place n s at ≡ s.ref_ptr)
