-- The part that `part_of` hands on is the octets that stand there, in their own place: `part_is`. Assumes nothing.
use Rattle.std.proofs.Common.{◌≡◌, ℕ, ◌+◌, Bool, cond, List, ◌++◌, length, ap, ◌∙◌, arith, length-append, Bor}
use lib.Seq.{take-append_seam, drop-append_seam}
use Rattle.octets.specs.PartOf.{PartOf}
use Rattle.octets.proofs.Places.{enough, too_few}

pub part_is : (s : Bor (List ℕ)) → PartOf s
part_is s =
    record {
      there = λ before xs behind is.
          let size : length s.now ≡ length before + (length xs + length behind) = ap length is ∙ simp length-append (omega arith) in
          let has = enough (length xs) s.now (length before) (omega arith) in
          let place : length before + s.ref_ptr.1 ≡ s.ref_ptr.1 + length before = omega arith in
          (rw (has, is, drop-append_seam before (xs ++ behind)) (take-append_seam xs behind), rw (has, place));
      fewer = λ n at few.
          let none = too_few n s.now at few in
          let start : 0 + s.ref_ptr.1 ≡ s.ref_ptr.1 = omega arith in
          (rw none, ap (λ (b : Bool). (s.ref_ptr.0, cond b at 0 + s.ref_ptr.1)) none ∙ ap (λ (i : ℕ). (s.ref_ptr.0, i)) start);
    }
