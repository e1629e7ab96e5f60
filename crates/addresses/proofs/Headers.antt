-- Two octets as a header, from the front of a slice and at a position of it. Assumes nothing.
use mathlib.Core.Path.{◌≡◌, refl, ap}
use mathlib.Core.List.{List}
use Prim.Native.Nat.{ℕ, ◌+◌, ◌*◌, ◌≤◌}
use native.Mathlib.Omega.{arith}
use lib.ListN.{length, get_or}
use borrow.Author.Tests.{lt-ltb, le-ltb, le-leb, lt-leb}
use Rattle.octets.proofs.Places.{part_octets}
use Rattle.octets.specs.Bytes.{part, le}
use Rattle.addresses.specs.Header.{header_of}
use Rattle.addresses.specs.Laws.{HeaderReading}
use Rattle.std.specs.Prelude.{Ok}

-- the number of two octets
two : (s : List ℕ) (at : ℕ) → at + 2 ≤ length s → le (part 2 s at) ≡ get_or s at 0 + 256 * get_or s (at + 1) 0
two s at h = rw (part_octets 1 s at (omega arith)) (omega arith)

pub reading : (s : List ℕ) (at : ℕ) → HeaderReading s at
reading s at = record {
  parse = λ h. rw (le-ltb (length s) 2 h, two s 0 h);
  parse_short = λ h. rw (lt-ltb (length s) 2 h);
  from = λ h. rw (le-leb (at + 2) (length s) h, two s at h);
  from_short = λ h. rw (lt-leb (at + 2) (length s) h);
  back = λ h small. ap (λ (n : ℕ). Ok (header_of n)) (omega arith);
  no_more = λ h. refl;
}
