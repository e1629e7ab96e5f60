-- A list that is gone over 272 octets at a time. Assumes nothing.
use mathlib.Core.List.{List, ◌++◌}
use mathlib.Core.Path.{◌≡◌, sym, ap, ◌∙◌}
use Prim.Native.Nat.{ℕ, ◌+◌, ◌*◌, ◌/◌, ◌≤◌, ◌<◌}
use native.Mathlib.Omega.{arith}
use borrow.Author.Tests.{le-leb}
use lib.ListN.{length, drop, length-append, length-drop}
use lib.Seq.{take-append_seam, drop-append_seam, drop-drop}
use Rattle.octets.specs.Bytes.{part_or}

-- i parts were taken off the front, and this is what is left
pub record Taken (calls rest : List ℕ) (size i : ℕ) : Type 0 where
  pub size_is : size ≡ 272
  pub within : 272 * i ≤ length calls
  pub left : rest ≡ drop (272 * i) calls

part_is : (calls call more : List ℕ) (i : ℕ) → drop (272 * i) calls ≡ call ++ more → length call ≡ 272 → part_or 272 calls (272 * i) ≡ call
part_is calls call more i so long =
    let room : 272 * i + 272 ≤ length calls = omega (arith, length-drop (272 * i) calls, ap length so, length-append call more) in
    rw (le-leb (272 * i + 272) (length calls) room, so, ← long) (take-append_seam call more)

pub takes_on : (calls rest call more : List ℕ) (size after i j : ℕ) → Taken calls rest size i → rest ≡ call ++ more → length call ≡ size → after ≡ size → j ≡ i + 1
    → Taken calls more after j
takes_on calls rest call more size after i j w so long same one =
    let next : 272 * j ≡ 272 * i + 272 = omega arith in
    let here : 272 ≡ length call = omega (arith, w.size_is, long) in
    record {
      size_is = same ∙ w.size_is;
      within = omega (arith, w.within, w.size_is, long, length-drop (272 * i) calls, ap length w.left, ap length so, length-append call more);
      left = rw (next, ← drop-drop 272 (272 * i) calls, ← w.left, so, here) (sym (drop-append_seam call more));
    }

-- the part that comes next
pub next_part : (calls rest call more : List ℕ) (size i : ℕ) → Taken calls rest size i → rest ≡ call ++ more → length call ≡ size → part_or 272 calls (272 * i) ≡ call
next_part calls rest call more size i w so long = part_is calls call more i (sym w.left ∙ so) (long ∙ w.size_is)

pub all_taken : (calls rest : List ℕ) (size i : ℕ) → Taken calls rest size i → length rest < size → length calls / 272 ≡ i
all_taken calls rest size i w few = omega (arith, w.within, w.size_is, few, length-drop (272 * i) calls, ap length w.left)
