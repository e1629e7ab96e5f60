-- Octets that are gone over three at a time. Assumes nothing.
use mathlib.Core.List.{List, ◌++◌}
use mathlib.Core.Path.{◌≡◌, sym, ap, ◌∙◌}
use Prim.Native.Nat.{ℕ, ◌+◌, ◌-◌, ◌*◌, ◌%◌, ◌≤◌, ◌<◌}
use native.Mathlib.Omega.{arith}
use lib.ListN.{length, get_or, drop, length-append, length-drop, get_or-append}
use lib.Seq.{drop-append_seam, drop-drop}
use Rattle.std.proofs.lemmas.List.{get_or-drop}

-- i threes were taken off the front, and this is what is left
pub record Taken (octets rest : List ℕ) (size i : ℕ) : Type 0 where
  pub size_is : size ≡ 3
  pub within : 3 * i ≤ length octets
  pub left : rest ≡ drop (3 * i) octets

module _ (octets rest part more : List ℕ) (size i : ℕ) (w : Taken octets rest size i) (so : rest ≡ part ++ more) (long : length part ≡ size) where
  pub room : 3 * i + 3 ≤ length octets
  room = omega (arith, w.within, w.size_is, long, length-drop (3 * i) octets, ap length w.left, ap length so, length-append part more)

  pub element : (k : ℕ) → k < 3 → get_or part k 0 ≡ get_or octets (3 * i + k) 0
  element k l =
      let inside : k < length part = omega (arith, w.size_is, long) in
      sym (get_or-append part more 0 k inside) ∙ ap (λ (s : List ℕ). get_or s k 0) (sym so ∙ w.left) ∙ get_or-drop (3 * i) octets k 0

  pub takes_on : (after j : ℕ) → after ≡ size → j ≡ i + 1 → Taken octets more after j
  takes_on after j same one =
      let next : 3 * j ≡ 3 * i + 3 = omega arith in
      let here : 3 ≡ length part = omega (arith, w.size_is, long) in
      record {
        size_is = same ∙ w.size_is;
        within = omega (arith, room);
        left = rw (next, ← drop-drop 3 (3 * i) octets, ← w.left, so, here) (sym (drop-append_seam part more));
      }

-- what is left in the end
pub last : (octets rest : List ℕ) (size i : ℕ) → Taken octets rest size i → length rest < size → length octets - length octets % 3 ≡ 3 * i
last octets rest size i w few = omega (arith, w.within, w.size_is, few, length-drop (3 * i) octets, ap length w.left)
