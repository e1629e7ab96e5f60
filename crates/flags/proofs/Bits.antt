-- The bits of Flags that have a name are kept, and the others are cleared: `named_bits`; each is asked for by itself: `queries`; how the code asks: `set`, `clear`.
-- Assumes nothing.
use mathlib.Core.Path.{◌≡◌, refl, ap, ◌∙◌}
use mathlib.Core.Bool.{Bool, true, false, not}
use Prim.Native.Nat.{ℕ, zero, suc, ◌*◌, ◌/◌, ◌%◌, ◌^◌, ◌≤◌, ◌<◌}
use native.Mathlib.Nat.{div-eq_of_lt}
use native.Mathlib.Omega.{arith}
use lib.Pow.{pow_mono, pow_pos}
use lib.Dec.{eqb}
use borrow.Author.Tests.{eq-eqb, ne_eqb}
use Rattle.std.proofs.lemmas.Nat.Bits.{and_pow}
use lib.Bits.{bit_and, and_mask}
use Rattle.flags.specs.Flags.{named, bit_at, NamedBits, digit, with_bits, Queries}

-- the code's mask clears the bits that have no name
pub masked : (b : ℕ) → bit_and b 31 ≡ named b
unfolding named
masked b = and_mask b 5

-- a bit of an octet is set where the octet and the bit have one in common
in_common : (v p : ℕ) → v < 2 → 0 < p → not (eqb (v * p) 0) ≡ eqb v 1
in_common zero p small some = rw (eq-eqb (0 * p) 0 (omega arith))
in_common (suc zero) p small some = rw (ne_eqb (1 * p) 0 (omega arith))
in_common (suc (suc v)) p small some = absurd (omega arith)

pub set : (k x : ℕ) → not (eqb (bit_and x (2 ^ k)) 0) ≡ eqb (bit_at k x) 1
set k x = rw (and_pow x k) (in_common (x / 2 ^ k % 2) (2 ^ k) (omega arith) (pow_pos k))

pub clear : (k x : ℕ) → not (not (eqb (bit_and x (2 ^ k)) 0)) ≡ eqb (bit_at k x) 0
clear k x = ap not (set k x) ∙ go (x / 2 ^ k % 2) (omega arith)
  where
    go : (v : ℕ) → v < 2 → not (eqb v 1) ≡ eqb v 0
    go zero small = refl
    go (suc zero) small = refl
    go (suc (suc v)) small = absurd (omega arith)

kept : (x b : ℕ) → b < 5 → bit_at b (x % 32) ≡ bit_at b x
kept x zero h = omega arith
kept x (suc zero) h = omega arith
kept x (suc (suc zero)) h = omega arith
kept x (suc (suc (suc zero))) h = omega arith
kept x (suc (suc (suc (suc zero)))) h = omega arith
kept x (suc (suc (suc (suc (suc b))))) h = absurd (omega arith)

cleared : (x b : ℕ) → 5 ≤ b → bit_at b (x % 32) ≡ 0
cleared x b h =
    let wide : 2 ^ 5 ≤ 2 ^ b = pow_mono h in
    let small : x % 32 < 2 ^ b = omega arith in
    ap (λ (q : ℕ). q % 2) (div-eq_of_lt small)

pub named_bits : (x : ℕ) → NamedBits x
unfolding named
named_bits x = record { kept = kept x; cleared = cleared x }

digit_small : (b : Bool) → digit b ≤ 1
digit_small true = omega arith
digit_small false = omega arith

digit_one : (b : Bool) {k : ℕ} → k ≡ digit b → eqb k 1 ≡ b
digit_one true is = rw is
digit_one false is = rw is

digit_zero : (b : Bool) {k : ℕ} → k ≡ digit b → eqb k 0 ≡ not b
digit_zero true is = rw is
digit_zero false is = rw is

pub queries : (l g n c h : Bool) (above : ℕ) → Queries l g n c h above
unfolding named
queries l g n c h above =
    let x : ℕ = with_bits l g n c h above in
    let l-small : digit l ≤ 1 = digit_small l in
    let g-small : digit g ≤ 1 = digit_small g in
    let n-small : digit n ≤ 1 = digit_small n in
    let c-small : digit c ≤ 1 = digit_small c in
    let h-small : digit h ≤ 1 = digit_small h in
    record {
      limited = digit_one l {k = x / 1 % 2} (omega arith);
      general = digit_one g {k = x / 2 % 2} (omega arith);
      classic = digit_zero n {k = x / 4 % 2} (omega arith);
      controller = digit_one c {k = x / 8 % 2} (omega arith);
      host = digit_one h {k = x / 16 % 2} (omega arith);
      kept = omega arith;
    }
