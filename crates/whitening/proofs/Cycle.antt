-- All channels follow one cycle of 127 bits from different places: `one_cycle`. It speaks of the definitions alone, and knows nothing of the code. Assumes nothing.
use mathlib.Core.Path.{◌≡◌, refl, sym, ap, ap₂, ◌∙◌}
use mathlib.Core.Bool.{Bool, true, false, xor}
use mathlib.Core.List.{List, [], ◌∷◌, ◌++◌}
use Prim.Native.Nat.{ℕ, zero, suc, ◌+◌, ◌-◌, ◌*◌, ◌/◌, ◌%◌, ◌^◌, ◌≤◌, ◌<◌}
use native.Mathlib.Nat.{mod-lt}
use native.Mathlib.Omega.{arith}
use borrow.Author.Tests.{ltb-true, ltb-false}
use lib.Dec.{ltb}
use lib.ListN.{get_or, replicate}
use lib.Seq.{ext_get_or}
use Rattle.channels.specs.Count.{bit, count}
use Rattle.whitening.specs.Bits.{bits, number, added, shifted}
use Rattle.whitening.specs.Kept.{period, cycle_bits, Follows, OneCycle}
use Rattle.whitening.specs.Laws.{sum}
use Rattle.whitening.specs.Whitening.{whitening_taps, register_on, leaving}
use Rattle.whitening.proofs.Values.{values, values_all, values_small}
use Rattle.whitening.proofs.Recurring.{recurs}
use Rattle.whitening.proofs.Starts.{starts}
use Rattle.whitening.proofs.Twice.{leaving_on}

-- ---- the register after n shifts. What leaves is looked at in each, which makes the tests below quick.

unfoldable register_after : ℕ → List Bool → List Bool
register_after zero register = register
register_after (suc n) [] = []
register_after (suc n) (true ∷ rest) = register_after n (shifted whitening_taps true rest)
register_after (suc n) (false ∷ rest) = register_after n (shifted whitening_taps false rest)

after_one : (n : ℕ) (out : Bool) (rest : List Bool) → register_after (suc n) (out ∷ rest) ≡ register_after n (shifted whitening_taps out rest)
unfolding register_after
after_one n true rest = refl
after_one n false rest = refl

after_none : (n : ℕ) → register_after n [] ≡ []
unfolding register_after
after_none zero = refl
after_none (suc n) = refl

after_add : (k n : ℕ) (register : List Bool) → register_after (k + n) register ≡ register_after n (register_after k register)
unfolding register_after
after_add zero n register = let e : 0 + n ≡ n = omega arith in rw e
after_add (suc k) n [] = after_none (suc k + n) ∙ sym (after_none n)
after_add (suc k) n (out ∷ rest) =
    let e : suc k + n ≡ suc (k + n) = omega arith in
    ap (λ (m : ℕ). register_after m (out ∷ rest)) e
    ∙ after_one (k + n) out rest
    ∙ after_add k n (shifted whitening_taps out rest)
    ∙ sym (ap (register_after n) (after_one k out rest))

-- its highest position is what leaves next
next_bit : (n i : ℕ) (register : List Bool) → i < n → get_or (leaving n register) i false ≡ get_or (register_after i register) 0 false
unfolding register_after leaving
next_bit zero i register h = absurd (omega arith)
next_bit (suc n) zero [] h = refl
next_bit (suc n) (suc i) [] h = refl
next_bit (suc n) zero (out ∷ rest) h = refl
next_bit (suc n) (suc i) (out ∷ rest) h =
    next_bit n i (shifted whitening_taps out rest) (omega arith) ∙ sym (ap (λ (r : List Bool). get_or r 0 false) (after_one i out rest))

-- ---- round and round

comes_round : register_after period (register_on 0) ≡ register_on 0
unfolding register_after added bits xor
comes_round = refl

rounds : (k : ℕ) → register_after (period * k) (register_on 0) ≡ register_on 0
unfolding register_after
rounds zero = refl
rounds (suc k) =
    let e : period * suc k ≡ period + period * k = omega arith in
    ap (λ (m : ℕ). register_after m (register_on 0)) e
    ∙ after_add period (period * k) (register_on 0)
    ∙ ap (register_after (period * k)) comes_round
    ∙ rounds k

in_round : (n : ℕ) → register_after n (register_on 0) ≡ register_after (n % period) (register_on 0)
in_round n =
    let e : n ≡ period * (n / period) + n % period = omega arith in
    ap (λ (m : ℕ). register_after m (register_on 0)) e
    ∙ after_add (period * (n / period)) (n % period) (register_on 0)
    ∙ ap (register_after (n % period)) (rounds (n / period))

-- ---- the place of each channel

unfoldable bit_places : List ℕ
bit_places =
    0 ∷ 119 ∷ 50 ∷ 41 ∷ 7 ∷ 103 ∷ 72 ∷ 31 ∷ 123 ∷ 96 ∷ 88 ∷ 83 ∷ 10 ∷ 13 ∷ 55 ∷ 19 ∷ 67 ∷ 92 ∷ 65 ∷ 111
    ∷ 52 ∷ 74 ∷ 90 ∷ 57 ∷ 115 ∷ 45 ∷ 63 ∷ 24 ∷ 16 ∷ 106 ∷ 109 ∷ 77 ∷ 97 ∷ 84 ∷ 14 ∷ 20 ∷ 120 ∷ 42 ∷ 104 ∷ 32 ∷ []

abbrev bit_place_of : ℕ → ℕ
bit_place_of channel = get_or bit_places channel 0

reached : (channel : ℕ) → channel < 40 → register_after (bit_place_of channel) (register_on 0) ≡ register_on channel
unfolding bit_places values register_after added bits xor
reached = values_all (λ (c : ℕ). register_after (bit_place_of c) (register_on 0)) register_on 40 refl

bit_place_small : (channel : ℕ) → channel < 40 → bit_place_of channel < period
unfolding bit_places count
bit_place_small = values_small bit_place_of period 40 refl

follows : (channel : ℕ) → channel ≤ 39 → Follows channel
follows channel h =
    let p = bit_place_of channel in
    record {
      place = p;
      within = bit_place_small channel (omega arith);
      bit = λ n i l.
          next_bit n i (register_on channel) l
          ∙ ap (λ (r : List Bool). get_or (register_after i r) 0 false) (sym (reached channel (omega arith)))
          ∙ ap (λ (r : List Bool). get_or r 0 false) (sym (after_add p i (register_on 0)) ∙ in_round (p + i))
          ∙ sym (next_bit period ((p + i) % period) (register_on 0) (mod-lt (p + i) (omega arith)));
    }

-- ---- different places

-- the first seven bits give the register, and the register the channel
different : (c d : ℕ) → c ≤ 39 → d ≤ 39 → (f : Follows c) (g : Follows d) → f.place ≡ g.place → c ≡ d
different c d h l f g e = omega (arith, starts.number_is c, starts.number_is d, ap number registers)
  where
    leave : (n : ℕ) → leaving n (register_on c) ≡ leaving n (register_on d)
    leave n =
        ext_get_or false (leaving n (register_on c)) (leaving n (register_on d)) (leaving_on n c ∙ sym (leaving_on n d)) (λ i b.
        let inside : i < n = omega (arith, leaving_on n c) in
        f.bit n i inside ∙ ap (λ (p : ℕ). get_or cycle_bits ((p + i) % period) false) e ∙ sym (g.bit n i inside))

    registers : register_on c ≡ register_on d
    registers =
        sym (recurs c).first
        ∙ ap₂ (λ (xs ys : List Bool). sum xs (replicate 3 false ++ ys)) (leave 7) (leave 4)
        ∙ (recurs d).first

-- ---- one place. Of two, the cycle would be the same as many bits later as they are apart; 127 being a prime, also one bit later, and all its bits would be alike.

abbrev at : ℕ → Bool
at i = get_or cycle_bits (i % period) false

-- suc k bits later, suc k ^ 125 times, is one bit later
inverse : (k : ℕ) → k < 126 → suc k ^ 125 * suc k % period ≡ 1
unfolding values
inverse = values_all (λ (k : ℕ). suc k ^ 125 * suc k % period) (λ (k : ℕ). 1) 126 refl

module _ (c : ℕ) (f g : Follows c) (d : ℕ) (apart : f.place + d ≡ g.place) where
  later : (x : ℕ) → f.place ≤ x → at x ≡ at (x + d)
  later x h =
      let i = x - f.place in
      let here : x ≡ f.place + i = omega arith in
      let there : g.place + i ≡ x + d = omega arith in
      ap at here ∙ sym (f.bit (suc i) i (omega arith)) ∙ g.bit (suc i) i (omega arith) ∙ ap at there

  often : (k x : ℕ) → f.place ≤ x → at x ≡ at (x + k * d)
  often zero x h = let e : x ≡ x + 0 * d = omega arith in ap at e
  often (suc k) x h =
      let e : x + d + k * d ≡ x + suc k * d = omega arith in
      later x h ∙ often k (x + d) (omega arith) ∙ ap at e

not_two : (c : ℕ) (f g : Follows c) (k : ℕ) → f.place + suc k ≡ g.place → ⊥
unfolding leaving bits added xor
not_two c f g k apart =
    let one : suc k ^ 125 * suc k % period ≡ 1 = inverse k (omega (arith, g.within)) in
    let next : (x : ℕ) → f.place ≤ x → at x ≡ at (x + 1) = λ x h.
    let e : (x + suc k ^ 125 * suc k) % period ≡ (x + 1) % period = omega arith in
    often c f g (suc k) apart (suc k ^ 125) x h ∙ ap (λ (i : ℕ). get_or cycle_bits i false) e in
    let from : f.place ≤ 127 = omega (arith, f.within) in
    let alike : at 127 ≡ at 133 =
    next 127 from ∙ next 128 (omega arith) ∙ next 129 (omega arith) ∙ next 130 (omega arith) ∙ next 131 (omega arith) ∙ next 132 (omega arith) in
    let z : ◌≡◌ {A = ℕ} 0 1 = ap bit alike in
    absurd (omega arith)

alone : (c : ℕ) (f g : Follows c) → f.place ≡ g.place
alone c f g = go (ltb f.place g.place) refl (ltb g.place f.place) refl
  where
    go : (a : Bool) → ltb f.place g.place ≡ a → (b : Bool) → ltb g.place f.place ≡ b → f.place ≡ g.place
    go true e b h = absurd (not_two c f g (g.place - f.place - 1) (omega (arith, ltb-true f.place g.place e)))
    go false e true h = absurd (not_two c g f (f.place - g.place - 1) (omega (arith, ltb-true g.place f.place h)))
    go false e false h = omega (arith, ltb-false f.place g.place e, ltb-false g.place f.place h)

pub one_cycle : OneCycle
one_cycle = record { size = leaving_on period 0; follows = follows; different = different; alone = alone }
