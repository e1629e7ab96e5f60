-- The bits that leave the whitening register follow its polynomial. Assumes nothing.
use mathlib.Core.Path.{◌≡◌, sym, ap, ap₂, ◌∙◌}
use mathlib.Core.Bool.{Bool, true, false, xor}
use mathlib.Core.List.{List, [], ◌∷◌, ◌++◌}
use Prim.Native.Nat.{ℕ, zero, suc, ◌+◌}
use native.Mathlib.Omega.{arith}
use lib.ListN.{drop, replicate}
use Rattle.whitening.specs.Bits.{bits, added, shifted}
use Rattle.whitening.specs.Laws.{sum, Recurs}
use Rattle.whitening.specs.Whitening.{whitening_taps, register_on, leaving}
use Rattle.whitening.proofs.Errors.{xor_back, xor_none}

-- one shift: positions 6 to 0 of what is then held
shift : (a b c d e f g : Bool) → shifted whitening_taps a (b ∷ c ∷ d ∷ e ∷ f ∷ g ∷ []) ≡ b ∷ c ∷ xor d a ∷ e ∷ f ∷ g ∷ a ∷ []
unfolding added xor
shift true b c d e f g = rw (xor_none b, xor_none c, xor_none e, xor_none f, xor_none g)
shift false b c d e f g = rw (xor_none b, xor_none c, xor_none e, xor_none f, xor_none g)

one : (n : ℕ) (a b c d e f g : Bool) → leaving (suc n) (a ∷ b ∷ c ∷ d ∷ e ∷ f ∷ g ∷ []) ≡ a ∷ leaving n (b ∷ c ∷ xor d a ∷ e ∷ f ∷ g ∷ a ∷ [])
unfolding leaving
one n a b c d e f g = ap (λ (r : List Bool). a ∷ leaving n r) (shift a b c d e f g)

three : (n : ℕ) (a b c d e f g : Bool) → leaving (suc (suc (suc n))) (a ∷ b ∷ c ∷ d ∷ e ∷ f ∷ g ∷ [])
    ≡ a ∷ b ∷ c ∷ leaving n (xor d a ∷ xor e b ∷ xor f c ∷ g ∷ a ∷ b ∷ c ∷ [])
three n a b c d e f g =
    one (suc (suc n)) a b c d e f g
    ∙ ap (λ (l : List Bool). a ∷ l) (one (suc n) b c (xor d a) e f g a ∙ ap (λ (l : List Bool). b ∷ l) (one n c (xor d a) (xor e b) f g a b))

four : (n : ℕ) (a b c d e f g : Bool) → leaving (suc (suc (suc (suc n)))) (a ∷ b ∷ c ∷ d ∷ e ∷ f ∷ g ∷ [])
    ≡ a ∷ b ∷ c ∷ xor d a ∷ leaving n (xor e b ∷ xor f c ∷ xor g (xor d a) ∷ a ∷ b ∷ c ∷ xor d a ∷ [])
four n a b c d e f g =
    three (suc n) a b c d e f g ∙ ap (λ (l : List Bool). a ∷ b ∷ c ∷ l) (one n (xor d a) (xor e b) (xor f c) g a b c)

seven : (n : ℕ) (a b c d e f g : Bool) → leaving (suc (suc (suc (suc (suc (suc (suc n))))))) (a ∷ b ∷ c ∷ d ∷ e ∷ f ∷ g ∷ [])
    ≡ a ∷ b ∷ c ∷ xor d a ∷ xor e b ∷ xor f c ∷ xor g (xor d a)
    ∷ leaving n (xor a (xor e b) ∷ xor b (xor f c) ∷ xor c (xor g (xor d a)) ∷ xor d a ∷ xor e b ∷ xor f c ∷ xor g (xor d a) ∷ [])
seven n a b c d e f g =
    four (suc (suc (suc n))) a b c d e f g
    ∙ ap (λ (l : List Bool). a ∷ b ∷ c ∷ xor d a ∷ l) (three n (xor e b) (xor f c) (xor g (xor d a)) a b c (xor d a))

later : (n : ℕ) (a b c d e f g : Bool)
    → drop 7 (leaving (suc (suc (suc (suc (suc (suc (suc n))))))) (a ∷ b ∷ c ∷ d ∷ e ∷ f ∷ g ∷ []))
    ≡ sum (leaving n (a ∷ b ∷ c ∷ d ∷ e ∷ f ∷ g ∷ [])) (drop 4 (leaving (suc (suc (suc (suc n)))) (a ∷ b ∷ c ∷ d ∷ e ∷ f ∷ g ∷ [])))
unfolding leaving sum
later zero a b c d e f g = ap (drop 7) (seven 0 a b c d e f g)
later (suc n) a b c d e f g =
    let after = later n b c (xor d a) e f g a in
    ap (drop 7) (seven (suc n) a b c d e f g)
    ∙ one n (xor a (xor e b)) (xor b (xor f c)) (xor c (xor g (xor d a))) (xor d a) (xor e b) (xor f c) (xor g (xor d a))
    ∙ ap (λ (l : List Bool). xor a (xor e b) ∷ l) (sym (ap (drop 7) (seven n b c (xor d a) e f g a)) ∙ after ∙ ap (λ (l : List Bool). sum (leaving n (b ∷ c ∷ xor d a ∷ e ∷ f ∷ g ∷ a ∷ [])) (drop 4 l)) (four n b c (xor d a) e f g a))
    ∙ sym
    (ap₂ (λ (k l : List Bool). sum k (drop 4 l))
    (one n a b c d e f g)
    (four (suc n) a b c d e f g ∙ ap (λ (l : List Bool). a ∷ b ∷ c ∷ xor d a ∷ l) (one n (xor e b) (xor f c) (xor g (xor d a)) a b c (xor d a))))

first : (a b c d e f g : Bool) → sum (leaving 7 (a ∷ b ∷ c ∷ d ∷ e ∷ f ∷ g ∷ [])) (replicate 3 false ++ leaving 4 (a ∷ b ∷ c ∷ d ∷ e ∷ f ∷ g ∷ []))
    ≡ a ∷ b ∷ c ∷ d ∷ e ∷ f ∷ g ∷ []
unfolding leaving sum
first a b c d e f g =
    ap₂ (λ (k l : List Bool). sum k (replicate 3 false ++ l)) (seven 0 a b c d e f g) (four 0 a b c d e f g)
    ∙ rw (xor_none a, xor_none b, xor_none c, xor_back d a, xor_back e b, xor_back f c, xor_back g (xor d a))

pub recurs : (channel : ℕ) → Recurs channel
unfolding bits
recurs channel = record {
  first = first _ _ _ _ _ _ _;
  later = λ n.
      let seventh : n + 7 ≡ suc (suc (suc (suc (suc (suc (suc n)))))) = omega arith in
      let fourth : n + 4 ≡ suc (suc (suc (suc n))) = omega arith in
      ap (λ (k : ℕ). drop 7 (leaving k (register_on channel))) seventh
      ∙ later n _ _ _ _ _ _ _
      ∙ sym (ap (λ (k : ℕ). sum (leaving n (register_on channel)) (drop 4 (leaving k (register_on channel)))) fourth);
}
