-- Each setter of a header changes its own box of the figure only: `own_bits`; the figure read and set box by box: `figures`; and the table of types:
-- `codes`, `types`. Assumes nothing.
use mathlib.Core.Bool.{Bool, true, false, cond, ◌||◌}
use mathlib.Core.List.{List, [], ◌∷◌}
use mathlib.Core.Path.{◌≡◌, refl, sym, ap, ◌∙◌}
use Prim.Native.Nat.{ℕ, zero, suc, ◌+◌, ◌-◌, ◌*◌, ◌/◌, ◌%◌, ◌<◌, ◌≤◌, ◌^◌}
use native.Mathlib.Nat.{div-div-eq-div-mul}
use native.Mathlib.Omega.{arith}
use lib.ListN.{get_or}
use lib.Dec.{eqb}
use borrow.Author.Tests.{eqb-true, ne_eqb, lt-ltb, le-ltb}
use Rattle.addresses.specs.Header.{header_of, type_code, pdu_type, is_beacon, allows_adv_data}
use Rattle.addresses.specs.Laws.{boxes, OwnBits, HeaderFigure, HeaderNumber, TypeCodes, Types}
use Rattle.addresses.specs.declared.header.Header.{Header}
use Rattle.addresses.specs.declared.header.PduType.{PduType}
use Rattle.addresses.specs.declared.header.PduType.TheVariants.{AdvInd, AdvDirectInd, AdvNonconnInd, AdvScanInd, ScanReq, ScanRsp, ConnectReq, Unknown}
use Rattle.std.specs.Prelude.{Ok}

-- six boxes, one by one
six : {a b c d e f a' b' c' d' e' f' : ℕ} → a ≡ a' → b ≡ b' → c ≡ c' → d ≡ d' → e ≡ e' → f ≡ f'
    → ◌≡◌ {A = List ℕ} (a ∷ b ∷ c ∷ d ∷ e ∷ f ∷ []) (a' ∷ b' ∷ c' ∷ d' ∷ e' ∷ f' ∷ [])
six a b c d e f = λ i. a i ∷ b i ∷ c i ∷ d i ∷ e i ∷ f i ∷ []

pub bit_small : (v : Bool) → cond v 1 0 ≤ 1
bit_small true = omega arith
bit_small false = omega arith

-- a number above a bit is that bit, and the number above the next
tx_step : (x : ℕ) → x / 64 ≡ x / 64 % 2 + 2 * (x / 128)
tx_step x = omega arith

rx_step : (x : ℕ) → x / 128 ≡ x / 128 % 2 + 2 * (x / 256)
rx_step x = omega arith

-- another bit in its place leaves the number above it
tx_above : (x v : ℕ) → v ≤ 1 → (x - 64 * (x / 64 % 2) + 64 * v) / 128 ≡ x / 128
tx_above x v s = let parts : x - 64 * (x / 64 % 2) + 64 * v ≡ x % 64 + 64 * v + 128 * (x / 128) = omega (arith, tx_step x) in rw parts (omega arith)

rx_above : (x v : ℕ) → v ≤ 1 → (x - 128 * (x / 128 % 2) + 128 * v) / 256 ≡ x / 256
rx_above x v s = let parts : x - 128 * (x / 128 % 2) + 128 * v ≡ x % 128 + 128 * v + 256 * (x / 256) = omega (arith, rx_step x) in rw parts (omega arith)

-- and those above that
higher : (x y k m : ℕ) → x / k ≡ y / k → x / (k * m) ≡ y / (k * m)
higher x y k m e = sym (div-div-eq-div-mul x k m) ∙ ap (λ (n : ℕ). n / m) e ∙ div-div-eq-div-mul y k m

abbrev join : List ℕ → ℕ
join l = get_or l 0 0 + 16 * (get_or l 1 0 + 4 * (get_or l 2 0 + 2 * (get_or l 3 0 + 2 * (get_or l 4 0 + 64 * get_or l 5 0))))

-- 16 bits are their boxes
joined : (x : ℕ) → x < 2 ^ 16 → x ≡ join (boxes (header_of x))
joined x small =
    let top : x / 256 ≡ x / 256 % 64 + 64 * (x / 16384 % 4) = omega arith in
    let low : x / 16 ≡ x / 16 % 4 + 4 * (x / 64) = omega arith in
    rw (← top, ← rx_step x, ← tx_step x, ← low) (omega arith)

pub own_bits : (h : Header) → h.0 < 2 ^ 16 → OwnBits h
own_bits h small =
    record {
      tx = λ v.
          let s = bit_small v in
          let above = tx_above h.0 (cond v 1 0) s in
          six (omega arith) (omega arith) (omega arith) (ap (λ (n : ℕ). n % 2) above) (ap (λ (n : ℕ). n % 64) (higher _ h.0 128 2 above))
          (ap (λ (n : ℕ). n % 4) (higher _ h.0 128 128 above));
      rx = λ v.
          let s = bit_small v in
          let above = rx_above h.0 (cond v 1 0) s in
          six (omega arith) (omega arith) (omega arith) (omega arith) (ap (λ (n : ℕ). n % 64) above)
          (ap (λ (n : ℕ). n % 4) (higher _ h.0 256 64 above));
      len = λ n l. six (omega arith) (omega arith) (omega arith) (omega arith) (omega arith) (omega arith);
      all = λ g fits e. ap header_of (joined g.0 fits ∙ ap join e ∙ sym (joined h.0 small));
    }

-- one line of the table of types
line : (n k : ℕ) (ty rest : PduType) → type_code ty ≡ k → type_code rest ≡ n → type_code (cond (eqb n k) ty rest) ≡ n
line n k ty rest is later = go (eqb n k) refl
  where
    go : (b : Bool) → eqb n k ≡ b → type_code (cond b ty rest) ≡ n
    go true e = is ∙ sym (eqb-true n k e)
    go false e = later

pub codes : TypeCodes
unfolding pdu_type
codes =
    record {
      code_0 = refl;
      code_1 = refl;
      code_2 = refl;
      code_3 = refl;
      code_4 = refl;
      code_5 = refl;
      code_6 = refl;
      back = λ n. line n 0 AdvInd _ refl (line n 1 AdvDirectInd _ refl (line n 2 AdvNonconnInd _ refl (line n 3 ScanReq _ refl (line n 4 ScanRsp _ refl (line n 5 ConnectReq _ refl (line n 6 AdvScanInd (Unknown n) refl refl))))));
      no_name = λ n l. rw (
        ne_eqb n 0 (λ e. omega arith),
        ne_eqb n 1 (λ e. omega arith),
        ne_eqb n 2 (λ e. omega arith),
        ne_eqb n 3 (λ e. omega arith),
        ne_eqb n 4 (λ e. omega arith),
        ne_eqb n 5 (λ e. omega arith),
        ne_eqb n 6 (λ e. omega arith),
      );
      of_no_name = λ n. refl;
    }

-- what holds of a code by its answers
both : {n : ℕ} → is_beacon (pdu_type n) ≡ eqb n 2 → allows_adv_data (pdu_type n) ≡ eqb n 0 || (eqb n 2 || (eqb n 4 || eqb n 6)) → Types n
both b r = record { beacon = b; has_records = r; no_name_no_beacon = refl; no_name_no_records = refl }

no_name_types : (n : ℕ) → 7 ≤ n → Types n
no_name_types n l =
    let other : (k : ℕ) → k < 7 → eqb n k ≡ false = λ k h. ne_eqb n k (λ e. omega arith) in
    both (rw (codes.no_name n l, other 2 (omega arith)))
    (rw (codes.no_name n l, other 0 (omega arith), other 2 (omega arith), other 4 (omega arith), other 6 (omega arith)))

pub types : (n : ℕ) → Types n
unfolding pdu_type
types zero = both refl refl
types (suc zero) = both refl refl
types (suc (suc zero)) = both refl refl
types (suc (suc (suc zero))) = both refl refl
types (suc (suc (suc (suc zero)))) = both refl refl
types (suc (suc (suc (suc (suc zero))))) = both refl refl
types (suc (suc (suc (suc (suc (suc zero)))))) = both refl refl
types (suc (suc (suc (suc (suc (suc (suc n))))))) = no_name_types _ (omega arith)

-- the number with these in its boxes, and each of them read from it
abbrev number : ℕ → ℕ → ℕ → ℕ → ℕ → ℕ → ℕ
number ty low t r n top = ty + 16 * low + 64 * t + 128 * r + 256 * n + 16384 * top

module _ (ty low t r n top : ℕ) (a : ty < 16) (b : low < 4) (c : t ≤ 1) (d : r ≤ 1) (e : n < 64) where
  box_type : number ty low t r n top / 1 % 16 ≡ ty
  box_type = omega arith

  box_tx : number ty low t r n top / 64 % 2 ≡ t
  box_tx = omega arith

  box_rx : number ty low t r n top / 128 % 2 ≡ r
  box_rx = omega arith

  box_length : number ty low t r n top / 256 % 64 ≡ n
  box_length = omega arith

  tx_put : (v : ℕ) → number ty low t r n top - 64 * (number ty low t r n top / 64 % 2) + 64 * v ≡ number ty low v r n top
  tx_put v = rw box_tx (omega arith)

  rx_put : (v : ℕ) → number ty low t r n top - 128 * (number ty low t r n top / 128 % 2) + 128 * v ≡ number ty low t v n top
  rx_put v = rw box_rx (omega arith)

  length_put : (v : ℕ) → number ty low t r n top - 256 * (number ty low t r n top / 256 % 64) + 256 * v ≡ number ty low t r v top
  length_put v = rw box_length (omega arith)

-- a bit as a Bool
bit_is : (v : Bool) → eqb (cond v 1 0) 1 ≡ v
bit_is true = refl
bit_is false = refl

pub figures : (ty low n top : ℕ) (tx rx : Bool) → ty < 16 → low < 4 → n < 64 → HeaderFigure ty low tx rx n top
figures ty low n top tx rx a b c =
    let t : ℕ = cond tx 1 0 in
    let r : ℕ = cond rx 1 0 in
    let s = bit_small tx in
    let q = bit_small rx in
    record {
      type = ap pdu_type (box_type ty low t r n top a b s q c);
      tx_add_law = rw (box_tx ty low t r n top a b s q c) (bit_is tx);
      rx_add_law = rw (box_rx ty low t r n top a b s q c) (bit_is rx);
      payload_length = box_length ty low t r n top a b s q c;
      tx_set = λ v. ap header_of (tx_put ty low t r n top a b s q c (cond v 1 0));
      rx_set = λ v. ap header_of (rx_put ty low t r n top a b s q c (cond v 1 0));
      length_set_law = λ m l h. rw (le-ltb m 6 l, le-ltb 37 m h) (ap (λ (x : ℕ). Ok (header_of x)) (length_put ty low t r n top a b s q c m));
      too_short = λ m l. rw (lt-ltb m 6 l);
      too_long = λ m l. rw (le-ltb m 6 (omega arith), lt-ltb 37 m l);
      made_new = ap header_of (codes.back ty ∙ omega arith);
    }

pub numbered : (n : ℕ) (ty : PduType) → HeaderNumber n ty
numbered n ty = record { given = refl; sent = refl; new = refl }
