-- Packets as they are heard on a channel, by the flag. Assumes nothing.
use mathlib.Core.Path.{◌≡◌, refl, sym, ap, ap₂, ◌∙◌}
use mathlib.Core.Bool.{Bool, true, false, xor}
use mathlib.Core.List.{List, [], ◌∷◌, ◌++◌}
use Prim.Native.Nat.{ℕ, suc, ◌+◌, ◌≤◌, ◌<◌}
use native.Mathlib.Omega.{arith}
use lib.ListN.{length, get_or, drop, length-append}
use Rattle.whitening.specs.Bits.{bits_of}
use Rattle.whitening.specs.Crc.{crc_octets, crc_good}
use Rattle.whitening.specs.Laws.{sum, Hears}
use Rattle.whitening.specs.Packet.{allowed, start_on, flagged, flag_of}
use Rattle.whitening.specs.Whitening.{register_on, leaving, whitened}
use Rattle.whitening.proofs.Errors.{crc_octets_length, own_good, checks, heard_length, xor_cancel}
use Rattle.whitening.proofs.Limits.{allowed_done, allowed_is}
use Rattle.whitening.proofs.Twice.{leaving_on, whitened_length, adds, twice}
use Rattle.std.specs.Prelude.{Result, Ok, Err}
use Rattle.octets.specs.declared.error.Error.{Error}

flag_good : (answer : Result (Unit {0}) Error) (good : Bool) → flagged answer good ≡ Ok true → (answer ≡ Ok tt) × (good ≡ true)
flag_good (Ok tt) good e = (refl, cc)
flag_good (Err error) good e = let z : ◌≡◌ {A = ℕ} 0 1 = cc in absurd (omega arith)

-- one bit of a sum
sum_at : (before : List Bool) (b : Bool) (after ys : List Bool) → length before < length ys
    → sum (before ++ b ∷ after) ys ≡ sum before ys ++ xor b (get_or ys (length before) false) ∷ sum after (drop (suc (length before)) ys)
unfolding sum
sum_at before b after [] h = absurd (omega arith)
sum_at [] b after (y ∷ ys) h = refl
sum_at (x ∷ before) b after (y ∷ ys) h = ap (λ (l : List Bool). xor x y ∷ l) (sum_at before b after ys (omega arith))

pub hears : (channel start : ℕ) → Hears channel start
hears channel start = record { told = told; own = own; no_other = no_other; one_bit = one_bit }
  where
    told : (packet : List ℕ) → channel ≤ 39 → 5 ≤ length packet → length packet ≤ 42
        → flag_of channel start packet ≡ Ok (crc_good (start_on channel start) (whitened channel packet))
    told packet h l m = ap (λ (a : Result (Unit {0}) Error). flagged a (crc_good (start_on channel start) (whitened channel packet))) (allowed_is channel (length packet) h l m)

    own : (octets : List ℕ) → channel ≤ 39 → 2 ≤ length octets → length octets ≤ 39
        → flag_of channel start (whitened channel (octets ++ crc_octets (start_on channel start) octets)) ≡ Ok true
    own octets h l m =
        let packet = octets ++ crc_octets (start_on channel start) octets in
        let n : length packet ≡ length octets + 3 = simp (length-append, crc_octets_length) in
        let e : length (whitened channel packet) ≡ length octets + 3 = whitened_length channel packet (omega arith) ∙ n in
        ap₂ flagged
        (ap (allowed channel) e ∙ allowed_is channel (length octets + 3) h (omega arith) (omega arith))
        (ap (crc_good (start_on channel start)) (twice channel packet (omega arith)) ∙ own_good (start_on channel start) octets)

    no_other : (octets last : List ℕ) → length octets ≤ 39 → length last ≡ 3 → flag_of channel start (whitened channel (octets ++ last)) ≡ Ok true
        → last ≡ crc_octets (start_on channel start) octets
    no_other octets last m e g =
        let n : length (octets ++ last) ≡ length octets + 3 = simp length-append (omega arith) in
        let good = flag_good (allowed channel (length (whitened channel (octets ++ last)))) (crc_good (start_on channel start) (whitened channel (whitened channel (octets ++ last)))) g in
        (checks (start_on channel start)).no_other octets last e (ap (crc_good (start_on channel start)) (sym (twice channel (octets ++ last) (omega arith))) ∙ good.1)

    one_bit : (p q : List ℕ) (before after : List Bool) (b d : Bool) → bits_of p ≡ before ++ b ∷ after → bits_of q ≡ before ++ d ∷ after
        → flag_of channel start p ≡ Ok true → flag_of channel start q ≡ Ok true → b ≡ d
    one_bit p q before after b d e f g h =
        let good-p = flag_good (allowed channel (length p)) (crc_good (start_on channel start) (whitened channel p)) g in
        let good-q = flag_good (allowed channel (length q)) (crc_good (start_on channel start) (whitened channel q)) h in
        let bs = leaving 336 (register_on channel) in
        let most = (allowed_done channel (length p) good-p.0).most in
        let place : length before < length bs =
        omega (arith, heard_length p, simp length-append at (ap length e), leaving_on 336 channel) in
        xor_cancel b d (get_or bs (length before) false)
        ((checks (start_on channel start)).one_bit (whitened channel p) (whitened channel q)
        (sum before bs)
        (sum after (drop (suc (length before)) bs))
        (xor b (get_or bs (length before) false))
        (xor d (get_or bs (length before) false))
        (adds channel p ∙ ap (λ (l : List Bool). sum l bs) e ∙ sum_at before b after bs place)
        (adds channel q ∙ ap (λ (l : List Bool). sum l bs) f ∙ sum_at before d after bs place)
        good-p.1
        good-q.1)
