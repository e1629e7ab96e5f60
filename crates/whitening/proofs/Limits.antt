-- Which channels and packets are allowed, and what is known of them; where the CRC starts. Assumes nothing.
use mathlib.Core.Path.{◌≡◌, refl, sym, ap, ◌∙◌}
use mathlib.Core.Bool.{Bool, true, false, cond}
use mathlib.Core.List.{List}
use Prim.Native.Nat.{ℕ, ◌≤◌, ◌<◌}
use native.Mathlib.Omega.{arith}
use lib.Dec.{ltb}
use lib.ListN.{length}
use borrow.Author.Tests.{ltb-false, lt-ltb, le-ltb}
use Rattle.octets.specs.declared.error.Error.TheVariants.{Eof, InvalidLength, NoSuchIndex}
use Rattle.whitening.specs.Crc.{crc_good}
use Rattle.whitening.specs.Laws.{WhiteningRefuses, CrcStartOn}
use Rattle.whitening.specs.Packet.{allowed, leaves, start_on, flagged}
use Rattle.whitening.specs.Whitening.{whitened}
use Rattle.std.specs.Prelude.{Result, Ok, Err}
use Rattle.octets.specs.declared.error.Error.{Error}

pub record Allowed (channel n : ℕ) : Type 0 where
  pub index : channel ≤ 39
  pub least : 5 ≤ n
  pub most : n ≤ 42

pub allowed_done : (channel n : ℕ) → allowed channel n ≡ Ok tt → Allowed channel n
allowed_done channel n = go (ltb 39 channel) refl (ltb 42 n) refl (ltb n 5) refl
  where
    go : (a : Bool) → ltb 39 channel ≡ a → (b : Bool) → ltb 42 n ≡ b → (d : Bool) → ltb n 5 ≡ d
        → cond a (Err NoSuchIndex) (cond b (Err InvalidLength) (cond d (Err Eof) (Ok (tt {0})))) ≡ Ok (tt {0}) → Allowed channel n
    go true e b f d g h = let z : ◌≡◌ {A = ℕ} 0 1 = cc in absurd (omega arith)
    go false e true f d g h = let z : ◌≡◌ {A = ℕ} 0 1 = cc in absurd (omega arith)
    go false e false f true g h = let z : ◌≡◌ {A = ℕ} 0 1 = cc in absurd (omega arith)
    go false e false f false g h = record { index = ltb-false _ _ e; least = ltb-false _ _ g; most = ltb-false _ _ f }

pub allowed_is : (channel n : ℕ) → channel ≤ 39 → 5 ≤ n → n ≤ 42 → allowed channel n ≡ Ok tt
allowed_is channel n h l m = simp (le-ltb 39 channel h, le-ltb 42 n m, le-ltb n 5 l)

pub refusing : (channel : ℕ) (packet : List ℕ) → WhiteningRefuses channel packet
refusing channel packet = record {
  no_channel = λ h. simp (lt-ltb 39 channel h);
  too_long = λ h l. simp (le-ltb 39 channel h, lt-ltb 42 (length packet) l);
  too_short = λ h l.
      let most : length packet ≤ 42 = omega arith in
      simp (le-ltb 39 channel h, le-ltb 42 (length packet) most, lt-ltb (length packet) 5 l);
  others = allowed_is channel (length packet);
  kept = λ e is. ap (λ (a : Result (Unit {0}) Error). leaves a channel packet) is;
  done = λ is. ap (λ (a : Result (Unit {0}) Error). leaves a channel packet) is;
  flag = λ start e is. ap (λ (a : Result (Unit {0}) Error). flagged a (crc_good (start_on channel start) (whitened channel packet))) is;
}

pub starting : (channel start : ℕ) → CrcStartOn channel start
starting channel start = record {
  data_channels = λ h. simp (le-ltb 36 channel h);
  advertising_channels = λ h. preset start h;
  unused = λ h other packet.
      ap (λ (s : ℕ). flagged (allowed channel (length packet)) (crc_good s (whitened channel packet))) (preset start h ∙ sym (preset other h));
}
  where
    preset : (start : ℕ) → 37 ≤ channel → start_on channel start ≡ 0x555555
    preset start h = let above : 36 < channel = omega arith in simp (lt-ltb 36 channel above)
