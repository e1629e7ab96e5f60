-- The bits that are left, reversed before those reached, are the start value's.
use mathlib.Core.Path.{◌≡◌, refl, sym, ap, ◌∙◌}
use mathlib.Core.List.{reverse_aux}
use Rattle.std.proofs.Common.{ℕ, suc, ◌+◌, ◌-◌, ◌*◌, ◌/◌, ◌%◌, arith}
use native.Mathlib.Nat.{pow-suc}
use native.Mathlib.Numerals.{add-one}
use Rattle.whitening.specs.Bits.{bits}
use Rattle.whitening.proofs.Registers.{reversing, reversed}
use Rattle.whitening.proofs.crc.register_at.Goals as goal

pub loop-k-init : goal.loop-k-init
unfolding bits
loop-k-init c = (omega arith, (omega arith, refl))

pub loop-k-preserved : goal.loop-k-preserved
loop-k-preserved c =
    let turn = c.loop-k in
    let e : 24 - turn.k ≡ suc (24 - (turn.k + 1)) = omega arith in (
      omega arith,
      (
        rw add-one (omega (arith, pow-suc 2 turn.k)),
        ap (λ (n : ℕ). reverse_aux (bits (24 - (turn.k + 1)) (turn.rest / 2)) (bits n (2 * turn.register + turn.rest % 2))) (add-one turn.k)
            ∙ reversing (24 - (turn.k + 1)) turn.k turn.register turn.rest
            ∙ ap (λ (n : ℕ). reverse_aux (bits n turn.rest) (bits turn.k turn.register)) (sym e)
            ∙ turn.invariant.1.1,
      ),
    )

pub returns : goal.returns
returns c =
    let turn = c.loop-k in
    let e : turn.k ≡ 24 = omega arith in
    record { same = reversed turn.k turn.register turn.rest e ∙ turn.invariant.1.1; small = rw e at turn.invariant.1.0 }
