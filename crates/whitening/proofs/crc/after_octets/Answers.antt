-- What the octets that are left do to the register is what all of them did at first.
use mathlib.Core.Path.{◌≡◌, refl, ap, ◌∙◌}
use Rattle.std.proofs.Common.{arith, ℕ, List, ◌+◌, ◌*◌, ◌<◌, ◌≤◌, ◌++◌, ◌∷◌, [], length, length-append, drop, get_or}
use Rattle.octets.specs.Bytes.{le}
use Rattle.whitening.specs.Bits.{bits, bits_of}
use Rattle.whitening.specs.Crc.{crc_after}
use Rattle.whitening.proofs.Registers.{octets_turn, three_turn, octets_end}
use Rattle.whitening.proofs.Threes.{room, element, takes_on, last}
use Rattle.whitening.proofs.crc.after_octets.Goals as goal

pub loop-part-init : goal.loop-part-init
loop-part-init c =
    let begin = c.into_iter-part-iterator.ensures.into_iter_gives in
    let parts = c.chunks_exact-parts.ensures in
    record { taken = record { size_is = rw begin parts.size; within = omega arith; left = rw begin parts.rest }; small = omega (arith, c.requires); so = refl }

pub after_three-reached-requires : goal.after_three-reached-requires
after_three-reached-requires c =
    let turn = c.loop-part.invariant in
    let steps = c.in-Some.ensures.steps in
    let at = element _ _ _ _ _ _ turn.taken steps.1.0 steps.1.1 in
    let i = 3 * length c.loop-part.yielded in (
      turn.small,
      omega (
        arith,
        c.u32_from_le_bytes.ensures,
        at 0 (omega arith),
        at 1 (omega arith),
        at 2 (omega arith),
        (c.type_inv.octets (i + 0)).fits,
        (c.type_inv.octets (i + 1)).fits,
        (c.type_inv.octets (i + 2)).fits,
      ),
    )

three : (octets part : List ℕ) (i j register next number : ℕ) → 3 * i + 3 ≤ length octets → get_or octets (3 * i) 0 < 256 → get_or octets (3 * i + 1) 0 < 256
    → ((k : ℕ) → k < 3 → get_or part k 0 ≡ get_or octets (3 * i + k) 0) → number ≡ le (get_or part 0 0 ∷ get_or part 1 0 ∷ get_or part 2 0 ∷ 0 ∷ [])
    → bits 24 next ≡ crc_after (bits 24 register) (bits 24 number) → j ≡ i + 1
    → crc_after (bits 24 next) (bits_of (drop (3 * j) octets)) ≡ crc_after (bits 24 register) (bits_of (drop (3 * i) octets))
three octets part i j register next number r f g at is e one =
    let ends : 3 * j ≡ 3 * i + 3 = omega arith in
    let here : 3 * i + 0 ≡ 3 * i = omega arith in
    let first : get_or part 0 0 ≡ get_or octets (3 * i) 0 = at 0 (omega arith) ∙ ap (λ (n : ℕ). get_or octets n 0) here in
    let number_is : number ≡ le (get_or octets (3 * i) 0 ∷ get_or octets (3 * i + 1) 0 ∷ get_or octets (3 * i + 2) 0 ∷ 0 ∷ []) = omega (arith, is, first, at 1 (omega arith), at 2 (omega arith)) in
    rw ends (three_turn (3 * i) octets register next r f g (e ∙ ap (λ (n : ℕ). crc_after (bits 24 register) (bits 24 n)) number_is))

pub loop-part-preserved : goal.loop-part-preserved
loop-part-preserved c =
    let turn = c.loop-part.invariant in
    let steps = c.in-Some.ensures.steps in
    let i = length c.loop-part.yielded in
    let one : length (c.loop-part.yielded ++ c.in-Some.part ∷ []) ≡ length c.loop-part.yielded + 1 = simp length-append in
    record {
      taken = takes_on _ _ _ _ _ _ turn.taken steps.1.0 steps.1.1 _ _ steps.0 one;
      small = c.after_three-reached.ensures.small;
      so = three c.args.octets.now c.in-Some.part.now i _ c.loop-part.reached c.after_three-reached.result c.u32_from_le_bytes.result (room _ _ _ _ _ _ turn.taken steps.1.0 steps.1.1) (c.type_inv.octets (3 * i)).fits
          (c.type_inv.octets (3 * i + 1)).fits (element _ _ _ _ _ _ turn.taken steps.1.0 steps.1.1) c.u32_from_le_bytes.ensures c.after_three-reached.ensures.same one ∙ turn.so;
    }

pub loop-octet-init : goal.loop-octet-init
loop-octet-init c =
    let turn = c.loop-part.invariant in
    let octets = c.args.octets.now in
    let rest = c.remainder-rest.ensures ∙ c.chunks_exact-parts.ensures.remainder ∙ ap (λ (n : ℕ). drop n octets) (last _ _ _ _ turn.taken c.in-None.ensures.steps.1.0) in
    record { small = turn.small; so = ap (λ (r : List ℕ). crc_after (bits 24 c.loop-part.reached) (bits_of r)) rest ∙ turn.so }

pub after_octet-reached-requires : goal.after_octet-reached-requires
after_octet-reached-requires c = c.loop-octet.invariant.small

pub loop-octet-preserved : goal.loop-octet-preserved
loop-octet-preserved c =
    let turn = c.loop-octet in
    record {
      small = c.after_octet-reached.ensures.small;
      so = octets_turn turn.octet-index _ turn.reached c.after_octet-reached.result (omega arith) c.after_octet-reached.ensures.same ∙ turn.invariant.so;
    }

pub returns : goal.returns
returns c =
    let turn = c.loop-octet in
    record { same = octets_end turn.octet-index _ turn.reached (omega arith) ∙ turn.invariant.so; small = turn.invariant.small }
