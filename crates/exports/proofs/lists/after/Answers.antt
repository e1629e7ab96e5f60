-- Each turn of the loop is a step of `ran`.
use Rattle.std.proofs.Common.{◌≡◌, refl, sym, ap, ◌∙◌, ◌+◌, ◌/◌, ◌++◌, ◌∷◌, [], arith, length, length-append}
use Rattle.radio_spec.specs.State.{State}
use Rattle.radio.specs.State.{state}
use Rattle.exports.specs.Lists.{Board, board_of, ran, ran_all}
use Rattle.exports.proofs.Chunks.{takes_on, next_part, all_taken}
use Rattle.exports.proofs.Replays.{replays_on}
use Rattle.exports.proofs.lists.after.Goals as goal

pub loop-call-init : goal.loop-call-init
unfolding ran
loop-call-init c =
    let begin = c.into_iter-call-iterator.ensures.into_iter_gives in
    let parts = c.chunks_exact-call-items.ensures in
    record {
      taken = record { size_is = rw begin parts.size; within = omega arith; left = rw begin parts.rest };
      replayed = record { reached = refl; long_first = refl; long_second = refl };
    }

pub loop-call-preserved : goal.loop-call-preserved
loop-call-preserved c =
    let turn = c.loop-call.invariant in
    let parts = c.in-Some.ensures.steps in
    let e = c.step_with-called.ensures in
    let one : length (c.loop-call.yielded ++ c.in-Some.call ∷ []) ≡ length c.loop-call.yielded + 1 = simp length-append in
    record {
      taken = takes_on _ _ _ _ _ _ _ _ turn.taken parts.1.0 parts.1.1 parts.0 one;
      replayed = record {
        reached = replays_on _ _ _ _ turn.replayed.reached (sym (next_part _ _ _ _ _ _ turn.taken parts.1.0 parts.1.1)) e.0 e.1 e.2 one;
        long_first = omega (arith, c.step_with-called.auto.first, turn.replayed.long_first);
        long_second = omega (arith, c.step_with-called.auto.second, turn.replayed.long_second);
      };
    }

pub returns : goal.returns
unfolding ran_all
returns c =
    let turn = c.loop-call.invariant in
    let a = c.args in
    let all = sym (all_taken _ _ _ _ turn.taken c.in-None.ensures.steps.1.0) in
    let so = turn.replayed.reached ∙ ap (ran (board_of (state c.new-device.result) a.first.now a.second.now) a.calls.now) all ∙ ap (λ (d : State). ran (board_of d a.first.now a.second.now) a.calls.now (length a.calls.now / 272)) c.new-device.ensures in
    (ap (λ (s : Board). s.device) so, ap (λ (s : Board). s.first) so, ap (λ (s : Board). s.second) so)
