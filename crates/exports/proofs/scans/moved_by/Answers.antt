use Rattle.std.proofs.Common.{◌≡◌, refl, sym, ap, ◌∙◌, ◌+◌, ◌++◌, ◌∷◌, [], arith, length, length-append}
use Rattle.beacon.specs.State.{scanner_state}
use Rattle.exports.specs.Scans.{entries_up_to, entries_after}
use Rattle.exports.proofs.Chunks.{takes_on, next_part, all_taken}
use Rattle.exports.proofs.Entries.{one_more}
use Rattle.exports.proofs.scans.moved_by.Goals as goal

pub loop-entry-init : goal.loop-entry-init
unfolding entries_up_to
loop-entry-init c =
    let begin = c.into_iter-entry-iterator.ensures.into_iter_gives in
    let parts = c.chunks_exact-entry-items.ensures in
    record { taken = record { size_is = rw begin parts.size; within = omega arith; left = rw begin parts.rest }; reached = refl }

pub loop-entry-preserved : goal.loop-entry-preserved
loop-entry-preserved c =
    let turn = c.loop-entry.invariant in
    let parts = c.in-Some.ensures.steps in
    let one : length (c.loop-entry.yielded ++ c.in-Some.entry ∷ []) ≡ length c.loop-entry.yielded + 1 = simp length-append in
    record {
      taken = takes_on _ _ _ _ _ _ _ _ turn.taken parts.1.0 parts.1.1 parts.0 one;
      reached = one_more _ _ _ _ turn.reached (sym (next_part _ _ _ _ _ _ turn.taken parts.1.0 parts.1.1)) c.moved-listening.ensures one;
    }

pub returns : goal.returns
unfolding entries_after
returns c =
    let turn = c.loop-entry.invariant in
    let a = c.args in
    turn.reached ∙ ap (entries_up_to (scanner_state a.scanner) a.entries.now) (sym (all_taken _ _ _ _ turn.taken c.in-None.ensures.steps.1.0))
