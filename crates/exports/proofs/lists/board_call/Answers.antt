-- One more step after `after`.
use Rattle.std.proofs.Common.{ap, ◌∙◌}
use Rattle.addresses.specs.declared.device_address.DeviceAddress.{DeviceAddress}
use Rattle.exports.specs.Lists.{Board, board_of, called_by, step_of, ran_all, answer_said, called_said}
use Rattle.exports.proofs.lists.board_call.Goals as goal

pub returns : goal.returns
returns c =
    let a = c.args in
    let after = c.after-device.ensures in
    let step = c.step_with-called in
    let so = (λ i. board_of (after.0 i) (after.1 i) (after.2 i)) ∙ ap (λ (o : DeviceAddress). ran_all o a.calls.now a.first.now a.second.now) c.address.ensures in (
      c.say.ensures ∙ (λ i. answer_said step.result.answer (c.is_advertising.ensures i) (c.is_connected.ensures i))
          ∙ ap called_said (step.ensures.0 ∙ ap (called_by a.call.now) so),
      step.ensures.1 ∙ ap (λ (s : Board). (step_of a.call.now s).first) so,
      step.ensures.2 ∙ ap (λ (s : Board). (step_of a.call.now s).second) so,
    )
