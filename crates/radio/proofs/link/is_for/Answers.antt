use Rattle.std.proofs.Common.{◌∙◌}
use Rattle.addresses.proofs.Addresses.{compared}
use Rattle.radio_spec.specs.Calls.{is_for}
use Rattle.radio.proofs.link.is_for.Goals as goal

pub returns-then-has_receiver : goal.returns-then-has_receiver
unfolding is_for
returns-then-has_receiver c =
    c.eq.ensures ∙ (compared c.receiver.result c.args.own ∙ rw (c.receiver.ensures, ← c.has_receiver.ensures, c.if-has_receiver.true))
