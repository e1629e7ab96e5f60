use Rattle.std.proofs.Common.{rules, ◌≡◌, length, ap, ◌∙◌}
use Rattle.flags.specs.Flags.{named}
use Rattle.advertising.specs.PduBuf.{flags_record}
use Rattle.advertising.proofs.Buffers.{six_first}
use Rattle.advertising.proofs.pdu_buf.PduBuf.discoverable.Goals as goal

pub returns : goal.returns
unfolding named
returns c =
    let six : length c.raw.result ≡ 6 = search rules in
    let octet : c.to_u8.result ≡ 6 = c.to_u8.ensures ∙ ap named c.discoverable.ensures in
    c.fill.ensures ∙ rw (octet, six_first c.raw.result flags_record six, c.raw.ensures, c.is_random.ensures)
