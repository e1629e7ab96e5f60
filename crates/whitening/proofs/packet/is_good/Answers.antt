-- The register holds zeros after what is right and after nothing else.
use mathlib.Core.Path.{◌≡◌, subst, ◌∙◌}
use Rattle.std.proofs.Common.{ℕ, List, ◌≤◌, length, arith}
use lib.ListN.{take, drop, length-take}
use lib.Seq.{take_at}
use Rattle.whitening.specs.Bits.{bits, bits_of}
use Rattle.whitening.specs.Crc.{crc_after}
use Rattle.whitening.specs.Number.{Register}
use Rattle.whitening.specs.Packet.{start_on}
use Rattle.whitening.specs.Whitening.{whitened}
use Rattle.whitening.proofs.Adding.{plus_comm}
use Rattle.whitening.proofs.Errors.{good_is}
use Rattle.whitening.proofs.Numbers.{started}
use Rattle.whitening.proofs.Rows.{plus_row}
use Rattle.whitening.proofs.Twice.{octets_all, whitened_length, whitened_octets}
use Rattle.whitening.proofs.packet.is_good.Goals as goal

pub returns : goal.returns
returns c =
    let octets = c.whitening_octets-octets in
    let sum = c.add.new.packet in
    let packet = c.args.packet.now in
    let clear = whitened c.args.channel packet in
    let start = start_on c.args.channel c.args.start in
    let as_long : length sum ≡ length packet = c.add.auto.packet ∙ simp length-take (omega arith) in
    let front = take_at sum (drop (length packet) octets.result) (length packet) as_long in
    let is = front ∙ c.add.ensures ∙ plus_comm (take (length packet) octets.result) packet ∙ plus_row c.args.channel packet octets.result octets.ensures in
    let after : Register c.after_octets.result (crc_after (bits 24 c.register_on.result) (bits_of clear)) =
    subst (λ (l : List ℕ). Register c.after_octets.result (crc_after (bits 24 c.register_on.result) (bits_of l))) is c.after_octets.ensures in
    let least : 3 ≤ length clear = omega (arith, whitened_length c.args.channel packet (omega arith)) in
    good_is start clear c.after_octets.result least
    (whitened_octets c.args.channel packet (octets_all packet (λ j. (c.type_inv.packet j).fits)))
    (started start (bits_of clear) c.register_on.result c.after_octets.result c.register_on.ensures after)
