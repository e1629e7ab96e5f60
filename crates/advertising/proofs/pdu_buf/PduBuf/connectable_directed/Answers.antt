use Rattle.std.proofs.Common.{rules, ◌≡◌, ◌++◌, length, ap, ◌∙◌, arith, length-append}
use Rattle.addresses.specs.declared.header.PduType.TheVariants.{AdvDirectInd}
use Rattle.advertising.specs.PduBuf.{to37, header_for, buf_of}
use Rattle.advertising.proofs.Buffers.{placed_first, placed_behind}
use Rattle.advertising.proofs.pdu_buf.PduBuf.connectable_directed.Goals as goal

pub returns : goal.returns
unfolding buf_of
returns c =
    let x = c.args.advertiser_addr in
    let y = c.args.initiator_addr in
    let six : length c.raw.result ≡ 6 = search rules in
    let other : length c.raw-2.result ≡ 6 = search rules in
    let payload : c.placed-payload_buf.result ≡ to37 (c.raw.result ++ c.raw-2.result) =
    placed_behind c.raw.result c.raw-2.result six (omega (arith, other)) (placed_first c.raw.result six c.placed-front.ensures) c.placed-payload_buf.ensures in
    let long : 12 ≡ length (x.bytes ++ y.bytes) = simp length-append (omega (arith, six, other, ap length c.raw.ensures, ap length c.raw-2.ensures)) in
    let header_is = c.header_for-header.ensures ∙ (λ i. header_for AdvDirectInd (c.is_random.ensures i) (c.is_random-2.ensures i) (long i)) in
    let payload_is : c.placed-payload_buf.result ≡ to37 (x.bytes ++ y.bytes) = payload ∙ rw (c.raw.ensures, c.raw-2.ensures) in
    λ i. record { header = header_is i; payload_buf = payload_is i }
