use Rattle.std.proofs.Common.{sym, arith}
use Rattle.std.proofs.lemmas.Result.{err_from_is_err_and}
use Rattle.advertising.proofs.Buffers.{fill_refused, fill_ends, fill_filled}
use Rattle.advertising.proofs.pdu_buf.fill.Goals as goal

pub returns-in_err-next : goal.returns-in_err-next
returns-in_err-next g c =
    let a = c.args in
    let p = err_from_is_err_and c.from_residual-in_err-next.result c.from_residual-in_err-next.ensures.1 in
    rw (p.1, p.2) (sym (fill_refused a.front.now a.adv_data.now c.in_ok-writer.writer _ c.new.ensures (omega arith) c.in_ok-writer.ensures.0 c.write_slice.ensures.1 a.ty a.random _ c.in_err-next.ensures.0))

pub overflow_add-length : goal.overflow_add-length
overflow_add-length g c = omega (arith, fill_ends c.args.front.now c.args.adv_data.now c.in_ok-writer.writer _ c.new.ensures (omega arith) c.in_ok-writer.ensures.0 c.write_slice.ensures.1 _ c.in_ok-next.ensures.0)

pub overflow_cast-length : goal.overflow_cast-length
overflow_cast-length g c = omega (arith, fill_ends c.args.front.now c.args.adv_data.now c.in_ok-writer.writer _ c.new.ensures (omega arith) c.in_ok-writer.ensures.0 c.write_slice.ensures.1 _ c.in_ok-next.ensures.0)

pub header_for-requires : goal.header_for-requires
header_for-requires g c =
    let ends = fill_ends c.args.front.now c.args.adv_data.now c.in_ok-writer.writer _ c.new.ensures (omega arith) c.in_ok-writer.ensures.0 c.write_slice.ensures.1 _ c.in_ok-next.ensures.0 in
    (omega arith, ends.1)

pub returns : goal.returns
returns g c =
    let a = c.args in
    sym (fill_filled a.front.now a.adv_data.now c.in_ok-writer.writer _ c.new.ensures (omega arith) c.in_ok-writer.ensures.0 c.write_slice.ensures.1 a.ty a.random _ _ _ c.in_ok-next.ensures.0 c.rewrite_area.ensures.1 c.header_for.ensures)
