use Rattle.std.proofs.Common.{◌≡◌, refl, List, ℕ, ◌+◌, ◌-◌, ◌<◌, arith, add-one, length, drop}
use Rattle.std.proofs.lemmas.List.{drop-set}
use lib.ListN.{set, length-set, drop_of_length-le}
use Rattle.columns.specs.Table.{entry_octet, octet_from}
use Rattle.columns.proofs.put_octet_from.Goals as goal

advance : (table : List ℕ) (octet : ℕ) (out : List ℕ) (back : ℕ) → back < length out → drop (length out - back) out ≡ octet_from table back octet
    → drop (length out - (back + 1)) (set out (length out - 1 - back) (entry_octet table octet back)) ≡ octet_from table (back + 1) octet
unfolding octet_from
advance table octet out back more is =
    let at : ℕ = length out - 1 - back in
    let place : length out - (back + 1) ≡ at = omega arith in
    let next : at + 1 ≡ length out - back = omega arith in
    let inside : at < length out = omega arith in
    rw (place, drop-set out at (entry_octet table octet back) inside, add-one back, next, is) refl

pub loop-back-init : goal.loop-back-init
unfolding octet_from
loop-back-init c = let out = c.args.out.now in drop_of_length-le out {i = length out - 0} (omega arith)

pub loop-back-preserved : goal.loop-back-preserved
loop-back-preserved c =
    rw (length-set, c.entry_octet.ensures) (advance c.args.table.now c.args.octet c.loop-back.out c.loop-back.back (omega arith) c.loop-back.invariant)

pub returns : goal.returns
returns c =
    let out = c.loop-back.out in
    let all : length out - c.loop-back.back ≡ 0 = omega arith in
    let size : c.loop-back.back ≡ length c.args.out.now = omega arith in
    rw (all, size) at c.loop-back.invariant
