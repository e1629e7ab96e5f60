use Rattle.std.proofs.Common.{◌≤◌, length}
use Rattle.records_spec.specs.Record.{first, record_read, record_at}
use native.Mathlib.Omega.{arith}
use lib.ListN.{drop_of_length-le}
use borrow.Author.Tests.{lt-ltb, le-ltb}
use Rattle.records.proofs.ad_structure.read_record.Goals as goal

-- src/ad_structure.rt:327:9
pub returns-then-at-s : goal.returns-then-at-s
unfolding record_at
returns-then-at-s c = let a = c.args in rw (le-ltb (length a.s.now) a.at (omega arith)) c.read_sized.ensures

-- src/ad_structure.rt:330:9
pub returns-then-at-s-2 : goal.returns-then-at-s-2
unfolding record_at record_read first
returns-then-at-s-2 c =
    let a = c.args in
    let end : length a.s.now ≤ a.at = omega arith in
    simp (le-ltb (length a.s.now) a.at (omega arith), drop_of_length-le a.s.now end)

-- src/ad_structure.rt:323:1
pub returns : goal.returns
unfolding record_at
returns c = let a = c.args in simp (lt-ltb (length a.s.now) a.at (omega arith))
