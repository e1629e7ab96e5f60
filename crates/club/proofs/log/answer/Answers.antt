use Rattle.beacon.specs.State.{scanner_state}
use Rattle.book.specs.State.{book_state}
use Rattle.club.proofs.Answering.{same_calls, heard_answer, own_calls_law}
use Rattle.club_spec.proofs.Items.{some_octet}
use Rattle.club.proofs.log.answer.Goals as goal

pub returns-then-item-le-CRC_BAD : goal.returns-then-item-le-CRC_BAD
returns-then-item-le-CRC_BAD c =
    let a = c.args in
    heard_answer (book_state a.book) (scanner_state a.scanner) a.item.now a.out.now (some_octet _ c.requires.0) c.if-item-le-CRC_BAD.true c.heard-book.ensures

pub returns-else-item-le-CRC_BAD : goal.returns-else-item-le-CRC_BAD
returns-else-item-le-CRC_BAD c =
    let a = c.args in
    same_calls (book_state a.book) a.item.now a.out.now (own_calls_law (scanner_state a.scanner) a.item.now (some_octet _ c.requires.0) c.if-item-le-CRC_BAD.false) c.own_item.ensures
