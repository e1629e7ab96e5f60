use Rattle.std.proofs.Common.{rules, ◌≡◌, ◌<◌, length, arith}
use Rattle.book_spec.specs.Book.{with_open}
use Rattle.book.specs.State.{book_state}
use mathlib.Core.Path.{refl}
use Rattle.book.proofs.Heard.{other_turn, open_turn}
use Rattle.book.proofs.Seats.{no_seat, has_one, first_one, length_mapped}
use Rattle.book.proofs.book.Book.take.Goals as goal

pub returns-then-turn-self : goal.returns-then-turn-self
returns-then-turn-self c = other_turn _ _ c.args.found _ c.u16_from_le_bytes-turn.ensures c.if-turn-self.true

pub returns-in_default : goal.returns-in_default
returns-in_default c =
    let b = book_state c.args.self in
    open_turn _ _ c.args.found b c.u16_from_le_bytes-turn.ensures c.if-turn-self.false refl c.in_default.ensures.number (no_seat _ b)

pub returns-then-self-at-ne0 : goal.returns-then-self-at-ne0
returns-then-self-at-ne0 c =
    let b = book_state c.args.self in
    let long : length b.kept ≡ 64 = search (rules, length_mapped) in
    let many : length b.addresses ≡ 64 = search (rules, length_mapped) in
    let few : c.in-Some.at < 64 = omega (arith, c.in-Some.ensures.within, many) in
    open_turn _ _ c.args.found b c.u16_from_le_bytes-turn.ensures c.if-turn-self.false refl c.in-Some.ensures.number (has_one _ b c.in-Some.at few long c.if-self-at-ne0.true)

pub returns : goal.returns
unfolding with_open
returns c =
    let b = book_state c.args.self in
    let long : length b.kept ≡ 64 = search (rules, length_mapped) in
    let many : length b.addresses ≡ 64 = search (rules, length_mapped) in
    let few : c.in-Some.at < 64 = omega (arith, c.in-Some.ensures.within, many) in
    open_turn _ _ c.args.found b c.u16_from_le_bytes-turn.ensures c.if-turn-self.false c.move_of-played.ensures c.in-Some.ensures.number (first_one _ b c.in-Some.at few long c.if-self-at-ne0.false)
