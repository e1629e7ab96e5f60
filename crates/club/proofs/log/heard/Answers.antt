use mathlib.Core.Path.{◌≡◌, refl, sym, ◌∙◌}
use mathlib.Core.List.{List, [], ◌∷◌}
use Prim.Native.Nat.{ℕ, ◌-◌, ◌<◌}
use native.Mathlib.Omega.{arith}
use lib.ListN.{length, take, drop, length-drop}
use lib.Seq.{take_all}
use Rattle.beacon.specs.State.{scanner_state}
use Rattle.beacon_spec.specs.State.{BeaconScanner, Scanned}
use Rattle.hub_spec.specs.Log.{heard_in}
use Rattle.hub_spec.proofs.Reports.{packet}
use Rattle.book_spec.specs.History.{book_after}
use Rattle.book_spec.specs.State.{Book}
use Rattle.book.specs.State.{book_state}
use Rattle.club_spec.specs.Log.{packet_calls}
use Rattle.club.proofs.log.heard.Goals as goal

-- too short for a packet
short : (b : Book) (s : BeaconScanner) (item : List ℕ) → length item < 3 → b ≡ book_after b (packet_calls (heard_in s item) (drop 3 item))
unfolding heard_in
short b s [] h = refl
short b s (x ∷ []) h = refl
short b s (x ∷ y ∷ []) h = refl
short b s (x ∷ y ∷ z ∷ payload) h = absurd (omega arith)

-- with its payload as the code takes it
carried : (b : Book) (s : BeaconScanner) (item : List ℕ) {x : Scanned} {after : Book} → heard_in s item ≡ x → after ≡ book_after b (packet_calls x (take (length item - 3) (drop 3 item)))
    → after ≡ book_after b (packet_calls (heard_in s item) (drop 3 item))
carried b s item {x} is answer =
    let all : take (length item - 3) (drop 3 item) ≡ drop 3 item = take_all (length item - 3) (drop 3 item) (rw length-drop (omega arith)) in
    answer ∙ (λ i. book_after b (packet_calls (sym is i) (all i)))

pub returns-then-item-lt3 : goal.returns-then-item-lt3
returns-then-item-lt3 c = let a = c.args in short (book_state a.book) (scanner_state a.scanner) a.item.now c.if-item-lt3.true

pub returns-in-Ok : goal.returns-in-Ok
returns-in-Ok c =
    let a = c.args in
    carried (book_state a.book) (scanner_state a.scanner) a.item.now (packet _ _ _ c.if-item-lt3.false c.parse.ensures c.in-Ok.is c.process_adv_packet-scanned.ensures) c.reported.ensures
