use Rattle.std.proofs.Common.{◌≡◌, refl, sym, ap, subst, List, [], ◌∷◌, ℕ, ◌<◌, arith, length}
use Rattle.octets.specs.Bytes.{at_front}
use Rattle.beacon.specs.State.{scanner_state, scan_step}
use Rattle.beacon_spec.specs.State.{BeaconScanner, Scanned}
use Rattle.hub_spec.specs.Line.{line, reports_in, SentIn}
use Rattle.hub_spec.specs.Log.{heard_in}
use Rattle.hub_spec.proofs.Reports.{heard_sent, line_room, packet}
use Rattle.hub.proofs.log.log_item.Goals as goal

-- too short for a packet
short : (number : ℕ) (s : BeaconScanner) (item out : List ℕ) → length item < 3
    → (0 ≡ reports_in (heard_in s item)) × (out ≡ at_front (line number (heard_in s item)) out)
unfolding heard_in line reports_in
short number s [] out h = (refl, refl)
short number s (a ∷ []) out h = (refl, refl)
short number s (a ∷ b ∷ []) out h = (refl, refl)
short number s (a ∷ b ∷ d ∷ payload) out h = absurd (omega arith)

carried : (number : ℕ) (out : List ℕ) {x y : Scanned} {r : ℕ} {out' : List ℕ} → x ≡ y → (r ≡ reports_in y) × (out' ≡ at_front (line number y) out)
    → (r ≡ reports_in x) × (out' ≡ at_front (line number x) out)
carried number out {r = r} {out' = out'} is e = subst (λ (z : Scanned). (r ≡ reports_in z) × (out' ≡ at_front (line number z) out)) (sym is) e

pub returns-then-item-lt3 : goal.returns-then-item-lt3
returns-then-item-lt3 c = let a = c.args in short a.number (scanner_state a.scanner) a.item.now a.out.now c.if-item-lt3.true

-- what the scanner answers is what the item gives
pub log_scanned-requires : goal.log_scanned-requires
log_scanned-requires c =
    let a = c.args in
    let answered : heard_in (scanner_state a.scanner) a.item.now ≡ scan_step c.process_adv_packet-scanned.result = packet _ _ _ c.if-item-lt3.false c.parse.ensures c.in-Ok.is c.process_adv_packet-scanned.ensures in
    let same : reports_in (heard_in (scanner_state a.scanner) a.item.now) ≡ reports_in (scan_step c.process_adv_packet-scanned.result) = ap reports_in answered in
    (subst (λ (x : Scanned). SentIn x a.item.now) answered (heard_sent (scanner_state a.scanner) a.item.now), omega (arith, line_room (scanner_state a.scanner) a.item.now, same, c.requires))

pub returns-in-Ok : goal.returns-in-Ok
returns-in-Ok c =
    let a = c.args in
    let answered : heard_in (scanner_state a.scanner) a.item.now ≡ scan_step c.process_adv_packet-scanned.result = packet _ _ _ c.if-item-lt3.false c.parse.ensures c.in-Ok.is c.process_adv_packet-scanned.ensures in
    carried a.number a.out.now answered c.log_scanned.ensures
