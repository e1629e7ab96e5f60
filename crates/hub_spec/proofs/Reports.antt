-- An item that is reported has at least nine octets, its sender's among them, and its line `line_size`; and an item as the code takes it apart. Assumes nothing.
use mathlib.Core.Path.{◌≡◌, refl, sym, ap, ◌∙◌}
use mathlib.Core.Bool.{Bool, true, false, cond}
use mathlib.Core.List.{List, [], ◌∷◌}
use Prim.Native.Nat.{ℕ, ◌-◌, ◌*◌, ◌≤◌}
use native.Mathlib.Omega.{arith}
use lib.ListN.{length, get_or, take, drop, length-take, length-drop}
use lib.Seq.{take_all}
use Rattle.octets.specs.Bytes.{part, le}
use Rattle.octets.specs.declared.error.Error.{Error}
use Rattle.addresses.specs.Header.{header_bits, header_of, parsed}
use Rattle.addresses.specs.declared.device_address.DeviceAddress.{DeviceAddress}
use Rattle.addresses.specs.declared.header.Header.{Header}
use Rattle.beacon_spec.proofs.Reports.{holds_decoded, reports, type_is}
use Rattle.beacon_spec.specs.Scanner.{scanned, is_report}
use Rattle.beacon_spec.specs.State.{BeaconScanner, Report, Scanned}
use Rattle.beacon_spec.specs.declared.beacon.Sighting.{Sighting}
use Rattle.hub_spec.specs.Line.{line_size, room_for, line, reports_in, SentIn}
use Rattle.hub_spec.specs.Log.{is_crc_good, heard_in}
use Rattle.hub_spec.proofs.Pieces.{line_length}
use Rattle.std.specs.Prelude.{None, Some, Result, Ok, Err}

-- a packet that is reported begins with its sender's six octets
packet_sent : (s : BeaconScanner) (h : Header) (p : List ℕ) (crcOk : Bool) (list : List ℕ) (x : Sighting) → (scanned s h p crcOk list).report ≡ Ok (Some x)
    → (6 ≤ length p) × (take 6 p ≡ x.sender.bytes)
packet_sent s h p crcOk list x e =
    let said = reports s h p crcOk list in
    let checks = said.sound x e in
    (omega (arith, (holds_decoded h p checks.pdu (type_is (header_bits 0 4 h) checks.type_2) checks.decoding).size), sym (ap (λ (a : DeviceAddress). a.bytes) (said.sender x e)))

pub heard_sent : (s : BeaconScanner) (item : List ℕ) → SentIn (heard_in s item) item
unfolding heard_in
heard_sent s [] x e = (cc)
heard_sent s (a ∷ []) x e = (cc)
heard_sent s (a ∷ b ∷ []) x e = (cc)
heard_sent s (a ∷ h0 ∷ h1 ∷ payload) x e =
    let sent = packet_sent s (header_of (le (h0 ∷ h1 ∷ []))) payload (is_crc_good a) [] x e in
    (omega (arith, sent.0), sent.1)

-- a packet, with its parts as the code takes them
pub packet : (s : BeaconScanner) (item : List ℕ) (h : Header) {r : Result Header Error} {x : Scanned} → 3 ≤ length item → r ≡ parsed (take 2 (drop 1 item)) → r ≡ Ok h
    → x ≡ scanned s h (take (length item - 3) (drop 3 item)) (is_crc_good (get_or item 0 0)) [] → heard_in s item ≡ x
unfolding heard_in
packet s [] h long of is answer = absurd (omega arith)
packet s (a ∷ []) h long of is answer = absurd (omega arith)
packet s (a ∷ b ∷ []) h long of is answer = absurd (omega arith)
packet s (a ∷ b ∷ d ∷ payload) h long of is answer =
    let all : take (length (a ∷ b ∷ d ∷ payload) - 3) payload ≡ payload = take_all (length (a ∷ b ∷ d ∷ payload) - 3) payload (omega arith) in
    ap (λ (y : Header). scanned s y payload (is_crc_good a) []) (cc (of, is)) ∙ sym (answer ∙ ap (λ (l : List ℕ). scanned s h l (is_crc_good a) []) all)

-- its header is whole
pub no_refusal : (item : List ℕ) (e : Error) {r : Result Header Error} → 3 ≤ length item → r ≡ parsed (take 2 (drop 1 item)) → r ≡ Err e → ⊥
no_refusal [] e long of is = omega arith
no_refusal (a ∷ []) e long of is = omega arith
no_refusal (a ∷ b ∷ []) e long of is = omega arith
no_refusal (a ∷ b ∷ d ∷ payload) e long of is = (cc)

pub sent_long : (item : List ℕ) → 9 ≤ length item → length (part 6 item 3) ≡ 6
sent_long item long = simp (length-take, length-drop) (omega arith)

heard_long : (s : BeaconScanner) (item : List ℕ) (x : Sighting) → (heard_in s item).report ≡ Ok (Some x) → length x.sender.bytes ≡ 6
heard_long s item x e = ap length (sym (heard_sent s item x e).1) ∙ sent_long item (heard_sent s item x e).0

pub line_size_law : (number : ℕ) (s : BeaconScanner) (item : List ℕ) → length (line number (heard_in s item)) ≡ line_size * reports_in (heard_in s item)
unfolding line reports_in
line_size_law number s item = go (heard_in s item).report refl
  where
    go : (r : Report) → (heard_in s item).report ≡ r → length (line number (heard_in s item)) ≡ line_size * reports_in (heard_in s item)
    go (Ok (Some x)) e = rw e (line_length number _ _ _ (heard_long s item x e))
    go (Ok None) e = rw e refl
    go (Err r) e = rw e refl

pub line_room : (s : BeaconScanner) (item : List ℕ) → line_size * reports_in (heard_in s item) ≤ room_for (length item)
unfolding reports_in
line_room s item = go (heard_in s item).report refl
  where
    go : (r : Report) → (heard_in s item).report ≡ r → line_size * cond (is_report r) 1 0 ≤ room_for (length item)
    go (Ok (Some x)) e = omega (arith, (heard_sent s item x e).0)
    go (Ok None) e = omega arith
    go (Err r) e = omega arith

pub one_report : (x : Scanned) → reports_in x ≤ 1
unfolding reports_in
one_report x = go (is_report x.report)
  where
    go : (b : Bool) → cond b 1 0 ≤ 1
    go true = omega arith
    go false = omega arith
