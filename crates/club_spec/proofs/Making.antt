-- Items, lines, the log and what is taken, in other words: `makes_calls`, `calls_made`, `line_rows`, `end_rows`, `one_more`, `log_is`, `log_of_law`, `taken_is`.
-- Assumes nothing.
use mathlib.Core.Path.{◌≡◌, refl, sym, ap, ◌∙◌}
use mathlib.Core.Logic.{⊎_elim}
use mathlib.Core.Bool.{Bool, true, false, cond, true≢false}
use mathlib.Core.List.{List, [], ◌∷◌, ◌++◌, append_assoc, append-nil, flatten}
use Prim.Native.Nat.{ℕ, zero, suc, ◌+◌, ◌*◌, ◌/◌, ◌%◌, ◌<◌, ◌≤◌}
use native.Mathlib.Omega.{arith}
use lib.ListN.{length, take, drop, length-append, length-drop}
use lib.Seq.{take-append_seam, drop_at}
use lib.Dec.{eqb, eqb-suc-zero}
use borrow.Author.Tests.{le-leb}
use Rattle.octets.specs.Bytes.{le}
use Rattle.octets.specs.Lists.{All}
use Rattle.addresses.specs.Address.{kind_of, address_of}
use Rattle.addresses.specs.Header.{header_bits, header_of, tx_add}
use Rattle.addresses.specs.declared.filter.AddressFilter.TheVariants.{AllowAll}
use Rattle.addresses.specs.declared.header.Header.{Header}
use Rattle.beacon_spec.proofs.Reports.{reports, holds_decoded, type_is}
use Rattle.beacon_spec.specs.Laws as laws
use Rattle.beacon_spec.specs.Scanner.{timer_updated, scanned, sighted, is_report}
use Rattle.beacon_spec.specs.State.{BeaconScanner, Scanned, Report}
use Rattle.items.specs.Item.{tick, packet}
use Rattle.hub_spec.specs.Log.{start, is_crc_good, heard_in, scanner_after}
use Rattle.hub_spec.specs.Reported.{IsReported}
use Rattle.book_spec.specs.History.{BookCall}
use Rattle.book_spec.specs.History as call
use Rattle.std.specs.Prelude.{None, Some, Ok, Err}
use Rattle.beacon_spec.specs.declared.beacon.Sighting.{Sighting}
use Rattle.std.proofs.lemmas.Option.{none-some}
use Rattle.club_spec.specs.Item.{whole_item, club_items, after_club, IsClubItem, heard, seats, closes, reads}
use Rattle.club_spec.specs.Laws.{calls_of, scanner_on}
use Rattle.club_spec.specs.Log.{packet_calls, calls_for, reply_line, club_line, club_lines, club_after, club_after_all, fresh_club, end_line, club_log, item_taken, item_line, items_taken}
use Rattle.club_spec.specs.Making as making
use Rattle.club_spec.specs.Making.{Makes, MakesAll, NoItem, MakesCalls, CallsMade, LineRows, EndRows, InTurnOf, LogIs, LogOf, TakenIs}
use Rattle.club_spec.specs.State.{Club}
use Rattle.club_spec.proofs.Evenings.{evening}
use Rattle.club_spec.proofs.Items.{some_octet, at_front_law, none_whole, one_whole, whole_fits, whole_some, behind_cons, club_falls}
use Rattle.club_spec.proofs.Taking as taking

-- The call of an item

beacon_makes : (h0 h1 : ℕ) (p : List ℕ) → 6 ≤ length p → IsReported h0 h1 p
    → Makes (0x01 ∷ h0 ∷ h1 ∷ p) (call.report (address_of (take 6 p) (kind_of (tx_add (header_of (h0 + 256 * h1))))) (drop 6 p) ∷ [])
beacon_makes h0 h1 [] long is = absurd (omega arith)
beacon_makes h0 h1 (a ∷ []) long is = absurd (omega arith)
beacon_makes h0 h1 (a ∷ b ∷ []) long is = absurd (omega arith)
beacon_makes h0 h1 (a ∷ b ∷ c ∷ []) long is = absurd (omega arith)
beacon_makes h0 h1 (a ∷ b ∷ c ∷ d ∷ []) long is = absurd (omega arith)
beacon_makes h0 h1 (a ∷ b ∷ c ∷ d ∷ e ∷ []) long is = absurd (omega arith)
beacon_makes h0 h1 (a ∷ b ∷ c ∷ d ∷ e ∷ f ∷ area) long is =
    let bit : header_bits 6 1 (header_of (h0 + 256 * h1)) ≡ h0 / 64 % 2 = omega arith in
    rw bit (go (h0 / 64 % 2) refl (omega arith))
  where
    go : (bit : ℕ) → h0 / 64 % 2 ≡ bit → bit < 2
        → Makes (0x01 ∷ h0 ∷ h1 ∷ a ∷ b ∷ c ∷ d ∷ e ∷ f ∷ area) (call.report (address_of (a ∷ b ∷ c ∷ d ∷ e ∷ f ∷ []) (kind_of (eqb bit 1))) area ∷ [])
    go zero e0 low = making.from_public h0 h1 a b c d e f area is e0
    go (suc zero) e0 low = making.from_random h0 h1 a b c d e f area is e0
    go (suc (suc n)) e0 low = absurd (omega arith)

-- a scanner that lets all senders pass, and a packet
module _ (s : BeaconScanner) (passing : s.filter.scan ≡ AllowAll) (h0 h1 : ℕ) (p : List ℕ) where
  header : Header
  header = header_of (h0 + 256 * h1)

  scan : Bool → Scanned
  scan crc = scanned s header p crc []

  packet_calls_law : (first : ℕ) → first ≤ 2 → calls_for s (first ∷ h0 ∷ h1 ∷ p) ≡ packet_calls (scan (is_crc_good first)) p
  unfolding scan header calls_for heard_in
  packet_calls_law first low =
      let number : le (h0 ∷ h1 ∷ []) ≡ h0 + 256 * h1 = omega arith in
      rw (le-leb first 2 low, number) refl

  reported_makes : (x : Sighting) → (scan true).report ≡ Ok (Some x) → IsReported h0 h1 p × Makes (0x01 ∷ h0 ∷ h1 ∷ p) (packet_calls (scan true) p)
  unfolding scan header
  reported_makes x e =
      let said = reports s header p true [] in
      let checks = said.sound x e in
      let is : IsReported h0 h1 p = record { type_2 = omega (arith, checks.type_2); pdu = checks.pdu; decoding = checks.decoding } in
      let long : 6 ≤ length p = omega (arith, (holds_decoded header p checks.pdu (type_is (header_bits 0 4 header) checks.type_2) checks.decoding).size) in
      (is, rw (e, said.sender x e, said.records x e) (beacon_makes h0 h1 p long is))

  is_scanned : IsReported h0 h1 p → (x : Sighting) × ((scan true).report ≡ Ok (Some x))
  unfolding scan header
  is_scanned is = (
    _,
    ap (λ (x : Scanned). x.report)
        ((reports s header p true []).complete (record { crc = refl; type_2 = omega (arith, is.type_2); pdu = is.pdu; decoding = is.decoding; filter = rw passing laws.all })),
  )

  not_none : {r : Report} → IsReported h0 h1 p → (scan true).report ≡ r → is_report r ≡ false → ⊥
  not_none is e none = true≢false (sym (ap is_report (is_scanned is).1) ∙ ap is_report e ∙ none)

  -- one that is not reported makes no call
  good_makes : Makes (0x01 ∷ h0 ∷ h1 ∷ p) (packet_calls (scan true) p)
  good_makes = go (scan true).report refl
    where
      go : (r : Report) → (scan true).report ≡ r → Makes (0x01 ∷ h0 ∷ h1 ∷ p) (packet_calls (scan true) p)
      go (Ok (Some x)) e = (reported_makes x e).1
      go (Ok None) e = rw e (making.unreported h0 h1 p (λ is. not_none is e refl))
      go (Err r) e = rw e (making.unreported h0 h1 p (λ is. not_none is e refl))

  none_reported : (IsReported h0 h1 p → ⊥) → packet_calls (scan true) p ≡ []
  none_reported is-not = go (scan true).report refl
    where
      go : (r : Report) → (scan true).report ≡ r → packet_calls (scan true) p ≡ []
      go (Ok (Some x)) e = absurd (is-not (reported_makes x e).0)
      go (Ok None) e = rw e refl
      go (Err r) e = rw e refl

  bad_none : packet_calls (scan false) p ≡ []
  unfolding scan header scanned sighted
  bad_none = rw passing refl

  -- what is reported of a packet
  said_of : IsReported h0 h1 p → packet_calls (scan true) p ≡ call.report (address_of (take 6 p) (kind_of (tx_add header))) (drop 6 p) ∷ []
  unfolding scan header
  said_of is =
      let e = is_scanned is in
      let said = reports s header p true [] in
      rw (e.1, said.sender e.0 e.1, said.records e.0 e.1) refl

  -- its kind
  kind_bit : (bit : ℕ) → h0 / 64 % 2 ≡ bit → tx_add header ≡ eqb bit 1
  unfolding header
  kind_bit bit e =
      let same : header_bits 6 1 (header_of (h0 + 256 * h1)) ≡ bit = omega (arith, e) in
      rw same refl

six_octets : (address : List ℕ) → length address ≡ 6 → (P : List ℕ → Type 0) → ((a b c d e f : ℕ) → P (a ∷ b ∷ c ∷ d ∷ e ∷ f ∷ [])) → P address
six_octets [] six P each = absurd (omega arith)
six_octets (a ∷ []) six P each = absurd (omega arith)
six_octets (a ∷ b ∷ []) six P each = absurd (omega arith)
six_octets (a ∷ b ∷ c ∷ []) six P each = absurd (omega arith)
six_octets (a ∷ b ∷ c ∷ d ∷ []) six P each = absurd (omega arith)
six_octets (a ∷ b ∷ c ∷ d ∷ e ∷ []) six P each = absurd (omega arith)
six_octets (a ∷ b ∷ c ∷ d ∷ e ∷ f ∷ []) six P each = each a b c d e f
six_octets (a ∷ b ∷ c ∷ d ∷ e ∷ f ∷ g ∷ more) six P each = absurd (omega arith)

module _ (s : BeaconScanner) (passing : s.filter.scan ≡ AllowAll) where
  made : (item : List ℕ) → IsClubItem item → Makes item (calls_for s item)
  unfolding calls_for heard_in
  made item (heard tick) = making.tick
  made item (heard (packet first h0 h1 payload which counted)) =
      ⊎_elim
      (λ good. rw (good, packet_calls_law s passing h0 h1 payload 1 (omega arith)) (good_makes s passing h0 h1 payload))
      (λ bad. rw (bad, packet_calls_law s passing h0 h1 payload 2 (omega arith), bad_none s passing h0 h1 payload) (making.crc_bad_law h0 h1 payload))
      which
  made item (seats first address which six) =
      six_octets address six (λ (l : List ℕ). Makes (first ∷ l) (calls_for s (first ∷ l)))
      (λ a b c d e f. ⊎_elim (λ public. rw public (making.seat_public a b c d e f)) (λ random. rw random (making.seat_random a b c d e f)) which)
  made item closes = making.closes
  made item (reads first n which) = ⊎_elim (λ is_open. rw is_open (making.open_move n)) (λ is-closed. rw is-closed (making.closed_move n)) which

  only : (item : List ℕ) (calls : List BookCall) → Makes item calls → calls_for s item ≡ calls
  unfolding calls_for heard_in
  only item calls making.tick = refl
  only item calls (making.from_public h0 h1 a b c d e f area is bit) =
      let p : List ℕ = a ∷ b ∷ c ∷ d ∷ e ∷ f ∷ area in
      packet_calls_law s passing h0 h1 p 1 (omega arith) ∙ said_of s passing h0 h1 p is
      ∙ ap (λ (t : Bool). call.report (address_of (a ∷ b ∷ c ∷ d ∷ e ∷ f ∷ []) (kind_of t)) area ∷ []) (kind_bit s passing h0 h1 p 0 bit)
  only item calls (making.from_random h0 h1 a b c d e f area is bit) =
      let p : List ℕ = a ∷ b ∷ c ∷ d ∷ e ∷ f ∷ area in
      packet_calls_law s passing h0 h1 p 1 (omega arith) ∙ said_of s passing h0 h1 p is
      ∙ ap (λ (t : Bool). call.report (address_of (a ∷ b ∷ c ∷ d ∷ e ∷ f ∷ []) (kind_of t)) area ∷ []) (kind_bit s passing h0 h1 p 1 bit)
  only item calls (making.unreported h0 h1 payload is-not) =
      packet_calls_law s passing h0 h1 payload 1 (omega arith) ∙ none_reported s passing h0 h1 payload is-not
  only item calls (making.crc_bad_law h0 h1 payload) = packet_calls_law s passing h0 h1 payload 2 (omega arith) ∙ bad_none s passing h0 h1 payload
  only item calls (making.seat_public a b c d e f) = refl
  only item calls (making.seat_random a b c d e f) = refl
  only item calls making.closes = refl
  only item calls (making.open_move n) = refl
  only item calls (making.closed_move n) = refl

  all_pass : (item : List ℕ) → (scanner_after s item).filter.scan ≡ AllowAll
  unfolding scanner_after
  all_pass [] = passing
  all_pass (first ∷ rest) = go (eqb first 0)
    where
      go : (b : Bool) → (cond b (timer_updated s start).scanner s).filter.scan ≡ AllowAll
      go true = passing
      go false = passing

pub makes_calls : (s : BeaconScanner) (item : List ℕ) (passing : s.filter.scan ≡ AllowAll) → MakesCalls s item passing
makes_calls s item passing = record { made = made s passing item; only = only s passing item; all_pass = all_pass s passing item }

made_all : (s : BeaconScanner) (its : List (List ℕ)) → s.filter.scan ≡ AllowAll → All IsClubItem its → MakesAll its (calls_of s its)
made_all s [] passing are = making.end
made_all s (item ∷ its) passing are =
    making.next item its (calls_for s item) (calls_of (scanner_after s item) its) (made s passing item are.0) (made_all (scanner_after s item) its (all_pass s passing item) are.1)

pub only_all : (s : BeaconScanner) {its : List (List ℕ)} {calls : List BookCall} → s.filter.scan ≡ AllowAll → MakesAll its calls → calls_of s its ≡ calls
only_all s passing making.end = refl
only_all s passing (making.next item its calls more makes later) = rw (only s passing item calls makes, only_all (scanner_after s item) (all_pass s passing item) later) refl

on_passes : (s : BeaconScanner) (its : List (List ℕ)) → s.filter.scan ≡ AllowAll → (scanner_on s its).filter.scan ≡ AllowAll
on_passes s [] passing = passing
on_passes s (item ∷ its) passing = on_passes (scanner_after s item) its (all_pass s passing item)

pub calls_made : (s : BeaconScanner) (its : List (List ℕ)) (passing : s.filter.scan ≡ AllowAll) → CallsMade s its passing
calls_made s its passing =
    record {
      made = made_all s its passing;
      only = λ calls makes. only_all s passing makes;
      all_pass = on_passes s its passing;
      fresh_passes = λ company. refl;
      club_passes = λ company. ap (λ (x : BeaconScanner). x.filter.scan) (evening company its).scanner ∙ on_passes (fresh_club company).scanner its refl;
    }

-- Lines as rows of numbers

pub line_rows : (first n turn : ℕ) → LineRows first n turn
unfolding reply_line
line_rows first n turn =
    record {
      seat_row = λ k. refl;
      refused_row = λ e. refl;
      close_row = λ o. refl;
      move_row_law = λ m. refl;
      report_none = λ o. refl;
      seat_none = λ read. refl;
      number_none = λ k. refl;
    }

pub end_rows : (k : Club) (n : ℕ) → EndRows k n
unfolding end_line
end_rows k n = record { none_over = refl; some_over = rw (eqb-suc-zero n) refl }

-- One more item

lines_more : (k : Club) (its : List (List ℕ)) (item : List ℕ) → club_lines k (its ++ (item ∷ [])) ≡ club_lines k its ++ club_line (club_after_all k its) item
unfolding club_lines club_after_all
lines_more k [] item = append-nil (club_line k item)
lines_more k (first ∷ its) item =
    rw (lines_more (club_after k first) its item) (sym (append_assoc (club_line k first) (club_lines (club_after k first) its) (club_line (club_after_all (club_after k first) its) item)))

club_more : (k : Club) (its : List (List ℕ)) (item : List ℕ) → club_after_all k (its ++ (item ∷ [])) ≡ club_after (club_after_all k its) item
unfolding club_after_all
club_more k [] item = refl
club_more k (first ∷ its) item = club_more (club_after k first) its item

pub one_more : (k : Club) (its : List (List ℕ)) (item : List ℕ) → InTurnOf k its item
unfolding club_lines club_after_all
one_more k its item = record { no_lines = refl; same_club = refl; lines = lines_more k its item; club = club_more k its item }

-- The log

whole_none : (s : List ℕ) → whole_item s ≡ None → NoItem s
whole_none s none item rest is same = none-some (length item) (sym none ∙ ap whole_item same ∙ (club_falls 0 s).size item rest is)

-- as many items as octets are all of them
stops : (n : ℕ) (s : List ℕ) → length s ≤ n → whole_item (after_club (club_items n s) s) ≡ None
unfolding club_items after_club flatten
stops zero s few =
    ⊎_elim
    (λ none. none)
    (λ item. absurd (omega (arith, whole_fits s item.1, whole_some s item.1)))
    (at_front_law s)
stops (suc n) s few =
    ⊎_elim
    (λ none. rw (none_whole (suc n) s none) none)
    (λ item.
    rw (one_whole n s item.1, behind_cons s item.0 (club_items n (drop item.0 s)) (whole_fits s item.1))
    (stops n (drop item.0 s) (rw length-drop (omega (arith, whole_fits s item.1, whole_some s item.1)))))
    (at_front_law s)

pub log_is : (company : ℕ) (s : List ℕ) → LogIs company s
unfolding club_log
log_is company s =
    let falls = club_falls (length s) s in
    let its : List (List ℕ) = club_items (length s) s in
    record {
      its = its;
      rest = after_club its s;
      are_items = falls.each;
      none_left = whole_none (after_club its s) (stops (length s) s (omega arith));
      tiles = falls.tiles;
      log = refl;
    }

-- each item has an octet
items_few : (its : List (List ℕ)) → All IsClubItem its → length its ≤ length (flatten its)
unfolding flatten
items_few [] are = omega arith
items_few ([] ∷ its) are = absurd (omega (arith, some_octet [] are.0))
items_few ((x ∷ item) ∷ its) are = rw length-append (omega (arith, items_few its are.1))

fall : (n : ℕ) (its : List (List ℕ)) (rest : List ℕ) → length its ≤ n → All IsClubItem its → NoItem rest → club_items n (flatten its ++ rest) ≡ its
unfolding flatten
fall n [] rest few are none = none_whole n rest ((club_falls n rest).no_size none)
fall zero (item ∷ its) rest few are none = absurd (omega arith)
fall (suc n) (item ∷ its) rest few are none =
    rw (append_assoc item (flatten its) rest, (club_falls n rest).found item (flatten its ++ rest) are.0, fall n its rest (omega arith) are.1 none) refl

pub log_of_law : (company : ℕ) (its : List (List ℕ)) (rest : List ℕ) → LogOf company its rest
unfolding club_log after_club
log_of_law company its rest are none =
    let s : List ℕ = flatten its ++ rest in
    let all : club_items (length s) s ≡ its = fall (length s) its rest (omega (arith, items_few its are, length-append (flatten its) rest)) are none in
    rw (all, drop_at (flatten its) rest (length (flatten its)) refl) refl

-- What is taken

pub taken_is : (k : Club) (s : List ℕ) (room : ℕ) → TakenIs k s room
unfolding item_taken item_line items_taken
taken_is k s room =
    record {
      taken = λ item rest is same. (at_item item rest is same).0;
      line = λ item rest is same. (at_item item rest is same).1;
      none_taken = λ none. taking.none_taken k s ((club_falls 0 s).no_size none);
      no_line = λ none. taking.no_line k s ((club_falls 0 s).no_size none);
      many = refl;
    }
  where
    at_item : (item rest : List ℕ) → IsClubItem item → s ≡ item ++ rest
        → (item_taken k s ≡ Some (record { club = club_after k item; size = length item; written = length (club_line k item) })) × (item_line k s ≡ club_line k item)
    at_item item rest is same =
        let size : whole_item s ≡ Some (length item) = ap whole_item same ∙ (club_falls 0 s).size item rest is in
        let front : take (length item) s ≡ item = rw same (take-append_seam item rest) in
        (taking.taken_is k s size ∙ rw front refl, taking.line_is k s size ∙ ap (club_line k) front)
