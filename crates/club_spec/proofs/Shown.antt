-- The log in words of octets and calls: `evening_log`. Assumes nothing.
use mathlib.Core.Path.{◌≡◌, refl, sym, ap, ◌∙◌, subst}
use mathlib.Core.List.{List, [], ◌∷◌, ◌++◌, append_assoc, append-nil, flatten}
use Prim.Native.Nat.{ℕ, zero, suc, ◌+◌, ◌-◌, ◌<◌, ◌≤◌}
use native.Mathlib.Omega.{arith}
use lib.ListN.{length, take, drop, replicate, length-append, length-replicate}
use Rattle.octets.proofs.Lists.{all_append, all_parts}
use Rattle.octets.specs.Error.{number_of, outcome_number}
use Rattle.octets.specs.Laws.{Octets}
use Rattle.octets.specs.Lists.{All}
use Rattle.octets.specs.declared.error.Error.{Error}
use Rattle.octets.specs.declared.error.Error.TheVariants as error
use Rattle.addresses.specs.declared.device_address.DeviceAddress.{DeviceAddress}
use Rattle.beacon_spec.specs.State.{BeaconScanner}
use Rattle.columns.specs.Row.{row_of, Fits}
use Rattle.book_spec.proofs.TurnBook.{turn_book}
use Rattle.book_spec.specs.History.{BookCall, BookReply, BookEntry, BookStanding, standing, standing_on, entries_from, entries}
use Rattle.book_spec.specs.History as call
use Rattle.book_spec.specs.TurnBook.{Replies, KeptIs, Qualifies}
use Rattle.book_spec.specs.TurnBook as right
use Rattle.book_spec.specs.declared.Move.{Move}
use Rattle.club_spec.specs.Item.{IsClubItem}
use Rattle.club_spec.specs.Laws.{calls_of, scanner_on, RightLine}
use Rattle.club_spec.specs.Log.{calls_for, reply_line, club_line, club_lines, club_after_all, fresh_club, end_line}
use Rattle.club_spec.specs.Making as making
use Rattle.club_spec.specs.Making.{Makes, MakesAll, move_columns, ClubRow, lines_each, HasRoom, Shows, ShowsAll, EveningLog}
use Rattle.club_spec.specs.State.{Club}
use Rattle.club_spec.proofs.Evenings.{evening}
use Rattle.club_spec.proofs.Making.{makes_calls, calls_made, line_rows, end_rows, one_more, log_is}
use Rattle.std.specs.Prelude.{Result, Ok, Err}

-- rows of an item with its line
record Shown (company : ℕ) (before : List BookCall) (item line : List ℕ) : Type 0 where
  rows : List ClubRow
  shows : Shows company before item rows
  lines : line ≡ lines_each rows

module _ (company : ℕ) (before : List BookCall) where
  one_row : {item line : List ℕ} (r : ClubRow) → Shows company before item (r ∷ []) → line ≡ row_of r.widths r.numbers → Shown company before item line
  unfolding flatten
  one_row r shows is = record { rows = r ∷ []; shows = shows; lines = is ∙ sym (append-nil (row_of r.widths r.numbers)) }

  no_row : {item line : List ℕ} → Shows company before item [] → line ≡ [] → Shown company before item line
  unfolding flatten
  no_row shows is = record { rows = []; shows = shows; lines = is }

  -- by the right reply to each call
  of_report : {sender : DeviceAddress} {area : List ℕ} {r : BookReply} {line : List ℕ} (n turn : ℕ) → Replies company before (call.report sender area) r → line ≡ reply_line 1 n r turn → line ≡ []
  of_report n turn (right.bad_area sender area e bad) is = is ∙ (line_rows 1 n turn).report_none (Err e)
  of_report n turn (right.heard sender area read) is = is ∙ (line_rows 1 n turn).report_none (Ok tt)

  of_seat : {a : DeviceAddress} {r : BookReply} {line : List ℕ} (first n turn : ℕ) (address : List ℕ) → Makes (first ∷ address) (call.seat a ∷ []) → Replies company before (call.seat a) r
      → line ≡ reply_line first n r turn → Shown company before (first ∷ address) line
  of_seat first n turn address makes (right.already a there) is =
      one_row _ (making.refuses first address a error.AlreadySeated makes (right.already a there)) (is ∙ (line_rows first n turn).refused_row error.AlreadySeated)
  of_seat first n turn address makes (right.full a free full) is =
      one_row _ (making.refuses first address a error.NoFreeSeat makes (right.full a free full)) (is ∙ (line_rows first n turn).refused_row error.NoFreeSeat)
  of_seat first n turn address makes (right.sits a free room) is =
      one_row _ (making.seats first address a (length (standing before).seats + 1) makes (right.sits a free room))
      (is ∙ (line_rows first n turn).seat_row (length (standing before).seats + 1))

  of_close : {r : BookReply} {line : List ℕ} (n : ℕ) → Replies company before call.close r → line ≡ reply_line 5 n r (standing (before ++ (call.close ∷ []))).turn → Shown company before (0x05 ∷ []) line
  of_close n (right.last_turn e) is =
      one_row _ (making.closes (Err error.LastTurn) (right.last_turn e)) (is ∙ (line_rows 5 n (standing (before ++ (call.close ∷ []))).turn).close_row (Err error.LastTurn))
  of_close n (right.closed e) is =
      one_row _ (making.closes (Ok tt) (right.closed e)) (is ∙ (line_rows 5 n (standing (before ++ (call.close ∷ []))).turn).close_row (Ok tt))

  of_open : {n : ℕ} {r : BookReply} {line : List ℕ} (turn : ℕ) → Replies company before (call.read_open n) r → line ≡ reply_line 6 n r turn → Shown company before (0x06 ∷ n ∷ []) line
  of_open turn (right.open_move n m its_move) is = one_row _ (making.open_move n m (right.open_move n m its_move)) (is ∙ (line_rows 6 n turn).move_row_law m)

  of_closed : {n : ℕ} {r : BookReply} {line : List ℕ} (turn : ℕ) → Replies company before (call.read_closed n) r → line ≡ reply_line 7 n r turn → Shown company before (0x07 ∷ n ∷ []) line
  of_closed turn (right.closed_move n t m turn_is its_move) is =
      one_row _ (making.closed_move n m (right.closed_move n t m turn_is its_move)) (is ∙ (line_rows 7 n turn).move_row_law m)
  of_closed turn (right.none_closed n first) is =
      let m : Move = record { len = 0; octets = replicate 20 0 } in
      one_row _ (making.closed_move n m (right.none_closed n first)) (is ∙ (line_rows 7 n turn).move_row_law m)

  item_shown : (item : List ℕ) {calls : List BookCall} {line : List ℕ} → Makes item calls → (calls ≡ [] → line ≡ []) → ((c : BookCall) → calls ≡ c ∷ [] → RightLine company before c item line)
      → Shown company before item line
  item_shown item making.tick none one = no_row (making.silent _ making.tick) (none refl)
  item_shown item (making.from_public h0 h1 a b c d e f area is bit) none one =
      let p = one _ refl in
      no_row (making.reported _ _ _ (making.from_public h0 h1 a b c d e f area is bit)) (of_report h0 _ p.right p.is)
  item_shown item (making.from_random h0 h1 a b c d e f area is bit) none one =
      let p = one _ refl in
      no_row (making.reported _ _ _ (making.from_random h0 h1 a b c d e f area is bit)) (of_report h0 _ p.right p.is)
  item_shown item (making.unreported h0 h1 payload is-not) none one = no_row (making.silent _ (making.unreported h0 h1 payload is-not)) (none refl)
  item_shown item (making.crc_bad_law h0 h1 payload) none one = no_row (making.silent _ (making.crc_bad_law h0 h1 payload)) (none refl)
  item_shown item (making.seat_public a b c d e f) none one = let p = one _ refl in of_seat 3 a _ _ (making.seat_public a b c d e f) p.right p.is
  item_shown item (making.seat_random a b c d e f) none one = let p = one _ refl in of_seat 4 a _ _ (making.seat_random a b c d e f) p.right p.is
  item_shown item making.closes none one = let p = one _ refl in of_close 0 p.right p.is
  item_shown item (making.open_move n) none one = let p = one _ refl in of_open _ p.right p.is
  item_shown item (making.closed_move n) none one = let p = one _ refl in of_closed _ p.right p.is

-- one more item
makes_more : {its : List (List ℕ)} {calls : List BookCall} (item : List ℕ) (more : List BookCall) → MakesAll its calls → Makes item more → MakesAll (its ++ (item ∷ [])) (calls ++ more)
makes_more item more making.end makes = subst (MakesAll (item ∷ [])) (append-nil more) (making.next item [] more [] makes making.end)
makes_more item more (making.next first its calls rest one later) makes =
    subst (MakesAll (first ∷ (its ++ (item ∷ [])))) (sym (append_assoc calls rest more)) (making.next first _ calls (rest ++ more) one (makes_more item more later makes))

each_line : (a b : List ClubRow) → lines_each (a ++ b) ≡ lines_each a ++ lines_each b
unfolding flatten
each_line [] b = refl
each_line (r ∷ a) b = rw (each_line a b) (sym (append_assoc (row_of r.widths r.numbers) (lines_each a) (lines_each b)))

record AllShown (company : ℕ) (before : List BookCall) (its : List (List ℕ)) (lines : List ℕ) : Type 0 where
  rows : List ClubRow
  shown : ShowsAll company before its rows
  are : lines ≡ lines_each rows

module _ (company : ℕ) where
  k₀ : Club
  k₀ = fresh_club company

  -- an item after others
  after : (done : List (List ℕ)) (calls : List BookCall) → MakesAll done calls → (item : List ℕ) → IsClubItem item
      → Makes item (calls_for (scanner_on k₀.scanner done) item) × Shown company calls item (club_line (club_after_all k₀ done) item)
  unfolding k₀
  after done calls makes item is =
      let s : BeaconScanner = scanner_on (fresh_club company).scanner done in
      let before = calls_made (fresh_club company).scanner done refl in
      let it = (makes_calls s item before.all_pass).made is in
      let told = evening company done in (
        it,
        subst (λ (l : List BookCall). Shown company l item (club_line (club_after_all (fresh_club company) done) item)) (before.only calls makes)
            (item_shown company (calls_of (fresh_club company).scanner done) item it (told.silent item) (told.line item)),
      )

  all_shown : (done : List (List ℕ)) (calls : List BookCall) → MakesAll done calls → (its : List (List ℕ)) → All IsClubItem its → AllShown company calls its (club_lines (club_after_all k₀ done) its)
  unfolding club_lines flatten
  all_shown done calls makes [] are = record { rows = []; shown = making.end calls; are = refl }
  all_shown done calls makes (item ∷ its) are =
      let one = after done calls makes item are.0 in
      let more : List BookCall = calls_for (scanner_on k₀.scanner done) item in
      let later = all_shown (done ++ (item ∷ [])) (calls ++ more) (makes_more item more makes one.0) its are.1 in
      record {
        rows = one.1.rows ++ later.rows;
        shown = making.next calls item its more one.1.rows later.rows one.0 one.1.shows later.shown;
        are = (λ i. one.1.lines i ++ (ap (λ (k : Club). club_lines k its) (sym (one_more k₀ done item).club) ∙ later.are) i) ∙ sym (each_line one.1.rows later.rows);
      }

-- Every number fits its column

number_fits : (e : Error) → number_of e < 1000
number_fits error.Eof = omega arith
number_fits error.InvalidLength = omega arith
number_fits error.InvalidValue = omega arith
number_fits error.ShortHeader = omega arith
number_fits error.WrongMode = omega arith
number_fits error.EmptyMap = omega arith
number_fits error.PayloadLength = omega arith
number_fits error.NoSuchChannel = omega arith
number_fits error.RecordLength = omega arith
number_fits error.NoSuchIndex = omega arith
number_fits error.NoName = omega arith
number_fits error.OutOfRange = omega arith
number_fits error.AlreadySeated = omega arith
number_fits error.NoFreeSeat = omega arith
number_fits error.LastTurn = omega arith

outcome_fits : (o : Result (Unit {0}) Error) → outcome_number o < 1000
outcome_fits (Ok tt) = omega arith
outcome_fits (Err e) = number_fits e

fours_fit : (n : ℕ) (l : List ℕ) → length l ≡ n → Octets l → Fits (replicate n 4) l
fours_fit zero [] long octets = tt
fours_fit zero (x ∷ l) long octets = absurd (omega arith)
fours_fit (suc n) [] long octets = absurd (omega arith)
fours_fit (suc n) (x ∷ l) long octets = (omega (arith, octets.0), fours_fit n l (omega arith) octets.1)

octets_drop : (n : ℕ) (l : List ℕ) → Octets l → Octets (drop n l)
octets_drop zero l octets = octets
octets_drop (suc n) [] octets = tt
octets_drop (suc n) (x ∷ l) octets = octets_drop n l octets.1

octets_take : (n : ℕ) (l : List ℕ) → Octets l → Octets (take n l)
octets_take zero l octets = tt
octets_take (suc n) [] octets = tt
octets_take (suc n) (x ∷ l) octets = (octets.0, octets_take n l octets.1)

zeros : (n : ℕ) → Octets (replicate n 0)
zeros zero = tt
zeros (suc n) = (omega arith, zeros n)

-- the area of a report is octets
abbrev OfOctets : BookCall → Type 0
OfOctets (call.report sender area) = Octets area
OfOctets (call.seat a) = Unit {0}
OfOctets call.close = Unit {0}
OfOctets (call.read_seat n) = Unit {0}
OfOctets (call.read_open n) = Unit {0}
OfOctets (call.read_closed n) = Unit {0}
OfOctets call.read_turn = Unit {0}
OfOctets call.read_company = Unit {0}

makes_octets : {item : List ℕ} {calls : List BookCall} → Makes item calls → Octets item → All OfOctets calls
makes_octets making.tick octets = tt
makes_octets (making.from_public h0 h1 a b c d e f area is bit) octets = (octets.1.1.1.1.1.1.1.1.1, tt)
makes_octets (making.from_random h0 h1 a b c d e f area is bit) octets = (octets.1.1.1.1.1.1.1.1.1, tt)
makes_octets (making.unreported h0 h1 payload is-not) octets = tt
makes_octets (making.crc_bad_law h0 h1 payload) octets = tt
makes_octets (making.seat_public a b c d e f) octets = (tt, tt)
makes_octets (making.seat_random a b c d e f) octets = (tt, tt)
makes_octets making.closes octets = (tt, tt)
makes_octets (making.open_move n) octets = (tt, tt)
makes_octets (making.closed_move n) octets = (tt, tt)

entry_octets_law : (st : BookStanding) (calls : List BookCall) → All OfOctets calls → All (λ (e : BookEntry). OfOctets e.call) (entries_from st calls)
entry_octets_law st [] octets = tt
entry_octets_law st (c ∷ cs) octets = (octets.0, entry_octets_law (standing_on st c) cs octets.1)

-- a move fits its line
record Fitting (m : Move) : Type 0 where
  few : m.len ≤ 20
  long : length m.octets ≡ 20
  octets : Octets m.octets

no_move_fits : Fitting (record { len = 0; octets = replicate 20 0 })
no_move_fits = record { few = omega arith; long = refl; octets = zeros 20 }

kept_fits : (company n t : ℕ) (es : List BookEntry) {m : Move} → All (λ (e : BookEntry). OfOctets e.call) es → KeptIs (Qualifies company n t) es m → Fitting m
kept_fits company n t es octets (right.kept m first) =
    let q = first.qualifies in
    let heard = (all_parts (λ (e : BookEntry). OfOctets e.call) first.earlier (first.entry ∷ first.later) (subst (All (λ (e : BookEntry). OfOctets e.call)) first.tile octets)).1.0 in
    let area : Octets q.area = subst OfOctets q.is_report_law heard in
    let its = q.its_move in
    let part : List ℕ = take (q.len - 4) (drop (q.start + 4) q.area) in
    let inside : Octets part = octets_take (q.len - 4) _ (octets_drop (q.start + 4) q.area area) in
    record {
      few = omega (arith, its.number, its.few);
      long = ap length its.octets_are ∙ simp (length-append, length-replicate) (omega (arith, its.few));
      octets = rw its.octets_are (all_append (λ (x : ℕ). x < 256) part (replicate (20 - length part) 0) inside (zeros (20 - length part)));
    }
kept_fits company n t es octets (right.none unheard) = no_move_fits

move_fits : (first n : ℕ) (m : Move) → first < 100 → n < 256 → Fitting m → Fits move_columns (first ∷ n ∷ m.len ∷ m.octets)
move_fits first n m low small fits = (low, (omega arith, (omega (arith, fits.few), fours_fit 20 m.octets fits.long fits.octets)))

module _ (company : ℕ) (before : List BookCall) where
  turn_close : {r : BookReply} → Replies company before call.close r → (standing before).turn ≤ 65535
  turn_close (right.last_turn e) = omega arith
  turn_close (right.closed few) = omega arith

  turn_most : (standing before).turn ≤ 65535
  turn_most = turn_close (turn_book company before call.close).replies

  seat_few : {a : DeviceAddress} {k : ℕ} → Replies company before (call.seat a) (call.seated (Ok k)) → k ≤ 64
  seat_few (right.sits a free room) = omega arith

  seat_first : {first : ℕ} {address : List ℕ} {a : DeviceAddress} → Makes (first ∷ address) (call.seat a ∷ []) → first < 100
  seat_first (making.seat_public a b c d e f) = omega arith
  seat_first (making.seat_random a b c d e f) = omega arith

  open_fits : {n : ℕ} {m : Move} → All OfOctets before → Replies company before (call.read_open n) (call.move_is m) → Fitting m
  open_fits octets (right.open_move n m its_move) = kept_fits company n _ (entries before) (entry_octets_law _ before octets) its_move

  closed_fits : {n : ℕ} {m : Move} → All OfOctets before → Replies company before (call.read_closed n) (call.move_is m) → Fitting m
  closed_fits octets (right.closed_move n t m turn_is its_move) = kept_fits company n t (entries before) (entry_octets_law _ before octets) its_move
  closed_fits octets (right.none_closed n first) = no_move_fits

one_fits : (company : ℕ) (before : List BookCall) {item : List ℕ} {rows : List ClubRow} → Shows company before item rows → All OfOctets before → Octets item → All HasRoom rows
one_fits company before (making.silent item makes) heard octets = tt
one_fits company before (making.reported item sender area makes) heard octets = tt
one_fits company before (making.seats first address a k makes reply) heard octets =
    ((seat_first company before makes, (omega arith, (omega (arith, seat_few company before reply), tt))), tt)
one_fits company before (making.refuses first address a e makes reply) heard octets =
    ((seat_first company before makes, (number_fits e, (omega arith, tt))), tt)
one_fits company before (making.closes o reply) heard octets =
    ((omega arith, (outcome_fits o, (omega (arith, turn_most company (before ++ (call.close ∷ []))), tt))), tt)
one_fits company before (making.open_move n m reply) heard octets = (move_fits 6 n m (omega arith) octets.1.0 (open_fits company before heard reply), tt)
one_fits company before (making.closed_move n m reply) heard octets = (move_fits 7 n m (omega arith) octets.1.0 (closed_fits company before heard reply), tt)

all_fit : (company : ℕ) {before : List BookCall} {its : List (List ℕ)} {rows : List ClubRow} → ShowsAll company before its rows → All OfOctets before → Octets (flatten its) → All HasRoom rows
unfolding flatten
all_fit company (making.end before) heard octets = tt
all_fit company (making.next before item its calls rows more makes shows later) heard octets =
    let parts = all_parts (λ (x : ℕ). x < 256) item (flatten its) octets in
    all_append HasRoom rows more (one_fits company before shows heard parts.0)
    (all_fit company later (all_append OfOctets before calls heard (makes_octets makes parts.0)) parts.1)

-- the last line, by how many octets are left over
record Ended (k : Club) (rest : List ℕ) : Type 0 where
  flag : ℕ
  line : end_line k (length rest) ≡ row_of (6 ∷ 2 ∷ []) (k.book.turn ∷ flag ∷ [])
  all_read : rest ≡ [] → flag ≡ 0
  left_over_law : (rest ≡ [] → ⊥) → flag ≡ 1
  low : flag < 2

ended : (k : Club) (rest : List ℕ) → Ended k rest
ended k [] = record { flag = 0; line = (end_rows k 0).none_over; all_read = λ none. refl; left_over_law = λ some. absurd (some refl); low = omega arith }
ended k (x ∷ rest) =
    record { flag = 1; line = (end_rows k (length rest)).some_over; all_read = λ none. absurd (omega (arith, ap length none)); left_over_law = λ some. refl; low = omega arith }

pub evening_log : (company : ℕ) (s : List ℕ) → EveningLog company s
unfolding k₀ club_after_all
evening_log company s =
    let is = log_is company s in
    let k : Club = fresh_club company in
    let calls : List BookCall = calls_of k.scanner is.its in
    let makes = (calls_made k.scanner is.its refl).made is.are_items in
    let rows = all_shown company [] [] making.end is.its is.are_items in
    let last = ended (club_after_all k is.its) is.rest in
    record {
      its = is.its;
      rest = is.rest;
      are_items = is.are_items;
      none_left = is.none_left;
      tiles = is.tiles;
      rows = rows.rows;
      shown = rows.shown;
      calls = calls;
      made = makes;
      flag = last.flag;
      log = is.log
          ∙ (λ i. rows.are i ++ last.line i)
          ∙ ap (λ (turn : ℕ). lines_each rows.rows ++ row_of (6 ∷ 2 ∷ []) (turn ∷ last.flag ∷ [])) (evening company is.its).open_turn;
      all_read = last.all_read;
      left_over_law = last.left_over_law;
      fit = λ octets. all_fit company rows.shown tt (all_parts (λ (x : ℕ). x < 256) (flatten is.its) is.rest (subst Octets (sym is.tiles) octets)).0;
      last_fits = (omega (arith, turn_most company calls), (omega (arith, last.low), tt));
    }
