-- What the definitions print is what documents 01 and 02 say of the octets: `reported`, `continued`, `rowed`, `added`, `stopping`. Assumes nothing.
use mathlib.Core.Path.{◌≡◌, refl, sym, ap, subst, ◌∙◌}
use mathlib.Core.Bool.{Bool, true, false, cond, true≢false}
use mathlib.Core.List.{List, [], ◌∷◌, ◌++◌, append_assoc, append-nil, flatten}
use mathlib.Core.Logic.{◌⊎◌, ⊎_elim}
use Prim.Native.Nat.{ℕ, zero, suc, ◌+◌, ◌-◌, ◌*◌, ◌/◌, ◌%◌, ◌<◌, ◌≤◌}
use native.Mathlib.Omega.{arith}
use lib.ListN.{length, take, drop, length-append}
use lib.Seq.{drop-length, take_at, drop_at, drop-drop}
use lib.Dec.{leb, eqb, eqb-suc-zero}
use borrow.Author.Tests.{eqb-true, ne_eqb, le-leb, lt-ltb, le-ltb, lt-leb}
use Rattle.octets.specs.Lists.{All}
use Rattle.octets.specs.Bytes.{le}
use Rattle.octets.specs.Laws.{Octets}
use Rattle.channels.specs.Laws.{cycles}
use Rattle.channels.specs.Phy.{index_of, cycled}
use Rattle.channels.specs.declared.phy.AdvertisingChannel.{AdvertisingChannel}
use Rattle.records_spec.specs.HubReading.{read_padded}
use Rattle.addresses.specs.Address.{kind_of, address_of}
use Rattle.addresses.specs.Header.{header_bits, header_of, tx_add}
use Rattle.addresses.specs.declared.device_address.DeviceAddress.{DeviceAddress}
use Rattle.addresses.specs.declared.filter.AddressFilter.TheVariants.{AllowAll}
use Rattle.addresses.specs.declared.header.Header.{Header}
use Rattle.beacon_spec.proofs.Reports.{reports, holds_decoded, type_is}
use Rattle.beacon_spec.specs.Laws as laws
use Rattle.beacon_spec.specs.Scanner.{timer_updated, scanned, is_report}
use Rattle.beacon_spec.specs.State.{BeaconScanner, Report, Scanned}
use Rattle.beacon_spec.specs.declared.beacon.Sighting.{Sighting}
use Rattle.columns.proofs.Rows.{row}
use Rattle.columns.proofs.Widths.{column_length}
use Rattle.columns.specs.Column.{column}
use Rattle.columns.specs.Row.{row_of, Fits}
use Rattle.items.proofs.Falling.{falls}
use Rattle.items.proofs.Items.{cut}
use Rattle.items.specs.Item.{items, after_items, IsItem, tick, packet}
use Rattle.hub_spec.specs.Line.{sent_columns, report_line, line, reports_in, line_size}
use Rattle.hub_spec.specs.Log.{most_items, start, is_crc_good, heard_in, scanner_after, after_item, printed, after_all, printed_all, left_over, last_line, fresh_hub, items_for, log_of, is_stuck, hub_of}
use Rattle.hub_spec.specs.Reported as spec
use Rattle.hub_spec.specs.Reported.{report_widths, last_widths, line_each, IsReported, Prints, TickCount, ReportRows, Reported, Continued, Rowed, Added, Stopping}
use Rattle.hub_spec.specs.State.{Hub}
use Rattle.hub_spec.proofs.AnyReads.{counted, items_most, block_taken}
use Rattle.hub_spec.proofs.Fitting.{octets_in_law, rows_fit, lines_read, lines_size}
use Rattle.std.specs.Prelude.{None, Some, Ok, Err}

pub rowed : (h : Hub) (n : ℕ) → Rowed h n
unfolding report_line last_line flatten row_of
rowed h n =
    record {
      public = λ k on a b c d e f. simp (append_assoc, append-nil);
      random = λ k on a b c d e f. simp (append_assoc, append-nil);
      none_over = refl;
      some_over = rw (eqb-suc-zero n) refl;
      last_fits = λ counts flag low. (omega (arith, counts.0), (omega (arith, counts.0, counts.1), (omega arith, tt)));
    }

pub added : (k : ℕ) (c : AdvertisingChannel) (sender : DeviceAddress) (n : ℕ) → Added k c sender n
unfolding report_line
added k c sender n =
    let behind-it : List ℕ = sent_columns sender n in
    let rest : List ℕ = column 3 (index_of c) ++ behind-it in
    let six : drop 6 (report_line k c sender n) ≡ rest = drop_at (column 6 k) rest 6 (column_length 6 k) in
    let nine : drop 9 (report_line k c sender n) ≡ behind-it =
    sym (drop-drop 3 6 (report_line k c sender n)) ∙ ap (drop 3) six ∙ drop_at (column 3 (index_of c)) behind-it 3 (column_length 3 (index_of c)) in
    record {
      channel = ap (take 3) six ∙ take_at (column 3 (index_of c)) behind-it 3 (column_length 3 (index_of c));
      nothing_else = rw (take_at (column 6 k) rest 6 (column_length 6 k), nine) refl;
    }

-- a header's bit 6 as the kind of an address
line_is : (k : ℕ) (on : AdvertisingChannel) (bit a b c d e f n : ℕ) → bit < 2
    → report_line k on (address_of (a ∷ b ∷ c ∷ d ∷ e ∷ f ∷ []) (kind_of (eqb bit 1))) n ≡ row_of report_widths (k ∷ index_of on ∷ bit ∷ a ∷ b ∷ c ∷ d ∷ e ∷ f ∷ n ∷ [])
line_is k on zero a b c d e f n low = (rowed fresh_hub n).public k on a b c d e f
line_is k on (suc zero) a b c d e f n low = (rowed fresh_hub n).random k on a b c d e f
line_is k on (suc (suc bit)) a b c d e f n low = absurd (omega arith)

-- an item prints a line for each of its rows
record Printed (k channel : ℕ) (item line : List ℕ) (count : ℕ) : Type 0 where
  rows : List (List ℕ)
  prints : Prints k channel item rows
  lines : line ≡ line_each rows
  number : count ≡ length rows

-- a packet that is reported prints its line
beacon_prints : (k : ℕ) (on : AdvertisingChannel) (first h0 h1 : ℕ) (p : List ℕ) (n taken : ℕ) → 6 ≤ length p → first ≡ 1 → IsReported h0 h1 p
    → read_padded (drop 6 p) ≡ Ok (n, taken)
    → Printed k (index_of on) (first ∷ h0 ∷ h1 ∷ p) (report_line k on (address_of (take 6 p) (kind_of (tx_add (header_of (h0 + 256 * h1))))) n) 1
unfolding flatten
beacon_prints k on first h0 h1 [] n taken long crc is good = absurd (omega arith)
beacon_prints k on first h0 h1 (a ∷ []) n taken long crc is good = absurd (omega arith)
beacon_prints k on first h0 h1 (a ∷ b ∷ []) n taken long crc is good = absurd (omega arith)
beacon_prints k on first h0 h1 (a ∷ b ∷ c ∷ []) n taken long crc is good = absurd (omega arith)
beacon_prints k on first h0 h1 (a ∷ b ∷ c ∷ d ∷ []) n taken long crc is good = absurd (omega arith)
beacon_prints k on first h0 h1 (a ∷ b ∷ c ∷ d ∷ e ∷ []) n taken long crc is good = absurd (omega arith)
beacon_prints k on first h0 h1 (a ∷ b ∷ c ∷ d ∷ e ∷ f ∷ records) n taken long crc is good =
    let bit : header_bits 6 1 (header_of (h0 + 256 * h1)) ≡ h0 / 64 % 2 = omega arith in
    record {
      rows = (k ∷ index_of on ∷ (h0 / 64 % 2) ∷ a ∷ b ∷ c ∷ d ∷ e ∷ f ∷ n ∷ []) ∷ [];
      prints = rw crc (spec.report h0 h1 a b c d e f records n taken is good);
      lines = rw (bit, line_is k on (h0 / 64 % 2) a b c d e f n (omega arith)) (sym (append-nil _));
      number = refl;
    }

-- any other item prints nothing
prints_none : (k channel : ℕ) (item : List ℕ) → ((h0 h1 : ℕ) (payload : List ℕ) → item ≡ 0x01 ∷ h0 ∷ h1 ∷ payload → IsReported h0 h1 payload → ⊥) → Printed k channel item [] 0
unfolding flatten
prints_none k channel item not-one = record { rows = []; prints = spec.other item not-one; lines = refl; number = refl }

-- a scanner that lets all senders pass, and a packet
module _ (s : BeaconScanner) (all_pass : s.filter.scan ≡ AllowAll) (k first h0 h1 : ℕ) (p : List ℕ) where
  header : Header
  header = header_of (h0 + 256 * h1)

  heard : Scanned
  heard = scanned s header p (is_crc_good first) []

  is_reported : (x : Sighting) → heard.report ≡ Ok (Some x) → (first ≡ 1) × IsReported h0 h1 p
  unfolding heard header
  is_reported x e =
      let checks = (reports s header p (is_crc_good first) []).sound x e in
      (eqb-true first 1 checks.crc, record { type_2 = omega (arith, checks.type_2); pdu = checks.pdu; decoding = checks.decoding })

  reported_is : first ≡ 1 → IsReported h0 h1 p → is_report heard.report ≡ true
  unfolding heard header
  reported_is good is =
      ap (λ (x : Scanned). is_report x.report)
      ((reports s header p (is_crc_good first) []).complete
      (record { crc = rw good refl; type_2 = omega (arith, is.type_2); pdu = is.pdu; decoding = is.decoding; filter = rw all_pass laws.all }))

  not_reported : is_report heard.report ≡ false → (g0 g1 : ℕ) (q : List ℕ) → first ∷ h0 ∷ h1 ∷ p ≡ 0x01 ∷ g0 ∷ g1 ∷ q → IsReported g0 g1 q → ⊥
  not_reported e g0 g1 q same is =
      let good : first ≡ 1 = cc in
      let low : h0 ≡ g0 = cc in
      let high : h1 ≡ g1 = cc in
      let payload : p ≡ q = cc in
      true≢false (sym (reported_is good (record { type_2 = rw low is.type_2; pdu = is.pdu; decoding = rw (low, high, payload) is.decoding })) ∙ e)

  -- the channel is the scanner's own
  same_channel : heard.channel ≡ s.channel
  unfolding heard header scanned
  same_channel = refl

  prints : Printed k (index_of s.channel) (first ∷ h0 ∷ h1 ∷ p) (line k heard) (reports_in heard)
  unfolding line reports_in heard header
  prints = go heard.report refl
    where
      go : (r : Report) → heard.report ≡ r → Printed k (index_of s.channel) (first ∷ h0 ∷ h1 ∷ p) (line k heard) (reports_in heard)
      go (Ok (Some x)) e =
          let said = reports s header p (is_crc_good first) [] in
          let is = is_reported x e in
          let checks = said.sound x e in
          let long : 6 ≤ length p = omega (arith, (holds_decoded header p checks.pdu (type_is (header_bits 0 4 header) checks.type_2) checks.decoding).size) in
          rw (e, said.sender x e, same_channel)
          (beacon_prints k s.channel first h0 h1 p x.adv_data.count x.taken long is.0 is.1 (said.number_of_records x e))
      go (Ok None) e = rw e (prints_none k (index_of s.channel) (first ∷ h0 ∷ h1 ∷ p) (not_reported (ap is_report e)))
      go (Err r) e = rw e (prints_none k (index_of s.channel) (first ∷ h0 ∷ h1 ∷ p) (not_reported (ap is_report e)))

-- any item
item_prints : (s : BeaconScanner) → s.filter.scan ≡ AllowAll → (k : ℕ) (item : List ℕ)
    → Printed k (index_of s.channel) item (line k (heard_in s item)) (reports_in (heard_in s item))
unfolding line reports_in heard_in heard header
item_prints s all_pass k [] = prints_none k _ [] (λ h0 h1 p same is. absurd (omega (arith, ap length same)))
item_prints s all_pass k (a ∷ []) = prints_none k _ (a ∷ []) (λ h0 h1 p same is. absurd (omega (arith, ap length same)))
item_prints s all_pass k (a ∷ b ∷ []) = prints_none k _ (a ∷ b ∷ []) (λ h0 h1 p same is. absurd (omega (arith, ap length same)))
item_prints s all_pass k (first ∷ h0 ∷ h1 ∷ p) =
    let number : le (h0 ∷ h1 ∷ []) ≡ h0 + 256 * h1 = omega arith in
    subst
    (λ (x : ℕ). Printed k (index_of s.channel) (first ∷ h0 ∷ h1 ∷ p) (line k (scanned s (header_of x) p (is_crc_good first) [])) (reports_in (scanned s (header_of x) p (is_crc_good first) [])))
    (sym number) (prints s all_pass k first h0 h1 p)

-- the filter stays
still_all : (s : BeaconScanner) (item : List ℕ) → s.filter.scan ≡ AllowAll → (scanner_after s item).filter.scan ≡ AllowAll
unfolding scanner_after
still_all s [] all_pass = all_pass
still_all s (first ∷ rest) all_pass = go (eqb first 0)
  where
    go : (b : Bool) → (cond b (timer_updated s start).scanner s).filter.scan ≡ AllowAll
    go true = all_pass
    go false = all_pass

-- one more item after others
tick_behind : {its : List (List ℕ)} {n : ℕ} → TickCount its n → TickCount (its ++ ((0x00 ∷ []) ∷ [])) (1 + n)
tick_behind spec.no_items = spec.tick [] 0 spec.no_items
tick_behind (spec.tick its n count) = spec.tick _ (1 + n) (tick_behind count)
tick_behind (spec.packet first rest its n which count) = spec.packet first rest _ (1 + n) which (tick_behind count)

packet_behind : {its : List (List ℕ)} {n : ℕ} (first : ℕ) (rest : List ℕ) → (first ≡ 1) ⊎ (first ≡ 2) → TickCount its n → TickCount (its ++ ((first ∷ rest) ∷ [])) n
packet_behind first rest which spec.no_items = spec.packet first rest [] 0 which spec.no_items
packet_behind first rest which (spec.tick its n count) = spec.tick _ n (packet_behind first rest which count)
packet_behind first rest which (spec.packet first' rest' its n which' count) = spec.packet first' rest' _ n which' (packet_behind first rest which count)

-- a scanner that began on a channel and has heard items since: each tick moved it on
record Heard (from : AdvertisingChannel) (before : List (List ℕ)) (s : BeaconScanner) : Type 0 where
  ticks : ℕ
  ticked : TickCount before ticks
  channel : s.channel ≡ cycles ticks from

heard_more : (from : AdvertisingChannel) (before : List (List ℕ)) (s : BeaconScanner) (item : List ℕ) → IsItem item → Heard from before s
    → Heard from (before ++ (item ∷ [])) (scanner_after s item)
unfolding scanner_after cycles
heard_more from before s item tick heard =
    let one_more : 1 + heard.ticks ≡ suc heard.ticks = omega arith in
    record { ticks = 1 + heard.ticks; ticked = tick_behind heard.ticked; channel = rw one_more (ap cycled heard.channel) }
heard_more from before s item (packet first h0 h1 payload which long) heard =
    let some : first ≡ 0 → ⊥ = λ none_there. ⊎_elim (λ good. omega arith) (λ bad. omega arith) which in
    record {
      ticks = heard.ticks;
      ticked = packet_behind first (h0 ∷ h1 ∷ payload) which heard.ticked;
      channel = rw (ne_eqb first 0 some) heard.channel;
    }

-- many items, after others
record Told (k : ℕ) (from : AdvertisingChannel) (before : List (List ℕ)) (h : Hub) (its : List (List ℕ)) : Type 0 where
  rows : List (List ℕ)
  printed_rows : ReportRows k from before its rows
  lines : printed_all h its ≡ line_each rows
  sum : (after_all h its).reports ≡ h.reports + length rows
  all_pass : (after_all h its).scanner.filter.scan ≡ AllowAll
  heard_all : Heard from (before ++ its) (after_all h its).scanner

each_line : (a b : List (List ℕ)) → line_each (a ++ b) ≡ line_each a ++ line_each b
unfolding flatten
each_line [] b = refl
each_line (row ∷ a) b = rw (each_line a b) (sym (append_assoc (row_of report_widths row) (line_each a) (line_each b)))

told : (k : ℕ) (from : AdvertisingChannel) (before : List (List ℕ)) (h : Hub) (its : List (List ℕ)) → h.items ≡ k + length before → Heard from before h.scanner
    → h.scanner.filter.scan ≡ AllowAll → All IsItem its → Told k from before h its
unfolding after_all printed_all after_item printed flatten
told k from before h [] number heard all_pass all =
    record {
      rows = [];
      printed_rows = spec.end before;
      lines = refl;
      sum = omega arith;
      all_pass = all_pass;
      heard_all = subst (λ (l : List (List ℕ)). Heard from l h.scanner) (sym (append-nil before)) heard;
    }
told k from before h (item ∷ its) number heard all_pass all =
    let one = item_prints h.scanner all_pass (h.items + 1) item in
    let next : (after_item h item).items ≡ k + length (before ++ (item ∷ [])) = rw length-append (omega (arith, number)) in
    let later = told k from (before ++ (item ∷ [])) (after_item h item) its next (heard_more from before h.scanner item all.0 heard) (still_all h.scanner item all_pass) all.1 in
    let prints-it : Prints (k + length before + 1) (index_of (cycles heard.ticks from)) item one.rows =
    rw (← number, ← heard.channel) one.prints in
    record {
      rows = one.rows ++ later.rows;
      printed_rows = spec.next before item its one.rows later.rows heard.ticks heard.ticked prints-it later.printed_rows;
      lines = rw (one.lines, later.lines) (sym (each_line one.rows later.rows));
      sum = rw length-append (omega (arith, later.sum, one.number));
      all_pass = later.all_pass;
      heard_all = subst (λ (l : List (List ℕ)). Heard from l (after_all (after_item h item) its).scanner) (append_assoc before (item ∷ []) its) later.heard_all;
    }

nothing_heard : (s : BeaconScanner) → Heard s.channel [] s
unfolding cycles
nothing_heard s = record { ticks = 0; ticked = spec.no_items; channel = refl }

pub continued : (h : Hub) (s : List ℕ) (passing : h.scanner.filter.scan ≡ AllowAll) → Continued h s passing
continued h s passing =
    let its : List (List ℕ) = items_for h s in
    let are : All IsItem its = (falls (most_items - h.items) s).each in
    let all = told h.items h.scanner.channel [] h its (omega arith) (nothing_heard h.scanner) passing are in
    record {
      rows = all.rows;
      printed = all.printed_rows;
      lines = all.lines;
      fit = λ counts octets. rows_fit all.printed_rows (omega (arith, counts.0, items_most (most_items - h.items) s)) are (octets_in_law (most_items - h.items) s octets);
      item_count = counted h its;
      report_count = all.sum;
      all_pass = all.all_pass;
      ticks = all.heard_all.ticks;
      ticked = all.heard_all.ticked;
      channel = all.heard_all.channel;
    }

pub stopping : (h : Hub) (s : List ℕ) → Stopping h s
unfolding is_stuck
stopping h s =
    let count : ℕ = (hub_of h s).items in
    record {
      at_end = refl;
      beyond = λ first rest left most. ap (is_stuck count) left ∙ rw (le-leb most_items count most);
      another = λ first rest left no_tick not-Good not-bad.
          ap (is_stuck count) left ∙ rw (lt-ltb 2 first (above first no_tick not-Good not-bad)) (either (leb most_items count));
      cut_short = λ first rest left more which.
          let low : first ≤ 2 = ⊎_elim (λ is. omega arith) (λ is. ⊎_elim (λ good. omega arith) (λ bad. omega arith) is) which in
          ap (is_stuck count) left ∙ rw (lt-leb most_items count more, le-ltb 2 first low);
      none_left = λ left. ap (is_stuck count) left;
    }
  where
    above : (n : ℕ) → (n ≡ 0 → ⊥) → (n ≡ 1 → ⊥) → (n ≡ 2 → ⊥) → 2 < n
    above zero a b c = absurd (a refl)
    above (suc zero) a b c = absurd (b refl)
    above (suc (suc zero)) a b c = absurd (c refl)
    above (suc (suc (suc n))) a b c = omega arith

    either : (b : Bool) → cond b true true ≡ true
    either true = refl
    either false = refl

-- no octets are left over where the items are all of them, and else some are
none_over : (its : List (List ℕ)) (s : List ℕ) → flatten its ≡ s → left_over (length (after_items its s)) ≡ 0
unfolding after_items
none_over its s all = rw (all, drop-length s)

some_over : (its : List (List ℕ)) (s : List ℕ) → flatten its ++ after_items its s ≡ s → (flatten its ≡ s → ⊥) → left_over (length (after_items its s)) ≡ 1
some_over its s tiles some = go (after_items its s) tiles
  where
    go : (rest : List ℕ) → flatten its ++ rest ≡ s → left_over (length rest) ≡ 1
    go [] e = absurd (some (sym (append-nil (flatten its)) ∙ e))
    go (x ∷ rest) e = rw (eqb-suc-zero (length rest)) refl

over_one : (n : ℕ) → left_over n ≤ 1
over_one zero = omega arith
over_one (suc n) = rw (eqb-suc-zero n) (omega arith)

last_is : (h : Hub) (n : ℕ) → last_line h n ≡ row_of last_widths (h.items ∷ h.reports ∷ left_over n ∷ [])
unfolding last_line row_of
last_is h n = refl

pub reported : (s : List ℕ) → Reported s
unfolding log_of
reported s =
    let its : List (List ℕ) = items most_items s in
    let all = continued fresh_hub s refl in
    let flag : ℕ = left_over (length (after_items its s)) in
    let end : Hub = after_all fresh_hub its in
    let size : end.items ≡ length its = all.item_count ∙ omega arith in
    let sum : end.reports ≡ length all.rows = all.report_count ∙ omega arith in
    let last : List ℕ = row_of last_widths (length its ∷ length all.rows ∷ flag ∷ []) in
    let log : log_of s ≡ line_each all.rows ++ last = rw (all.lines, last_is end (length (after_items its s)), size, sum) refl in
    let fit : Octets s → All (Fits report_widths) all.rows = all.fit (omega arith, omega arith) in
    let last_fits : Fits last_widths (length its ∷ length all.rows ∷ flag ∷ []) =
    rw (size, sum) at ((rowed end 0).last_fits ((block_taken fresh_hub s false).counted (omega arith, omega arith)) flag (over_one (length (after_items its s)))) in
    record {
      rows = all.rows;
      flag = flag;
      printed = all.printed;
      log = log;
      all_read = none_over its s;
      stopped = some_over its s (cut most_items s).tiles;
      fit = fit;
      last_fits = last_fits;
      read = λ octets i inside. rw log (lines_read all.rows last (fit octets) i inside);
      last_read = λ octets.
          rw (log, drop_at (line_each all.rows) last (line_size * length all.rows) (lines_size all.rows (fit octets)), ← append-nil last)
          ((row last_widths (length its ∷ length all.rows ∷ flag ∷ [])).back last_fits []);
    }
