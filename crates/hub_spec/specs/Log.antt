-- What the hub prints (document 01, hublog; document 02, Note 7).
--   most_items                   == how many items count
--   start                       == the time of every call: the input has ticks and no times
--   is_crc_good first             == a packet that begins so is CRC-good
--   heard_in s item              == what the scanner s answers to an item; unheard s: to one that is no packet
--   scanner_after s item         == the scanner after it
--   after_item h item, printed h item        == the hub after an item, and what it prints for it
--   after_all h its, printed_all h its        == the same of many items
--   left_over n                  == the flag of the last line, where n octets are left over
--   last_line h n                == the last line, where n octets are left over
--   fresh_hub                    == a hub that has heard nothing
--   log_of s                     == THE LOG of the input s; specs/Reported says what is in it, in the papers' words
--   items_for, lines_of, hub_of, octets_left h s == of octets s that a hub h takes in: the whole items, their lines, the hub after them, what is left over
--   is_stuck n s                 == after n items, no octets that follow s make an item of it
--   logged_of h s                == what logging the items of s answers
--   is_last h s isEnd            == reading stops with s: the input ends with it, or it is stuck
--   block_lines h s isEnd        == WHAT IS WRITTEN for s: its lines, and the last line where reading stops
--   block_of h s isEnd           == what taking in s answers
--   RunCounts h                 == a run counts so
--   is_ready h filled size space == the test for it, for `filled` octets in a buffer of `size`, and for room in `space` octets
--   rest_in h buf filled, lines_in h s out    == `buf` with what is left over at its front, and `out` with the lines of the items at its front
--   taken_in, lines_after h buf filled isEnd out, rest_after h buf filled out == what `take_in` answers, and what it leaves in `out` and `buf`
--   Sizes                       == how long lines are (Pieces.sizes)
use Rattle.std.specs.Prelude.{◌≡◌, ℕ, ◌+◌, ◌-◌, ◌≤◌, Bool, true, false, cond, ◌&&◌, ◌||◌, length, take, leb, ltb, eqb, Option, None, Some, Ok}
use mathlib.Core.List.{List, [], ◌∷◌, ◌++◌, flatten}
use Rattle.octets.specs.Bytes.{le, at_front}
use Rattle.octets.specs.declared.time.Instant.{Instant}
use Rattle.channels.specs.declared.phy.AdvertisingChannel.{AdvertisingChannel}
use Rattle.addresses.specs.Header.{header_of}
use Rattle.addresses.specs.declared.device_address.DeviceAddress.{DeviceAddress}
use Rattle.addresses.specs.declared.filter.AddressFilter.TheVariants.{AllowAll}
use Rattle.beacon_spec.specs.Scanner.{scanner_of, configured, timer_updated, scanned}
use Rattle.beacon_spec.specs.State.{BeaconScanner, Scanned}
use Rattle.columns.specs.Column.{column}
use Rattle.items.specs.Item.{items, after_items}
use Rattle.hub_spec.specs.Line.{report_line, line, reports_in, line_size, last_size, room_for}
use Rattle.hub_spec.specs.State.{Hub, Logged, Block}

-- reading stops "beyond 999,999"
abbrev pub most_items : ℕ
most_items = 999999

abbrev pub start : Instant
start = record { 0 = 0 }

-- "01 (CRC good) or 02 (bad)"
abbrev pub is_crc_good : ℕ → Bool
is_crc_good first = eqb first 1

abbrev pub unheard : BeaconScanner → Scanned
unheard s = record { report = Ok None; channel = s.channel }

-- ".. is followed by header and as many octets as it counts"; a tick is no packet
unfoldable pub heard_in : BeaconScanner → List ℕ → Scanned
heard_in s [] = unheard s
heard_in s (first ∷ []) = unheard s
heard_in s (first ∷ h0 ∷ []) = unheard s
heard_in s (first ∷ h0 ∷ h1 ∷ payload) = scanned s (header_of (le (h0 ∷ h1 ∷ []))) payload (is_crc_good first) []

-- "00 is a tick"
unfoldable pub scanner_after : BeaconScanner → List ℕ → BeaconScanner
scanner_after s [] = s
scanner_after s (first ∷ rest) = cond (eqb first 0) (timer_updated s start).scanner s

unfoldable pub after_item : Hub → List ℕ → Hub
after_item h item =
    record {
      items = h.items + 1;
      reports = h.reports + reports_in (heard_in h.scanner item);
      scanner = scanner_after h.scanner item;
    }

-- the first item has number 1
unfoldable pub printed : Hub → List ℕ → List ℕ
printed h item = line (h.items + 1) (heard_in h.scanner item)

unfoldable pub after_all : Hub → List (List ℕ) → Hub
after_all h [] = h
after_all h (item ∷ its) = after_all (after_item h item) its

unfoldable pub printed_all : Hub → List (List ℕ) → List ℕ
printed_all h [] = []
printed_all h (item ∷ its) = printed h item ++ printed_all (after_item h item) its

-- 1 where octets are left over
abbrev pub left_over : ℕ → ℕ
left_over n = cond (eqb n 0) 0 1

unfoldable pub last_line : Hub → ℕ → List ℕ
last_line h n = column 6 h.items ++ (column 6 h.reports ++ (column 2 (left_over n) ++ (10 ∷ [])))

-- "All senders pass."
abbrev pub fresh_hub : Hub
fresh_hub = record { items = 0; reports = 0; scanner = (configured (scanner_of AllowAll) start 0).scanner }

-- a line for each report among the whole items, of which 999,999 count, and the last line, whose flag says whether octets are left over after
-- these items: a broken item, or any octet after the last that counts
unfoldable pub log_of : List ℕ → List ℕ
log_of s =
    printed_all fresh_hub (items most_items s) ++ last_line (after_all fresh_hub (items most_items s)) (length (after_items (items most_items s) s))

-- A part of the input
abbrev pub items_for : Hub → List ℕ → List (List ℕ)
items_for h s = items (most_items - h.items) s

abbrev pub lines_of : Hub → List ℕ → List ℕ
lines_of h s = printed_all h (items_for h s)

abbrev pub hub_of : Hub → List ℕ → Hub
hub_of h s = after_all h (items_for h s)

abbrev pub octets_left : Hub → List ℕ → List ℕ
octets_left h s = after_items (items_for h s) s

unfoldable pub is_stuck : ℕ → List ℕ → Bool
is_stuck count [] = false
is_stuck count (first ∷ rest) = cond (leb most_items count) true (ltb 2 first)

abbrev pub logged_of : Hub → List ℕ → Logged
logged_of h s = record { hub = hub_of h s; taken = length (flatten (items_for h s)); written = length (lines_of h s) }

-- "reading stopped at a broken item (..) or beyond 999,999", or at the end of the input
abbrev pub is_last : Hub → List ℕ → Bool → Bool
is_last h s isEnd = isEnd || is_stuck (hub_of h s).items (octets_left h s)

-- the last line is written once, after the lines of the block with which reading stops
abbrev pub block_lines : Hub → List ℕ → Bool → List ℕ
block_lines h s isEnd = lines_of h s ++ cond (is_last h s isEnd) (last_line (hub_of h s) (length (octets_left h s))) []

abbrev pub block_of : Hub → List ℕ → Bool → Block
block_of h s isEnd =
    record {
      hub = hub_of h s;
      written = length (block_lines h s isEnd);
      kept = length (octets_left h s);
      is_stopped = is_last h s isEnd;
    }

-- what a hub counts: at most 999,999 items, and no more reports than items
abbrev pub RunCounts : Hub → Type 0
RunCounts h = (h.items ≤ most_items) × (h.reports ≤ h.items)

-- the same as a test, with that of the room: `filled` octets of a buffer of `size`, and room for their lines and the last line in `space` octets
abbrev pub is_ready : Hub → ℕ → ℕ → ℕ → Bool
is_ready h filled size space = leb h.items most_items && (leb h.reports h.items && (leb filled size && leb (room_for filled + last_size) space))

-- the first `filled` octets of `buf` taken in: what is left over at the front of `buf`, and the lines at the front of `out`
abbrev pub rest_in : Hub → List ℕ → ℕ → List ℕ
rest_in h buf filled = at_front (octets_left h (take filled buf)) buf

abbrev pub lines_in : Hub → List ℕ → List ℕ → List ℕ
lines_in h s out = at_front (lines_of h s) out

-- what `take_in` answers, and what the two buffers hold then
abbrev pub taken_in : Hub → List ℕ → ℕ → Bool → List ℕ → Option Block
taken_in h buf filled isEnd out = cond (is_ready h filled (length buf) (length out)) (Some (block_of h (take filled buf) isEnd)) None

abbrev pub rest_after : Hub → List ℕ → ℕ → List ℕ → List ℕ
rest_after h buf filled out = cond (is_ready h filled (length buf) (length out)) (rest_in h buf filled) buf

abbrev pub lines_after : Hub → List ℕ → ℕ → Bool → List ℕ → List ℕ
lines_after h buf filled isEnd out = cond (is_ready h filled (length buf) (length out)) (at_front (block_lines h (take filled buf) isEnd) out) out

-- Lines are as long as their columns and the octet 0A.
pub record Sizes : Type 0 where
  pub report : (number : ℕ) (c : AdvertisingChannel) (sender : DeviceAddress) (records : ℕ) → length sender.bytes ≡ 6 → length (report_line number c sender records) ≡ line_size
  pub last : (h : Hub) (n : ℕ) → length (last_line h n) ≡ last_size
