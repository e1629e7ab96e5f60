-- The log in the words of document 01 and of document 02's Notes 3 and 7, by the octets of the items and without the scanner.
--   report_widths, last_widths    == the columns of a report's line, and of the last line
--   line_each rows               == a report's line of the numbers in each row
--   IsReported h0 h1 payload    == a CRC-good packet with this header and payload is reported
--   Prints k channel item rows  == what item number k prints, heard on this channel: a row of numbers, or none
--   TickCount its n             == n of the items are ticks
--   ReportRows k c before its rows == what items print, each with its number and its channel by the items before it
--   Reported s                  == the log of the input s (Reported.reported)
--   Continued h s passing       == the lines and counts of octets s that a hub h takes in which lets all senders pass (Reported.continued)
--   Rowed h n                   == the lines by themselves, and that the last line's numbers fit (Reported.rowed)
--   Added k c sender n          == where the channel stands in a report's line, and that nothing else changes (Reported.added)
--   Stopping h s                == with which octets left over a block says that reading stops (Reported.stopping)
use Rattle.std.specs.Prelude.{◌≡◌, ◌⊎◌, true, false, ℕ, suc, ◌+◌, ◌*◌, ◌/◌, ◌%◌, ◌<◌, ◌≤◌, length, get_or, take, drop, Ok}
use mathlib.Core.List.{List, [], ◌∷◌, ◌++◌, map, flatten}
use Rattle.octets.specs.Lists.{All}
use Rattle.octets.specs.Bytes.{part}
use Rattle.octets.specs.Laws.{Octets}
use Rattle.channels.specs.Laws.{cycles}
use Rattle.channels.specs.Phy.{index_of}
use Rattle.channels.specs.declared.phy.AdvertisingChannel.{AdvertisingChannel}
use Rattle.channels.specs.declared.phy.AdvertisingChannel.TheVariants.{Channel37}
use Rattle.records_spec.specs.HubReading.{read_padded}
use Rattle.addresses.specs.Address.{address_of}
use Rattle.addresses.specs.Header.{header_of}
use Rattle.addresses.specs.declared.device_address.AddressKind.TheVariants.{Public, Random}
use Rattle.addresses.specs.declared.device_address.DeviceAddress.{DeviceAddress}
use Rattle.addresses.specs.declared.filter.AddressFilter.TheVariants.{AllowAll}
use Rattle.advertising.specs.Pdu.{heard_of}
use Rattle.advertising.specs.declared.pdu.Pdu.{Pdu}
use Rattle.columns.specs.Column.{column}
use Rattle.columns.specs.Row.{row_of, read_row, Fits}
use Rattle.items.specs.Item.{items}
use Rattle.hub_spec.specs.Line.{report_line, bare_line, line_size}
use Rattle.hub_spec.specs.Log.{most_items, items_for, lines_of, hub_of, octets_left, last_line, block_of, log_of, RunCounts}
use Rattle.hub_spec.specs.State.{Hub}

-- "A report prints item number (6 columns, from 1), kind (2), six octets in order (4 each), records (3)", and the channel, "3 columns right-justified,
-- after the item number"
abbrev pub report_widths : List ℕ
report_widths = 6 ∷ 3 ∷ 2 ∷ 4 ∷ 4 ∷ 4 ∷ 4 ∷ 4 ∷ 4 ∷ 3 ∷ []

-- "The last line has whole items (6), reports (6)", and the flag (2)
abbrev pub last_widths : List ℕ
last_widths = 6 ∷ 6 ∷ 2 ∷ []

abbrev pub line_each : List (List ℕ) → List ℕ
line_each rows = flatten (map (row_of report_widths) rows)

-- "CRC, type 2, decoding": the type is the header's bits 0 to 3, decoding the hub's, and all senders pass
pub record IsReported (h0 h1 : ℕ) (payload : List ℕ) : Type 0 where
  pub type_2 : h0 % 16 ≡ 2
  pub pdu : Pdu
  pub decoding : heard_of (header_of (h0 + 256 * h1)) payload ≡ Ok pdu

pub data Prints (k channel : ℕ) : List ℕ → List (List ℕ) → Type 0 where
  -- the kind is TxAdd, bit 6 of the header; the records are those before the padding, which is not printed
  report : (h0 h1 a b c d e f : ℕ) (records : List ℕ) (n taken : ℕ)
      → IsReported h0 h1 (a ∷ b ∷ c ∷ d ∷ e ∷ f ∷ records)
      → read_padded records ≡ Ok (n, taken)
      → Prints k channel (0x01 ∷ h0 ∷ h1 ∷ a ∷ b ∷ c ∷ d ∷ e ∷ f ∷ records) ((k ∷ channel ∷ (h0 / 64 % 2) ∷ a ∷ b ∷ c ∷ d ∷ e ∷ f ∷ n ∷ []) ∷ [])
  -- every other item prints nothing
  other : (item : List ℕ) → ((h0 h1 : ℕ) (payload : List ℕ) → item ≡ 0x01 ∷ h0 ∷ h1 ∷ payload → IsReported h0 h1 payload → ⊥) → Prints k channel item []

-- "00 is a tick"; a packet begins with 01 or 02
pub data TickCount : List (List ℕ) → ℕ → Type 0 where
  no_items : TickCount [] 0
  tick : (its : List (List ℕ)) (n : ℕ) → TickCount its n → TickCount ((0x00 ∷ []) ∷ its) (1 + n)
  packet : (first : ℕ) (rest : List ℕ) (its : List (List ℕ)) (n : ℕ) → (first ≡ 0x01) ⊎ (first ≡ 0x02) → TickCount its n → TickCount ((first ∷ rest) ∷ its) n

-- A hub that had counted k items and listened on channel c has heard the items `before` since. The next one has the number after theirs, and the channel
-- that the cycle gives after as many steps from c as there are ticks among them, whether or not anything was heard ("Readers .. worked out the channel by
-- counting ticks").
pub data ReportRows (k : ℕ) (c : AdvertisingChannel) : List (List ℕ) → List (List ℕ) → List (List ℕ) → Type 0 where
  end : (before : List (List ℕ)) → ReportRows k c before [] []
  next : (before : List (List ℕ)) (item : List ℕ) (its rows more : List (List ℕ)) (ticks : ℕ)
      → TickCount before ticks
      → Prints (k + length before + 1) (index_of (cycles ticks c)) item rows
      → ReportRows k c (before ++ (item ∷ [])) its more
      → ReportRows k c before (item ∷ its) (rows ++ more)

-- A line for each report, in order, and the last line, with "0, or 1 where reading stopped at a broken item (another first octet, or cut short) or
-- beyond 999,999": where the items are not all the octets. Which octets are items is the law `Falls` of items.
pub record Reported (s : List ℕ) : Type 0 where
  pub rows : List (List ℕ)
  pub flag : ℕ
  pub printed : ReportRows 0 Channel37 [] (items most_items s) rows
  pub log : log_of s ≡ line_each rows ++ row_of last_widths (length (items most_items s) ∷ length rows ∷ flag ∷ [])
  pub all_read : flatten (items most_items s) ≡ s → flag ≡ 0
  pub stopped : (flatten (items most_items s) ≡ s → ⊥) → flag ≡ 1
  -- every number fits its column
  pub fit : Octets s → All (Fits report_widths) rows
  pub last_fits : Fits last_widths (length (items most_items s) ∷ length rows ∷ flag ∷ [])
  -- so no digit is lost: line i of the log, cut into its columns, reads as row i, and the last line as its three numbers
  pub read : Octets s → (i : ℕ) → i < length rows → read_row report_widths (drop (line_size * i) (log_of s)) ≡ get_or rows i []
  pub last_read : Octets s → read_row last_widths (drop (line_size * length rows) (log_of s)) ≡ length (items most_items s) ∷ length rows ∷ flag ∷ []

-- A hub that lets all senders pass goes on from its counts and its channel, and still does.
pub record Continued (h : Hub) (s : List ℕ) (passing : h.scanner.filter.scan ≡ AllowAll) : Type 0 where
  pub rows : List (List ℕ)
  pub printed : ReportRows h.items h.scanner.channel [] (items_for h s) rows
  pub lines : lines_of h s ≡ line_each rows
  pub fit : RunCounts h → Octets s → All (Fits report_widths) rows
  pub item_count : (hub_of h s).items ≡ h.items + length (items_for h s)
  pub report_count : (hub_of h s).reports ≡ h.reports + length rows
  pub all_pass : (hub_of h s).scanner.filter.scan ≡ AllowAll
  -- each tick moves the scanner on, and nothing else does
  pub ticks : ℕ
  pub ticked : TickCount (items_for h s) ticks
  pub channel : (hub_of h s).scanner.channel ≡ cycles ticks h.scanner.channel

-- kind 0 is public and 1 random; the flag is 0 where no octets are left over
pub record Rowed (h : Hub) (n : ℕ) : Type 0 where
  pub public : (k : ℕ) (on : AdvertisingChannel) (a b c d e f : ℕ)
      → report_line k on (address_of (a ∷ b ∷ c ∷ d ∷ e ∷ f ∷ []) Public) n ≡ row_of report_widths (k ∷ index_of on ∷ 0 ∷ a ∷ b ∷ c ∷ d ∷ e ∷ f ∷ n ∷ [])
  pub random : (k : ℕ) (on : AdvertisingChannel) (a b c d e f : ℕ)
      → report_line k on (address_of (a ∷ b ∷ c ∷ d ∷ e ∷ f ∷ []) Random) n ≡ row_of report_widths (k ∷ index_of on ∷ 1 ∷ a ∷ b ∷ c ∷ d ∷ e ∷ f ∷ n ∷ [])
  pub none_over : last_line h 0 ≡ row_of last_widths (h.items ∷ h.reports ∷ 0 ∷ [])
  pub some_over : last_line h (suc n) ≡ row_of last_widths (h.items ∷ h.reports ∷ 1 ∷ [])
  -- and the numbers of the last line fit where the hub counts as a run does
  pub last_fits : RunCounts h → (flag : ℕ) → flag ≤ 1 → Fits last_widths (h.items ∷ h.reports ∷ flag ∷ [])

-- Note 7: "Print it, 3 columns right-justified, after the item number. .. Nothing else in a line changes."
pub record Added (k : ℕ) (c : AdvertisingChannel) (sender : DeviceAddress) (n : ℕ) : Type 0 where
  pub channel : part 3 (report_line k c sender n) 6 ≡ column 3 (index_of c)
  pub nothing_else : take 6 (report_line k c sender n) ++ drop 9 (report_line k c sender n) ≡ bare_line k sender n

-- Reading stops, whatever follows, "beyond 999,999" and at "another first octet"; an item that is cut short may still be made whole.
-- At the end of the input it stops always.
pub record Stopping (h : Hub) (s : List ℕ) : Type 0 where
  pub at_end : (block_of h s true).is_stopped ≡ true
  pub beyond : (first : ℕ) (rest : List ℕ) → octets_left h s ≡ first ∷ rest → 999999 ≤ (hub_of h s).items → (block_of h s false).is_stopped ≡ true
  pub another : (first : ℕ) (rest : List ℕ) → octets_left h s ≡ first ∷ rest → (first ≡ 0x00 → ⊥) → (first ≡ 0x01 → ⊥) → (first ≡ 0x02 → ⊥)
      → (block_of h s false).is_stopped ≡ true
  pub cut_short : (first : ℕ) (rest : List ℕ) → octets_left h s ≡ first ∷ rest → (hub_of h s).items < 999999 → (first ≡ 0x00) ⊎ ((first ≡ 0x01) ⊎ (first ≡ 0x02))
      → (block_of h s false).is_stopped ≡ false
  pub none_left : octets_left h s ≡ [] → (block_of h s false).is_stopped ≡ false
