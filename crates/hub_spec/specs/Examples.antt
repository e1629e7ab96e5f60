-- Worked values of the hub's lines and tests, on both sides of each limit (document 01, hublog and beacon.rs; document 02, Note 7).
use Rattle.std.specs.Prelude.{◌≡◌, true, false, [], ◌∷◌, map, ℕ}
use Rattle.channels.specs.declared.phy.AdvertisingChannel.TheVariants.{Channel37, Channel38, Channel39}
use Rattle.addresses.specs.declared.device_address.AddressKind.TheVariants.{Public, Random}
use Rattle.beacon_spec.specs.State.{BeaconScanner}
use Rattle.columns.specs.Text.{lines}
use Rattle.hub_spec.specs.Line.{report_line, room_for}
use Rattle.hub_spec.specs.Log.{is_crc_good, scanner_after, left_over, last_line, fresh_hub, is_stuck, is_ready}
use Rattle.hub_spec.specs.State.{Hub}

-- a hub that has counted so many items and reports
abbrev hub_with : ℕ → ℕ → Hub
hub_with items reports = record { items = items; reports = reports; scanner = fresh_hub.scanner }

-- the scanner after a tick
abbrev ticked : BeaconScanner → BeaconScanner
ticked s = scanner_after s (0x00 ∷ [])

pub record Examples : Type 0 where
  -- kind 0 is public
  pub public_line : report_line 999999 Channel39 (record { bytes = 0 ∷ 9 ∷ 10 ∷ 99 ∷ 100 ∷ 255 ∷ []; kind = Public }) 12 ≡ lines ("999999 39 0   0   9  10  99 100 255 12" ∷ [])
  -- kind 1 is random
  pub random_line : report_line 1 Channel37 (record { bytes = 0xC6 ∷ 5 ∷ 4 ∷ 3 ∷ 2 ∷ 1 ∷ []; kind = Random }) 0 ≡ lines ("     1 37 1 198   5   4   3   2   1  0" ∷ [])
  pub last_full : last_line (hub_with 999999 999998) 65 ≡ lines ("999999999998 1" ∷ [])
  pub last_whole : last_line (hub_with 10 9) 0 ≡ lines ("    10     9 0" ∷ [])
  pub left_over_law : map left_over (0 ∷ 1 ∷ 2 ∷ 65 ∷ []) ≡ 0 ∷ 1 ∷ 1 ∷ 1 ∷ []
  -- the shortest item that is reported has nine octets, and its line 39
  pub room : map room_for (0 ∷ 8 ∷ 9 ∷ 17 ∷ 18 ∷ 65536 ∷ []) ≡ 0 ∷ 0 ∷ 39 ∷ 39 ∷ 78 ∷ 283959 ∷ []
  -- 01 alone is CRC-good
  pub crc_good_law : map is_crc_good (0x00 ∷ 0x01 ∷ 0x02 ∷ 0x03 ∷ []) ≡ false ∷ true ∷ false ∷ false ∷ []
  -- nothing follows another first octet, or the last item that counts; an item may begin with 00, 01 and 02
  pub stuck : map (λ (first : ℕ). is_stuck 999998 (first ∷ [])) (0x00 ∷ 0x01 ∷ 0x02 ∷ 0x03 ∷ 0xFF ∷ []) ≡ false ∷ false ∷ false ∷ true ∷ true ∷ []
  pub stuck_beyond : map (λ (count : ℕ). is_stuck count (0x00 ∷ [])) (0 ∷ 999998 ∷ 999999 ∷ []) ≡ false ∷ false ∷ true ∷ []
  pub none_left : map (λ (count : ℕ). is_stuck count []) (0 ∷ 999999 ∷ []) ≡ false ∷ false ∷ []
  -- ready: counted items, reports among them, octets in the buffer and room for lines, the last one among them, each up to its limit and past it
  pub ready_items : map (λ (items : ℕ). is_ready (hub_with items 0) 0 0 15) (0 ∷ 999999 ∷ 1000000 ∷ []) ≡ true ∷ true ∷ false ∷ []
  pub ready_reports : map (λ (reports : ℕ). is_ready (hub_with 7 reports) 0 0 15) (0 ∷ 7 ∷ 8 ∷ []) ≡ true ∷ true ∷ false ∷ []
  pub ready_octets : map (λ (filled : ℕ). is_ready fresh_hub filled 12 1000) (0 ∷ 12 ∷ 13 ∷ []) ≡ true ∷ true ∷ false ∷ []
  pub ready_last : map (λ (space : ℕ). is_ready fresh_hub 8 8 space) (0 ∷ 14 ∷ 15 ∷ []) ≡ false ∷ false ∷ true ∷ []
  pub ready_room : map (λ (space : ℕ). is_ready fresh_hub 26 26 space) (0 ∷ 92 ∷ 93 ∷ 94 ∷ []) ≡ false ∷ false ∷ true ∷ true ∷ []
  -- "Scanning starts on 37", and a tick moves it on: 37, 38, 39, 37; a packet does not
  pub first_channel_law : fresh_hub.scanner.channel ≡ Channel37
  pub one_tick : (ticked fresh_hub.scanner).channel ≡ Channel38
  pub two_ticks : (ticked (ticked fresh_hub.scanner)).channel ≡ Channel39
  pub three_ticks : (ticked (ticked (ticked fresh_hub.scanner))).channel ≡ Channel37
  pub packets : map (λ (first : ℕ). (scanner_after fresh_hub.scanner (first ∷ 0x42 ∷ 0x00 ∷ [])).channel) (0x01 ∷ 0x02 ∷ []) ≡ Channel37 ∷ Channel37 ∷ []
  pub no_item : (scanner_after fresh_hub.scanner []).channel ≡ Channel37
