-- Document 01's sample of hublog with the channel of document 02's Note 7, an empty input, and inputs that the sample leaves open; as many items as count, and one more.
--   beacon, bad_beacon               == the sample's packet, and the same CRC-bad
--   padded_beacon, unended_beacon     == a beacon with zeros after its record, and with another octet at their end
--   short_beacon, long_packet         == a beacon without records, and a packet that is none
--   six_items, tick_items             == items with reports among them, and with ticks between reports
--   one_item, broken_at_once           == the logs of one item that is not reported, and of an input whose first item is broken
--   Sample                          == the logs of these (Samples.sample)
--   JustRoom k                      == no less room than `room_for` says would do for the lines of k short beacons (Samples.just_room)
--   Limit ticks                     == the logs of 999,999 ticks, and of one more (Ticks.limit)
use Rattle.std.specs.Prelude.{◌≡◌, ℕ, ◌+◌, ◌<◌, ◌≤◌, length, replicate}
use mathlib.Core.List.{List, [], ◌∷◌, ◌++◌, flatten}
use Rattle.advertising.specs.Laws.{nine}
use Rattle.columns.specs.Text.{lines}
use Rattle.hub_spec.specs.Line.{room_for}
use Rattle.hub_spec.specs.Log.{most_items, fresh_hub, lines_of, log_of}

-- 42 09 and its nine octets, CRC-good
abbrev pub beacon : List ℕ
beacon = 0x01 ∷ 0x42 ∷ 0x09 ∷ nine

-- the same, CRC-bad
abbrev pub bad_beacon : List ℕ
bad_beacon = 0x02 ∷ 0x42 ∷ 0x09 ∷ nine

-- a packet whose header counts 32 octets
abbrev pub long_packet : List ℕ
long_packet = 0x01 ∷ 0x00 ∷ 0x20 ∷ replicate 32 0

-- the sample's packet with 28 zeros after its record, and with another octet at their end
abbrev pub padded_beacon : List ℕ
padded_beacon = 0x01 ∷ 0x42 ∷ 0x25 ∷ (nine ++ replicate 28 0)

abbrev pub unended_beacon : List ℕ
unended_beacon = 0x01 ∷ 0x42 ∷ 0x25 ∷ (nine ++ (replicate 27 0 ++ (0x01 ∷ [])))

-- one whole item, no report, nothing left over
abbrev pub one_item : List ℕ
one_item = lines ("     1     0 0" ∷ [])

-- no whole item, and octets left over
abbrev pub broken_at_once : List ℕ
broken_at_once = lines ("     0     0 1" ∷ [])

-- a beacon without records
abbrev pub short_beacon : List ℕ
short_beacon = 0x01 ∷ 0x42 ∷ 0x06 ∷ 0x0A ∷ 0x0B ∷ 0x0C ∷ 0x0D ∷ 0x0E ∷ 0xCF ∷ []

-- a tick, a CRC-bad packet, a beacon without records, one with two, a packet of type 0, and a beacon of a public sender
abbrev pub six_items : List (List ℕ)
six_items =
    (0x00 ∷ [])
    ∷ bad_beacon
    ∷ short_beacon
    ∷ (0x01 ∷ 0x42 ∷ 0x0C ∷ (nine ++ (0x02 ∷ 0x0A ∷ 0x04 ∷ [])))
    ∷ (0x01 ∷ 0x40 ∷ 0x06 ∷ 0x0A ∷ 0x0B ∷ 0x0C ∷ 0x0D ∷ 0x0E ∷ 0xCF ∷ [])
    ∷ (0x01 ∷ 0x02 ∷ 0x09 ∷ nine)
    ∷ []

-- five beacons: a tick before the second, two before the third with a CRC-bad packet between them, none before the fourth, two before the last
abbrev pub tick_items : List (List ℕ)
tick_items =
    beacon
    ∷ (0x00 ∷ [])
    ∷ beacon
    ∷ (0x00 ∷ [])
    ∷ bad_beacon
    ∷ (0x00 ∷ [])
    ∷ beacon
    ∷ beacon
    ∷ (0x00 ∷ [])
    ∷ (0x00 ∷ [])
    ∷ beacon
    ∷ []

pub record Sample : Type 0 where
  -- a tick and that packet
  pub sample :
      log_of (0x00 ∷ beacon)
      ≡ lines
      ("     2 38 1   1   2   3   4   5 198  1"
      ∷ "     2     1 0"
      ∷ [])
  pub empty : log_of [] ≡ lines ("     0     0 0" ∷ [])
  -- a CRC-bad packet is an item and no report
  pub crc_bad_law : log_of bad_beacon ≡ one_item
  -- zeros after the record; an octet among them that is not zero: no report
  pub zeros :
      log_of padded_beacon
      ≡ lines
      ("     1 37 1   1   2   3   4   5 198  1"
      ∷ "     1     1 0"
      ∷ [])
  pub another : log_of unended_beacon ≡ one_item
  -- the length has six bits, and the two above them do not count
  pub six_bits : log_of long_packet ≡ one_item
  pub two_above : log_of (0x01 ∷ 0x00 ∷ 0xC0 ∷ []) ≡ one_item
  -- another first octet, and an item that is cut short
  pub broken : log_of (0x03 ∷ []) ≡ broken_at_once
  pub cut_short : log_of (0x01 ∷ 0x42 ∷ []) ≡ broken_at_once
  -- six items, of which the third, the fourth and the sixth are reported, and an octet that begins none
  pub six_items_law :
      log_of (flatten six_items ++ (0x03 ∷ []))
      ≡ lines
      ("     3 38 1  10  11  12  13  14 207  0"
      ∷ "     4 38 1   1   2   3   4   5 198  2"
      ∷ "     6 38 0   1   2   3   4   5 198  1"
      ∷ "     6     3 1"
      ∷ [])
  -- the channel (Note 7): 37 before any tick, 38, 37 after two ticks between which a packet was heard and not reported, 37 still, and 39 after two ticks
  -- between which nothing was heard
  pub channels :
      log_of (flatten tick_items)
      ≡ lines
      ("     1 37 1   1   2   3   4   5 198  1"
      ∷ "     3 38 1   1   2   3   4   5 198  1"
      ∷ "     7 37 1   1   2   3   4   5 198  1"
      ∷ "     8 37 1   1   2   3   4   5 198  1"
      ∷ "    11 39 1   1   2   3   4   5 198  1"
      ∷ "    11     5 0"
      ∷ [])

-- There is just room: the lines of k items of the shortest kind fill it, and up to eight octets more ask for none.
abbrev pub JustRoom : ℕ → Type 0
JustRoom k = k ≤ most_items → (more : ℕ) → more < 9 → length (lines_of fresh_hub (flatten (replicate k short_beacon))) ≡ room_for (length (flatten (replicate k short_beacon)) + more)

-- "beyond 999,999": so many ticks are all counted; of one more, the last is left over
pub record Limit (ticks : ℕ) : Type 0 where
  pub most : ticks ≡ 999999 → log_of (replicate ticks 0x00) ≡ lines ("999999     0 0" ∷ [])
  pub beyond : ticks ≡ 1000000 → log_of (replicate ticks 0x00) ≡ lines ("999999     0 1" ∷ [])
