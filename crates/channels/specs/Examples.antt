-- Worked values of channels, maps and hopping, each with where it comes from: `Examples`, proved by `Examples.examples`.
use Rattle.std.specs.Prelude.{true, false, [], ◌∷◌, map, ◌≡◌, ℕ, ◌%◌, eqb, Ok, Err}
use Rattle.octets.specs.Error.{number_of}
use Rattle.octets.specs.declared.error.Error.TheVariants.{EmptyMap, NoSuchChannel}
use Rattle.channels.specs.Count.{count, placed}
use Rattle.channels.specs.Hop.{hopped, handed}
use Rattle.channels.specs.Laws.{cycles, row_map}
use Rattle.channels.specs.Map.{marks, channel_at, from_raw, all_channels, is_used, by_index}
use Rattle.channels.specs.Phy.{whitening_start, index_of, first_channel, ascending, advertising_rf, advertising_frequency, advertising_whitening, data_frequency, data_whitening, new_channel}
use Rattle.channels.specs.declared.channel_map.ChannelMap.{ChannelMap}
use Rattle.channels.specs.declared.connection.Hop.{Hop}
use Rattle.channels.specs.declared.phy.AdvertisingChannel.TheVariants.{Channel37, Channel38, Channel39}
use Rattle.channels.specs.declared.phy.DataChannel.{DataChannel}

-- the data channel of an index, a hop to an unmapped channel and the index of the channel used, and the map of five octets
abbrev pub channel_of : ℕ → DataChannel
channel_of index = record { index = index }

abbrev pub hop_of : ℕ → ℕ → Hop
hop_of unmapped index = record { unmapped = unmapped; channel = channel_of index }

abbrev pub map_of : ℕ → ℕ → ℕ → ℕ → ℕ → ChannelMap
map_of a b c d e = from_raw (a ∷ b ∷ c ∷ d ∷ e ∷ [])

pub record Examples : Type 0 where
  -- document 01's table: the numbers of the two refusals
  pub number_6 : number_of EmptyMap ≡ 6
  pub number_8 : number_of NoSuchChannel ≡ 8
  -- document 01: the first is 37; "37, 38, 39, 37"
  pub cycle : index_of first_channel ∷ index_of (cycles 1 first_channel) ∷ index_of (cycles 2 first_channel) ∷ index_of (cycles 3 first_channel) ∷ [] ≡ 37 ∷ 38 ∷ 39 ∷ 37 ∷ []
  pub three : map index_of ascending ≡ 37 ∷ 38 ∷ 39 ∷ []
  -- the Core, Vol 6 Part B, 1.4.1: index, RF channel and MHz of the advertising channels; 3.2: whitening starts from the index
  pub channel_37 : index_of Channel37 ∷ advertising_rf Channel37 ∷ advertising_frequency Channel37 ∷ advertising_whitening Channel37 ∷ [] ≡ 37 ∷ 0 ∷ 2402 ∷ 0b1100101 ∷ []
  pub channel_38 : index_of Channel38 ∷ advertising_rf Channel38 ∷ advertising_frequency Channel38 ∷ advertising_whitening Channel38 ∷ [] ≡ 38 ∷ 12 ∷ 2426 ∷ 0b1100110 ∷ []
  pub channel_39 : index_of Channel39 ∷ advertising_rf Channel39 ∷ advertising_frequency Channel39 ∷ advertising_whitening Channel39 ∷ [] ≡ 39 ∷ 39 ∷ 2480 ∷ 0b1100111 ∷ []
  -- the same table: MHz and whitening start of the first and last data channels and of those around RF channel 12
  pub data_0 : data_frequency (channel_of 0) ∷ data_whitening (channel_of 0) ∷ [] ≡ 2404 ∷ 0b1000000 ∷ []
  pub data_10 : data_frequency (channel_of 10) ∷ data_whitening (channel_of 10) ∷ [] ≡ 2424 ∷ 0b1001010 ∷ []
  pub data_11 : data_frequency (channel_of 11) ∷ data_whitening (channel_of 11) ∷ [] ≡ 2428 ∷ 0b1001011 ∷ []
  pub data_36 : data_frequency (channel_of 36) ∷ data_whitening (channel_of 36) ∷ [] ≡ 2478 ∷ 0b1100100 ∷ []
  -- the example of 3.2
  pub whitening_23 : whitening_start 23 ≡ 0b1010111
  -- document 01's limit of data channels
  pub new_36 : new_channel 36 ≡ Ok (channel_of 36)
  pub new_37 : new_channel 37 ≡ Err NoSuchChannel
  -- "Bit b of octet k is channel 8k + b": the first and last bits of octets 0 and 1, the last channel, and what stands beside them
  pub bit_0 : is_used (map_of 0x01 0 0 0 0) 0 ≡ Ok true
  pub bit_0_only : is_used (map_of 0x01 0 0 0 0) 7 ≡ Ok false
  pub bit_15 : is_used (map_of 0 0x80 0 0 0) 15 ≡ Ok true
  pub bit_15_only : is_used (map_of 0 0x80 0 0 0) 8 ≡ Ok false
  pub bit_36 : is_used (map_of 0 0 0 0 0x10) 36 ≡ Ok true
  pub bit_36_only : is_used (map_of 0 0 0 0 0x10) 32 ≡ Ok false
  pub used_37 : is_used (map_of 0xff 0xff 0xff 0xff 0xff) 37 ≡ Err NoSuchChannel
  -- "The top 3 bits of octet 4 are cleared; the count is the number of ones left": before clearing, they would be 5 and 40
  pub top_bits : map_of 0x0A 0 0 0 0xE0 ≡ record { raw = row_map; num_used_channels = 2 }
  pub full : map_of 0xff 0xff 0xff 0xff 0xff ≡ all_channels
  pub all_37 : all_channels.num_used_channels ∷ marks all_channels.raw ∷ [] ≡ 37 ∷ 37 ∷ []
  -- places of the map 0A 00 00 00 00, of the full one and of the empty one: 8, and never 6
  pub place_0 : by_index (from_raw row_map) 0 ≡ Ok (channel_of 1)
  pub place_1 : by_index (from_raw row_map) 1 ≡ Ok (channel_of 3)
  pub place_2 : by_index (from_raw row_map) 2 ≡ Err NoSuchChannel
  pub place_36 : by_index all_channels 36 ≡ Ok (channel_of 36)
  pub place_37 : by_index all_channels 37 ≡ Err NoSuchChannel
  pub no_channel_37 : channel_at (0 ∷ 0 ∷ 0 ∷ 0 ∷ 0x20 ∷ []) 0 ≡ 0
  pub place_0_of_none : by_index (map_of 0 0 0 0 0) 0 ≡ Err NoSuchChannel
  -- what `hop_channel` answers on the way of document 01's row, map 0A 00 00 00 00 and hop 5; a marked channel, though 1 mod 2 is the place of 3;
  -- the low 5 bits of a hop octet; hop 0
  pub first_hop : hopped (from_raw row_map) 0 5 ≡ Ok (hop_of 5 3)
  pub second_hop : hopped (from_raw row_map) 5 5 ≡ Ok (hop_of 10 1)
  pub marked_hop : hopped (from_raw row_map) 0 1 ≡ Ok (hop_of 1 1)
  pub low_5_bits : hopped (from_raw row_map) 0 0b11100101 ≡ Ok (hop_of 5 3)
  pub hop_0 : hopped (from_raw row_map) 5 0 ≡ Ok (hop_of 5 3)
  pub over_36 : hopped all_channels 36 31 ≡ Ok (hop_of 30 30)
  -- octets with a count that does not agree with them hop elsewhere, or not at all
  pub disagreeing : hopped (record { raw = row_map; num_used_channels = 1 }) 0 5 ≡ Ok (hop_of 5 1)
  pub disagreeing_none : hopped (record { raw = row_map; num_used_channels = 0 }) 1 0 ≡ Err EmptyMap
  pub disagreeing_some : hopped (record { raw = 0 ∷ 0 ∷ 0 ∷ 0 ∷ 0 ∷ []; num_used_channels = 1 }) 0 5 ≡ Ok (hop_of 5 0)
  -- 8 before 6, on both sides of 36
  pub from_37 : hopped (from_raw row_map) 37 5 ≡ Err NoSuchChannel
  pub from_37_over_none : hopped (map_of 0 0 0 0 0xE0) 37 5 ≡ Err NoSuchChannel
  pub from_36_over_none : hopped (map_of 0 0 0 0 0xE0) 36 5 ≡ Err EmptyMap
  -- the next call goes on from the unmapped channel, not from the channel used, and after a refusal from where it was
  pub handed_on_law : handed 5 (Ok (hop_of 10 1)) ≡ 10
  pub handed_back : handed 5 (Err EmptyMap) ≡ 5
  -- of 0 to 4 three are even; the second of them is 2, and there is no fourth
  pub evens : count (λ j. eqb (j % 2) 0) 5 ∷ placed (λ j. eqb (j % 2) 0) 5 1 ∷ placed (λ j. eqb (j % 2) 0) 5 3 ∷ [] ≡ 3 ∷ 2 ∷ 0 ∷ []
