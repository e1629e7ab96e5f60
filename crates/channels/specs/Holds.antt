-- Holds (Holding.holds): all laws of this crate, with what they assume. Those of specs/Laws that stand here without arguments are for all of theirs there.
use Rattle.std.specs.Prelude.{List, ℕ}
use Rattle.channels.specs.Laws.{Cycling, InTurn, DataTable, DataFrequencies, DataChannels, Stepping, Unmapping, Standing, Whitening, Making, Ones, Clearing, Marking, Using, Placing, Finding, FairShares, OneHop, Hopping, Running}
use Rattle.channels.specs.Examples.{Examples}
use Rattle.channels.specs.declared.channel_map.ChannelMap.{ChannelMap}
use Rattle.channels.specs.declared.phy.DataChannel.{DataChannel}

pub record Holds : Type 0 where
  pub once_each : Cycling
  pub in_turn : InTurn
  pub data_table : DataTable
  pub data_frequencies : (c : DataChannel) → DataFrequencies c
  pub new_is : (index : ℕ) → DataChannels index
  pub once : Stepping
  pub unmapped_is : Unmapping
  pub stands : Standing
  pub whitening : Whitening
  pub made_agrees : Making
  pub cleared_ones : Ones
  pub clears : (octets : List ℕ) → Clearing octets
  pub marked_is : (raw : List ℕ) (k b : ℕ) → Marking raw k b
  pub used_is : (map : ChannelMap) → Using map
  pub at_place : Placing
  pub found_is : (map : ChannelMap) (i : ℕ) → Finding map i
  pub fair : FairShares
  pub one_hop : (map : ChannelMap) (u hop c : ℕ) → OneHop map u hop c
  pub hop_on : Hopping
  pub run : Running
  pub examples : Examples
