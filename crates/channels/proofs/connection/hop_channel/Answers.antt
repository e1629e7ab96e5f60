-- At each return the tests on the way pick the channel.
use mathlib.Core.Bool.{true, false}
use mathlib.Core.Path.{◌≡◌, sym, ◌∙◌}
use Rattle.std.proofs.Common.{ℕ, ◌≤◌, ◌%◌, Ok, arith, rules}
use native.Mathlib.Nat.{mod-lt}
use borrow.Author.Tests.{lt-ltb, le-ltb, ne_eqb}
use Rattle.channels.specs.Hop.{next, mapped, hopped}
use Rattle.channels.specs.Map.{marked, by_index}
use Rattle.channels.specs.Phy.{new_channel}
use Rattle.channels.specs.declared.channel_map.ChannelMap.{ChannelMap}
use Rattle.channels.specs.declared.phy.DataChannel.{DataChannel}
use Rattle.channels.proofs.connection.hop_channel.Goals as goal

module _ (map : ChannelMap) (u hop : ℕ) (low : u ≤ 36) (some : map.num_used_channels ≡ 0 → ⊥) (channel : DataChannel) where
  hopped_marked : marked map.raw (next u hop) ≡ true → Ok channel ≡ new_channel (next u hop)
      → Ok (record { unmapped = next u hop; channel = channel }) ≡ hopped map u hop
  unfolding mapped
  hopped_marked e is =
      let found = rw (le-ltb 36 (next u hop) (omega arith)) at is in
      rw (le-ltb 36 u low, ne_eqb map.num_used_channels 0 some, e) cc

  hopped_unmarked : marked map.raw (next u hop) ≡ false → Ok channel ≡ by_index map (next u hop % map.num_used_channels)
      → Ok (record { unmapped = next u hop; channel = channel }) ≡ hopped map u hop
  unfolding mapped
  hopped_unmarked e is =
      let n = map.num_used_channels in
      let found = rw (lt-ltb (next u hop % n) n (mod-lt (next u hop) (omega arith))) at is in
      rw (le-ltb 36 u low, ne_eqb n 0 some, e) cc

pub returns-in_ok-channel : goal.returns-in_ok-channel
returns-in_ok-channel c =
    let some : c.args.map.num_used_channels ≡ 0 → ⊥ = λ e. c.if-used-eq0.false (c.num_used_channels-used.ensures ∙ e) in
    hopped_marked c.args.map c.args.unmapped c.args.hop (search rules) some _ (sym c.is_marked.ensures ∙ c.if-is_marked.true) c.in_ok-channel.ensures

pub returns-in_ok-channel-2 : goal.returns-in_ok-channel-2
returns-in_ok-channel-2 c =
    let some : c.args.map.num_used_channels ≡ 0 → ⊥ = λ e. c.if-used-eq0.false (c.num_used_channels-used.ensures ∙ e) in
    let place = rw c.num_used_channels-used.ensures at c.in_ok-channel-2.ensures in
    hopped_unmarked c.args.map c.args.unmapped c.args.hop (search rules) some _ (sym c.is_marked.ensures ∙ c.if-is_marked.false) place
