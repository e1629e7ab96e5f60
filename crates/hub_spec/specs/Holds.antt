-- Holds (Holding.holds): all laws of this crate, with what they assume.
use Rattle.std.specs.Prelude.{Bool, List, ◌≡◌, ℕ}
use Rattle.channels.specs.declared.phy.AdvertisingChannel.{AdvertisingChannel}
use Rattle.addresses.specs.declared.device_address.DeviceAddress.{DeviceAddress}
use Rattle.addresses.specs.declared.filter.AddressFilter.TheVariants.{AllowAll}
use Rattle.hub_spec.specs.Examples.{Examples}
use Rattle.hub_spec.specs.Log.{Sizes}
use Rattle.hub_spec.specs.Reads.{AnyReads, BlockTaken}
use Rattle.hub_spec.specs.Reported.{Reported, Continued, Rowed, Added, Stopping}
use Rattle.hub_spec.specs.Sample.{Sample, JustRoom, Limit}
use Rattle.hub_spec.specs.State.{Hub}

pub record Holds : Type 0 where
  pub sizes : Sizes
  pub any_reads : AnyReads
  pub block_taken : (h : Hub) (s : List ℕ) (isEnd : Bool) → BlockTaken h s isEnd
  pub reported : (s : List ℕ) → Reported s
  -- a hub that lets all senders pass, as the program's does
  pub continued : (h : Hub) (s : List ℕ) (passing : h.scanner.filter.scan ≡ AllowAll) → Continued h s passing
  pub rowed : (h : Hub) (n : ℕ) → Rowed h n
  pub added : (k : ℕ) (c : AdvertisingChannel) (sender : DeviceAddress) (n : ℕ) → Added k c sender n
  pub stopping : (h : Hub) (s : List ℕ) → Stopping h s
  pub sample : Sample
  pub just_room : (k : ℕ) → JustRoom k
  pub limit : (ticks : ℕ) → Limit ticks
  pub examples : Examples
