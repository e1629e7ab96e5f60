-- A hub and what its calls return, read as records of the specification: the contracts of src/ say of each which record it is.
--   hub_state h                       == the hub h, whose fields are private
--   logged_step, block_step, taken_step == what logging items, a block and taking octets in return
--   Whole                            == nothing is left out: what is read as the same is the same
--   AsItIs                           == what callers see is read as it is: the numbers of a block, whether reading stops, and a refusal as one
use Rattle.std.specs.Prelude.{◌≡◌, Option, None, Some, option_map}
use Rattle.beacon.specs.State.{scanner_state}
use Rattle.hub_spec.specs.State as spec
use Rattle.hub.specs.declared.log.Hub.{Hub}
use Rattle.hub.specs.declared.log.Logged.{Logged}
use Rattle.hub.specs.declared.log.Block.{Block}

abbrev pub hub_state : Hub → spec.Hub
hub_state h = record { items = h.items; reports = h.reports; scanner = scanner_state h.scanner }

abbrev pub logged_step : Logged → spec.Logged
logged_step r = record { hub = hub_state r.hub; taken = r.taken; written = r.written }

abbrev pub block_step : Block → spec.Block
block_step r = record { hub = hub_state r.hub; written = r.written; kept = r.kept; is_stopped = r.is_stopped }

abbrev pub taken_step : Option Block → Option spec.Block
taken_step r = option_map block_step r

pub record Whole : Type 0 where
  pub hub : (a b : Hub) → hub_state a ≡ hub_state b → a ≡ b
  pub block : (a b : Block) → block_step a ≡ block_step b → a ≡ b
  pub taken : (a b : Option Block) → taken_step a ≡ taken_step b → a ≡ b

pub record AsItIs : Type 0 where
  pub hub : (r : Block) → (block_step r).hub ≡ hub_state r.hub
  pub written : (r : Block) → (block_step r).written ≡ r.written
  pub kept : (r : Block) → (block_step r).kept ≡ r.kept
  pub stopped : (r : Block) → (block_step r).is_stopped ≡ r.is_stopped
  pub block : (r : Block) → taken_step (Some r) ≡ Some (block_step r)
  pub refused : taken_step None ≡ None
