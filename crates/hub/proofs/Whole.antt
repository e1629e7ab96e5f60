-- Reading a hub and what its calls return as records leaves nothing out (`whole`) and changes nothing that callers see (`as_it_is`). Assumes nothing.
use mathlib.Core.Path.{◌≡◌, refl, sym, ap, ◌∙◌}
use Rattle.std.specs.Prelude.{Option, None, Some, option_map}
use Rattle.hub_spec.specs.State as spec
use Rattle.hub.specs.State.{taken_step, Whole, AsItIs}
use Rattle.hub.specs.declared.log.Hub.{Hub}
use Rattle.hub.specs.declared.log.Block.{Block}

-- what is read as a record, from that record
abbrev hub_of : spec.Hub → Hub
hub_of h =
    record {
      items = h.items;
      reports = h.reports;
      scanner = record { filter = h.scanner.filter; interval = h.scanner.interval; channel = h.scanner.channel };
    }

abbrev block_of : spec.Block → Block
block_of r = record { hub = hub_of r.hub; written = r.written; kept = r.kept; is_stopped = r.is_stopped }

again : (r : Option Block) → option_map block_of (taken_step r) ≡ r
again (Some t) = refl
again None = refl

pub whole : Whole
whole =
    record {
      hub = λ a b same. ap hub_of same;
      block = λ a b same. ap block_of same;
      taken = λ a b same. sym (again a) ∙ (ap (option_map block_of) same ∙ again b);
    }

pub as_it_is : AsItIs
as_it_is = record { hub = λ r. refl; written = λ r. refl; kept = λ r. refl; stopped = λ r. refl; block = λ r. refl; refused = refl }
