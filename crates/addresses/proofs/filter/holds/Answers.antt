use Rattle.std.proofs.Common.{rules, ap, ◌∙◌, ◌&&◌, nat_eq}
use lib.Pointwise.{pointwise}
use denote.Enum.Bare.{sameb}
use Rattle.addresses.specs.contracts.device_address.AddressKind.{the_type}
use Rattle.addresses.specs.Address.{same_address}
use Rattle.addresses.specs.Filter.{entry_is, entry_at}
use Rattle.addresses.proofs.Addresses.{compared}
use Rattle.addresses.proofs.Chains.{chain_any, entry_in}
use Rattle.addresses.proofs.filter.holds.Goals as goal

pub returns : goal.returns
returns c =
    let xs = c.args.list.now in
    let a = c.args.address in
    chain_any c.chunks_exact.result _ _ xs (λ entry. pointwise nat_eq (entry_at entry 0).bytes a.bytes && sameb the_type (entry_at entry 0).kind a.kind) (entry_is xs a) _ c.any.ensures.runs (λ q from. search rules) (λ x b q k. search rules)
    (λ k h. compared _ a ∙ ap (λ e. same_address e a) (entry_in xs k h))
