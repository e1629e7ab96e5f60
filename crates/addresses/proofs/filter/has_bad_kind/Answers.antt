use Rattle.std.proofs.Common.{rules, tests}
use Rattle.addresses.specs.Filter.{bad_kind}
use Rattle.addresses.proofs.Chains.{chain_any, kind_in}
use Rattle.addresses.proofs.filter.has_bad_kind.Goals as goal

pub returns : goal.returns
returns c =
    let xs = c.args.list.now in
    chain_any c.chunks_exact.result _ _ xs (λ entry. bad_kind entry 0) (bad_kind xs) _ c.any.ensures.runs (λ q from. search rules) (λ x b q k. search (rules, tests)) (λ k h. rw (kind_in xs k h))
