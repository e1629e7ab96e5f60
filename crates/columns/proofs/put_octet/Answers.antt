use Rattle.std.proofs.Common.{ap, ◌∙◌, List, ℕ, length}
use Rattle.columns.specs.Table.{octet_from}
use Rattle.columns.proofs.Printed.{octet}
use Rattle.columns.proofs.put_octet.Goals as goal

pub returns : goal.returns
returns c =
    c.put_octet_from.ensures
    ∙ ap (λ (table : List ℕ). octet_from table (length c.args.out.now) c.args.octet) c.octets.ensures
    ∙ octet _ _ c.ranges.octet.fits
