use Rattle.std.proofs.Common.{ap, ◌∙◌, List, ℕ, length}
use Rattle.columns.specs.Table.{number_from}
use Rattle.columns.proofs.Printed.{printed}
use Rattle.columns.proofs.put_column.Goals as goal

pub returns : goal.returns
returns c =
    c.put_number_from.ensures
    ∙ ap (λ (table : List ℕ). number_from table (length c.args.out.now) c.args.n) c.octets.ensures
    ∙ printed.number _ _
