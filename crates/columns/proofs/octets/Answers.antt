-- By computation.
use Rattle.std.proofs.Common.{refl}
use Rattle.columns.specs.Column.{leading, column}
use Rattle.columns.specs.Table.{columns_from, octet_columns}
use Rattle.columns.proofs.octets.Goals as goal

pub returns : goal.returns
unfolding leading column columns_from octet_columns
returns c = refl
