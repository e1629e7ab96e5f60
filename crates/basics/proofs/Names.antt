-- The worked values hold of the definitions. Computed. Assumes nothing.
use mathlib.Core.Path.{refl}
use Rattle.basics.specs.Names.{Examples}

pub examples : Examples
examples = record { told = refl; refused = refl }
