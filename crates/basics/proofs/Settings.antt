-- The worked values hold of the definitions. Computed. Assumes nothing.
use mathlib.Core.Path.{refl}
use Rattle.basics.specs.Settings.{Examples}

pub examples : Examples
examples = record { told = refl; empty = refl; outside = refl }
