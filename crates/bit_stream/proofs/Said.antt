-- The worked values and the law hold of the definition. Computed. Assumes nothing.
use mathlib.Core.Path.{refl}
use Rattle.bit_stream.specs.Said.{Examples, FlagSays}

pub examples : Examples
examples = record { told = refl; refused = refl }

pub says : FlagSays
says = record { is = λ good. refl; is_refused = λ e. refl }
