-- The constant is what is kept.
use mathlib.Core.Path.{refl}
use Rattle.whitening.specs.Kept.{kept_places}
use Rattle.whitening.proofs.table.places.Goals as goal

pub returns : goal.returns
unfolding kept_places
returns c = refl
