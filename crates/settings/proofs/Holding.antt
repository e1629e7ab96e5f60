-- All laws of this crate. Assumes nothing.
use mathlib.Core.Path.{refl}
use Rattle.settings.specs.Settings.{AsItIs, Holds}
use Rattle.settings.proofs.Ranges.{tests, in_time, least_kept, settles, alone, limits}

-- The code's settings are read as they are.
pub as_it_is : AsItIs
as_it_is = record {
  hop = λ s. refl;
  chm = λ s. refl;
  interval = λ s. refl;
  latency = λ s. refl;
  timeout = λ s. refl;
  win_size = λ s. refl;
  win_offset = λ s. refl;
  taken = λ s. refl;
  refused = λ e. refl;
}

pub holds : Holds
holds = record {
  tests = tests;
  in_time = in_time;
  least_kept = least_kept;
  settles = settles;
  alone = alone;
  limits = limits;
  as_it_is = as_it_is;
}
