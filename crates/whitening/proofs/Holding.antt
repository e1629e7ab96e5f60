-- All laws of this crate. Assumes nothing.
use Rattle.whitening.specs.Laws.{Holds}
use Rattle.whitening.proofs.Dividing.{divides}
use Rattle.whitening.proofs.Errors.{checks}
use Rattle.whitening.proofs.Examples.{examples}
use Rattle.whitening.proofs.Heard.{hears}
use Rattle.whitening.proofs.Cycle.{one_cycle}
use Rattle.whitening.proofs.Kept.{kept}
use Rattle.whitening.proofs.Limits.{refusing, starting}
use Rattle.whitening.proofs.Numbers.{numbers}
use Rattle.whitening.proofs.Polynomials.{polynomials}
use Rattle.whitening.proofs.Recurring.{recurs}
use Rattle.whitening.proofs.Starts.{starts}
use Rattle.whitening.proofs.Whitens.{whitens}

pub holds : Holds
holds = record {
  polynomials = polynomials;
  starts = starts;
  recurs = recurs;
  whitens = whitens;
  divides = divides;
  numbers = numbers;
  checks = checks;
  refusing = refusing;
  starting = starting;
  hears = hears;
  one_cycle = one_cycle;
  kept = kept;
  examples = examples;
}
