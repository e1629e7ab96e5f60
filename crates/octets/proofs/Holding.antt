-- All laws of this crate. Assumes nothing.
use Rattle.octets.specs.Laws.{Holds}
use Rattle.octets.proofs.Answers.{enough, too_few, at_front_law, outcome_says, truncates, left}
use Rattle.octets.proofs.Examples.{examples}
use Rattle.octets.proofs.Laws.{parts, written_keeps, read_back, later_is, elapsed}
use Rattle.octets.proofs.Numbers.{field, least_first, most_first, full_is, uuid_numbers}
use Rattle.octets.proofs.PartOf.{part_is}

pub holds : Holds
holds = record {
  parts = parts;
  written_keeps = written_keeps;
  field = field;
  read_back = read_back;
  enough = enough;
  too_few = too_few;
  at_front_law = at_front_law;
  outcome_says = outcome_says;
  truncates = truncates;
  left = left;
  least_first = least_first;
  most_first = most_first;
  full_is = full_is;
  uuid_numbers = uuid_numbers;
  later_is = later_is;
  elapsed = elapsed;
  part_is = part_is;
  examples = examples;
}
