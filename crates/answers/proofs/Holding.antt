-- All laws of this crate. Assumes nothing.
use Rattle.answers.specs.Laws.{Holds}
use Rattle.answers.proofs.Laws.{numbers, kinds, passing, packets, accuracies}

pub holds : Holds
holds =
    record {
      numbers = numbers;
      kinds = kinds;
      passing = passing;
      packets = packets;
      accuracies = accuracies;
    }
