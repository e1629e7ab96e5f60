-- All laws of this crate. Assumes nothing.
use Rattle.decode.specs.Laws.{Holds}
use Rattle.decode.proofs.Laws.{decodes}

pub holds : Holds
holds =
    record {
      decodes = decodes;
    }
