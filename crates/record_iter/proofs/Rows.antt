-- Two records, one after the other: `rows`, by computation.
-- Assumes nothing.
use mathlib.Core.Path.{refl}
use mathlib.Core.List.{List}
use Prim.Native.Nat.{ℕ}
use denote.Ref.{Bor}
use Rattle.records_spec.specs.Record.{flags_read, uuids_read, data_read, up_to, record_read, first, record_at}
use Rattle.flags.specs.Flags.{named}
use Rattle.record_iter.specs.Laws.{moved_by, IterRows}

pub rows : (r : Bor (List ℕ)) → IterRows r
unfolding named flags_read uuids_read data_read up_to record_read first record_at moved_by
rows r = record { flags = refl; left = refl; list = refl; end = refl; stays = refl }
