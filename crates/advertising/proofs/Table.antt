-- The starred rows of document 01, by computation: `table`. Assumes nothing.
use mathlib.Core.List.{flatten}
use Rattle.std.proofs.Common.{refl}
use Rattle.channels.specs.Count.{count, placed}
use Rattle.channels.specs.Hop.{unmapped, mapped, event_channel, uses}
use Rattle.channels.specs.Map.{marked, marks, channel_at}
use Rattle.records_spec.specs.Area.{cut, reads, with_first, area_of, read_area, clean, rewritten, may_rewrite, rewritten_after}
use Rattle.records_spec.specs.Record.{flags_read, uuids_read, data_read, up_to, record_read, first, record_at}
use Rattle.flags.specs.Flags.{named}
use Rattle.addresses.specs.Header.{pdu_type}
use Rattle.advertising.specs.Pdu.{with_area, undirected, by_type, decode_by}
use Rattle.advertising.specs.Table.{Table}

pub table : Table
unfolding flatten count placed unmapped mapped event_channel uses marked marks channel_at cut reads with_first area_of read_area clean rewritten may_rewrite rewritten_after named flags_read uuids_read data_read up_to record_read first record_at pdu_type with_area undirected by_type decode_by
table =
    record {
      row_1 = refl;
      row_2 = refl;
      row_3 = λ a b c d e f. refl;
      row_4 = λ a b c d e f. refl;
      row_5 = λ a b c d e. refl;
      row_6 = λ a b c d e f. refl;
      row_7 = refl;
      row_7_rewritten = refl;
      row_8 = refl;
      row_9 = refl;
      row_10 = refl;
      row_11 = refl;
      row_11_counts = refl;
    }
