-- Worked evenings: `examples`, by computation. Assumes nothing.
use mathlib.Core.List.{flatten}
use mathlib.Core.Path.{refl}
use Rattle.records_spec.specs.Area.{cut, reads, with_first, area_of, read_area}
use Rattle.records_spec.specs.HubReading.{before_zero, unpadded, is_zeros, ended_by, read_padded, area_in}
use Rattle.records_spec.specs.Record.{first, flags_read, data_read, up_to, record_read}
use Rattle.records_spec.specs.Search.{first_where, searched}
use Rattle.addresses.specs.Address.{same_address}
use Rattle.addresses.specs.Header.{pdu_type}
use Rattle.advertising.specs.Pdu.{decode_by, by_type, undirected, with_area}
use Rattle.beacon_spec.specs.Scanner.{scanned, sighted}
use Rattle.columns.specs.Column.{leading, column}
use Rattle.columns.specs.Row.{row_of}
use Rattle.columns.specs.Text.{ascii, lines}
use Rattle.items.specs.Item.{size_of}
use Rattle.hub_spec.specs.Log.{heard_in, scanner_after}
use Rattle.book_spec.specs.Book.{empty_address, fresh_book, seat_number_from, is_filled, open_at, closed_at, with_seat, seat_call, with_open, kept_at, taken, heard_as, report_call, next_turn, close_call}
use Rattle.book_spec.specs.Moves.{move_of, no_move, is_move, move_in, heard_at}
use Rattle.club_spec.specs.Examples.{Examples}
use Rattle.club_spec.specs.Item.{own_size, club_size, whole_item, club_items, after_club}
use Rattle.club_spec.specs.Log.{calls_for, reply_line, club_line, club_after, club_lines, club_after_all, end_line, club_log}

pub examples : Examples
unfolding flatten cut reads with_first area_of read_area before_zero unpadded is_zeros ended_by read_padded area_in first flags_read data_read up_to record_read first_where searched same_address pdu_type decode_by by_type undirected with_area scanned sighted leading column row_of ascii lines size_of heard_in scanner_after empty_address fresh_book seat_number_from is_filled open_at closed_at with_seat seat_call with_open kept_at taken heard_as report_call next_turn close_call move_of no_move is_move move_in heard_at own_size club_size whole_item club_items after_club calls_for reply_line club_line club_after club_lines club_after_all end_line club_log
examples =
    record {
      short = refl;
      long = refl;
      empty = refl;
      whole = refl;
      cut_short = refl;
      left_over_law = refl;
    }
