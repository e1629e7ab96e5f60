-- Worked histories: `examples`, by computation. Assumes nothing.
use mathlib.Core.List.{flatten}
use mathlib.Core.Path.{refl}
use Rattle.records_spec.specs.Area.{cut, reads, with_first, area_of, read_area}
use Rattle.records_spec.specs.HubReading.{before_zero, unpadded, is_zeros, ended_by, read_padded}
use Rattle.records_spec.specs.Record.{data_read, up_to, record_read}
use Rattle.records_spec.specs.Search.{first_where, searched}
use Rattle.addresses.specs.Address.{same_address}
use Rattle.book_spec.specs.Book.{empty_address, fresh_book, seat_number_from, is_filled, open_at, closed_at, with_seat, seat_call, with_open, kept_at, taken, heard_as, report_call, next_turn, close_call, read_seat_call}
use Rattle.book_spec.specs.Examples.{Examples}
use Rattle.book_spec.specs.Moves.{move_of, no_move, is_move, move_in, heard_at}

pub examples : Examples
unfolding cut reads with_first area_of read_area before_zero unpadded is_zeros ended_by read_padded flatten data_read up_to record_read first_where searched same_address empty_address fresh_book seat_number_from is_filled open_at closed_at with_seat seat_call with_open kept_at taken heard_as report_call next_turn close_call read_seat_call move_of no_move is_move move_in heard_at
examples =
    record {
      history = refl;
      four = refl;
      five = refl;
      twenty_four = refl;
      twenty_five = refl;
      passed_over = refl;
      high_company = refl;
      high_turn = refl;
      another_type = refl;
      company_first = refl;
      turn_first = refl;
      two_moves = refl;
      padding = refl;
      after_padding = refl;
      bad_after_move = refl;
      unknown = refl;
      unknown_bad = refl;
      other_kind = refl;
      seats = refl;
      full_book = refl;
      places = refl;
      last_turn = refl;
    }
