-- The worked values, by computation. Assumes nothing.
use mathlib.Core.Path.{refl}
use Rattle.columns.specs.Column.{leading, column, digits, read_decimal}
use Rattle.columns.specs.Examples.{Examples}
use Rattle.columns.specs.Row.{row_of, read_column, read_row}
use Rattle.columns.specs.Table.{columns_from, octet_columns, octet_from, octets_from}
use Rattle.columns.specs.Text.{ascii, lines}

pub examples : Examples
unfolding leading column digits read_decimal row_of read_column read_row ascii lines columns_from octet_columns octet_from octets_from
examples =
    record {
      characters = refl;
      text_lines = refl;
      kind = refl;
      octet = refl;
      records = refl;
      number = refl;
      too_long = refl;
      no_width = refl;
      ten = refl;
      row = refl;
      read = refl;
      full = refl;
      lost = refl;
      octets = refl;
    }
