-- Worked values: `codes` and `examples`, by computation.
-- Assumes nothing.
use mathlib.Core.Path.{refl}
use mathlib.Core.List.{flatten}
use Rattle.utf8.specs.Utf8.{row_in, utf8_after}
use Rattle.records_spec.specs.Record.{record_of, flags_read, uuids_read, name_read, number_read, data_read, kind_read, up_to, record_read, first, record_at, lent_read, known_read}
use Rattle.flags.specs.Flags.{named}
use Rattle.records_spec.specs.Uuids.{uuid16_at}
use Rattle.records_spec.specs.Write.{data_of, may_write, record_octets, written_to, written_after}
use Rattle.records_spec.specs.Area.{cut, reads, with_first, area_of, read_area, clean, rewritten, may_rewrite, rewritten_to, rewritten_after}
use Rattle.records_spec.specs.Examples.{RecordCodes, Examples}

pub codes : RecordCodes
unfolding named
codes =
    record {
      limited = refl;
      general = refl;
      classic = refl;
      controller = refl;
      host = refl;
      kept = refl;
      start = refl;
      beacon = refl;
      types = refl;
    }

pub examples : Examples
unfolding row_in utf8_after record_of named flags_read uuids_read name_read number_read data_read kind_read up_to record_read first record_at lent_read known_read uuid16_at data_of may_write record_octets written_to written_after cut reads with_first area_of read_area clean rewritten may_rewrite rewritten_to rewritten_after flatten
examples =
    record {
      flags = refl;
      incomplete16 = refl;
      complete16 = refl;
      incomplete32 = refl;
      complete32 = refl;
      incomplete128 = refl;
      complete128 = refl;
      shortened = refl;
      complete = refl;
      service = refl;
      company = refl;
      other = refl;
      flags_read_law = refl;
      incomplete16_read = refl;
      complete16_read = refl;
      left = refl;
      name_left = refl;
      incomplete32_read = refl;
      complete32_read = refl;
      incomplete128_read = refl;
      complete128_read = refl;
      shortened_read = refl;
      complete_read = refl;
      service_read = refl;
      company_read = refl;
      other_read = refl;
      type_00 = refl;
      type_15 = refl;
      type_17 = refl;
      type_fe = refl;
      bad_shortened = refl;
      bad_complete = refl;
      short_service = refl;
      short_company = refl;
      three_of_32 = refl;
      six_of_32 = refl;
      fifteen_of_128 = refl;
      seventeen_of_128 = refl;
      flags_on = refl;
      two_flags_on = refl;
      incomplete16_on = refl;
      complete16_on = refl;
      three_of_16 = refl;
      not_lent_on = refl;
      lent_on = refl;
      at_the_end = refl;
      past_the_end = refl;
      uuid = refl;
      uuids_end = refl;
      uuid_cut = refl;
      uuid_past = refl;
      not_lent_name = refl;
      name_no_space = refl;
      name_long = refl;
      list16_no_space = refl;
      list16_long = refl;
      list32_long = refl;
      list128_long = refl;
      long_no_space = refl;
      long = refl;
      list_long = refl;
      list_long_no_space = refl;
      good_name_long = refl;
      good_name_no_space = refl;
      longest = refl;
      longest_no_space = refl;
      company_long = refl;
      company_longest = refl;
      own_two = refl;
      own_one = refl;
      own_none = refl;
      own_most = refl;
      name_fine = refl;
      name_bad = refl;
      units_fine = refl;
      units_bad = refl;
      at_two = refl;
      at_two_ends = refl;
      at_four = refl;
      past_out = refl;
      flags_area_law = refl;
      list_area = refl;
      each_read = refl;
      no_area = refl;
      cut_short = refl;
      two_flags = refl;
      rewritten_area = refl;
      rewritten_ends = refl;
      no_room = refl;
      no_room_kept = refl;
      bad_no_room = refl;
    }
