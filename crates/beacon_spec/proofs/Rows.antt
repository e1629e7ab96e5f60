-- Document 01's row, heard by a scanner that accepts all: `row`; worked values: `examples`. Computed. Assumes nothing.
use mathlib.Core.List.{flatten}
use mathlib.Core.Path.{refl}
use Rattle.addresses.specs.Address.{same_address}
use Rattle.addresses.specs.Filter.{any, whitelisted}
use Rattle.addresses.specs.Header.{pdu_type}
use Rattle.advertising.specs.Pdu.{decode_by, by_type, undirected, with_area}
use Rattle.records_spec.specs.Area.{cut, reads, with_first, area_of, read_area}
use Rattle.records_spec.specs.HubReading.{before_zero, unpadded, is_zeros, ended_by, read_padded, area_in}
use Rattle.records_spec.specs.Record.{first, flags_read, data_read, up_to, record_read}
use Rattle.flags.specs.Flags.{named}
use Rattle.beacon_spec.specs.Laws.{run, BeaconRow, Examples}
use Rattle.beacon_spec.specs.Scanner.{sighted, scanned}

pub row : BeaconRow
unfolding scanned sighted decode_by by_type undirected with_area pdu_type read_padded ended_by is_zeros unpadded before_zero area_in flatten read_area area_of reads with_first cut first record_read data_read flags_read up_to named
row = record { row_42_09 = λ list. refl; records = refl }

pub examples : Examples
unfolding run scanned sighted whitelisted any same_address decode_by by_type undirected with_area pdu_type read_padded ended_by is_zeros unpadded before_zero area_in flatten read_area area_of reads with_first cut first record_read data_read flags_read up_to named
examples =
    record {
      lists = refl;
      bad_lists = refl;
      crc = refl;
      type_0 = refl;
      decoding = refl;
      all_pass = refl;
      zeros = λ list. refl;
      another = refl;
      numbers = refl;
      reported = refl;
      channels = refl;
      unconfigured = refl;
      with_list = refl;
      list_channels = refl;
      list_unconfigured = refl;
      instants = refl;
    }
