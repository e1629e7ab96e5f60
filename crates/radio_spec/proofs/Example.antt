-- Lists of calls by computation: `example`, `title_example`, `limits`, `long`. Assumes nothing.
use mathlib.Core.List.{flatten}
use mathlib.Core.Path.{refl}
use Rattle.channels.specs.Count.{count, placed}
use Rattle.channels.specs.Hop.{mapped}
use Rattle.channels.specs.Map.{marked, marks, channel_at, cleared}
use Rattle.records_spec.specs.Area.{cut, reads, with_first, area_of, read_area, clean, rewritten}
use Rattle.records_spec.specs.Record.{flags_read, uuids_read, data_read, up_to, record_read, first}
use Rattle.flags.specs.Flags.{named}
use Rattle.addresses.specs.Address.{same_address}
use Rattle.addresses.specs.Header.{pdu_type}
use Rattle.advertising.specs.Pdu.{ll_data_of, directed, connect_request, by_type, decode_by}
use Rattle.advertising.specs.PduBuf.{buf_of, after_reading, with_records}
use Rattle.settings.specs.Ranges.{in_ranges}
use Rattle.settings.specs.Settings.{taken_of}
use Rattle.radio_spec.specs.Calls.{is_for, connects_to, addressed, hops, start_of, start_after, tick_of, tick_after, packet_of, packet_after, event_of}
use Rattle.radio_spec.specs.Examples.{Example, TitleExample, Limits, Long}
use Rattle.radio_spec.specs.SoFar.{refused_by, start_number, scan_data_number, then_call, requested, connects}
use Rattle.radio_spec.specs.Trace.{trace, tick_run, event_run, hear_run}

pub example : Example
unfolding flatten count placed mapped marked marks channel_at cleared cut reads area_of read_area rewritten same_address pdu_type ll_data_of connect_request by_type decode_by buf_of after_reading with_records taken_of in_ranges is_for connects_to addressed hops start_of start_after tick_of tick_after packet_of event_of trace named flags_read uuids_read data_read up_to record_read first with_first clean
example = record { answers = refl; channel_1 = refl; channel_3 = refl; octets = refl }

pub title_example : TitleExample
unfolding flatten cut reads area_of read_area rewritten same_address pdu_type directed by_type decode_by buf_of after_reading with_records is_for addressed start_of start_after tick_of tick_after packet_of packet_after trace named flags_read uuids_read data_read up_to record_read first with_first clean
title_example = record { answers = refl; octets = refl }

pub limits : Limits
unfolding flatten count placed mapped marked marks channel_at cleared cut reads area_of read_area rewritten same_address pdu_type ll_data_of directed connect_request by_type decode_by buf_of after_reading with_records taken_of in_ranges is_for connects_to addressed hops start_of start_after tick_of tick_after packet_of packet_after event_of trace named flags_read uuids_read data_read up_to record_read first with_first clean
limits = record { answers = refl; octets = refl; longest = refl }

pub long : Long
unfolding flatten count placed mapped marked marks channel_at cleared cut reads area_of read_area rewritten same_address pdu_type ll_data_of directed connect_request by_type decode_by buf_of after_reading with_records taken_of in_ranges is_for connects_to addressed hops start_of start_after tick_of tick_after packet_of packet_after event_of trace named flags_read uuids_read data_read up_to record_read first with_first clean tick_run event_run hear_run refused_by start_number scan_data_number then_call requested connects
long = record { before = refl; first = refl; events = refl; runs = refl; after = refl }
