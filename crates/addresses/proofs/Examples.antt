-- The worked values hold of the definitions. Computed. Assumes nothing.
use mathlib.Core.Path.{refl}
use Rattle.addresses.specs.Address.{same_address}
use Rattle.addresses.specs.Examples.{Examples}
use Rattle.addresses.specs.Filter.{any, whitelisted}
use Rattle.addresses.specs.Header.{pdu_type}

pub examples : Examples
unfolding same_address any whitelisted pdu_type
examples = record {
  number_1 = refl;
  number_3 = refl;
  number_4 = refl;
  number_7 = refl;
  kind_public = refl;
  kind_random = refl;
  of_random = refl;
  of_public = refl;
  is_random_law = refl;
  is_public = refl;
  octets = refl;
  same = refl;
  other_kind = refl;
  other_last = refl;
  other_first = refl;
  listed = refl;
  listed_public = refl;
  listed_second = refl;
  listed_second_public = refl;
  listed_first = refl;
  other_listed = refl;
  none_listed = refl;
  list_of_6 = refl;
  list_of_8 = refl;
  kind_2 = refl;
  kind_2_behind = refl;
  all_pass = refl;
  all_scan = refl;
  none_connect = refl;
  none_scan = refl;
  all_connect = refl;
  parse_0 = refl;
  parse_1 = refl;
  parse_2 = refl;
  parse_3 = refl;
  from_0 = refl;
  from_1 = refl;
  from_2 = refl;
  from_2_at_1 = refl;
  from_3_at_1 = refl;
  sent = refl;
  row_type = refl;
  row_tx = refl;
  row_rx = refl;
  row_length = refl;
  bit_3 = refl;
  bit_4 = refl;
  bit_5 = refl;
  bit_7 = refl;
  bits_6_7 = refl;
  bit_8 = refl;
  bit_13 = refl;
  bit_14 = refl;
  tx_on = refl;
  tx_off = refl;
  rx_on = refl;
  rx_off = refl;
  length_5 = refl;
  length_6 = refl;
  length_37 = refl;
  length_38 = refl;
  new_5 = refl;
}
