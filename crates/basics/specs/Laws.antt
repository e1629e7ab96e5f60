-- What becomes of each number, written out over all values: no number is dropped, cut or put in the place of another.
--   Areas at                 (Laws.areas)      the numbers of an area, of one that the hub reads, and of a UUID in a list
--   Structures next          (Laws.structures) the numbers of a record of each kind, with the position after it
--   Readings s               (Laws.readings)   those of what was read, and read on
--   FlagsSay x               (Laws.flags_say)  each answer by its own bit of the octet
--   Names                    (Laws.names)      a name's place
--   SettingsSay s            (Laws.taking)     each setting
--   PartsGot octets next e   (Laws.parts)      octets that were read, and the position after them; zeros where they were refused
--   Reads                    (Laws.reads)      numbers, UUIDs and headers that were read, with the position after them; octets that were written
--   Headers h out at         (Laws.headers)    a header that is written, or not
--   Channels                 (Laws.channels)   what there is to say of a channel; the answers of a map
--   CyclesGot                (Laws.turns)      the advertising channel after so many cycles
--   Filters                  (Laws.filters)    the filter of a scanner
--   Holds (Holding.holds): all of these, with what they assume; worked values are in specs/Names and specs/Settings
use Rattle.std.specs.Prelude.{Bool, true, false, List, [], ◌∷◌, ◌≡◌, ℕ, ◌+◌, ◌/◌, ◌%◌, ◌<◌, ◌≤◌, eqb, length, Ok, Err, Some, None}
use Rattle.octets.specs.Bytes.{out_after}
use Rattle.octets.specs.Error.{number_of}
use Rattle.octets.specs.declared.bytes.ByteReader.{ByteReader}
use Rattle.octets.specs.declared.bytes.ByteWriter.{ByteWriter}
use Rattle.octets.specs.declared.error.Error.{Error}
use Rattle.channels.specs.Phy.{frequency, whitening_start, data_rf}
use Rattle.channels.specs.declared.phy.AdvertisingChannel.TheVariants.{Channel37, Channel38, Channel39}
use Rattle.channels.specs.declared.phy.DataChannel.{DataChannel}
use Rattle.addresses.specs.Header.{header_octets}
use Rattle.addresses.specs.declared.filter.AddressFilter.{AddressFilter}
use Rattle.addresses.specs.declared.header.Header.{Header}
use Rattle.records_spec.specs.Record.{known_read}
use Rattle.records_spec.specs.declared.ad_structure.AdStructure.{AdStructure}
use Rattle.records_spec.specs.declared.ad_structure.AdStructure.TheVariants as ad
use Rattle.names_spec.specs.declared.NamePlace.TheVariants as place
use Rattle.settings.specs.Settings.{Settings}
use Rattle.basics.specs.Areas.{area_got, padded_got, uuid_got, structure_said, parsed_said, read_said, known_said, flags_said}
use Rattle.basics.specs.At.{header_got, header_written, header_after}
use Rattle.basics.specs.Filters.{scan_filter_of}
use Rattle.basics.specs.Leaves.{channel_after, advertising_channel, data_channel, found_got, hop_got}
use Rattle.basics.specs.Names.{name_said}
use Rattle.basics.specs.Reads.{left_got, value_got, part_said, five_said, six_said}
use Rattle.basics.specs.Settings.{settings_said}
use Rattle.basics.specs.Uuids.{uuid16_got, uuid32_got, uuid_said}
use Rattle.basics.specs.Writes.{truncated_got}

pub record Areas (at : ℕ) : Type 0 where
  pub strict : (n : ℕ) → area_got (Ok n) ≡ record { number = 0; first = n; second = 0 }
  pub strict_refused : (e : Error) → area_got (Err e) ≡ record { number = number_of e; first = 0; second = 0 }
  pub as_hub_law : (n taken : ℕ) → padded_got (Ok (n, taken)) ≡ record { number = 0; first = n; second = taken }
  pub as_hub_refused : (e : Error) → padded_got (Err e) ≡ record { number = number_of e; first = 0; second = 0 }
  pub uuid_is : (u next : ℕ) → uuid_got at (Ok (Some (record { 0 = u }, next))) ≡ record { number = 0; first = u; second = next }
  pub list_end : uuid_got at (Ok None) ≡ record { number = 0; first = 0; second = at }
  pub uuid_refused : (e : Error) → uuid_got at (Err e) ≡ record { number = number_of e; first = 0; second = 0 }

pub record Structures (next : ℕ) : Type 0 where
  pub kind_1 : (bits : ℕ) → structure_said (ad.Flags (record { bits = bits })) next ≡ record { number = 0; kind = 1; complete = false; value = bits % 32; start = 0; len = 0; next = next }
  pub kind_2 : (c : Bool) (s n : ℕ) → structure_said (ad.ServiceUuids16 c s n) next ≡ record { number = 0; kind = 2; complete = c; value = 0; start = s; len = n; next = next }
  pub kind_3 : (c : Bool) (s n : ℕ) → structure_said (ad.ServiceUuids32 c s n) next ≡ record { number = 0; kind = 3; complete = c; value = 0; start = s; len = n; next = next }
  pub kind_4 : (c : Bool) (s n : ℕ) → structure_said (ad.ServiceUuids128 c s n) next ≡ record { number = 0; kind = 4; complete = c; value = 0; start = s; len = n; next = next }
  pub kind_5 : (u s n : ℕ) → structure_said (ad.ServiceData16 u s n) next ≡ record { number = 0; kind = 5; complete = false; value = u; start = s; len = n; next = next }
  pub kind_6 : (s n : ℕ) → structure_said (ad.CompleteLocalName s n) next ≡ record { number = 0; kind = 6; complete = false; value = 0; start = s; len = n; next = next }
  pub kind_7 : (s n : ℕ) → structure_said (ad.ShortenedLocalName s n) next ≡ record { number = 0; kind = 7; complete = false; value = 0; start = s; len = n; next = next }
  pub kind_8 : (u s n : ℕ) → structure_said (ad.ManufacturerSpecificData (record { 0 = u }) s n) next ≡ record { number = 0; kind = 8; complete = false; value = u; start = s; len = n; next = next }
  pub kind_9 : (t s n : ℕ) → structure_said (ad.Unknown t s n) next ≡ record { number = 0; kind = 9; complete = false; value = t; start = s; len = n; next = next }
  pub parsed_is : (a : AdStructure) → parsed_said (Ok a) next ≡ structure_said a next
  pub parsed_refused : (e : Error) → parsed_said (Err e) next ≡ record { number = number_of e; kind = 0; complete = false; value = 0; start = 0; len = 0; next = 0 }

pub record Readings (s : List ℕ) : Type 0 where
  pub read_is : (a : AdStructure) (next : ℕ) → read_said (Ok (Some (a, next))) ≡ structure_said a next
  pub read_end : read_said (Ok None) ≡ record { number = 0; kind = 0; complete = false; value = 0; start = 0; len = 0; next = 0 }
  pub read_refused : (e : Error) → read_said (Err e) ≡ record { number = number_of e; kind = 0; complete = false; value = 0; start = 0; len = 0; next = 0 }
  pub known_is : (a : AdStructure) (next : ℕ) → known_said s (Ok (Some (a, next))) ≡ parsed_said (known_read a s) next
  pub known_end : known_said s (Ok None) ≡ record { number = 0; kind = 0; complete = false; value = 0; start = 0; len = 0; next = 0 }
  pub known_refused : (e : Error) → known_said s (Err e) ≡ record { number = number_of e; kind = 0; complete = false; value = 0; start = 0; len = 0; next = 0 }

-- the Supplement, Part A, 1.3: limited 0, general 1, BR/EDR not supported 2, both at once by the controller 3, by the host 4
pub record FlagsSay (x : ℕ) : Type 0 where
  pub low_five : (flags_said x).bits ≡ x % 32
  pub bit_0 : (flags_said x).limited ≡ eqb (x % 2) 1
  pub bit_1 : (flags_said x).general ≡ eqb (x / 2 % 2) 1
  pub bit_2 : (flags_said x).classic ≡ eqb (x / 4 % 2) 0
  pub bit_3 : (flags_said x).controller ≡ eqb (x / 8 % 2) 1
  pub bit_4 : (flags_said x).host ≡ eqb (x / 16 % 2) 1

pub record Names : Type 0 where
  pub in_reply_law : (start len : ℕ) → name_said (Ok (place.InReply (record { start = start; len = len }))) ≡ record { number = 0; in_reply = true; start = start; len = len }
  pub in_advertisement_law : (start len : ℕ) → name_said (Ok (place.InAdvertisement (record { start = start; len = len }))) ≡ record { number = 0; in_reply = false; start = start; len = len }
  pub name_refused : (e : Error) → name_said (Err e) ≡ record { number = number_of e; in_reply = false; start = 0; len = 0 }

pub record SettingsSay (s : Settings) : Type 0 where
  pub taken : settings_said (Ok s) ≡ record {
    number = 0;
    hop = s.hop;
    map = s.chm.raw;
    channels = s.chm.num_used_channels;
    interval = s.interval;
    latency = s.latency;
    timeout = s.timeout;
    win_size = s.win_size;
    win_offset = s.win_offset;
  }
  pub not_taken : (e : Error) → settings_said (Err e) ≡ record {
    number = number_of e;
    hop = 0;
    map = 0 ∷ 0 ∷ 0 ∷ 0 ∷ 0 ∷ [];
    channels = 0;
    interval = 0;
    latency = 0;
    timeout = 0;
    win_size = 0;
    win_offset = 0;
  }

pub record PartsGot (octets : List ℕ) (next : ByteReader) (e : Error) : Type 0 where
  pub five : five_said (Ok (octets, next)) ≡ record { number = 0; octets = octets; next = next.at }
  pub not_five : five_said (Err e) ≡ record { number = number_of e; octets = 0 ∷ 0 ∷ 0 ∷ 0 ∷ 0 ∷ []; next = 0 }
  pub six : six_said (Ok (octets, next)) ≡ record { number = 0; octets = octets; next = next.at }
  pub not_six : six_said (Err e) ≡ record { number = number_of e; octets = 0 ∷ 0 ∷ 0 ∷ 0 ∷ 0 ∷ 0 ∷ []; next = 0 }
  pub sixteen : uuid_said (Ok (record { 0 = octets }, next)) ≡ record { number = 0; octets = octets; next = next.at }
  pub not_sixteen : uuid_said (Err e) ≡ record { number = number_of e; octets = 0 ∷ 0 ∷ 0 ∷ 0 ∷ 0 ∷ 0 ∷ 0 ∷ 0 ∷ 0 ∷ 0 ∷ 0 ∷ 0 ∷ 0 ∷ 0 ∷ 0 ∷ 0 ∷ []; next = 0 }

pub record Reads : Type 0 where
  pub left : (n : ℕ) → left_got n false ≡ record { number = 0; first = n; second = 0 }
  pub spent : (n : ℕ) → left_got n true ≡ record { number = 0; first = n; second = 1 }
  pub part_is : (start len : ℕ) (next : ByteReader) → part_said (Ok (record { start = start; len = len }, next)) ≡ record { number = 0; start = start; len = len; next = next.at }
  pub part_refused : (e : Error) → part_said (Err e) ≡ record { number = number_of e; start = 0; len = 0; next = 0 }
  pub value_is : (v : ℕ) (next : ByteReader) → value_got (Ok (v, next)) ≡ record { number = 0; first = v; second = next.at }
  pub value_refused : (e : Error) → value_got (Err e) ≡ record { number = number_of e; first = 0; second = 0 }
  pub uuid16_is : (v : ℕ) (next : ByteReader) → uuid16_got (Ok (record { 0 = v }, next)) ≡ record { number = 0; first = v; second = next.at }
  pub uuid16_refused : (e : Error) → uuid16_got (Err e) ≡ record { number = number_of e; first = 0; second = 0 }
  pub uuid32_is : (v : ℕ) (next : ByteReader) → uuid32_got (Ok (record { 0 = v }, next)) ≡ record { number = 0; first = v; second = next.at }
  pub uuid32_refused : (e : Error) → uuid32_got (Err e) ≡ record { number = number_of e; first = 0; second = 0 }
  pub header_is : (h : Header) (next : ByteReader) → header_got (Ok (h, next)) ≡ record { number = 0; first = h.0; second = next.at }
  pub header_refused : (e : Error) → header_got (Err e) ≡ record { number = number_of e; first = 0; second = 0 }
  pub cut_to : (n : ℕ) (next : ByteWriter) → truncated_got (Ok (n, next)) ≡ record { number = 0; first = n; second = next.at }
  pub cut_refused : (e : Error) → truncated_got (Err e) ≡ record { number = number_of e; first = 0; second = 0 }

-- a header has two octets; where there is none, nothing is written
pub record Headers (h : Header) (out : List ℕ) (at : ℕ) : Type 0 where
  pub room : at + 2 ≤ length out → header_written (Ok h) out at ≡ record { number = 0; first = at + 2; second = 0 }
  pub no_room : length out < at + 2 → header_written (Ok h) out at ≡ record { number = 1; first = 0; second = 0 }
  pub after_is : header_after (Ok h) out at ≡ out_after (header_octets h) out at
  pub not_made : (e : Error) → header_written (Err e) out at ≡ record { number = number_of e; first = 0; second = 0 }
  pub after_not_made : (e : Error) → header_after (Err e) out at ≡ out

-- the advertising channels by the Core, Vol 6 Part A, 2 and Part B, 1.4.1: index, RF channel, start of whitening, and centre in MHz
pub record Channels : Type 0 where
  pub first_is : advertising_channel Channel37 ≡ record { number = 0; index = 37; rf_channel = 0; whitening_iv = 101; freq = 2402 }
  pub second_is : advertising_channel Channel38 ≡ record { number = 0; index = 38; rf_channel = 12; whitening_iv = 102; freq = 2426 }
  pub third_is : advertising_channel Channel39 ≡ record { number = 0; index = 39; rf_channel = 39; whitening_iv = 103; freq = 2480 }
  pub data_is : (c : DataChannel) → data_channel (Ok c) ≡ record { number = 0; index = c.index; rf_channel = data_rf c.index; whitening_iv = whitening_start c.index; freq = frequency (data_rf c.index) }
  pub data_refused : (e : Error) → data_channel (Err e) ≡ record { number = number_of e; index = 0; rf_channel = 0; whitening_iv = 0; freq = 0 }
  pub at_place : (c : DataChannel) → found_got (Ok c) ≡ record { number = 0; first = c.index; second = 0 }
  pub at_place_refused : (e : Error) → found_got (Err e) ≡ record { number = number_of e; first = 0; second = 0 }
  pub hops_to : (unmapped : ℕ) (c : DataChannel) → hop_got (Ok (record { unmapped = unmapped; channel = c })) ≡ record { number = 0; first = unmapped; second = c.index }
  pub hop_refused : (e : Error) → hop_got (Err e) ≡ record { number = number_of e; first = 0; second = 0 }

pub record CyclesGot : Type 0 where
  pub none_yet : channel_after 0 ≡ Channel37
  pub once : channel_after 1 ≡ Channel38
  pub twice : channel_after 2 ≡ Channel39
  pub more : (times : ℕ) → 2 < times → channel_after times ≡ Channel37

pub record Filters : Type 0 where
  pub scan_by : (f : AddressFilter) → scan_filter_of f ≡ record { scan = f }

pub record Holds : Type 0 where
  pub areas : (at : ℕ) → Areas at
  pub structures : (next : ℕ) → Structures next
  pub readings : (s : List ℕ) → Readings s
  pub flags_say : (x : ℕ) → FlagsSay x
  pub names : Names
  pub taking : (s : Settings) → SettingsSay s
  pub parts : (octets : List ℕ) (next : ByteReader) (e : Error) → PartsGot octets next e
  pub reads : Reads
  pub headers : (h : Header) (out : List ℕ) (at : ℕ) → Headers h out at
  pub channels : Channels
  pub turns : CyclesGot
  pub filters : Filters
