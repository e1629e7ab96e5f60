-- What becomes of each number, written out over all values: no number is dropped, cut or put in the place of another.
--   NumbersGot                     (Laws.numbers)   up to two numbers, a flag, a position, and a refusal's
--   Kinds complete value start len (Laws.kinds)     the record of each kind, and of any other
--   Passing                        (Laws.passing)   a list that is in use, and one that is not
--   Packets p                      (Laws.packets)   each field of a PDU that was read, and of a refusal
--   AccuracyCodes                  (Laws.accuracies) the Core's codes of the accuracies
--   Holds                       (Holding.holds)        all of these, with what they assume
use Rattle.std.specs.Prelude.{Bool, true, false, [], ◌∷◌, map, ◌≡◌, ℕ, ◌%◌, ◌<◌, Ok, Err}
use Rattle.octets.specs.Error.{number_of}
use Rattle.octets.specs.declared.bytes.ByteReader.{ByteReader}
use Rattle.octets.specs.declared.bytes.ByteWriter.{ByteWriter}
use Rattle.octets.specs.declared.error.Error.{Error}
use Rattle.addresses.specs.Address.{is_random}
use Rattle.addresses.specs.Header.{type_code}
use Rattle.addresses.specs.declared.filter.AddressFilter.TheVariants.{AllowAll, Whitelist}
use Rattle.records_spec.specs.declared.ad_structure.AdStructure.TheVariants as ad
use Rattle.advertising.specs.Pdu.{window_end, has_receiver}
use Rattle.advertising.specs.declared.pdu.Pdu.{Pdu}
use Rattle.advertising.specs.declared.pdu.SleepClockAccuracy.TheVariants.{Ppm251To500, Ppm151To250, Ppm101To150, Ppm76To100, Ppm51To75, Ppm31To50, Ppm21To30, Ppm0To20}
use Rattle.answers.specs.Got.{found, refused_as, one_got, two_got, flag_got, written_got, passed_got}
use Rattle.answers.specs.Given.{filter_for, structure_in}
use Rattle.answers.specs.Packet.{accuracy_number, packet_said}

pub record NumbersGot : Type 0 where
  pub two : (a b : ℕ) → found a b ≡ record { number = 0; first = a; second = b }
  pub not_found : (e : Error) → refused_as e ≡ record { number = number_of e; first = 0; second = 0 }
  pub one : (a : ℕ) → one_got (Ok a) ≡ record { number = 0; first = a; second = 0 }
  pub not_one : (e : Error) → one_got (Err e) ≡ record { number = number_of e; first = 0; second = 0 }
  pub both : (a b : ℕ) → two_got (Ok (a, b)) ≡ record { number = 0; first = a; second = b }
  pub not_both : (e : Error) → two_got (Err e) ≡ record { number = number_of e; first = 0; second = 0 }
  pub so : flag_got (Ok true) ≡ record { number = 0; first = 1; second = 0 }
  pub not_so : flag_got (Ok false) ≡ record { number = 0; first = 0; second = 0 }
  pub not_told : (e : Error) → flag_got (Err e) ≡ record { number = number_of e; first = 0; second = 0 }
  pub wrote : (to : ByteWriter) → written_got (Ok to) ≡ record { number = 0; first = to.at; second = 0 }
  pub not_written : (e : Error) → written_got (Err e) ≡ record { number = number_of e; first = 0; second = 0 }
  pub passed : (to : ByteReader) → passed_got (Ok to) ≡ record { number = 0; first = to.at; second = 0 }
  pub not_passed : (e : Error) → passed_got (Err e) ≡ record { number = number_of e; first = 0; second = 0 }

-- Of Flags the low five bits of a value count, of a type the low eight. Every other kind is taken as 9.
pub record Kinds (complete : Bool) (value start len : ℕ) : Type 0 where
  pub kind_1 : structure_in 1 complete value start len ≡ ad.Flags (record { bits = value % 32 })
  pub kind_2 : structure_in 2 complete value start len ≡ ad.ServiceUuids16 complete start len
  pub kind_3 : structure_in 3 complete value start len ≡ ad.ServiceUuids32 complete start len
  pub kind_4 : structure_in 4 complete value start len ≡ ad.ServiceUuids128 complete start len
  pub kind_5 : structure_in 5 complete value start len ≡ ad.ServiceData16 value start len
  pub kind_6 : structure_in 6 complete value start len ≡ ad.CompleteLocalName start len
  pub kind_7 : structure_in 7 complete value start len ≡ ad.ShortenedLocalName start len
  pub kind_8 : structure_in 8 complete value start len ≡ ad.ManufacturerSpecificData (record { 0 = value }) start len
  pub kind_0 : structure_in 0 complete value start len ≡ ad.Unknown (value % 256) start len
  pub above_8 : (kind : ℕ) → 8 < kind → structure_in kind complete value start len ≡ ad.Unknown (value % 256) start len

pub record Passing : Type 0 where
  pub in_use : filter_for true ≡ Whitelist
  pub not_in_use : filter_for false ≡ AllowAll

pub record Packets (p : Pdu) : Type 0 where
  pub number_is : (packet_said (Ok p)).number ≡ 0
  pub ty_is : (packet_said (Ok p)).ty ≡ type_code p.ty
  pub sender_random_is : (packet_said (Ok p)).sender_random ≡ is_random p.sender.kind
  pub sender_is : (packet_said (Ok p)).sender ≡ p.sender.bytes
  pub has_receiver_is : (packet_said (Ok p)).has_receiver ≡ has_receiver p.ty
  pub receiver_random_is : (packet_said (Ok p)).receiver_random ≡ is_random p.receiver.kind
  pub receiver_is : (packet_said (Ok p)).receiver ≡ p.receiver.bytes
  pub start_is : (packet_said (Ok p)).start ≡ p.adv_data.start
  pub len_is : (packet_said (Ok p)).len ≡ p.adv_data.len
  pub count_is : (packet_said (Ok p)).count ≡ p.adv_data.count
  pub access_address_is : (packet_said (Ok p)).access_address ≡ p.lldata.access_address
  pub crc_init_is : (packet_said (Ok p)).crc_init ≡ p.lldata.crc_init
  pub win_size_is : (packet_said (Ok p)).win_size ≡ p.lldata.win_size
  pub win_offset_is : (packet_said (Ok p)).win_offset ≡ p.lldata.win_offset
  pub window_end_is : (packet_said (Ok p)).window_end ≡ window_end p.lldata
  pub interval_is : (packet_said (Ok p)).interval ≡ p.lldata.interval
  pub latency_is : (packet_said (Ok p)).latency ≡ p.lldata.latency
  pub timeout_is : (packet_said (Ok p)).timeout ≡ p.lldata.timeout
  pub map_is : (packet_said (Ok p)).map ≡ p.lldata.chm.raw
  pub map_count_is : (packet_said (Ok p)).map_count ≡ p.lldata.chm.num_used_channels
  pub hop_is : (packet_said (Ok p)).hop ≡ p.lldata.hop
  pub sca_is : (packet_said (Ok p)).sca ≡ accuracy_number p.lldata.sca
  pub refused_is : (e : Error) → packet_said (Err e) ≡ record {
    number = number_of e;
    ty = 15;
    sender_random = false;
    sender = 0 ∷ 0 ∷ 0 ∷ 0 ∷ 0 ∷ 0 ∷ [];
    has_receiver = false;
    receiver_random = false;
    receiver = 0 ∷ 0 ∷ 0 ∷ 0 ∷ 0 ∷ 0 ∷ [];
    start = 0;
    len = 0;
    count = 0;
    access_address = 0;
    crc_init = 0;
    win_size = 0;
    win_offset = 0;
    window_end = 1250;
    interval = 0;
    latency = 0;
    timeout = 0;
    map = 0 ∷ 0 ∷ 0 ∷ 0 ∷ 0 ∷ [];
    map_count = 0;
    hop = 0;
    sca = 0;
  }

-- the Core, Vol 6 Part B, 2.3.3.1: 0 for 251 to 500 ppm, up to 7 for 0 to 20
pub record AccuracyCodes : Type 0 where
  pub in_order : map accuracy_number (Ppm251To500 ∷ Ppm151To250 ∷ Ppm101To150 ∷ Ppm76To100 ∷ Ppm51To75 ∷ Ppm31To50 ∷ Ppm21To30 ∷ Ppm0To20 ∷ []) ≡ 0 ∷ 1 ∷ 2 ∷ 3 ∷ 4 ∷ 5 ∷ 6 ∷ 7 ∷ []

pub record Holds : Type 0 where
  pub numbers : NumbersGot
  pub kinds : (complete : Bool) (value start len : ℕ) → Kinds complete value start len
  pub passing : Passing
  pub packets : (p : Pdu) → Packets p
  pub accuracies : AccuracyCodes
