-- A PDU that was read, as numbers: the refusal's (document 01), or 0, and all fields; those that the type lacks are 0, `window_end`
-- 1250. After a refusal the type is 15, and no field has a meaning.
--   accuracy_number sca == the code of an accuracy
--   pdu_said pdu        == the fields of a PDU, with the number 0
--   not_said e          == the number of the refusal e, and no field
--   packet_said r       == the one or the other
use Rattle.std.specs.Prelude.{ℕ, false, replicate, Result, Ok, Err}
use Rattle.addresses.specs.Address.{is_random}
use Rattle.addresses.specs.Header.{type_code}
use Rattle.advertising.specs.Pdu.{window_end, has_receiver}
use Rattle.octets.specs.Error.{number_of}
use Rattle.octets.specs.declared.error.Error.{Error}
use Rattle.advertising.specs.declared.pdu.Pdu.{Pdu}
use Rattle.advertising.specs.declared.pdu.SleepClockAccuracy.{SleepClockAccuracy}
use Rattle.advertising.specs.declared.pdu.SleepClockAccuracy.TheVariants.{Ppm251To500, Ppm151To250, Ppm101To150, Ppm76To100, Ppm51To75, Ppm31To50, Ppm21To30, Ppm0To20}
use Rattle.answers.specs.declared.packet.Packet.{Packet}

-- the code of an accuracy (the Core, Vol 6 Part B, 2.3.3.1)
abbrev pub accuracy_number : SleepClockAccuracy → ℕ
accuracy_number Ppm251To500 = 0
accuracy_number Ppm151To250 = 1
accuracy_number Ppm101To150 = 2
accuracy_number Ppm76To100 = 3
accuracy_number Ppm51To75 = 4
accuracy_number Ppm31To50 = 5
accuracy_number Ppm21To30 = 6
accuracy_number Ppm0To20 = 7

unfoldable pub pdu_said : Pdu → Packet
pdu_said pdu =
    record {
      number = 0;
      ty = type_code pdu.ty;
      sender_random = is_random pdu.sender.kind;
      sender = pdu.sender.bytes;
      has_receiver = has_receiver pdu.ty;
      receiver_random = is_random pdu.receiver.kind;
      receiver = pdu.receiver.bytes;
      start = pdu.adv_data.start;
      len = pdu.adv_data.len;
      count = pdu.adv_data.count;
      access_address = pdu.lldata.access_address;
      crc_init = pdu.lldata.crc_init;
      win_size = pdu.lldata.win_size;
      win_offset = pdu.lldata.win_offset;
      window_end = window_end pdu.lldata;
      interval = pdu.lldata.interval;
      latency = pdu.lldata.latency;
      timeout = pdu.lldata.timeout;
      map = pdu.lldata.chm.raw;
      map_count = pdu.lldata.chm.num_used_channels;
      hop = pdu.lldata.hop;
      sca = accuracy_number pdu.lldata.sca;
    }

abbrev pub not_said : Error → Packet
not_said e =
    record {
      number = number_of e;
      ty = 15;
      sender_random = false;
      sender = replicate 6 0;
      has_receiver = false;
      receiver_random = false;
      receiver = replicate 6 0;
      start = 0;
      len = 0;
      count = 0;
      access_address = 0;
      crc_init = 0;
      win_size = 0;
      win_offset = 0;
      window_end = 1250;
      interval = 0;
      latency = 0;
      timeout = 0;
      map = replicate 5 0;
      map_count = 0;
      hop = 0;
      sca = 0;
    }

abbrev pub packet_said : Result Pdu Error → Packet
packet_said (Ok pdu) = pdu_said pdu
packet_said (Err e) = not_said e
