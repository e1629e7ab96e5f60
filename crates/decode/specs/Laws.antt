-- What a header and a payload are answered with.
--   Decodes h p   (Laws.decodes)   they are read by the general decoder; without a header they are refused, with type 15 and no field
--   Holds (Holding.holds): all laws of this crate
use Rattle.std.specs.Prelude.{false, List, [], ◌∷◌, ◌≡◌, ℕ, Ok, Err}
use Rattle.octets.specs.Error.{number_of}
use Rattle.octets.specs.declared.error.Error.{Error}
use Rattle.addresses.specs.declared.header.Header.{Header}
use Rattle.advertising.specs.Pdu.{decode_of}
use Rattle.answers.specs.Packet.{packet_said}
use Rattle.decode.specs.Packet.{decoded_from}

pub record Decodes (h : Header) (p : List ℕ) : Type 0 where
  pub reads : decoded_from (Ok h) p ≡ packet_said (decode_of h p)
  pub no_header : (e : Error) → decoded_from (Err e) p ≡ record {
    number = number_of e;
    ty = 15;
    sender_random = false;
    sender = 0 ∷ 0 ∷ 0 ∷ 0 ∷ 0 ∷ 0 ∷ [];
    has_receiver = false;
    receiver_random = false;
    receiver = 0 ∷ 0 ∷ 0 ∷ 0 ∷ 0 ∷ 0 ∷ [];
    start = 0;
    len = 0;
    count = 0;
    access_address = 0;
    crc_init = 0;
    win_size = 0;
    win_offset = 0;
    window_end = 1250;
    interval = 0;
    latency = 0;
    timeout = 0;
    map = 0 ∷ 0 ∷ 0 ∷ 0 ∷ 0 ∷ [];
    map_count = 0;
    hop = 0;
    sca = 0;
  }

pub record Holds : Type 0 where
  pub decodes : (h : Header) (p : List ℕ) → Decodes h p
