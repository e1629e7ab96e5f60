-- Worked lists of calls, on both sides of each limit: what each call answers, and the octets that it leaves.
--   board, request               == an address, and the payload of a connect request to it
--   example_trace, example_answers == a start, a tick, a connect request and 36 events, and what these answer
--   Example                      (Example.example)        what they answer and leave, with document 01's row of the hop
--   title                        == records: Flags with an undefined bit and the name "Go"
--   sent_to header last crc_good n == a packet of a header to an address that ends in `last`, with a transmit buffer of n octets
--   scan_request n                == a scan request to the board with the random address, with such a buffer
--   titled_trace                  == scan data that are set, and scan requests
--   TitleExample                 (Example.title_example)  what these answer and leave: replies with the scan data
--   manufacturer n               == a record of n octets of manufacturer specific data
--   public_scan_request n          == a scan request to `board`, with a transmit buffer of n octets
--   requesting map_and_hop       == the connect request with another map and hop
--   limits_trace                  == calls beside each limit
--   Limits                       (Example.limits)         what these answer and leave
--   high_request                  == the connect request with a CRC start whose top bit is set
--   long_trace                    == more than a cycle of ticks and of events, and calls in each other mode
--   Long                         (Example.long)           what these answer
use Rattle.std.specs.Prelude.{Bool, true, false, List, [], ◌∷◌, ◌++◌, map, ◌≡◌, ℕ, ◌+◌, length, take, drop, replicate, Result, Ok, Err}
use Rattle.octets.specs.declared.error.Error.TheVariants.{Eof, InvalidLength, WrongMode, EmptyMap, OutOfRange}
use Rattle.channels.specs.declared.phy.AdvertisingChannel.TheVariants.{Channel37, Channel38, Channel39}
use Rattle.addresses.specs.Address.{address_of}
use Rattle.addresses.specs.Header.{header_of}
use Rattle.addresses.specs.declared.device_address.AddressKind.TheVariants.{Public, Random}
use Rattle.addresses.specs.declared.device_address.DeviceAddress.{DeviceAddress}
use Rattle.radio_spec.specs.Calls.{instant}
use Rattle.radio_spec.specs.Call.{Call, start, tick, packet, event, stop, set_scan_data}
use Rattle.radio_spec.specs.Trace.{Entry, trace, event_on, channels_by, times, gather, tick_run, event_run, hear_run}
use Rattle.radio_spec.specs.declared.link.Answer.{Answer}
use Rattle.radio_spec.specs.declared.link.Answer.TheVariants.{Sent, Listen, Respond, FirstEvent, NextEvent, Stopped, ScanDataSet}
use Rattle.octets.specs.declared.error.Error.{Error}

abbrev pub board : DeviceAddress
board = address_of (1 ∷ 2 ∷ 3 ∷ 4 ∷ 5 ∷ 6 ∷ []) Public

-- window size 2, window offset 3, map 0A 00 00 00 00, hop 5
abbrev pub request : List ℕ
request =
    0x11 ∷ 0x12 ∷ 0x13 ∷ 0x14 ∷ 0x15 ∷ 0x16 ∷ 0x01 ∷ 0x02 ∷ 0x03 ∷ 0x04 ∷ 0x05 ∷ 0x06 ∷ 0xD6 ∷ 0xBE ∷ 0x89 ∷ 0x8E ∷ 0x56 ∷ 0x34 ∷ 0x12 ∷ 0x02 ∷ 0x03 ∷ 0x00
    ∷ 0x18 ∷ 0x00 ∷ 0x00 ∷ 0x00 ∷ 0x64 ∷ 0x00 ∷ 0x0A ∷ 0x00 ∷ 0x00 ∷ 0x00 ∷ 0x00 ∷ 0x05 ∷ []

abbrev pub example_trace : List Entry
example_trace =
    trace board (
    start (instant 4294967290) 100 (0x02 ∷ 0x0A ∷ 0x00 ∷ []) (replicate 14 0xFF)
    ∷ tick (replicate 12 0)
    ∷ packet (instant 1000) (header_of 0x2205) request true []
    ∷ replicate 36 event
    )

abbrev pub example_answers : List (Result Answer Error)
example_answers = map (λ (e : Entry). e.result.answer) example_trace

-- the start on 38 and the tick on 39; then channels 3 and 1, and in the 37 events channel 1 has 20 and channel 3 has 17; what the start and the tick write
pub record Example : Type 0 where
  pub answers : take 4 example_answers
      ≡ Ok (Sent (header_of 0x0C00) Channel38 (instant 94))
      ∷ Ok (Sent (header_of 0x0C00) Channel39 (instant 194))
      ∷ Ok (FirstEvent (record { index = 3 }) (instant 9000) 0x8E89BED6 0x123456)
      ∷ Ok (NextEvent (record { index = 1 }))
      ∷ []
  pub channel_1 : times 1 2 37 (channels_by event_on example_trace) ≡ 20
  pub channel_3 : times 3 2 37 (channels_by event_on example_trace) ≡ 17
  pub octets : map (λ (e : Entry). e.octets) (take 2 example_trace)
      ≡ ((0x02 ∷ 0x0A ∷ 0x00 ∷ []) ∷ (0x01 ∷ 0x02 ∷ 0x03 ∷ 0x04 ∷ 0x05 ∷ 0x06 ∷ 0x02 ∷ 0x01 ∷ 0x06 ∷ 0x02 ∷ 0x0A ∷ 0x00 ∷ 0xFF ∷ 0xFF ∷ []) ∷ [])
      ∷ ((0x01 ∷ 0x02 ∷ 0x03 ∷ 0x04 ∷ 0x05 ∷ 0x06 ∷ 0x02 ∷ 0x01 ∷ 0x06 ∷ 0x02 ∷ 0x0A ∷ 0x00 ∷ []) ∷ [])
      ∷ []

-- Flags with an undefined bit, and the name "Go"
abbrev pub title : List ℕ
title = 0x02 ∷ 0x01 ∷ 0x86 ∷ 0x03 ∷ 0x09 ∷ 0x47 ∷ 0x6F ∷ []

-- a packet under a header, to the address 01 02 03 04 05 and one octet more, with a transmit buffer of n octets
abbrev pub sent_to : ℕ → ℕ → Bool → ℕ → Call
sent_to header last crc_good n =
    packet (instant 1000) (header_of header) (0x11 ∷ 0x12 ∷ 0x13 ∷ 0x14 ∷ 0x15 ∷ 0x16 ∷ 0x01 ∷ 0x02 ∷ 0x03 ∷ 0x04 ∷ 0x05 ∷ last ∷ []) crc_good (replicate n 0xFF)

-- a scan request from 11 12 13 14 15 16 to the board with the random address, with a transmit buffer of n octets
abbrev pub scan_request : ℕ → Call
scan_request n = sent_to 0x0C83 0xC6 true n

abbrev pub titled_trace : List Entry
titled_trace =
    trace (address_of (0x01 ∷ 0x02 ∷ 0x03 ∷ 0x04 ∷ 0x05 ∷ 0xC6 ∷ []) Random) (
    set_scan_data title
    -- a record that is cut short: nothing changes
    ∷ set_scan_data (0x02 ∷ 0x09 ∷ [])
    ∷ start (instant 0) 100 [] (replicate 9 0)
    -- room for the reply and one octet more; one octet too few
    ∷ scan_request 14
    ∷ scan_request 12
    -- in standby
    ∷ stop
    ∷ scan_request 13
    -- the data outlive start and stop
    ∷ start (instant 0) 100 [] (replicate 9 0)
    ∷ tick (replicate 9 0)
    ∷ scan_request 13
    -- without data: just room for the address, and one octet too few
    ∷ set_scan_data []
    ∷ scan_request 6
    ∷ scan_request 5
    ∷ []
    )

pub record TitleExample : Type 0 where
  pub answers : map (λ (e : Entry). e.result.answer) titled_trace
      ≡ Ok ScanDataSet
      ∷ Err Eof
      ∷ Ok (Sent (header_of 0x0940) Channel38 (instant 100))
      ∷ Ok (Respond (header_of 0x0D44) Channel38)
      ∷ Err Eof
      ∷ Ok Stopped
      ∷ Err WrongMode
      ∷ Ok (Sent (header_of 0x0940) Channel38 (instant 100))
      ∷ Ok (Sent (header_of 0x0940) Channel39 (instant 200))
      ∷ Ok (Respond (header_of 0x0D44) Channel39)
      ∷ Ok ScanDataSet
      ∷ Ok (Respond (header_of 0x0644) Channel39)
      ∷ Err Eof
      ∷ []
  -- the buffers after the first, from the first request on
  pub octets : map (λ (e : Entry). drop 1 e.octets) (drop 3 titled_trace)
      -- the own address, the data with Flags 06, one octet kept
      ≡ ((0x01 ∷ 0x02 ∷ 0x03 ∷ 0x04 ∷ 0x05 ∷ 0xC6 ∷ 0x02 ∷ 0x01 ∷ 0x06 ∷ 0x03 ∷ 0x09 ∷ 0x47 ∷ 0x6F ∷ 0xFF ∷ []) ∷ [])
      -- as lent
      ∷ (replicate 12 0xFF ∷ [])
      -- a stop has none
      ∷ []
      -- as lent
      ∷ (replicate 13 0xFF ∷ [])
      -- what the start writes
      ∷ ((0x01 ∷ 0x02 ∷ 0x03 ∷ 0x04 ∷ 0x05 ∷ 0xC6 ∷ 0x02 ∷ 0x01 ∷ 0x06 ∷ []) ∷ [])
      -- the tick's buffer is its first
      ∷ []
      -- the own address, the data with Flags 06
      ∷ ((0x01 ∷ 0x02 ∷ 0x03 ∷ 0x04 ∷ 0x05 ∷ 0xC6 ∷ 0x02 ∷ 0x01 ∷ 0x06 ∷ 0x03 ∷ 0x09 ∷ 0x47 ∷ 0x6F ∷ []) ∷ [])
      -- the data that are set are the first
      ∷ []
      -- the own address alone
      ∷ ((0x01 ∷ 0x02 ∷ 0x03 ∷ 0x04 ∷ 0x05 ∷ 0xC6 ∷ []) ∷ [])
      -- as lent
      ∷ (replicate 5 0xFF ∷ [])
      ∷ []

-- a record of n octets of data
abbrev pub manufacturer : ℕ → List ℕ
manufacturer n = (1 + n) ∷ 0xFF ∷ replicate n 0x2A

abbrev pub public_scan_request : ℕ → Call
public_scan_request n = sent_to 0x0C03 0x06 true n

-- the connect request with another map, and hop
abbrev pub requesting : List ℕ → Call
requesting map_and_hop = packet (instant 1000) (header_of 0x2205) (take 28 request ++ map_and_hop) true []

abbrev pub limits_trace : List Entry
limits_trace =
    trace board (
    -- in standby
    tick (replicate 37 0)
    ∷ event
    ∷ public_scan_request 37
    -- 29 octets of records; 28 with a transmit buffer of 36 octets, and of 37; a tick with 36
    ∷ start (instant 0) 100 (manufacturer 27) (replicate 38 0)
    ∷ start (instant 0) 100 (manufacturer 26) (replicate 36 0)
    ∷ start (instant 0) 100 (manufacturer 26) (replicate 37 0)
    ∷ tick (replicate 36 0)
    -- the bare reply with an octet of room more, with just room, and with one too few
    ∷ public_scan_request 7
    ∷ public_scan_request 6
    ∷ public_scan_request 5
    -- CRC-bad; to another address; to the random address; type 1 to us
    ∷ sent_to 0x0C03 0x06 false 37
    ∷ sent_to 0x0C03 0x07 true 37
    ∷ sent_to 0x0C83 0x06 true 37
    ∷ sent_to 0x0C01 0x06 true 5
    -- scan data of 31 octets, of 32, and of 32 that end in a bad record; the reply with a buffer of 36 octets, and of 37
    ∷ set_scan_data (manufacturer 29)
    ∷ set_scan_data (manufacturer 30)
    ∷ set_scan_data (manufacturer 29 ++ (0x00 ∷ []))
    ∷ public_scan_request 36
    ∷ public_scan_request 37
    -- connect requests: no channel, with hop 5 and with hop 17; one channel; two with hop 4, with 17 and with 5
    ∷ requesting (0x00 ∷ 0x00 ∷ 0x00 ∷ 0x00 ∷ 0xE0 ∷ 0x05 ∷ [])
    ∷ requesting (0x00 ∷ 0x00 ∷ 0x00 ∷ 0x00 ∷ 0xE0 ∷ 0x11 ∷ [])
    ∷ requesting (0x02 ∷ 0x00 ∷ 0x00 ∷ 0x00 ∷ 0xE0 ∷ 0x05 ∷ [])
    ∷ requesting (0x0A ∷ 0x00 ∷ 0x00 ∷ 0x00 ∷ 0x00 ∷ 0x04 ∷ [])
    ∷ requesting (0x0A ∷ 0x00 ∷ 0x00 ∷ 0x00 ∷ 0x00 ∷ 0x11 ∷ [])
    ∷ requesting (drop 28 request)
    -- while connected
    ∷ public_scan_request 37
    ∷ tick (replicate 37 0)
    ∷ start (instant 0) 100 (0x00 ∷ []) (replicate 9 0)
    ∷ event
    ∷ set_scan_data []
    -- after a start, the bare reply
    ∷ start (instant 0) 100 [] (replicate 9 0)
    ∷ public_scan_request 6
    ∷ []
    )

pub record Limits : Type 0 where
  pub answers : map (λ (e : Entry). e.result.answer) limits_trace
      ≡ Err WrongMode
      ∷ Err WrongMode
      ∷ Err WrongMode
      ∷ Err Eof
      ∷ Err Eof
      ∷ Ok (Sent (header_of 0x2500) Channel38 (instant 100))
      ∷ Err Eof
      ∷ Ok (Respond (header_of 0x0604) Channel38)
      ∷ Ok (Respond (header_of 0x0604) Channel38)
      ∷ Err Eof
      ∷ Ok (Listen Channel38)
      ∷ Ok (Listen Channel38)
      ∷ Ok (Listen Channel38)
      ∷ Ok (Listen Channel38)
      ∷ Ok ScanDataSet
      ∷ Err Eof
      ∷ Err InvalidLength
      ∷ Err Eof
      ∷ Ok (Respond (header_of 0x2504) Channel38)
      ∷ Err EmptyMap
      ∷ Err EmptyMap
      ∷ Err OutOfRange
      ∷ Err OutOfRange
      ∷ Err OutOfRange
      ∷ Ok (FirstEvent (record { index = 3 }) (instant 9000) 0x8E89BED6 0x123456)
      ∷ Err WrongMode
      ∷ Err WrongMode
      ∷ Err InvalidLength
      ∷ Ok (NextEvent (record { index = 1 }))
      ∷ Ok ScanDataSet
      ∷ Ok (Sent (header_of 0x0900) Channel38 (instant 100))
      ∷ Ok (Respond (header_of 0x0604) Channel38)
      ∷ []
  -- what the first seven packets leave in their transmit buffers, the bare replies' and the others as they were lent; and the longest reply
  pub octets : map (λ (e : Entry). drop 1 e.octets) (take 7 (drop 7 limits_trace))
      ≡ ((0x01 ∷ 0x02 ∷ 0x03 ∷ 0x04 ∷ 0x05 ∷ 0x06 ∷ 0xFF ∷ []) ∷ [])
      ∷ ((0x01 ∷ 0x02 ∷ 0x03 ∷ 0x04 ∷ 0x05 ∷ 0x06 ∷ []) ∷ [])
      ∷ (replicate 5 0xFF ∷ [])
      ∷ (replicate 37 0xFF ∷ [])
      ∷ (replicate 37 0xFF ∷ [])
      ∷ (replicate 37 0xFF ∷ [])
      ∷ (replicate 5 0xFF ∷ [])
      ∷ []
  pub longest : map (λ (e : Entry). drop 1 e.octets) (take 1 (drop 18 limits_trace))
      ≡ ((0x01 ∷ 0x02 ∷ 0x03 ∷ 0x04 ∷ 0x05 ∷ 0x06 ∷ 0x1E ∷ 0xFF ∷ replicate 29 0x2A) ∷ []) ∷ []

-- the connect request with the CRC start 923456
abbrev pub high_request : Call
high_request = packet (instant 1000) (header_of 0x2205) (take 16 request ++ (0x56 ∷ 0x34 ∷ 0x92 ∷ []) ++ drop 19 request) true []

abbrev pub long_trace : List Entry
long_trace =
    trace board (
    -- a start and five ticks: twice round
    start (instant 0) 100 [] (replicate 9 0)
    ∷ (replicate 5 (tick (replicate 9 0))
    -- while advertising: no event; a start begins anew, and one that is refused does not
    ++ (event
    ∷ start (instant 7) 50 [] (replicate 9 0)
    ∷ start (instant 9) 60 [] (replicate 8 0)
    ∷ tick (replicate 9 0)
    -- more than the 37 events of a cycle
    ∷ high_request
    ∷ (replicate 39 event
    -- a stop while connected; then neither an event nor a tick, with room and without
    ++ (stop
    ∷ event
    ∷ tick (replicate 9 0)
    ∷ tick []
    ∷ stop
    -- a stop while advertising
    ∷ start (instant 0) 100 [] (replicate 9 0)
    ∷ stop
    ∷ tick []
    ∷ []))))
    )

pub record Long : Type 0 where
  pub before : map (λ (e : Entry). e.result.answer) (take 10 long_trace)
      ≡ Ok (Sent (header_of 0x0900) Channel38 (instant 100))
      ∷ Ok (Sent (header_of 0x0900) Channel39 (instant 200))
      ∷ Ok (Sent (header_of 0x0900) Channel37 (instant 300))
      ∷ Ok (Sent (header_of 0x0900) Channel38 (instant 400))
      ∷ Ok (Sent (header_of 0x0900) Channel39 (instant 500))
      ∷ Ok (Sent (header_of 0x0900) Channel37 (instant 600))
      ∷ Err WrongMode
      ∷ Ok (Sent (header_of 0x0900) Channel38 (instant 57))
      ∷ Err Eof
      ∷ Ok (Sent (header_of 0x0900) Channel39 (instant 107))
      ∷ []
  pub first : map (λ (e : Entry). e.result.answer) (take 1 (drop 10 long_trace)) ≡ Ok (FirstEvent (record { index = 3 }) (instant 9000) 0x8E89BED6 0x923456) ∷ []
  -- the channels of the 40 events; the last three begin the cycle anew
  pub events : channels_by event_on (take 40 (drop 10 long_trace))
      ≡ 3 ∷ 1 ∷ 3 ∷ 1 ∷ 3 ∷ 1 ∷ 3 ∷ 3 ∷ 1 ∷ 3 ∷ 1 ∷ 3 ∷ 1 ∷ 3 ∷ 1 ∷ 1 ∷ 3 ∷ 1 ∷ 3 ∷ 1 ∷ 3 ∷ 1 ∷ 1 ∷ 3 ∷ 1 ∷ 3 ∷ 1 ∷ 3 ∷ 1 ∷ 1 ∷ 3 ∷ 1 ∷ 3 ∷ 1 ∷ 3 ∷ 1 ∷ 1 ∷ 3 ∷ 1 ∷ 3 ∷ []
  -- the runs: the ticks of the first start, the events of the connection, and the packets after the last tick before it
  pub runs : length (gather tick_run (drop 1 long_trace)) ∷ length (gather event_run (drop 11 long_trace)) ∷ length (gather hear_run (drop 10 long_trace)) ∷ [] ≡ 5 ∷ 39 ∷ 1 ∷ []
  pub after : map (λ (e : Entry). e.result.answer) (drop 50 long_trace)
      ≡ Ok Stopped
      ∷ Err WrongMode
      ∷ Err WrongMode
      ∷ Err WrongMode
      ∷ Ok Stopped
      ∷ Ok (Sent (header_of 0x0900) Channel38 (instant 100))
      ∷ Ok Stopped
      ∷ Err WrongMode
      ∷ []
