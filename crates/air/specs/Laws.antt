-- A packet on the air: what is built is sent with its CRC and whitened, and heard.
--   packet_on channel start octets     == octets with their CRC after them, whitened: what goes on the air
--   header_on_air packet, payload_in packet == a packet's header and its payload, the CRC left out
--   Passes channel start h p          == a header and payload pass through the air unchanged, and the flag is good
--   sent_on channel start b           == a beacon as it goes on the air, or why there is none
--   on_air a s channel start           == that of an address and records
--   Beacons a s n channel start       == there is one: its flag is good, it decodes to what was built, and a scanner that lets the address pass reports it
--   Air                               (Passing.air)       these, of every header and payload, every beacon, every channel and every start value
--   Examples                          (Passing.examples)  document 01's row on the air
use Rattle.std.specs.Prelude.{true, List, [], ◌∷◌, ◌++◌, map, ◌≡◌, ℕ, ◌+◌, ◌-◌, ◌≤◌, ◌<◌, ◌^◌, length, take, drop, Some, Result, Ok, Err}
use Rattle.octets.specs.Bytes.{le}
use Rattle.octets.specs.declared.error.Error.{Error}
use Rattle.records_spec.specs.Area.{read_area, rewritten}
use Rattle.addresses.specs.Header.{header_of, header_octets}
use Rattle.addresses.specs.declared.device_address.DeviceAddress.{DeviceAddress}
use Rattle.addresses.specs.declared.header.Header.{Header}
use Rattle.addresses.specs.declared.header.PduType.TheVariants.{AdvNonconnInd}
use Rattle.advertising.specs.Builders.{an_address, as_sent}
use Rattle.advertising.specs.Pdu.{no_request, no_address, data_in, decoded_as, decode_of}
use Rattle.advertising.specs.declared.pdu.AdvData.{AdvData}
use Rattle.beacon_spec.specs.Laws.{Lets}
use Rattle.beacon_spec.specs.Scanner.{scanned}
use Rattle.beacon_spec.specs.Sending.{beacon_of}
use Rattle.beacon_spec.specs.State.{Beacon, Refusal, BeaconScanner}
use Rattle.whitening.specs.Crc.{crc_octets}
use Rattle.whitening.specs.Packet.{start_on, flag_of}
use Rattle.whitening.specs.Whitening.{whitened}

abbrev pub packet_on : ℕ → ℕ → List ℕ → List ℕ
packet_on channel start octets = whitened channel (octets ++ crc_octets (start_on channel start) octets)

abbrev pub header_on_air : List ℕ → Header
header_on_air packet = header_of (le (take 2 packet))

abbrev pub payload_in : List ℕ → List ℕ
payload_in packet = take (length packet - 5) (drop 2 packet)

-- A header and a payload sent on a channel and heard there.
pub record Passes (channel start : ℕ) (h : Header) (p : List ℕ) : Type 0 where
  pub size : length (packet_on channel start (header_octets h ++ p)) ≡ 5 + length p
  pub good : flag_of channel start (packet_on channel start (header_octets h ++ p)) ≡ Ok true
  pub header : header_on_air (whitened channel (packet_on channel start (header_octets h ++ p))) ≡ h
  pub payload : payload_in (whitened channel (packet_on channel start (header_octets h ++ p))) ≡ p

-- a beacon on the air, and that of an address and records
abbrev pub sent_on : ℕ → ℕ → Result Beacon Refusal → Result (List ℕ) Error
sent_on channel start (Ok b) = Ok (packet_on channel start (as_sent b.pdu))
sent_on channel start (Err r) = Err r.error

abbrev pub on_air : DeviceAddress → List ℕ → ℕ → ℕ → Result (List ℕ) Error
on_air a s channel start = sent_on channel start (beacon_of a s)

-- "A beacon built here, its CRC appended and whitened on a channel, then heard there, has the flag good, and un-whitened decodes to what was built": the
-- address and the n records of s; and a scanner that lets the address pass reports it.
pub record Beacons (a : DeviceAddress) (s : List ℕ) (n channel start : ℕ) : Type 0 where
  pub packet : List ℕ
  pub sent : on_air a s channel start ≡ Ok packet
  pub good : flag_of channel start packet ≡ Ok true
  pub place : AdvData
  -- as it is heard, its whitening taken off
  pub decoded : decode_of (header_on_air (whitened channel packet)) (payload_in (whitened channel packet)) ≡ decoded_as AdvNonconnInd a no_address place no_request
  pub number_of_records : place.count ≡ n
  -- the records are those given, with undefined Flags bits cleared
  pub records : data_in place (payload_in (whitened channel packet)) ≡ rewritten s
  pub reported : (scanner : BeaconScanner) (list : List ℕ) → Lets scanner.filter.scan list a
      → scanned scanner (header_on_air (whitened channel packet)) (payload_in (whitened channel packet)) true list
      ≡ record { report = Ok (Some (record { sender = a; adv_data = place; taken = length s })); channel = scanner.channel }

pub record Air : Type 0 where
  pub passes : (channel start : ℕ) (h : Header) (p : List ℕ) → channel ≤ 39 → h.0 < 2 ^ 16 → length p ≤ 37 → Passes channel start h p
  -- an address has six octets; n records that are read, in at most 31 octets
  pub beacons : (a : DeviceAddress) (s : List ℕ) (n channel start : ℕ) → length a.bytes ≡ 6 → read_area s ≡ Ok n → length s ≤ 31 → channel ≤ 39
      → Beacons a s n channel start

pub record Examples : Type 0 where
  -- document 01's row 42 09 on 37, 38 and 39, octet by octet, whatever the start value
  pub row : (start : ℕ) → map (λ (channel : ℕ). on_air an_address (0x02 ∷ 0x01 ∷ 0x06 ∷ []) channel start) (37 ∷ 38 ∷ 39 ∷ [])
      ≡ Ok (0xCF ∷ 0xDB ∷ 0x56 ∷ 0xA3 ∷ 0x3E ∷ 0xA3 ∷ 0x63 ∷ 0x76 ∷ 0x77 ∷ 0x30 ∷ 0x17 ∷ 0xD7 ∷ 0x41 ∷ 0xB5 ∷ [])
      ∷ Ok (0x94 ∷ 0xCC ∷ 0x45 ∷ 0x22 ∷ 0x5A ∷ 0xDA ∷ 0xE4 ∷ 0x49 ∷ 0x19 ∷ 0xA4 ∷ 0xA9 ∷ 0xDD ∷ 0xAC ∷ 0x8C ∷ [])
      ∷ Ok (0x5D ∷ 0x3E ∷ 0x4B ∷ 0x5D ∷ 0x86 ∷ 0xF2 ∷ 0x99 ∷ 0x5C ∷ 0xC3 ∷ 0xD7 ∷ 0xC3 ∷ 0xDB ∷ 0xF7 ∷ 0x9B ∷ [])
      ∷ []
