-- What is sent on a channel passes through the air: `air`, `examples`. Assumes nothing.
use mathlib.Core.Bool.{true, xor}
use mathlib.Core.List.{List, ◌++◌, flatten, append_assoc}
use mathlib.Core.Path.{◌≡◌, refl, ap, ap₂, subst, ◌∙◌}
use Prim.Native.Nat.{ℕ, ◌+◌, ◌-◌, ◌*◌, ◌/◌, ◌%◌, ◌≤◌, ◌<◌, ◌^◌}
use native.Mathlib.Omega.{arith}
use lib.ListN.{length, take, length-append}
use lib.Seq.{take_at}
use Rattle.records_spec.specs.Area.{cut, reads, with_first, area_of, read_area, clean, rewritten}
use Rattle.records_spec.specs.Record.{first, flags_read, data_read, up_to, record_read}
use Rattle.flags.specs.Flags.{named}
use Rattle.addresses.specs.Address.{kind_number}
use Rattle.addresses.specs.Header.{header_of, header_octets}
use Rattle.addresses.specs.declared.device_address.AddressKind.{AddressKind}
use Rattle.addresses.specs.declared.device_address.AddressKind.TheVariants.{Public, Random}
use Rattle.addresses.specs.declared.device_address.DeviceAddress.{DeviceAddress}
use Rattle.addresses.specs.declared.header.Header.{Header}
use Rattle.advertising.proofs.Builders.{builders}
use Rattle.advertising.specs.Builders.{as_sent}
use Rattle.advertising.specs.Pdu.{data_in, decode_of}
use Rattle.advertising.specs.PduBuf.{buf_of, after_reading, with_records, beacon_pdu, payload_of}
use Rattle.advertising.specs.declared.pdu_buf.PduBuf.{PduBuf}
use Rattle.beacon_spec.proofs.Broadcasts.{broadcasting}
use Rattle.beacon_spec.specs.Scanner.{scanned}
use Rattle.beacon_spec.specs.Sending.{bare_beacon, beacon_in}
use Rattle.beacon_spec.specs.State.{Beacon}
use Rattle.whitening.proofs.Errors.{crc_octets_length}
use Rattle.whitening.proofs.Heard.{hears}
use Rattle.whitening.proofs.Whitens.{whitens}
use Rattle.whitening.specs.Bits.{bits, number, bits_of, octets_in_bits, added}
use Rattle.whitening.specs.Crc.{crc_after, crc_octets}
use Rattle.whitening.specs.Packet.{start_on}
use Rattle.whitening.specs.Whitening.{leaving, whitening, plus, whitened}
use Rattle.air.specs.Laws.{packet_on, header_on_air, payload_in, sent_on, Passes, Beacons, Air, Examples}
use Rattle.std.specs.Prelude.{Result, Ok, Err, IfOk}
use Rattle.octets.specs.declared.error.Error.{Error}

-- the two octets of a header are read back
header_back : (h : Header) (rest : List ℕ) → h.0 < 2 ^ 16 → header_on_air (header_octets h ++ rest) ≡ h
header_back h rest small =
    let e : h.0 % 256 + 256 * (h.0 / 256 % 256 + 256 * 0) ≡ h.0 = omega arith in
    ap header_of e

-- so is a payload between header and CRC
payload_back : (h : Header) (p last : List ℕ) → length last ≡ 3 → payload_in ((header_octets h ++ p) ++ last) ≡ p
payload_back h p last three =
    let size : length ((header_octets h ++ p) ++ last) - 5 ≡ length p = simp length-append (omega arith) in
    ap (λ (n : ℕ). take n (p ++ last)) size ∙ take_at p last (length p) refl

passes : (channel start : ℕ) (h : Header) (p : List ℕ) → channel ≤ 39 → h.0 < 2 ^ 16 → length p ≤ 37 → Passes channel start h p
passes channel start h p there small fits =
    let octets : List ℕ = header_octets h ++ p in
    let last : List ℕ = crc_octets (start_on channel start) octets in
    let three : length last ≡ 3 = crc_octets_length (start_on channel start) octets in
    let n : length octets ≡ 2 + length p = simp length-append (omega arith) in
    let all : length (octets ++ last) ≡ 5 + length p = simp length-append (omega arith) in
    let back : whitened channel (packet_on channel start octets) ≡ octets ++ last = whitens.twice channel (octets ++ last) (omega arith) in
    record {
      size = whitens.as_long channel (octets ++ last) (omega arith) ∙ all;
      good = (hears channel start).own octets there (omega arith) (omega arith);
      header = ap header_on_air (back ∙ append_assoc (header_octets h) p last) ∙ header_back h (p ++ last) small;
      payload = ap payload_in back ∙ payload_back h p last three;
    }

kind_small : (k : AddressKind) → kind_number k ≤ 1
kind_small Public = omega arith
kind_small Random = omega arith

-- what holds of the PDU that was built holds of the beacon's
of_built : (P : PduBuf → Type 0) (bare : Beacon) (r : Result PduBuf Error) (b : Beacon) → beacon_in bare r ≡ Ok b → IfOk r P → P b.pdu
of_built P bare (Ok p) b is holds =
    let same : p ≡ b.pdu = cc in
    subst P same holds
of_built P bare (Err e) b is holds = (cc)

beacons : (a : DeviceAddress) (s : List ℕ) (n channel start : ℕ) → length a.bytes ≡ 6 → read_area s ≡ Ok n → length s ≤ 31 → channel ≤ 39
    → Beacons a s n channel start
beacons a s n channel start six good fits there =
    let b = broadcasting a s n six good fits in
    let h : Header = b.beacon.pdu.header in
    let p : List ℕ = payload_of b.beacon.pdu in
    let sixteen : h.0 ≡ 2 + 64 * kind_number a.kind + 256 * (6 + (0 + length s)) =
    of_built (λ (x : PduBuf). x.header.0 ≡ 2 + 64 * kind_number a.kind + 256 * (6 + (0 + length s))) (bare_beacon a) (beacon_pdu a s) b.beacon b.made ((builders a s six).beacon.header n good fits) in
    let small : h.0 < 2 ^ 16 = omega (arith, kind_small a.kind) in
    let through = passes channel start h p there small (omega (arith, b.size)) in
    record {
      packet = packet_on channel start (as_sent b.beacon.pdu);
      sent = ap (sent_on channel start) b.made;
      good = through.good;
      place = b.place;
      decoded = ap₂ decode_of through.header through.payload ∙ b.decoded;
      number_of_records = b.number_of_records;
      records = ap (data_in b.place) through.payload ∙ b.records;
      reported = λ scanner list lets.
          ap₂ (λ (x : Header) (y : List ℕ). scanned scanner x y true list) through.header through.payload ∙ b.heard scanner list lets;
    }

pub air : Air
air = record { passes = passes; beacons = beacons }

pub examples : Examples
unfolding bits number bits_of octets_in_bits added crc_after crc_octets leaving whitening plus whitened xor buf_of with_records after_reading read_area area_of reads with_first cut first record_read data_read flags_read up_to named clean rewritten flatten
examples = record { row = λ start. refl }
