use Rattle.std.proofs.Common.{◌≡◌, ◌*◌, ℕ, ◌/◌, ◌%◌, get_or, sym, ap, ◌∙◌, arith}
use Rattle.octets.specs.Bytes.{part, le}
use Rattle.octets.proofs.Places.{part_octets}
use Rattle.channels.specs.Map.{from_raw}
use Rattle.advertising.specs.Pdu.{accuracy_of, ll_data_of}
use Rattle.advertising.proofs.pdu.read_request.Goals as goal

pub returns : goal.returns
unfolding ll_data_of
returns c =
    let o = c.args.lldata.now in
    let micros : ℕ → ℕ = λ n. n * 1250 in
    let access_is : c.u32_from_le_bytes.result ≡ le (part 4 o 0) = c.u32_from_le_bytes.ensures ∙ ap le (sym (part_octets 3 o 0 (omega (arith, c.requires)))) in
    let crc_is : c.u32_from_le_bytes-2.result ≡ le (part 3 o 4) = rw (part_octets 2 o 4 (omega (arith, c.requires))) (omega (arith, c.u32_from_le_bytes-2.ensures)) in
    let size : c.from.result ≡ le (part 1 o 7) = rw (part_octets 0 o 7 (omega (arith, c.requires))) (omega (arith, c.from.ensures)) in
    let offset : c.u16_from_le_bytes.result ≡ le (part 2 o 8) = c.u16_from_le_bytes.ensures ∙ ap le (sym (part_octets 1 o 8 (omega (arith, c.requires)))) in
    let interval : c.u16_from_le_bytes-2.result ≡ le (part 2 o 10) = c.u16_from_le_bytes-2.ensures ∙ ap le (sym (part_octets 1 o 10 (omega (arith, c.requires)))) in
    let latency_is : c.u16_from_le_bytes-3.result ≡ le (part 2 o 12) = c.u16_from_le_bytes-3.ensures ∙ ap le (sym (part_octets 1 o 12 (omega (arith, c.requires)))) in
    let timeout : c.from-2.result ≡ le (part 2 o 14) = c.from-2.ensures ∙ c.u16_from_le_bytes-4.ensures ∙ ap le (sym (part_octets 1 o 14 (omega (arith, c.requires)))) in
    let map_is = c.from_raw.ensures ∙ ap from_raw (sym (part_octets 4 o 16 (omega (arith, c.requires)))) in
    let last : get_or o 21 0 ≡ le (part 1 o 21) = rw (part_octets 0 o 21 (omega (arith, c.requires))) (omega arith) in
    λ i. record {
      access_address = access_is i;
      crc_init = crc_is i;
      win_size = (c.micros.ensures ∙ ap micros size) i;
      win_offset = (c.micros-2.ensures ∙ ap micros offset) i;
      interval = (c.micros-3.ensures ∙ ap micros interval) i;
      latency = latency_is i;
      timeout = ap (λ (n : ℕ). n * 10000) timeout i;
      chm = map_is i;
      hop = ap (λ (n : ℕ). n % 32) last i;
      sca = (c.from-3.ensures ∙ ap (λ (n : ℕ). accuracy_of (n / 32)) last) i;
    }
