-- What each builder builds: `builders`, `directed`; its payload copied to a buffer: `writing`; worked values: `examples`, computed. Assumes nothing.
use Rattle.std.proofs.Common.{◌≡◌, ℕ, ◌+◌, ◌-◌, ◌*◌, ◌/◌, ◌%◌, ◌<◌, ◌≤◌, Bool, false, cond, List, [], ◌++◌, length, replicate, refl, ap, ◌∙◌, zero-add, arith, length-append}
use mathlib.Core.List.{flatten}
use Rattle.addresses.proofs.Boxes.{bit_small}
use Rattle.addresses.specs.Address.{kind_number, is_random}
use Rattle.addresses.specs.Header.{header_of, type_code, pdu_type, set_tx_add, set_length}
use Rattle.addresses.specs.declared.device_address.AddressKind.{AddressKind}
use Rattle.addresses.specs.declared.device_address.AddressKind.TheVariants.{Public, Random}
use Rattle.addresses.specs.declared.device_address.DeviceAddress.{DeviceAddress}
use Rattle.addresses.specs.declared.header.PduType.{PduType}
use Rattle.addresses.specs.declared.header.PduType.TheVariants.{AdvInd, AdvDirectInd, AdvNonconnInd, AdvScanInd, ScanRsp}
use Rattle.octets.proofs.Places.{enough, too_few}
use Rattle.octets.specs.declared.error.Error.TheVariants.{Eof}
use Rattle.records_spec.proofs.RoundTrip.{round_trip}
use Rattle.records_spec.specs.Area.{cut, reads, with_first, area_of, read_area, clean, rewritten}
use Rattle.records_spec.specs.Record.{first, flags_read, data_read, up_to, record_read}
use Rattle.flags.specs.Flags.{named}
use Rattle.advertising.specs.Builders.{Builds, Builders, Directed, Writing, Examples}
use Rattle.advertising.specs.Pdu.{ll_data_of, connect_request, by_type, decode_by}
use Rattle.advertising.specs.Refusals.{number_in}
use Rattle.advertising.specs.PduBuf.{header_for, buf_of, after_reading, with_records, built_of, flags_record, payload_of}
use Rattle.advertising.specs.declared.pdu_buf.PduBuf.{PduBuf}
use Rattle.advertising.proofs.Building.{building, enough_space}
use Rattle.std.specs.Prelude.{Ok, Err, is_ok}

-- a bit that is clear is set
tx_set : (x v : ℕ) → x / 64 % 2 ≡ 0 → x - 64 * (x / 64 % 2) + 64 * v ≡ x + 64 * v
tx_set x v clear = omega arith

rx_set : (x v : ℕ) → x / 128 % 2 ≡ 0 → x - 128 * (x / 128 % 2) + 128 * v ≡ x + 128 * v
rx_set x v clear = omega arith

tx_clear : (c n : ℕ) → c < 16 → (c + 256 * n) / 64 % 2 ≡ 0
tx_clear c n small = omega arith

rx_clear : (c n v : ℕ) → c < 16 → v ≤ 1 → (c + 256 * n + 64 * v) / 128 % 2 ≡ 0
rx_clear c n v small bit = omega arith

-- the 16 bits of a header that is built
header_bits_law : (ty : PduType) (tx rx : Bool) (n : ℕ) → type_code ty < 16 → n < 64 → (header_for ty tx rx n).0 ≡ type_code ty + 64 * cond tx 1 0 + 128 * cond rx 1 0 + 256 * n
header_bits_law ty tx rx n code fits =
    let c : ℕ = type_code ty in
    let t : ℕ = cond tx 1 0 in
    let r : ℕ = cond rx 1 0 in
    let counted : (set_length n (header_of c)).0 ≡ c + 256 * n = omega arith in
    let sender : (set_tx_add tx (set_length n (header_of c))).0 ≡ c + 256 * n + 64 * t =
    ap (λ (x : ℕ). x - 64 * (x / 64 % 2) + 64 * t) counted ∙ tx_set (c + 256 * n) t (tx_clear c n code) in
    let all : (header_for ty tx rx n).0 ≡ c + 256 * n + 64 * t + 128 * r =
    ap (λ (x : ℕ). x - 128 * (x / 128 % 2) + 128 * r) sender ∙ rx_set (c + 256 * n + 64 * t) r (rx_clear c n t code (bit_small tx)) in
    let sum : c + 256 * n + 64 * t + 128 * r ≡ c + 64 * t + 128 * r + 256 * n = omega arith in
    all ∙ sum

kind_bit : (k : AddressKind) → cond (is_random k) 1 0 ≡ kind_number k
kind_bit Public = refl
kind_bit Random = refl

-- a builder of the type ty with the octets `flags` before the records
module _ (ty : PduType) (flags : List ℕ) (most : ℕ) (small : type_code ty < 16) (limit : length flags + most ≡ 31) (a : DeviceAddress) (s : List ℕ) (six : length a.bytes ≡ 6) where
  abbrev octets : List ℕ
  octets = (a.bytes ++ flags) ++ rewritten s

  front : length (a.bytes ++ flags) ≡ 6 + length flags
  front = simp length-append (omega arith)

  size : length octets ≡ 6 + (length flags + length s)
  size = simp length-append (omega (arith, (round_trip s).as_long))

  fits : (n : ℕ) → read_area s ≡ Ok n → length s ≤ most → built_of ty a flags s ≡ Ok (buf_of ty (is_random a.kind) false octets)
  unfolding with_records after_reading
  fits n good few =
      rw good
      (enough_space (37 - length (a.bytes ++ flags)) (length s) (Err Eof) (Ok (buf_of ty (is_random a.kind) false octets)) (omega (arith, front)))

  header_is : length s ≤ most → (header_for ty (is_random a.kind) false (length octets)).0 ≡ type_code ty + 64 * kind_number a.kind + 256 * (6 + (length flags + length s))
  header_is few =
      let bits = header_bits_law ty (is_random a.kind) false (length octets) small (omega (arith, size)) in
      rw (← kind_bit a.kind) (omega (arith, size, bits))

  builds : Builds (type_code ty) flags most (λ x r. built_of ty x flags r) a s
  unfolding buf_of
  builds =
      record {
        accepted = λ n good few. ap is_ok (fits n good few);
        header = λ n good few. rw (fits n good few) (header_is few);
        octets = λ n good few.
            let rest : 37 - length octets ≡ most - length s = omega (arith, size) in
            rw (fits n good few) (ap (λ (k : ℕ). octets ++ replicate k 0) rest);
        bad_area = λ e bad. building.bad_area ty a flags s e bad;
        too_long = λ n good much. ap number_in (building.too_long ty a flags s n good (omega (arith, front)) (omega (arith, front)));
      }

pub builders : (a : DeviceAddress) (s : List ℕ) → length a.bytes ≡ 6 → Builders a s
builders a s six =
    record {
      connectable = builds AdvInd [] 31 (omega arith) (omega arith) a s six;
      nonconnectable = builds AdvNonconnInd [] 31 (omega arith) (omega arith) a s six;
      scannable = builds AdvScanInd [] 31 (omega arith) (omega arith) a s six;
      beacon = builds AdvNonconnInd [] 31 (omega arith) (omega arith) a s six;
      discoverable = builds AdvInd flags_record 28 (omega arith) (omega arith) a s six;
      scan_response_law = builds ScanRsp [] 31 (omega arith) (omega arith) a s six;
    }

pub directed : (a b : DeviceAddress) → length a.bytes ≡ 6 → length b.bytes ≡ 6 → Directed a b
unfolding buf_of
directed a b six six' =
    let size : length (a.bytes ++ b.bytes) ≡ 12 = simp length-append (omega arith) in
    let rest : 37 - length (a.bytes ++ b.bytes) ≡ 25 = omega arith in
    let bits = header_bits_law AdvDirectInd (is_random a.kind) (is_random b.kind) (length (a.bytes ++ b.bytes)) (omega arith) (omega arith) in
    record {
      header = rw (← kind_bit a.kind, ← kind_bit b.kind) (omega (arith, size, bits));
      octets = ap (λ (k : ℕ). (a.bytes ++ b.bytes) ++ replicate k 0) rest;
    }

pub writing : (b : PduBuf) (out : List ℕ) → Writing b out
writing b out =
    let n : ℕ = length (payload_of b) in
    record {
      fits = λ few. rw (enough n out 0 (omega arith), zero-add n);
      octets = λ few. rw (enough n out 0 (omega arith), zero-add n);
      short = λ much. rw (too_few n out 0 (omega arith));
      kept = λ much. rw (too_few n out 0 (omega arith));
    }

pub examples : Examples
unfolding decode_by by_type connect_request ll_data_of pdu_type buf_of with_records after_reading read_area area_of reads with_first cut first record_read data_read flags_read up_to named clean rewritten flatten
examples =
    record {
      connectable = refl;
      nonconnectable = refl;
      scannable = refl;
      beacon = refl;
      discoverable = refl;
      scan_response_law = refl;
      directed = refl;
      directed_back = refl;
      most_31 = refl;
      most_28 = refl;
      empty = (refl, refl, refl);
      second_address = refl;
      none_without_a_name = λ n. refl;
      parts = refl;
      no_part = refl;
      window_end_law = refl;
      window_modulo = refl;
    }
