-- Which header and payload are refused, and with which number (document 01: "Order: length, type, fields from the front.").
--   number_in r      == the number of an answer: that of its refusal, 0 where it is none
--   number_for n p   == document 01's number for a header of the 16 bits n and the payload p, 0 where they are accepted
--   needed          == how many octets the fields of types 0 to 6 need
--   Order n p       (Refusals.order)       that number, by the header's bits and the payload's length
--   pdu_from s at    == what is read of header and payload in one slice, from position `at` on
--   FromBytes s     (Refusals.from_bytes)  that, by the octets of s
--   zeros ty k      == the number for a header of type ty that counts k octets, all zero
--   refusal_from s at == the number of what is read from position `at` on
--   RefusalRows     (Refusals.rows)        worked values beside each limit, and where two conditions hold at once
use Rattle.std.specs.Prelude.{◌≡◌, ℕ, ◌+◌, ◌*◌, ◌/◌, ◌%◌, ◌<◌, ◌≤◌, List, [], ◌∷◌, ◌++◌, map, length, drop, replicate, ◌≢◌, slice_index, Result, Ok, Err}
use mathlib.Core.List.{Mem}
use Rattle.addresses.specs.Header.{header_of, header_read}
use Rattle.octets.specs.Bytes.{u16_read}
use Rattle.octets.specs.Error.{number_of}
use Rattle.octets.specs.declared.error.Error.{Error}
use Rattle.octets.specs.declared.error.Error.TheVariants.{Eof, InvalidLength, InvalidValue}
use Rattle.records_spec.specs.Area.{read_area}
use Rattle.advertising.specs.Laws.{nine}
use Rattle.advertising.specs.Pdu.{decode_of, decoded_at}
use Rattle.advertising.specs.declared.pdu.Pdu.{Pdu}

abbrev pub number_in : {A : Type 0} → Result A Error → ℕ
number_in (Ok x) = 0
number_in (Err e) = number_of e

abbrev pub number_for : ℕ → List ℕ → ℕ
number_for n p = number_in (decode_of (header_of n) p)

-- "Types 0, 2, 4, 6 need 6 octets, then records; 1 and 3 need 12; 5 needs 34"
abbrev pub needed : List ℕ
needed = 6 ∷ 12 ∷ 6 ∷ 12 ∷ 6 ∷ 34 ∷ 6 ∷ []

-- "Header bits 0-3 type, .. 8-13 length"
pub record Order (n : ℕ) (p : List ℕ) : Type 0 where
  -- the header does not count the payload: 2, whatever the type and the octets
  pub by_length : (n / 256 % 64 ≢ length p) → number_for n p ≡ 2
  -- it does, and the type is 7 to 15: 3, whatever the octets
  pub by_type_law : n / 256 % 64 ≡ length p → 6 < n % 16 → number_for n p ≡ 3
  -- the type is 0 to 6, and its fields need more octets: 1
  pub by_fields : n / 256 % 64 ≡ length p → n % 16 ≤ 6 → length p < slice_index needed (n % 16) → number_for n p ≡ 1
  -- an address and records: these decide
  pub by_records : (e : Error) → n / 256 % 64 ≡ length p → Mem (n % 16) (0 ∷ 2 ∷ 4 ∷ 6 ∷ []) → 6 ≤ length p → read_area (drop 6 p) ≡ Err e → number_for n p ≡ number_of e
  pub with_records_law : (k : ℕ) → n / 256 % 64 ≡ length p → Mem (n % 16) (0 ∷ 2 ∷ 4 ∷ 6 ∷ []) → 6 ≤ length p → read_area (drop 6 p) ≡ Ok k → number_for n p ≡ 0
  -- "for 1, 3 and 5 further octets are accepted"
  pub others : n / 256 % 64 ≡ length p → Mem (n % 16) (1 ∷ 3 ∷ 5 ∷ []) → slice_index needed (n % 16) ≤ length p → number_for n p ≡ 0

abbrev pub pdu_from : List ℕ → ℕ → Result Pdu Error
pdu_from s at = decoded_at (header_read (u16_read s at)) s

-- `Pdu::from_bytes`: a reader with fewer than two octets left is 1, where `Header::parse` answers 4; else the payload is all that follows the header.
pub record FromBytes (s : List ℕ) : Type 0 where
  pub short : (at : ℕ) → length s < at + 2 → number_in (pdu_from s at) ≡ 1
  pub reads : (before : List ℕ) (h0 h1 : ℕ) (payload : List ℕ) → s ≡ before ++ (h0 ∷ h1 ∷ payload) → pdu_from s (length before) ≡ decode_of (header_of (h0 + 256 * h1)) payload

-- the number of a header of type ty that counts k octets, all zero
abbrev pub zeros : ℕ → ℕ → ℕ
zeros ty k = number_for (ty + 256 * k) (replicate k 0)

-- the number of what is read from position `at` on
abbrev pub refusal_from : List ℕ → ℕ → ℕ
refusal_from s at = number_in (pdu_from s at)

-- Document 01, "Refused calls" and advertising.rs. A zero octet after the address is a record of length 0, so 2.
pub record RefusalRows : Type 0 where
  pub type_0 : map (zeros 0) (5 ∷ 6 ∷ 7 ∷ []) ≡ 1 ∷ 0 ∷ 2 ∷ []
  pub type_1 : map (zeros 1) (11 ∷ 12 ∷ 13 ∷ []) ≡ 1 ∷ 0 ∷ 0 ∷ []
  pub type_2 : map (zeros 2) (5 ∷ 6 ∷ 7 ∷ []) ≡ 1 ∷ 0 ∷ 2 ∷ []
  pub type_3 : map (zeros 3) (11 ∷ 12 ∷ 13 ∷ []) ≡ 1 ∷ 0 ∷ 0 ∷ []
  pub type_4 : map (zeros 4) (5 ∷ 6 ∷ 7 ∷ []) ≡ 1 ∷ 0 ∷ 2 ∷ []
  pub type_5 : map (zeros 5) (33 ∷ 34 ∷ 35 ∷ []) ≡ 1 ∷ 0 ∷ 0 ∷ []
  pub type_6 : map (zeros 6) (5 ∷ 6 ∷ 7 ∷ []) ≡ 1 ∷ 0 ∷ 2 ∷ []
  pub types_7_to_15 : map (λ (ty : ℕ). zeros ty 6) (7 ∷ 8 ∷ 9 ∷ 10 ∷ 11 ∷ 12 ∷ 13 ∷ 14 ∷ 15 ∷ []) ≡ 3 ∷ 3 ∷ 3 ∷ 3 ∷ 3 ∷ 3 ∷ 3 ∷ 3 ∷ 3 ∷ []
  -- two conditions at once: the length before the type, before the fields and before the records; the type before the fields
  pub length_and_type : number_for 0x0707 (replicate 6 0) ∷ number_for 0x050F (replicate 6 0) ∷ [] ≡ 2 ∷ 2 ∷ []
  pub length_and_fields : number_for 0x0600 (replicate 5 0) ∷ number_for 0x0C01 (replicate 11 0) ∷ number_for 0x2205 (replicate 33 0) ∷ [] ≡ 2 ∷ 2 ∷ 2 ∷ []
  pub length_and_records : number_for 0x0800 (replicate 6 0 ++ (0x02 ∷ [])) ≡ 2
  pub type_and_fields : zeros 7 0 ∷ zeros 15 5 ∷ [] ≡ 3 ∷ 3 ∷ []
  -- the area's own refusals: too few octets 1, a zero length 2, wrong Flags 2
  pub records : map (λ (s : List ℕ). number_for (256 * (6 + length s)) (replicate 6 0 ++ s))
      ((0x02 ∷ 0x09 ∷ []) ∷ (0x00 ∷ []) ∷ (0x01 ∷ 0x01 ∷ []) ∷ (0x02 ∷ 0x01 ∷ 0x06 ∷ []) ∷ [])
      ≡ 1 ∷ 2 ∷ 2 ∷ 0 ∷ []
  -- header bits 4, 5, 14 and 15 decide nothing
  pub reserved : number_for 0xC630 (replicate 6 0) ≡ 0
  -- header and payload in one slice: none and one octet left, a position past the end, two octets left, more
  pub one_slice : refusal_from [] 0 ∷ refusal_from (0x42 ∷ []) 0 ∷ refusal_from (0x42 ∷ 0x09 ∷ []) 1 ∷ refusal_from (0x42 ∷ 0x09 ∷ []) 3 ∷ [] ≡ 1 ∷ 1 ∷ 1 ∷ 1 ∷ []
  pub two_left : refusal_from (0x07 ∷ 0x00 ∷ []) 0 ∷ refusal_from (0xFF ∷ 0x07 ∷ 0x00 ∷ []) 1 ∷ [] ≡ 3 ∷ 3 ∷ []
  pub behind : refusal_from (0xFF ∷ 0x42 ∷ 0x09 ∷ nine) 1 ≡ 0
  -- the numbers of the three refusals, and of none
  pub numbers : map (number_in {A = ℕ}) (Ok 0 ∷ Err Eof ∷ Err InvalidLength ∷ Err InvalidValue ∷ []) ≡ 0 ∷ 1 ∷ 2 ∷ 3 ∷ []
