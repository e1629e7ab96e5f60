-- The hub's decoder in the words of document 02's Note 3: what it finds, and that it differs from the general one only where a zero length stands at a
-- record's place.
--   Heard h p         (Padded.heard)  what is heard, by what the hub's reading finds after the address
--   Alike h p         (Padded.alike)  where the two decoders answer alike
--   uncounted d        == the answer d of a decoder, whose records, if it has any, took no octets
--   strict_number ty p == the number that the general decoder answers for p and a header of type ty that counts p
--   numbers_of x       == an answer as numbers: 0, the octets of the area, the records, and the octets that these took; or the number of a refusal
--   heard_numbers ty p == what the hub's decoder answers for them, so
--   DecodedRows       (Padded.rows)   worked values
use Rattle.std.specs.Prelude.{◌≡◌, ℕ, ◌+◌, ◌-◌, ◌*◌, ◌<◌, ◌≤◌, true, false, List, [], ◌∷◌, ◌++◌, map, length, take, drop, replicate, ◌≢◌, Result, Ok, Err}
use Rattle.addresses.specs.Address.{kind_of, address_of}
use Rattle.addresses.specs.Header.{header_of, type_of, tx_add, length_of, allows_adv_data}
use Rattle.addresses.specs.declared.header.Header.{Header}
use Rattle.octets.specs.declared.error.Error.{Error}
use Rattle.octets.specs.declared.error.Error.TheVariants.{Eof, InvalidLength}
use Rattle.records_spec.specs.HubReads.{ZeroLength}
use Rattle.records_spec.specs.HubReading.{read_padded}
use Rattle.advertising.specs.Laws.{nine}
use Rattle.advertising.specs.Pdu.{no_address, no_request, pdu_as, decode_of, heard_of, padded_of}
use Rattle.advertising.specs.Refusals.{number_in}
use Rattle.advertising.specs.declared.pdu.Pdu.{Pdu}
use Rattle.octets.specs.Error.{number_of}

abbrev pub uncounted : Result Pdu Error → Result (Pdu × ℕ) Error
uncounted (Ok d) = Ok (d, 0)
uncounted (Err e) = Err e

-- "how many octets the records took" beside the sender, the whole area and the number of records
pub record Heard (h : Header) (p : List ℕ) : Type 0 where
  -- a type with records, counted by its header, and after an address an area that the hub reads, or does not
  pub accepted : (n taken : ℕ) → allows_adv_data (type_of h) ≡ true → length_of h ≡ length p → 6 ≤ length p → read_padded (drop 6 p) ≡ Ok (n, taken)
      → padded_of h p ≡ Ok (pdu_as (type_of h) (address_of (take 6 p) (kind_of (tx_add h))) no_address (record { start = 6; len = length p - 6; count = n }) no_request, taken)
  pub refused : (e : Error) → allows_adv_data (type_of h) ≡ true → length_of h ≡ length p → 6 ≤ length p → read_padded (drop 6 p) ≡ Err e → padded_of h p ≡ Err e
  -- otherwise there are no records: too few octets for the address, a length that differs, a type without them
  pub short : allows_adv_data (type_of h) ≡ true → length_of h ≡ length p → length p < 6 → padded_of h p ≡ Err Eof
  pub other_length : (length_of h ≢ length p) → padded_of h p ≡ Err InvalidLength
  pub other_type : allows_adv_data (type_of h) ≡ false → padded_of h p ≡ uncounted (decode_of h p)

-- "the hub's differs from it only in this"
pub record Alike (h : Header) (p : List ℕ) : Type 0 where
  pub agree : (ZeroLength (drop 6 p) → ⊥) → heard_of h p ≡ decode_of h p
  -- where a zero length stands at a record's place, the general decoder answers 2
  pub strict : allows_adv_data (type_of h) ≡ true → length_of h ≡ length p → 6 ≤ length p → ZeroLength (drop 6 p) → decode_of h p ≡ Err InvalidLength
  -- what the general decoder accepts is heard alike, and what the hub's refuses the general one refuses alike
  pub accepts : (d : Pdu) → decode_of h p ≡ Ok d → heard_of h p ≡ Ok d
  pub refuses : (e : Error) → heard_of h p ≡ Err e → decode_of h p ≡ Err e

-- a header of type ty that counts p, as the general decoder answers it, and as it is heard
abbrev pub strict_number : ℕ → List ℕ → ℕ
strict_number ty p = number_in (decode_of (header_of (ty + 256 * length p)) p)

abbrev pub numbers_of : Result (Pdu × ℕ) Error → List ℕ
numbers_of (Ok (d, taken)) = 0 ∷ d.adv_data.len ∷ d.adv_data.count ∷ taken ∷ []
numbers_of (Err e) = number_of e ∷ []

abbrev pub heard_numbers : ℕ → List ℕ → List ℕ
heard_numbers ty p = numbers_of (padded_of (header_of (ty + 256 * length p)) p)

pub record DecodedRows : Type 0 where
  -- document 01's row and zeros after it, none, one and as many as there is room for
  pub strict : map (λ (n : ℕ). strict_number 2 (nine ++ replicate n 0)) (0 ∷ 1 ∷ 28 ∷ []) ≡ 0 ∷ 2 ∷ 2 ∷ []
  pub heard : map (λ (n : ℕ). heard_numbers 2 (nine ++ replicate n 0)) (0 ∷ 1 ∷ 28 ∷ [])
      ≡ (0 ∷ 3 ∷ 1 ∷ 3 ∷ []) ∷ (0 ∷ 4 ∷ 1 ∷ 3 ∷ []) ∷ (0 ∷ 31 ∷ 1 ∷ 3 ∷ []) ∷ []
  -- every type with records, an address and zeros alone; a type without, and too few octets for the address
  pub types : map (λ (ty : ℕ). heard_numbers ty (replicate 7 0)) (0 ∷ 2 ∷ 4 ∷ 6 ∷ 1 ∷ []) ≡ (0 ∷ 1 ∷ 0 ∷ 0 ∷ []) ∷ (0 ∷ 1 ∷ 0 ∷ 0 ∷ []) ∷ (0 ∷ 1 ∷ 0 ∷ 0 ∷ []) ∷ (0 ∷ 1 ∷ 0 ∷ 0 ∷ []) ∷ (1 ∷ []) ∷ []
  pub short : heard_numbers 2 (replicate 5 0) ≡ 1 ∷ []
  -- an octet after the zero
  pub another : heard_numbers 2 (nine ++ (0x00 ∷ 0x01 ∷ [])) ≡ 2 ∷ []
