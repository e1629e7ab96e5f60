-- The order of refusals: `order`; header and payload in one slice: `from_bytes`; worked values: `rows`, computed. Assumes nothing.
use Rattle.std.proofs.Common.{◌≡◌, ℕ, zero, suc, ◌+◌, ◌*◌, ◌/◌, ◌%◌, ◌<◌, ◌≤◌, true, List, [], ◌∷◌, length, get_or, drop, refl, ap, ◌∙◌, arith, length-append, le-ltb, lt-ltb, eq-eqb, ne_eqb}
use mathlib.Core.List.Memᴰ.{head as here}
use mathlib.Core.List.Memᴰ.{tail as there}
use mathlib.Core.List.{Mem, Memᴰ}
use mathlib.Core.Logic.{∥∥₁_elim}
use native.Mathlib.Nat.{ℕ_set}
use lib.Seq.{drop-append_seam, drop-append-add}
use Rattle.addresses.proofs.Boxes.{codes}
use Rattle.addresses.specs.Header.{header_of, pdu_type, length_of, allows_adv_data}
use Rattle.addresses.specs.declared.header.Header.{Header}
use Rattle.addresses.specs.declared.header.PduType.{PduType}
use Rattle.addresses.specs.declared.header.PduType.TheVariants.{AdvInd, AdvDirectInd, AdvNonconnInd, AdvScanInd, ScanReq, ScanRsp, ConnectReq, Unknown}
use Rattle.octets.proofs.Places.{enough, too_few}
use Rattle.octets.specs.Error.{number_of}
use Rattle.records_spec.specs.Area.{cut, reads, with_first, area_of, read_area}
use Rattle.records_spec.specs.Record.{first, flags_read, data_read, up_to, record_read}
use Rattle.flags.specs.Flags.{named}
use Rattle.advertising.specs.Pdu.{ll_data_of, with_area, undirected, directed, connect_request, by_type, decode_by, decode_of}
use Rattle.advertising.specs.Refusals.{number_in, number_for, needed, Order, FromBytes, RefusalRows}
use Rattle.advertising.proofs.Accepting.{arm_undirected}
use Rattle.std.specs.Prelude.{Result, Ok, Err}
use Rattle.octets.specs.declared.error.Error.{Error}

-- the types 7 to 15 have no name
unnamed : (c : ℕ) → 6 < c → pdu_type c ≡ Unknown c
unfolding pdu_type
unnamed c big =
    rw (ne_eqb c 0 (λ e. omega arith), ne_eqb c 1 (λ e. omega arith), ne_eqb c 2 (λ e. omega arith), ne_eqb c 3 (λ e. omega arith), ne_eqb c 4 (λ e. omega arith), ne_eqb c 5 (λ e. omega arith), ne_eqb c 6 (λ e. omega arith))

module _ (n : ℕ) (p : List ℕ) where
  abbrev h : Header
  h = header_of n

  wrong_length : (n / 256 % 64 ≡ length p → ⊥) → number_for n p ≡ 2
  unfolding decode_by
  wrong_length differ = rw (ne_eqb (length_of h) (length p) (λ e. differ (omega arith)))

  -- where the header counts the payload, the type decides
  typed : (c : ℕ) (ty : PduType) → n / 256 % 64 ≡ length p → n % 16 ≡ c → pdu_type c ≡ ty → decode_of h p ≡ by_type read_area ty h p
  unfolding decode_by
  typed c ty counts is named =
      let code : n / 1 % 16 ≡ c = omega arith in
      rw (eq-eqb (length_of h) (length p) (omega arith)) (ap (λ (k : PduType). by_type read_area k h p) (ap pdu_type code ∙ named))

  -- the answers of the types, as numbers
  undirected_short : (ty : PduType) → length p < 6 → number_in (undirected read_area ty h p) ≡ 1
  unfolding undirected
  undirected_short ty few = rw (lt-ltb (length p) 6 few)

  directed_short : (ty : PduType) → length p < 12 → number_in (directed ty h p) ≡ 1
  unfolding directed
  directed_short ty few = rw (lt-ltb (length p) 12 few)

  connect_short : length p < 34 → number_in (connect_request h p) ≡ 1
  unfolding connect_request
  connect_short few = rw (lt-ltb (length p) 34 few)

  -- a number of the answer by type is the number of the answer
  by : (c : ℕ) (ty : PduType) (k : ℕ) → n / 256 % 64 ≡ length p → n % 16 ≡ c → pdu_type c ≡ ty → number_in (by_type read_area ty h p) ≡ k → number_for n p ≡ k
  by c ty k counts is named number = ap number_in (typed c ty counts is named) ∙ number

  wrong_type : n / 256 % 64 ≡ length p → 6 < n % 16 → number_for n p ≡ 3
  unfolding by_type
  wrong_type counts big = by (n % 16) (Unknown (n % 16)) 3 counts refl (unnamed (n % 16) big) refl

  too_short : n / 256 % 64 ≡ length p → n % 16 ≤ 6 → length p < get_or needed (n % 16) 0 → number_for n p ≡ 1
  unfolding by_type
  too_short counts known few = go (n % 16) refl known few
    where
      go : (c : ℕ) → n % 16 ≡ c → c ≤ 6 → length p < get_or needed c 0 → number_for n p ≡ 1
      go zero is k few = by 0 AdvInd 1 counts is codes.code_0 (undirected_short AdvInd few)
      go (suc zero) is k few = by 1 AdvDirectInd 1 counts is codes.code_1 (directed_short AdvDirectInd few)
      go (suc (suc zero)) is k few = by 2 AdvNonconnInd 1 counts is codes.code_2 (undirected_short AdvNonconnInd few)
      go (suc (suc (suc zero))) is k few = by 3 ScanReq 1 counts is codes.code_3 (directed_short ScanReq few)
      go (suc (suc (suc (suc zero)))) is k few = by 4 ScanRsp 1 counts is codes.code_4 (undirected_short ScanRsp few)
      go (suc (suc (suc (suc (suc zero))))) is k few = by 5 ConnectReq 1 counts is codes.code_5 (connect_short few)
      go (suc (suc (suc (suc (suc (suc zero)))))) is k few = by 6 AdvScanInd 1 counts is codes.code_6 (undirected_short AdvScanInd few)
      go (suc (suc (suc (suc (suc (suc (suc c))))))) is k few = absurd (omega arith)

  -- the types with records
  record HasRecords : Type 0 where
    code : ℕ
    type : PduType
    is : n % 16 ≡ code
    named : pdu_type code ≡ type
    allows : allows_adv_data type ≡ true

  has_records : Memᴰ (n % 16) (0 ∷ 2 ∷ 4 ∷ 6 ∷ []) → HasRecords
  has_records (here e) = record { code = 0; type = AdvInd; is = e; named = codes.code_0; allows = refl }
  has_records (there (here e)) = record { code = 2; type = AdvNonconnInd; is = e; named = codes.code_2; allows = refl }
  has_records (there (there (here e))) = record { code = 4; type = ScanRsp; is = e; named = codes.code_4; allows = refl }
  has_records (there (there (there (here e)))) = record { code = 6; type = AdvScanInd; is = e; named = codes.code_6; allows = refl }
  has_records (there (there (there (there e)))) = elim e [ ]

  -- the number, from what the area is read as
  of_area : (k : ℕ) (a : Result ℕ Error) → n / 256 % 64 ≡ length p → Mem (n % 16) (0 ∷ 2 ∷ 4 ∷ 6 ∷ []) → 6 ≤ length p → read_area (drop 6 p) ≡ a
      → ((ty : PduType) → number_in (with_area ty h p a) ≡ k) → number_for n p ≡ k
  unfolding undirected
  of_area k a counts which enough reads number = ∥∥₁_elim which (ℕ_set (number_for n p) k) (λ (at : Memᴰ (n % 16) (0 ∷ 2 ∷ 4 ∷ 6 ∷ [])).
      let of = has_records at in
      by of.code of.type k counts of.is of.named
      (ap number_in (arm_undirected read_area of.type h p of.allows ∙ area_is of.type) ∙ number of.type))
    where
      area_is : (ty : PduType) → undirected read_area ty h p ≡ with_area ty h p a
      area_is ty = rw (le-ltb (length p) 6 enough, reads)

  further : n / 256 % 64 ≡ length p → get_or needed (n % 16) 0 ≤ length p → Memᴰ (n % 16) (1 ∷ 3 ∷ 5 ∷ []) → number_for n p ≡ 0
  unfolding by_type directed connect_request
  further counts long (here e) = by 1 AdvDirectInd 0 counts e codes.code_1 (let size : 12 ≤ length p = rw e at long in rw (le-ltb (length p) 12 size))
  further counts long (there (here e)) = by 3 ScanReq 0 counts e codes.code_3 (let size : 12 ≤ length p = rw e at long in rw (le-ltb (length p) 12 size))
  further counts long (there (there (here e))) = by 5 ConnectReq 0 counts e codes.code_5 (let size : 34 ≤ length p = rw e at long in rw (le-ltb (length p) 34 size))
  further counts long (there (there (there e))) = elim e [ ]

  pub order : Order n p
  unfolding with_area
  order =
      record {
        by_length = wrong_length;
        by_type_law = wrong_type;
        by_fields = too_short;
        by_records = λ e counts which enough bad. of_area (number_of e) (Err e) counts which enough bad (λ ty. refl);
        with_records_law = λ k counts which enough good. of_area 0 (Ok k) counts which enough good (λ ty. refl);
        others = λ counts which long. ∥∥₁_elim which (ℕ_set (number_for n p) 0) (further counts long);
      }

pub from_bytes : (s : List ℕ) → FromBytes s
from_bytes s =
    record {
      short = λ at few. rw (too_few 2 s at few);
      reads = λ before h0 h1 payload is.
          let size : length s ≡ length before + (2 + length payload) = ap length is ∙ simp length-append (omega arith) in
          let value : h0 + 256 * (h1 + 256 * 0) ≡ h0 + 256 * h1 = omega arith in
          rw (enough 2 s (length before) (omega arith), is, drop-append-add before (h0 ∷ h1 ∷ payload) 2, drop-append_seam before (h0 ∷ h1 ∷ payload))
          (ap (λ (k : ℕ). decode_of (header_of k) payload) value);
    }

pub rows : RefusalRows
unfolding decode_by by_type undirected directed connect_request with_area ll_data_of pdu_type read_area area_of reads with_first cut first record_read data_read flags_read up_to named
rows =
    record {
      type_0 = refl;
      type_1 = refl;
      type_2 = refl;
      type_3 = refl;
      type_4 = refl;
      type_5 = refl;
      type_6 = refl;
      types_7_to_15 = refl;
      length_and_type = refl;
      length_and_fields = refl;
      length_and_records = refl;
      type_and_fields = refl;
      records = refl;
      reserved = refl;
      one_slice = refl;
      two_left = refl;
      behind = refl;
      numbers = refl;
    }
