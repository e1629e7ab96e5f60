-- The laws of addresses, filters and headers, each with the theorem of proofs/ that proves it. Worked values stand in specs/Examples.
--   Equality a b                    (Addresses.equality)  the test of two addresses
--   ListEntry list a                == an entry of the list that is the address a
--   Listed list a                   (Entries.listed)      a whitelist, and no filter
--   HeldTo f list a answer          == the answer that the filter f, with its list, has for the address a: let pass exactly if f accepts all or some entry is equal
--   Policies scan connect list a    (Entries.policies)    which filter each request is held to, and that the other has no say
--   boxes h                         == the boxes of the figure of a header, in order
--   OwnBits h                       (Boxes.own_bits)      the setters of a header of 16 bits
--   figure ty low tx rx n top       == the header that has these in the boxes of the figure
--   HeaderFigure ty low tx rx n top (Boxes.figures)       the figure of a header, read and set box by box
--   HeaderNumber n ty               (Boxes.numbered)      a header is its 16 bits: as they are given, as they are sent, and for any type
--   HeaderReading s at              (Headers.reading)     two octets as a header; 4 and 1
--   TypeCodes                       (Boxes.codes)         the types of document 01 by their codes
--   Types n                         (Boxes.types)         which codes are beacons and which have records
--   Holds                           (Holding.holds)       all of these, with what they assume, and worked values
use Rattle.std.specs.Prelude.{Bool, true, false, cond, ◌||◌, List, [], ◌∷◌, ◌⊎◌, ◌≡◌, ℕ, ◌+◌, ◌*◌, ◌/◌, ◌%◌, ◌≤◌, ◌<◌, ◌^◌, eqb, length, get_or, set, Result, Ok, Err}
use Rattle.octets.specs.Bytes.{part}
use Rattle.octets.specs.declared.error.Error.TheVariants.{Eof, InvalidValue, ShortHeader, PayloadLength}
use Rattle.addresses.specs.Address.{kind_number, same_address}
use Rattle.addresses.specs.Examples.{Examples}
use Rattle.addresses.specs.Filter.{is_list, matches_of, adv_filter_of, may_scan, may_connect, should_scan}
use Rattle.addresses.specs.Header.{header_of, new_header, header_octets, type_code, pdu_type, is_beacon, allows_adv_data, header_bits, type_of, tx_add, rx_add, length_of, set_tx_add, set_rx_add, set_length, parsed, header_at, length_set}
use Rattle.addresses.specs.declared.device_address.DeviceAddress.{DeviceAddress}
use Rattle.addresses.specs.declared.filter.AddressFilter.{AddressFilter}
use Rattle.addresses.specs.declared.filter.AddressFilter.TheVariants.{AllowAll, Whitelist}
use Rattle.addresses.specs.declared.header.Header.{Header}
use Rattle.addresses.specs.declared.header.PduType.{PduType}
use Rattle.addresses.specs.declared.header.PduType.TheVariants.{AdvInd, AdvDirectInd, AdvNonconnInd, AdvScanInd, ScanReq, ScanRsp, ConnectReq, Unknown}
use Rattle.octets.specs.declared.error.Error.{Error}

-- The test of two addresses is true exactly where they are one: the same octets and the same kind.
pub record Equality (a b : DeviceAddress) : Type 0 where
  pub sound : same_address a b ≡ true → a ≡ b
  pub complete : a ≡ b → same_address a b ≡ true

-- an entry of a list that is the address a: its octets are the kind, then the address
pub record ListEntry (list : List ℕ) (a : DeviceAddress) : Type 0 where
  pub place : ℕ
  pub inside : place < length list / 7
  pub is : part 7 list (7 * place) ≡ kind_number a.kind ∷ a.bytes

-- A whitelist matches an address if some entry is equal; an empty one never does.
pub record Listed (list : List ℕ) (a : DeviceAddress) : Type 0 where
  -- the whole list decides first: its length, and the kind of each entry
  pub tested : is_list list ≡ true → (length list % 7 ≡ 0) × ((i : ℕ) → i < length list / 7 → get_or list (7 * i) 0 ≤ 1)
  pub whole : length list % 7 ≡ 0 → ((i : ℕ) → i < length list / 7 → get_or list (7 * i) 0 ≤ 1) → is_list list ≡ true
  pub refused : is_list list ≡ false → matches_of Whitelist list a ≡ Err InvalidValue
  pub sound : matches_of Whitelist list a ≡ Ok true → ListEntry list a
  pub complete : is_list list ≡ true → ListEntry list a → matches_of Whitelist list a ≡ Ok true
  pub other : is_list list ≡ true → (ListEntry list a → ⊥) → matches_of Whitelist list a ≡ Ok false
  pub empty : matches_of Whitelist [] a ≡ Ok false
  -- "accept all", and whatever list is lent is not looked at
  pub all : matches_of AllowAll list a ≡ Ok true

-- The answer of a filter with its list: the address is let pass exactly if the filter accepts all, or some entry of the list is equal; what is no list is 3.
pub record HeldTo (f : AddressFilter) (list : List ℕ) (a : DeviceAddress) (answer : Result Bool Error) : Type 0 where
  pub passes : answer ≡ Ok true → (f ≡ AllowAll) ⊎ ListEntry list a
  pub all : f ≡ AllowAll → answer ≡ Ok true
  pub entry : f ≡ Whitelist → is_list list ≡ true → ListEntry list a → answer ≡ Ok true
  pub no_entry : f ≡ Whitelist → is_list list ≡ true → (ListEntry list a → ⊥) → answer ≡ Ok false
  pub refused : f ≡ Whitelist → is_list list ≡ false → answer ≡ Err InvalidValue

-- Scan requests are held to the filter that was given for them, and connect requests to theirs; neither to the other's, whichever that is.
pub record Policies (scan connect : AddressFilter) (list : List ℕ) (a : DeviceAddress) : Type 0 where
  pub scans : HeldTo scan list a (may_scan (adv_filter_of scan connect) list a)
  pub scans_alone : (other : AddressFilter) → may_scan (adv_filter_of scan connect) list a ≡ may_scan (adv_filter_of scan other) list a
  pub connects : HeldTo connect list a (may_connect (adv_filter_of scan connect) list a)
  pub connects_alone : (other : AddressFilter) → may_connect (adv_filter_of scan connect) list a ≡ may_connect (adv_filter_of other connect) list a
  pub scanner : HeldTo scan list a (should_scan (record { scan = scan }) list a)

-- the boxes of a header's figure: type, reserved, TxAdd, RxAdd, length, reserved
abbrev pub boxes : Header → List ℕ
boxes h = header_bits 0 4 h ∷ header_bits 4 2 h ∷ header_bits 6 1 h ∷ header_bits 7 1 h ∷ header_bits 8 6 h ∷ header_bits 14 2 h ∷ []

-- Each setter changes its own box only, and the boxes are all of a header.
pub record OwnBits (h : Header) : Type 0 where
  pub tx : (v : Bool) → boxes (set_tx_add v h) ≡ set (boxes h) 2 (cond v 1 0)
  pub rx : (v : Bool) → boxes (set_rx_add v h) ≡ set (boxes h) 3 (cond v 1 0)
  pub len : (n : ℕ) → n < 64 → boxes (set_length n h) ≡ set (boxes h) 4 n
  pub all : (g : Header) → g.0 < 2 ^ 16 → boxes g ≡ boxes h → g ≡ h

-- The header that has these in the boxes of the figure.
abbrev pub figure : ℕ → ℕ → Bool → Bool → ℕ → ℕ → Header
figure ty low tx rx n top = header_of (ty + 2 ^ 4 * low + 2 ^ 6 * cond tx 1 0 + 2 ^ 7 * cond rx 1 0 + 2 ^ 8 * n + 2 ^ 14 * top)

-- Document 01: "Header bits 0-3 type, 6 TxAdd, 7 RxAdd, 8-13 length; other bits are kept", and a length outside 6 to 37 is 7.
pub record HeaderFigure (ty low : ℕ) (tx rx : Bool) (n top : ℕ) : Type 0 where
  pub type : type_of (figure ty low tx rx n top) ≡ pdu_type ty
  pub tx_add_law : tx_add (figure ty low tx rx n top) ≡ tx
  pub rx_add_law : rx_add (figure ty low tx rx n top) ≡ rx
  pub payload_length : length_of (figure ty low tx rx n top) ≡ n
  pub tx_set : (v : Bool) → set_tx_add v (figure ty low tx rx n top) ≡ figure ty low v rx n top
  pub rx_set : (v : Bool) → set_rx_add v (figure ty low tx rx n top) ≡ figure ty low tx v n top
  pub length_set_law : (m : ℕ) → 6 ≤ m → m ≤ 37 → length_set m (figure ty low tx rx n top) ≡ Ok (figure ty low tx rx m top)
  pub too_short : (m : ℕ) → m < 6 → length_set m (figure ty low tx rx n top) ≡ Err PayloadLength
  pub too_long : (m : ℕ) → 37 < m → length_set m (figure ty low tx rx n top) ≡ Err PayloadLength
  pub made_new : new_header (pdu_type ty) ≡ figure ty 0 false false 0 0

-- Two octets are a header, the first of them its bits 0 to 7. `parse` of under 2 octets is 4; `from_bytes` at a position that has fewer is 1.
-- "other bits are kept"; what `Header::new` and `to_u16` have, for codes without a name too
pub record HeaderNumber (n : ℕ) (ty : PduType) : Type 0 where
  pub given : (header_of n).0 ≡ n
  pub sent : header_octets (header_of n) ≡ n % 256 ∷ n / 256 % 256 ∷ []
  pub new : (new_header ty).0 ≡ type_code ty

pub record HeaderReading (s : List ℕ) (at : ℕ) : Type 0 where
  pub parse : 2 ≤ length s → parsed s ≡ Ok (header_of (get_or s 0 0 + 256 * get_or s 1 0))
  pub parse_short : length s < 2 → parsed s ≡ Err ShortHeader
  pub from : at + 2 ≤ length s → header_at s at ≡ Ok (header_of (get_or s at 0 + 256 * get_or s (at + 1) 0), record { at = at + 2 })
  pub from_short : length s < at + 2 → header_at s at ≡ Err Eof
  -- and the octets of a header are parsed as that header
  pub back : (h : Header) → h.0 < 2 ^ 16 → parsed (header_octets h) ≡ Ok h
  pub no_more : (h : Header) → length (header_octets h) ≡ 2

-- Document 01: 0 ADV_IND, 1 ADV_DIRECT_IND, 2 ADV_NONCONN_IND, 3 SCAN_REQ, 4 SCAN_RSP, 5 CONNECT_IND, 6 ADV_SCAN_IND; other codes have no
-- name. The code of the type of any code is that code.
pub record TypeCodes : Type 0 where
  pub code_0 : pdu_type 0 ≡ AdvInd
  pub code_1 : pdu_type 1 ≡ AdvDirectInd
  pub code_2 : pdu_type 2 ≡ AdvNonconnInd
  pub code_3 : pdu_type 3 ≡ ScanReq
  pub code_4 : pdu_type 4 ≡ ScanRsp
  pub code_5 : pdu_type 5 ≡ ConnectReq
  pub code_6 : pdu_type 6 ≡ AdvScanInd
  pub back : (n : ℕ) → type_code (pdu_type n) ≡ n
  pub no_name : (n : ℕ) → 7 ≤ n → pdu_type n ≡ Unknown n
  pub of_no_name : (n : ℕ) → type_code (Unknown n) ≡ n

-- Document 01: a beacon is type 2; types 0, 2, 4, 6 have records.
pub record Types (n : ℕ) : Type 0 where
  pub beacon : is_beacon (pdu_type n) ≡ eqb n 2
  pub has_records : allows_adv_data (pdu_type n) ≡ eqb n 0 || (eqb n 2 || (eqb n 4 || eqb n 6))
  pub no_name_no_beacon : is_beacon (Unknown n) ≡ false
  pub no_name_no_records : allows_adv_data (Unknown n) ≡ false

-- All of these, with what they assume.
pub record Holds : Type 0 where
  pub equality : (a b : DeviceAddress) → Equality a b
  pub listed : (list : List ℕ) (a : DeviceAddress) → Listed list a
  pub policies : (scan connect : AddressFilter) (list : List ℕ) (a : DeviceAddress) → Policies scan connect list a
  pub own_bits : (h : Header) → h.0 < 2 ^ 16 → OwnBits h
  pub figures : (ty low n top : ℕ) (tx rx : Bool) → ty < 16 → low < 4 → n < 64 → HeaderFigure ty low tx rx n top
  pub numbered : (n : ℕ) (ty : PduType) → HeaderNumber n ty
  pub reading : (s : List ℕ) (at : ℕ) → HeaderReading s at
  pub codes : TypeCodes
  pub types : (n : ℕ) → Types n
  pub examples : Examples
