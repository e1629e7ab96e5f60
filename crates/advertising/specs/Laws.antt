-- The laws of PDUs, each with the theorem of proofs/ that proves it; refusals are in specs/Refusals.antt, what each builder builds in specs/Builders.antt. Holds: all
-- of these, with what they assume, in specs/Holds.antt.
--   Figure widths fields further p  == the payload p is these fields, of the widths of a figure, and further octets
--   ShapedBy reading h p d          == the payload p has the figure of the type of the header h, and both say what d says; records are read by `reading`
--   AcceptingBy reading decoder h p == a decoder accepts exactly what its header counts and is shaped by this reading, and answers what the shape says
--   Accepting h p                   (Accepting.accepting)          which headers and payloads the general decoder accepts, and what it reads of them
--   AcceptingHeard h p              (Accepting.accepting_heard)    the same of the hub's decoder
--   ReadsBack ty a flags s n        == a PDU of type ty is built of the address a, the octets `flags` and the n records of s, and decodes to these
--   Building                        (Building.building)            what is read of a PDU that was built
--   read_of part d                  == a part of what a decoder answers, or its refusal
--   row h0 h1 p                     == what the two octets of a header and a payload decode to
--   nine                            == the nine octets of document 01's first rows
--   counted                         == the payload of a connect request: the octets 00 to 21, counted in hexadecimal
--   RequestExample                  (Examples.example)             a connect request, field by field, and what a type lacks
--   worst_of a                       == the worst clock of an accuracy, in ppm
--   Accuracies                      (Examples.accuracies)          the sleep clock accuracies by their codes
--   WindowEnd                       (Examples.window_end_law)          the end of the transmit window
--   RecordAreaBy decoder h p        == the records of a payload that a decoder accepts are its part after the address, in its own place
--   RecordArea h p                  (Accepting.record_area)        where the records of a payload lie that the general decoder accepts
--   RecordAreaHeard h p             (Accepting.record_area_heard)  the same of the hub's decoder
--   DataPart d p                    (Accepting.data_part)          what a place of any values hands on of a payload
use Rattle.std.specs.Prelude.{◌≡◌, ℕ, ◌+◌, ◌*◌, ◌/◌, ◌%◌, ◌^◌, ◌<◌, ◌≤◌, true, false, ◌⊎◌, List, [], ◌∷◌, ◌++◌, map, length, take, drop, slice_index, Result, Ok, Err}
use mathlib.Core.List.{flatten}
use Rattle.std.specs.Borrow.{Bor}
use Rattle.addresses.specs.Address.{kind_of, is_random, address_of}
use Rattle.addresses.specs.Header.{header_of, type_of, tx_add, rx_add, length_of, allows_adv_data}
use Rattle.addresses.specs.declared.device_address.AddressKind.TheVariants.{Public, Random}
use Rattle.addresses.specs.declared.device_address.DeviceAddress.{DeviceAddress}
use Rattle.addresses.specs.declared.header.Header.{Header}
use Rattle.addresses.specs.declared.header.PduType.{PduType}
use Rattle.addresses.specs.declared.header.PduType.TheVariants.{AdvInd, AdvDirectInd, ScanReq, ConnectReq}
use Rattle.channels.specs.Map.{from_raw}
use Rattle.octets.specs.Bytes.{le}
use Rattle.octets.specs.declared.error.Error.{Error}
use Rattle.octets.specs.declared.error.Error.TheVariants.{Eof}
use Rattle.records_spec.specs.Area.{read_area, rewritten}
use Rattle.advertising.specs.Pdu.{undirected_figure, directed_figure, connect_figure, accuracy_of, window_end, no_request, no_address, no_data, data_in, data_place, pdu_as, decoded_as, Reading, decode_of, as_hub, heard_of}
use Rattle.advertising.specs.PduBuf.{header_for, built_of, built_directed, flags_record, payload_of}
use Rattle.advertising.specs.declared.pdu.AdvData.{AdvData}
use Rattle.advertising.specs.declared.pdu.ConnectRequestData.{ConnectRequestData}
use Rattle.advertising.specs.declared.pdu.Pdu.{Pdu}
use Rattle.advertising.specs.declared.pdu.SleepClockAccuracy.{SleepClockAccuracy}
use Rattle.advertising.specs.declared.pdu.SleepClockAccuracy.TheVariants.{Ppm251To500, Ppm151To250, Ppm101To150, Ppm76To100, Ppm51To75, Ppm31To50, Ppm21To30, Ppm0To20}
use Rattle.advertising.specs.declared.pdu_buf.PduBuf.{PduBuf}

-- a payload is these fields, of the widths of a figure, and further octets
pub record Figure (widths : List ℕ) (fields : List (List ℕ)) (further p : List ℕ) : Type 0 where
  pub sizes : map length fields ≡ widths
  pub tiles : p ≡ flatten fields ++ further

-- A payload begins with the fields of a figure of the Core, drawn in specs/Pdu.antt, for the header's type; and both say what d says. Records are read by
-- a given reading: strictly, or as the hub does.
pub data ShapedBy (reading : Reading) (h : Header) (p : List ℕ) (d : Pdu) : Type 0 where
  -- an address and records
  with_records_law : (ty : PduType) (advA records : List ℕ) (n : ℕ) → type_of h ≡ ty → allows_adv_data ty ≡ true
      → Figure undirected_figure (advA ∷ []) records p → reading records ≡ Ok n
      → d ≡ pdu_as ty (address_of advA (kind_of (tx_add h))) no_address (record { start = 6; len = length records; count = n }) no_request
      → ShapedBy reading h p d
  -- two addresses
  two_addresses : (ty : PduType) (first second further : List ℕ) → type_of h ≡ ty → (ty ≡ AdvDirectInd) ⊎ (ty ≡ ScanReq)
      → Figure directed_figure (first ∷ second ∷ []) further p
      → d ≡ pdu_as ty (address_of first (kind_of (tx_add h))) (address_of second (kind_of (rx_add h))) no_data no_request
      → ShapedBy reading h p d
  -- two addresses and LLData
  with_lldata : (initA advA aa crcInit winSize winOffset interval latency timeout chM hopSca further : List ℕ) → type_of h ≡ ConnectReq
      → Figure connect_figure (initA ∷ advA ∷ aa ∷ crcInit ∷ winSize ∷ winOffset ∷ interval ∷ latency ∷ timeout ∷ chM ∷ hopSca ∷ []) further p
      → d ≡ pdu_as ConnectReq (address_of initA (kind_of (tx_add h))) (address_of advA (kind_of (rx_add h))) no_data (record {
        access_address = le aa;
        crc_init = le crcInit;
        win_size = le winSize * 1250;
        win_offset = le winOffset * 1250;
        interval = le interval * 1250;
        latency = le latency;
        timeout = le timeout * 10000;
        chm = from_raw chM;
        hop = le hopSca % 32;
        sca = accuracy_of (le hopSca / 32);
      })
      → ShapedBy reading h p d

-- A header and a payload are accepted exactly if the header counts the payload and they are so shaped; what is then read is what the shape says.
pub record AcceptingBy (reading : Reading) (decoder : Header → List ℕ → Result Pdu Error) (h : Header) (p : List ℕ) : Type 0 where
  pub sound : (d : Pdu) → decoder h p ≡ Ok d → (length_of h ≡ length p) × ShapedBy reading h p d
  pub complete : (d : Pdu) → length_of h ≡ length p → ShapedBy reading h p d → decoder h p ≡ Ok d

-- the general decoder, by the strict reading
abbrev pub Accepting : Header → List ℕ → Type 0
Accepting h p = AcceptingBy read_area decode_of h p

-- the hub's, by its own
abbrev pub AcceptingHeard : Header → List ℕ → Type 0
AcceptingHeard h p = AcceptingBy as_hub heard_of h p

-- a PDU of type ty from the address a was built with these records, n of them, and is read as that
pub record ReadsBack (ty : PduType) (a : DeviceAddress) (flags s : List ℕ) (n : ℕ) : Type 0 where
  pub pdu : PduBuf
  pub built : built_of ty a flags s ≡ Ok pdu
  -- its header: the type, the kind of the address, no RxAdd and no reserved bit, and the number of its octets
  pub header : pdu.header ≡ header_for ty (is_random a.kind) false (6 + (length flags + length s))
  -- its octets: the address, Flags where the builder puts them, and the records
  pub payload : payload_of pdu ≡ (a.bytes ++ flags) ++ rewritten s
  pub place : AdvData
  pub reads : decode_of pdu.header (payload_of pdu) ≡ decoded_as ty a no_address place no_request
  pub count : place.count ≡ n
  -- the records are those given, with undefined Flags bits cleared
  pub records : data_in place (payload_of pdu) ≡ flags ++ rewritten s

-- Decoding what a builder built gives the type, the address with its kind and the records, for every address and every accepted area that fits.
pub record Building : Type 0 where
  pub adv : (ty : PduType) (a : DeviceAddress) (s : List ℕ) (n : ℕ) → allows_adv_data ty ≡ true → length a.bytes ≡ 6
      → read_area s ≡ Ok n → length s ≤ 31 → ReadsBack ty a [] s n
  pub discoverable : (a : DeviceAddress) (s : List ℕ) (n : ℕ) → length a.bytes ≡ 6
      → read_area s ≡ Ok n → length s ≤ 28 → ReadsBack AdvInd a flags_record s (n + 1)
  pub directed : (a b : DeviceAddress) → length a.bytes ≡ 6 → length b.bytes ≡ 6
      → decode_of (built_directed a b).header (payload_of (built_directed a b)) ≡ decoded_as AdvDirectInd a b no_data no_request
  -- a bad area is refused as its first bad record is, and a good one that does not fit with 1
  pub bad_area : (ty : PduType) (a : DeviceAddress) (flags s : List ℕ) (e : Error) → read_area s ≡ Err e → built_of ty a flags s ≡ Err e
  pub too_long : (ty : PduType) (a : DeviceAddress) (flags s : List ℕ) (n : ℕ) → read_area s ≡ Ok n → length (a.bytes ++ flags) ≤ 37
      → 37 < length (a.bytes ++ flags) + length s
      → built_of ty a flags s ≡ Err Eof

-- what a part of a PDU that was decoded says, or its refusal
abbrev pub read_of : {A : Type 0} → (Pdu → A) → Result Pdu Error → Result A Error
read_of part (Ok d) = Ok (part d)
read_of part (Err e) = Err e

-- what the two octets of a header and a payload decode to
abbrev pub row : ℕ → ℕ → List ℕ → Result Pdu Error
row h0 h1 p = decode_of (header_of (le (h0 ∷ h1 ∷ []))) p

-- the nine octets of document 01's first rows
abbrev pub nine : List ℕ
nine = 0x01 ∷ 0x02 ∷ 0x03 ∷ 0x04 ∷ 0x05 ∷ 0xC6 ∷ 0x02 ∷ 0x01 ∷ 0x06 ∷ []

-- A connect request of the octets 00 to 21, each field by its number.
abbrev pub counted : List ℕ
counted =
    0x00 ∷ 0x01 ∷ 0x02 ∷ 0x03 ∷ 0x04 ∷ 0x05 ∷ 0x06 ∷ 0x07 ∷ 0x08 ∷ 0x09 ∷ 0x0A ∷ 0x0B ∷ 0x0C ∷ 0x0D ∷ 0x0E ∷ 0x0F ∷ 0x10 ∷ 0x11 ∷ 0x12 ∷ 0x13 ∷ 0x14 ∷ 0x15
    ∷ 0x16 ∷ 0x17 ∷ 0x18 ∷ 0x19 ∷ 0x1A ∷ 0x1B ∷ 0x1C ∷ 0x1D ∷ 0x1E ∷ 0x1F ∷ 0x20 ∷ 0x21 ∷ []

pub record RequestExample : Type 0 where
  pub connect_request_law : row 0x85 0x22 counted
      ≡ decoded_as ConnectReq
      (address_of (0x00 ∷ 0x01 ∷ 0x02 ∷ 0x03 ∷ 0x04 ∷ 0x05 ∷ []) Public)
      (address_of (0x06 ∷ 0x07 ∷ 0x08 ∷ 0x09 ∷ 0x0A ∷ 0x0B ∷ []) Random)
      no_data
      (record {
        access_address = 0x0F0E0D0C;
        crc_init = 0x121110;
        win_size = 23750;
        win_offset = 6745000;
        interval = 7387500;
        latency = 6424;
        timeout = 69380000;
        chm = from_raw (0x1C ∷ 0x1D ∷ 0x1E ∷ 0x1F ∷ 0x20 ∷ []);
        hop = 1;
        sca = Ppm151To250;
      })
  -- its last octet: the hop in the low 5 bits, the clock accuracy in the high 3
  pub hops : map (λ (o : ℕ). read_of (λ d. d.lldata.hop) (row 0x85 0x22 (take 33 counted ++ (o ∷ [])))) (0x1F ∷ 0x20 ∷ 0xFF ∷ []) ≡ Ok 31 ∷ Ok 0 ∷ Ok 31 ∷ []
  pub clocks : map (λ (o : ℕ). read_of (λ d. d.lldata.sca) (row 0x85 0x22 (take 33 counted ++ (o ∷ [])))) (0x1F ∷ 0x20 ∷ 0xFF ∷ [])
      ≡ Ok Ppm251To500 ∷ Ok Ppm151To250 ∷ Ok Ppm0To20 ∷ []
  -- what a type lacks is zero
  pub no_receiver : read_of (λ d. d.receiver) (row 0x02 0x06 (take 6 nine)) ≡ Ok (address_of (0 ∷ 0 ∷ 0 ∷ 0 ∷ 0 ∷ 0 ∷ []) Public)
  pub no_lldata : read_of (λ d. d.lldata) (row 0x02 0x06 (take 6 nine))
      ≡ Ok (record {
        access_address = 0;
        crc_init = 0;
        win_size = 0;
        win_offset = 0;
        interval = 0;
        latency = 0;
        timeout = 0;
        chm = from_raw (0 ∷ 0 ∷ 0 ∷ 0 ∷ 0 ∷ []);
        hop = 0;
        sca = Ppm251To500;
      })
  pub no_records : read_of (λ d. d.adv_data) (row 0x85 0x22 counted) ≡ Ok (record { start = 0; len = 0; count = 0 })
  pub refused : row 0x02 0x05 (take 5 nine) ≡ Err Eof

-- the worst clock of an accuracy, in ppm
abbrev pub worst_of : SleepClockAccuracy → ℕ
worst_of Ppm251To500 = 500
worst_of Ppm151To250 = 250
worst_of Ppm101To150 = 150
worst_of Ppm76To100 = 100
worst_of Ppm51To75 = 75
worst_of Ppm31To50 = 50
worst_of Ppm21To30 = 30
worst_of Ppm0To20 = 20

-- The eight codes go from the worst clock to the best (the Core, Vol 6 Part B, 2.3.3.1).
abbrev pub Accuracies : Type 0
Accuracies = (code : ℕ) → code < 8 → worst_of (accuracy_of code) ≡ slice_index (500 ∷ 250 ∷ 150 ∷ 100 ∷ 75 ∷ 50 ∷ 30 ∷ 20 ∷ []) code

-- The transmit window ends at WinOffset, WinSize and 1,250 µs after a CONNECT_IND (the Core, Vol 6 Part B, 4.5.3), modulo 2^32.
abbrev pub WindowEnd : Type 0
WindowEnd = (d : ConnectRequestData) → window_end d ≡ (d.win_offset + d.win_size + 1250) % 2 ^ 32

-- The record area of a PDU that was read is the part of its payload after the six octets of the address, in its own place.
pub record RecordAreaBy (decoder : Header → List ℕ → Result Pdu Error) (h : Header) (p : Bor (List ℕ)) : Type 0 where
  pub octets : (d : Pdu) → allows_adv_data (type_of h) ≡ true → decoder h p.now ≡ Ok d → data_in d.adv_data p.now ≡ drop 6 p.now
  pub place : (d : Pdu) → allows_adv_data (type_of h) ≡ true → decoder h p.now ≡ Ok d → data_place d.adv_data p ≡ (p.ref_ptr.0, p.ref_ptr.1 + 6)

abbrev pub RecordArea : Header → Bor (List ℕ) → Type 0
RecordArea h p = RecordAreaBy decode_of h p

abbrev pub RecordAreaHeard : Header → Bor (List ℕ) → Type 0
RecordAreaHeard h p = RecordAreaBy heard_of h p

-- octets xs that stand where a place says: these, in their own place; none, at the start, where there are fewer
pub record DataPart (d : AdvData) (p : Bor (List ℕ)) : Type 0 where
  pub there : (before xs rest : List ℕ) → p.now ≡ before ++ (xs ++ rest) → d.start ≡ length before → d.len ≡ length xs
      → (data_in d p.now ≡ xs) × (data_place d p ≡ (p.ref_ptr.0, p.ref_ptr.1 + length before))
  pub fewer : length p.now < d.start + d.len → (data_in d p.now ≡ []) × (data_place d p ≡ p.ref_ptr)
