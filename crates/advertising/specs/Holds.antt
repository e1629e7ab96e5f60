-- Holds (Holding.holds): all laws of this crate, with what they assume. An address has six octets: every `DeviceAddress` of the code has.
use Rattle.std.specs.Prelude.{◌≡◌, ℕ, List, length}
use Rattle.std.specs.Borrow.{Bor}
use Rattle.addresses.specs.declared.device_address.DeviceAddress.{DeviceAddress}
use Rattle.addresses.specs.declared.header.Header.{Header}
use Rattle.advertising.specs.Builders.{Builders, Directed, Writing, Examples}
use Rattle.advertising.specs.Laws.{Accepting, AcceptingHeard, Building, RequestExample, Accuracies, WindowEnd, RecordArea, RecordAreaHeard, DataPart}
use Rattle.advertising.specs.Padded.{Heard, Alike, DecodedRows}
use Rattle.advertising.specs.Refusals.{Order, FromBytes, RefusalRows}
use Rattle.advertising.specs.Table.{Table}
use Rattle.advertising.specs.declared.pdu.AdvData.{AdvData}
use Rattle.advertising.specs.declared.pdu_buf.PduBuf.{PduBuf}

pub record Holds : Type 0 where
  pub accepting : (h : Header) (p : List ℕ) → Accepting h p
  pub accepting_heard : (h : Header) (p : List ℕ) → AcceptingHeard h p
  pub record_area : (h : Header) (p : Bor (List ℕ)) → RecordArea h p
  pub record_area_heard : (h : Header) (p : Bor (List ℕ)) → RecordAreaHeard h p
  pub data_part : (d : AdvData) (p : Bor (List ℕ)) → DataPart d p
  pub building : Building
  pub example : RequestExample
  pub accuracies : Accuracies
  pub window_end_law : WindowEnd
  pub builders : (a : DeviceAddress) (s : List ℕ) → length a.bytes ≡ 6 → Builders a s
  pub directed : (a b : DeviceAddress) → length a.bytes ≡ 6 → length b.bytes ≡ 6 → Directed a b
  pub writing : (b : PduBuf) (out : List ℕ) → Writing b out
  pub examples : Examples
  pub order : (n : ℕ) (p : List ℕ) → Order n p
  pub from_bytes : (s : List ℕ) → FromBytes s
  pub rows : RefusalRows
  pub heard : (h : Header) (p : List ℕ) → Heard h p
  pub alike : (h : Header) (p : List ℕ) → Alike h p
  pub padded_rows : DecodedRows
  pub table : Table
