-- Holds (Holding.holds): all laws of this crate, with what they assume.
use Rattle.std.specs.Prelude.{Bool, List, ◌≡◌, ℕ, ◌+◌, ◌≤◌, length, Ok}
use Rattle.octets.specs.Bytes.{written}
use Rattle.records_spec.specs.Accepted.{Decided, Fronted}
use Rattle.records_spec.specs.Examples.{RecordCodes, Examples}
use Rattle.records_spec.specs.HubReading.{read_padded}
use Rattle.records_spec.specs.HubReads.{HubReads, Differs, WithoutSize, Took, PaddedRows}
use Rattle.records_spec.specs.Layout.{Layout, LaidOut}
use Rattle.records_spec.specs.Order.{data_octets, Lends, Ordered}
use Rattle.records_spec.specs.Outlines.{WrittenByOutline, LentOutlines}
use Rattle.records_spec.specs.ReadAs.{ReadAs, ReadOnAs}
use Rattle.records_spec.specs.ReadBack.{WrittenAndReadBack, NotAsItself}
use Rattle.records_spec.specs.RoundTrip.{Cleans, RoundTrip, ReadAndRewritten, ReadOnAndRewritten, Rewriting}
use Rattle.records_spec.specs.Search.{IsRead, Decides, Searching}
use Rattle.records_spec.specs.Uuids.{OneByOne}
use Rattle.records_spec.specs.Write.{record_octets}
use Rattle.records_spec.specs.declared.ad_structure.AdStructure.{AdStructure}

pub record Holds : Type 1 where
  pub decided : (s : List ℕ) → Decided s
  pub fronted : (s : List ℕ) → Fronted s
  pub hub_reads : (s : List ℕ) → HubReads s
  pub differs : (s : List ℕ) → Differs s
  pub without_size : WithoutSize
  pub took : (s : List ℕ) (m taken : ℕ) (is : read_padded s ≡ Ok (m, taken)) (out : List ℕ) → Took s out m taken is
  pub rows : PaddedRows
  pub ordered : (a : AdStructure) (s out : List ℕ) (at : ℕ) → Ordered a s out at
  pub standing : (a : AdStructure) (ty start len : ℕ) (own s out : List ℕ) (at : ℕ) → Layout a ty own start len → Lends a s → at + 2 + data_octets a ≤ length out
      → LaidOut ty own start len s at (written (record_octets a s) out at)
  pub written_by_outline : WrittenByOutline
  pub lent_outlines : (start len : ℕ) → LentOutlines start len
  pub read_as : (s : List ℕ) (at : ℕ) → ReadAs s at
  pub read_on_as : (s : List ℕ) (ty start len : ℕ) → ReadOnAs s ty start len
  pub written_and_read_back : WrittenAndReadBack
  pub not_as_itself : NotAsItself
  pub cleans : (r : List ℕ) → Cleans r
  pub round_trip : (s : List ℕ) → RoundTrip s
  pub read_and_rewritten : ReadAndRewritten
  pub read_on_and_rewritten : (s : List ℕ) → ReadOnAndRewritten s
  pub rewriting : (s out : List ℕ) → Rewriting s out
  -- of every test of a record's octets, and what it decides
  pub searching : (s : List ℕ) → IsRead s → (test : List ℕ → Bool) (P : ℕ → List ℕ → Type 0) → Decides test P → Searching test P s
  pub one_by_one : (d : List ℕ) (at : ℕ) → OneByOne d at
  pub codes : RecordCodes
  pub examples : Examples
