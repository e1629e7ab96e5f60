-- Going through the iterator from the front finds exactly the records of the area, in order, as `read_area` counts them.
--   next_of it, records_left it == what `next` answers, and the octets that `into_rest` hands out
--   moved_by k it         == the iterator after k moves
--   answer_at rs k        == answer k of going through records that read as rs: a refusal or the end stays
--   IsRecord r           == what was read is a record
--   next_after area k     == what `next` answers after k moves from the front
--   Through area n last  == the first n answers are records, and the one after them is `last`
--   Stopped area e       == some answers are records, and the one after them is the refusal e
--   AreaCounted area a   == the answers agree with what `read_area` answers: so many records, or the refusal
--   GoesThrough area     (Through.goes_through)  the answers are the records of the area, in order and as they are counted
--   RestPlaced s at      (Through.rest_placed)   the rest lies in the area, and ends where the area ends
--   two_rows r            == document 01's rows `02 01 86` and `01 03`, one after the other, as an area
--   IterRows r           (Rows.rows)                  what the iterator finds there
--   Holds                (Holding.holds)         all of these, with what they assume
use Rattle.std.specs.Prelude.{◌≡◌, true, ℕ, zero, suc, ◌+◌, ◌<◌, List, [], ◌∷◌, length, drop, Result, Ok, Option, Some, None, Err}
use Rattle.std.specs.Borrow.{Bor}
use Rattle.octets.specs.declared.error.Error.{Error}
use Rattle.records_spec.specs.declared.ad_structure.AdStructure.TheVariants.{Flags, ServiceUuids16}
use Rattle.records_spec.specs.Record.{record_at}
use Rattle.records_spec.specs.Area.{records, reads, read_area}
use Rattle.record_iter.specs.Iter.{front, onward, rest_place}
use Rattle.record_iter.specs.declared.Records.{Records}
use Rattle.records_spec.specs.declared.ad_structure.AdStructure.{AdStructure}

abbrev pub next_of : Records → Result (Option (AdStructure × ℕ)) Error
next_of it = record_at it.records.now it.at

abbrev pub records_left : Records → List ℕ
records_left it = drop it.at it.records.now

unfoldable pub moved_by : ℕ → Records → Records
moved_by zero it = it
moved_by (suc k) it = moved_by k (onward it)

unfoldable pub answer_at : List (Result (Option (AdStructure × ℕ)) Error) → ℕ → Result (Option (AdStructure × ℕ)) Error
answer_at [] k = Ok None
answer_at (r ∷ rs) zero = r
answer_at ((Ok (Some (a, next))) ∷ rs) (suc k) = answer_at rs k
answer_at ((Ok None) ∷ rs) (suc k) = Ok None
answer_at (Err e ∷ rs) (suc k) = Err e

abbrev pub IsRecord : Result (Option (AdStructure × ℕ)) Error → Type 0
IsRecord (Ok (Some (a, next))) = Unit {0}
IsRecord (Ok None) = ⊥
IsRecord (Err e) = ⊥

-- what `next` answers after k moves from the front
abbrev pub next_after : Bor (List ℕ) → ℕ → Result (Option (AdStructure × ℕ)) Error
next_after area k = next_of (moved_by k (front area))

pub record Through (area : Bor (List ℕ)) (n : ℕ) (last : Result (Option (AdStructure × ℕ)) Error) : Type 0 where
  pub found : (k : ℕ) → k < n → IsRecord (next_after area k)
  pub then : next_after area n ≡ last

pub record Stopped (area : Bor (List ℕ)) (e : Error) : Type 0 where
  pub count : ℕ
  pub through : Through area count (Err e)

-- by what `read_area` answers
abbrev pub AreaCounted : Bor (List ℕ) → Result ℕ Error → Type 0
AreaCounted area (Ok n) = Through area n (Ok None)
AreaCounted area (Err e) = Stopped area e

pub record GoesThrough (area : Bor (List ℕ)) : Type 0 where
  -- after k moves `next` answers what reading record k of the area finds
  pub in_order : (k : ℕ) → next_after area k ≡ answer_at (reads (records area.now) 0) k
  pub counted : AreaCounted area (read_area area.now)
  -- what is left after k records is the records from k on
  pub left : (k : ℕ) → ((j : ℕ) → j < k → IsRecord (next_after area j)) → records (records_left (moved_by k (front area))) ≡ drop k (records area.now)

-- so it is the very part of the area, and no equal octets elsewhere
pub record RestPlaced (s : Bor (List ℕ)) (at : ℕ) : Type 0 where
  pub same_area : (rest_place s at).0 ≡ s.ref_ptr.0
  pub same_end : (rest_place s at).1 + length (drop at s.now) ≡ s.ref_ptr.1 + length s.now

-- the two rows as an area, lent where r lies
abbrev pub two_rows : Bor (List ℕ) → Bor (List ℕ)
two_rows r = record { ref_ptr = r.ref_ptr; now = 0x02 ∷ 0x01 ∷ 0x86 ∷ 0x01 ∷ 0x03 ∷ [] }

pub record IterRows (r : Bor (List ℕ)) : Type 0 where
  pub flags : next_after (two_rows r) 0 ≡ Ok (Some (Flags (record { bits = 0x06 }), 3))
  pub left : records_left (moved_by 1 (front (two_rows r))) ≡ 0x01 ∷ 0x03 ∷ []
  pub list : next_after (two_rows r) 1 ≡ Ok (Some (ServiceUuids16 true 5 0, 5))
  pub end : next_after (two_rows r) 2 ≡ Ok None
  pub stays : next_after (two_rows r) 3 ≡ Ok None

-- All of these, with what they assume.
pub record Holds : Type 0 where
  pub goes_through : (area : Bor (List ℕ)) → GoesThrough area
  pub rest_placed : (s : Bor (List ℕ)) (at : ℕ) → RestPlaced s at
  pub rows : (r : Bor (List ℕ)) → IterRows r
