-- The record iterator: a lent slice and a position in it (document 01: "a struct that holds the lent records").
--   at_next at r        == the position after what was read at `at`, or `at` where it is no record
--   position_after s at == the position after the record at `at` of s, or `at` where no record is read
--   front area         == the iterator at the front of an area
--   onward it          == the iterator past the record at its position
--   rest_place s at     == the place of the part of s from position `at` on
use Rattle.std.specs.Prelude.{ℕ, ◌+◌, min, List, length, Result, Ok, Option, Some, None, Err}
use Rattle.std.specs.Borrow.{Bor}
use Rattle.records_spec.specs.Record.{record_at}
use Rattle.record_iter.specs.declared.Records.{Records}
use Rattle.records_spec.specs.declared.ad_structure.AdStructure.{AdStructure}
use Rattle.octets.specs.declared.error.Error.{Error}

-- by what was read at `at`
abbrev pub at_next : ℕ → Result (Option (AdStructure × ℕ)) Error → ℕ
at_next at (Ok (Some (a, next))) = next
at_next at (Ok None) = at
at_next at (Err e) = at

abbrev pub position_after : List ℕ → ℕ → ℕ
position_after s at = at_next at (record_at s at)

abbrev pub front : Bor (List ℕ) → Records
front area = record { records = area; at = 0 }

abbrev pub onward : Records → Records
onward it = record { records = it.records; at = position_after it.records.now it.at }

-- it tells that part from equal octets elsewhere; past the end of s the part is empty and lies at the end
abbrev pub rest_place : Bor (List ℕ) → ℕ → ℕ × ℕ
rest_place s at = (s.ref_ptr.0, min at (length s.now) + s.ref_ptr.1)
