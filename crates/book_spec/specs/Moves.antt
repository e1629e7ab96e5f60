-- Moves in the records of a report (document 02, Note 8; manufacturer specific data: Assigned Numbers, 2.3, and the Supplement, Part A, 1.4).
--
--     | length 6 to 25 | type FF | company         | turn            | move           |
--     | 1 octet        | 1 octet | 2, low first    | 2, low first    | 1 to 20 octets |
--
--   move_of m             == the move of the octets m: how many, and m with zeros after it
--   no_move               == no move
--   number_at s at        == the 16 bits at position `at` of s, low octet first
--   is_move company r     == a record's octets r: a move of the company, of any turn
--   move_in company s     == where the first of these has its data, in an area s without padding
--   turn_at s start       == the turn of a move whose data begin at `start` of s
--   move_at s start len   == its move, the data being `len` octets
--   heard_at s f          == both, of the place that a search found
--   move_heard company s    == the move record that counts in an area s, which may be padded
use Rattle.std.specs.Prelude.{Bool, true, false, ◌&&◌, List, [], ◌∷◌, ◌++◌, ℕ, ◌+◌, ◌-◌, eqb, leb, length, get_or, replicate, Option, Some, None}
use Rattle.octets.specs.Bytes.{le, part}
use Rattle.records_spec.specs.HubReading.{unpadded}
use Rattle.records_spec.specs.Search.{searched}
use Rattle.records_spec.specs.Types.{manufacturer_type}
use Rattle.octets.specs.declared.bytes.Part.{Part}
use Rattle.book_spec.specs.State.{HeardMove}
use Rattle.book_spec.specs.declared.Move.{Move}

unfoldable pub move_of : List ℕ → Move
move_of m = record { len = length m; octets = m ++ replicate (20 - length m) 0 }

unfoldable pub no_move : Move
no_move = record { len = 0; octets = replicate 20 0 }

abbrev pub number_at : List ℕ → ℕ → ℕ
number_at s at = le (get_or s at 0 ∷ get_or s (at + 1) 0 ∷ [])

-- length and type stand before 5 to 24 octets of data
unfoldable pub is_move : ℕ → List ℕ → Bool
is_move company r = leb 7 (length r) && (leb (length r) 26 && (eqb (get_or r 1 0) manufacturer_type && eqb (number_at r 2) company))

-- "Only the first such record with the book's company number in a report counts"
unfoldable pub move_in : ℕ → List ℕ → Option Part
move_in company s = searched (is_move company) s

abbrev pub turn_at : List ℕ → ℕ → ℕ
turn_at s start = number_at s (start + 2)

abbrev pub move_at : List ℕ → ℕ → ℕ → Move
move_at s start len = move_of (part (len - 4) s (start + 4))

unfoldable pub heard_at : List ℕ → Option Part → HeardMove
heard_at s (Some at) = record { found = true; turn = turn_at s at.start; played = move_at s at.start at.len }
heard_at s None = record { found = false; turn = 0; played = no_move }

abbrev pub move_heard : ℕ → List ℕ → HeardMove
move_heard company s = heard_at s (move_in company (unpadded s))
