-- The log does not depend on the pieces in which the input is read, and a run's blocks are never refused.
--   written_for h kept reads     == what is written for these reads, where `kept` is left over of the octets before
--   AnyReads                    (AnyReads.any_reads)    however an input is cut into reads, its log is written
--   NextBlock h kept t left out n == a run's next block t, what is left over then, and the n octets that were written, at the front of `out`
--   Ended h n                   == a run has ended: its hub, and how many octets were written
--   Ready h buf filled out      == the hub counts as a run does, and there are so many octets and room for their lines
--   BlockTaken h s isEnd        (AnyReads.block_taken)  a hub that is ready is never refused; and what a block leaves for the next
use Rattle.std.specs.Prelude.{◌≡◌, Bool, true, false, cond, ℕ, ◌+◌, ◌<◌, ◌≤◌, length, take, drop, eqb, None, Some}
use mathlib.Core.List.{List, [], ◌∷◌, ◌++◌, flatten}
use Rattle.hub_spec.specs.Line.{last_size, room_for}
use Rattle.hub_spec.specs.Log.{fresh_hub, lines_of, hub_of, octets_left, logged_of, block_lines, block_of, last_line, log_of, RunCounts, taken_in, rest_after, lines_after}
use Rattle.hub_spec.specs.State.{Hub, Block}

-- what is written for these reads, `kept` being left over of the octets before: each block is what was left over and what was read; at the end of the
-- input nothing is read, and as soon as a block says that reading stops no further one is
unfoldable pub written_for : Hub → List ℕ → List (List ℕ) → List ℕ
written_for h kept [] = block_lines h kept true
written_for h kept (read ∷ reads) =
    block_lines h (kept ++ read) false
    ++ cond (block_of h (kept ++ read) false).is_stopped [] (written_for (block_of h (kept ++ read) false).hub (octets_left h (kept ++ read)) reads)

-- however an input is cut into reads, the log of the input is written
abbrev pub AnyReads : Type 0
AnyReads = (reads : List (List ℕ)) → written_for fresh_hub [] reads ≡ log_of (flatten reads)

-- A run's next block, where `kept` was left over of the octets before: it is taken in with what was read, a read that brings nothing being the end of
-- the input; `left` is left over of all; and just what is to be written stands at the front of `out`, and is as long as what was written.
pub record NextBlock (h : Hub) (kept : List ℕ) (t : Block) (left out : List ℕ) (n : ℕ) : Type 0 where
  pub read : List ℕ
  pub block : t ≡ block_of h (kept ++ read) (eqb (length read) 0)
  pub left_over_law : left ≡ octets_left h (kept ++ read)
  pub lines : take n out ≡ block_lines h (kept ++ read) (eqb (length read) 0)
  pub written : n ≡ t.written

-- A run that did not fail: what was read gives its hub, and as many octets were written as the log of it has.
pub record Ended (h : Hub) (n : ℕ) : Type 0 where
  pub input : List ℕ
  pub hub : h ≡ hub_of fresh_hub input
  pub written : n ≡ length (log_of input)

-- the hub counts as a run does, and there are so many octets and room for their lines
abbrev pub Ready : Hub → List ℕ → ℕ → List ℕ → Type 0
Ready h buf filled out = RunCounts h × ((filled ≤ length buf) × (room_for filled + last_size ≤ length out))

-- A hub that is ready is never refused; and what a block leaves for the next. With which octets left over reading stops: `Stopping` (specs/Reported).
pub record BlockTaken (h : Hub) (s : List ℕ) (isEnd : Bool) : Type 0 where
  pub accepted : (buf : List ℕ) (filled : ℕ) (out : List ℕ) → Ready h buf filled out → taken_in h buf filled isEnd out ≡ Some (block_of h (take filled buf) isEnd)
  -- else it is refused, and both buffers keep their octets
  pub refused : (buf : List ℕ) (filled : ℕ) (out : List ℕ) → (Ready h buf filled out → ⊥)
      → (taken_in h buf filled isEnd out ≡ None) × ((rest_after h buf filled out ≡ buf) × (lines_after h buf filled isEnd out ≡ out))
  -- what is left over stands at the front of the one buffer then, what is to be written at the front of the other, and the octets after these are kept
  pub left : (buf : List ℕ) (filled : ℕ) (out : List ℕ) → Ready h buf filled out
      → (take (block_of h (take filled buf) isEnd).kept (rest_after h buf filled out) ≡ octets_left h (take filled buf))
      × (drop (block_of h (take filled buf) isEnd).kept (rest_after h buf filled out) ≡ drop (block_of h (take filled buf) isEnd).kept buf)
  pub lines : (buf : List ℕ) (filled : ℕ) (out : List ℕ) → Ready h buf filled out
      → (take (block_of h (take filled buf) isEnd).written (lines_after h buf filled isEnd out) ≡ block_lines h (take filled buf) isEnd)
      × (drop (block_of h (take filled buf) isEnd).written (lines_after h buf filled isEnd out) ≡ drop (block_of h (take filled buf) isEnd).written out)
  -- where reading goes on, the lines are those of the items; where it stops, the last line follows them
  pub goes_on : (block_of h s isEnd).is_stopped ≡ false → block_lines h s isEnd ≡ lines_of h s
  pub ends : (block_of h s isEnd).is_stopped ≡ true → block_lines h s isEnd ≡ lines_of h s ++ last_line (block_of h s isEnd).hub (block_of h s isEnd).kept
  -- the items that were logged, and what is left over, are all the octets
  pub logged : ((logged_of h s).hub ≡ (block_of h s isEnd).hub) × (((logged_of h s).written ≡ length (lines_of h s)) × ((logged_of h s).taken + (block_of h s isEnd).kept ≡ length s))
  pub counted : RunCounts h → RunCounts (block_of h s isEnd).hub
  pub room : (block_of h s isEnd).written ≤ room_for (length s) + last_size
  pub kept : (block_of h s isEnd).kept ≤ length s
  -- fewer octets than the longest item has, so that a longer buffer always has room for a read
  pub short : (block_of h s isEnd).is_stopped ≡ false → (block_of h s isEnd).kept < 66
