-- A club and what its calls return, read as records of the specification: the contracts of src/ say of each which record it is.
--   club_state k             == the club k, whose fields are private
--   item_step r             == what taking an item did; taken_step: what it returns
--   items_step r            == what taking items returns
--   AnswersCall b calls item r out' out == r is the book b after the calls of an item, and `out'` is `out` with its line at its front
--   Whole                   == nothing is left out: what is read as the same is the same
--   AsItIs                  == what callers see is read as it is
use Rattle.std.specs.Prelude.{◌≡◌, List, ℕ, length, Option, None, Some, option_map}
use Rattle.octets.specs.Bytes.{at_front}
use Rattle.beacon.specs.State.{scanner_state}
use Rattle.book.specs.State.{book_state}
use Rattle.book_spec.specs.History.{BookCall, book_after}
use Rattle.book_spec.specs.State.{Book}
use Rattle.club_spec.specs.Log.{call_line}
use Rattle.club_spec.specs.State as spec
use Rattle.club.specs.declared.log.Answered.{Answered}
use Rattle.club.specs.declared.log.Club.{Club}
use Rattle.club.specs.declared.log.TakenItem.{TakenItem}
use Rattle.club.specs.declared.log.TakenItems.{TakenItems}

abbrev pub club_state : Club → spec.Club
club_state k = record { book = book_state k.book; scanner = scanner_state k.scanner }

abbrev pub item_step : TakenItem → spec.TakenItem
item_step r = record { club = club_state r.club; size = r.size; written = r.written }

abbrev pub taken_step : Option TakenItem → Option spec.TakenItem
taken_step r = option_map item_step r

abbrev pub items_step : TakenItems → spec.TakenItems
items_step r = record { club = club_state r.club; taken = r.taken; written = r.written }

abbrev pub AnswersCall : Book → List BookCall → List ℕ → Answered → List ℕ → List ℕ → Type 0
AnswersCall b calls item r out' out =
    (book_state r.book ≡ book_after b calls) × ((r.written ≡ length (call_line item b calls)) × (out' ≡ at_front (call_line item b calls) out))

pub record Whole : Type 0 where
  pub club : (a b : Club) → club_state a ≡ club_state b → a ≡ b
  pub item : (a b : TakenItem) → item_step a ≡ item_step b → a ≡ b
  pub taken : (a b : Option TakenItem) → taken_step a ≡ taken_step b → a ≡ b
  pub items : (a b : TakenItems) → items_step a ≡ items_step b → a ≡ b

pub record AsItIs : Type 0 where
  pub item_club : (r : TakenItem) → (item_step r).club ≡ club_state r.club
  pub size : (r : TakenItem) → (item_step r).size ≡ r.size
  pub item_written : (r : TakenItem) → (item_step r).written ≡ r.written
  pub some_item : (r : TakenItem) → taken_step (Some r) ≡ Some (item_step r)
  pub no_item : taken_step None ≡ None
  pub club : (r : TakenItems) → (items_step r).club ≡ club_state r.club
  pub taken : (r : TakenItems) → (items_step r).taken ≡ r.taken
  pub written : (r : TakenItems) → (items_step r).written ≡ r.written
