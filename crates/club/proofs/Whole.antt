-- Reading a club and what its calls return as records leaves nothing out (`whole`) and changes nothing that callers see (`as_it_is`). Assumes nothing.
use mathlib.Core.Path.{◌≡◌, refl, sym, ap, ◌∙◌}
use Rattle.std.specs.Prelude.{Option, None, Some, option_map}
use Rattle.book.specs.declared.book.Book.{Book}
use Rattle.book_spec.specs.State as book
use Rattle.club_spec.specs.State as spec
use Rattle.club.specs.State.{taken_step, Whole, AsItIs}
use Rattle.club.specs.declared.log.Club.{Club}
use Rattle.club.specs.declared.log.TakenItem.{TakenItem}

-- what is read as a record, from that record
abbrev book_of : book.Book → Book
book_of b = record { company = b.company; turn = b.turn; filled = b.filled; addresses = b.addresses; kept = b.kept; closed = b.closed }

abbrev club_of : spec.Club → Club
club_of k = record { book = book_of k.book; scanner = record { filter = k.scanner.filter; interval = k.scanner.interval; channel = k.scanner.channel } }

abbrev item_of : spec.TakenItem → TakenItem
item_of r = record { club = club_of r.club; size = r.size; written = r.written }

again : (r : Option TakenItem) → option_map item_of (taken_step r) ≡ r
again (Some r) = refl
again None = refl

pub whole : Whole
whole =
    record {
      club = λ a b same. ap club_of same;
      item = λ a b same. ap item_of same;
      taken = λ a b same. sym (again a) ∙ (ap (option_map item_of) same ∙ again b);
      items = λ a b same. ap (λ (r : spec.TakenItems). record { club = club_of r.club; taken = r.taken; written = r.written }) same;
    }

pub as_it_is : AsItIs
as_it_is = record { item_club = λ r. refl; size = λ r. refl; item_written = λ r. refl; some_item = λ r. refl; no_item = refl; club = λ r. refl; taken = λ r. refl; written = λ r. refl }
